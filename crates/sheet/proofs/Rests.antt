-- What is left of a pass: the records laid so far and those of the tokens left are the records of all tokens, and so are the elements
-- counted. In order: the tokens from a place on, for which any number of items that is enough will do; what is left at the start; what one
-- item does to it, a tag or any other; at the end nothing is left.
use Rattle.document.proofs.Placing.{Unstarted}
use mathlib.Core.Path.{◌≡◌, refl, sym, ap, ◌∙◌}
use mathlib.Core.Bool.{Bool, true, false}
use mathlib.Core.List.{List, [], ◌∷◌, ◌++◌, append_assoc, append-nil}
use Prim.Native.Nat.{ℕ, zero, suc, ◌+◌, ◌-◌, ◌≤◌, ◌<◌}
use native.Mathlib.Nat.{zero-add}
use native.Mathlib.Omega.{arith}
use lib.ListN.{length}
use Rattle.xml.specs.Forest.{Name}
use Rattle.tags.specs.Kept.{name_from}
use Rattle.tags.specs.declared.Item.{Item}
use Rattle.tags.specs.declared.Item.TheVariants.{Declaration, Instruction, Comment, Section, Reference, Text, Start, Finish}
use Rattle.tags.specs.declared.Item.TheVariants.{Doctype, Malformed, TooLarge, Nothing}
use Rattle.items.specs.Item.{item_at}
use Rattle.items.specs.Inside.{Inside}
use Rattle.items.proofs.Insides.{item_inside}
use Rattle.document.specs.Place.{Opened, placement, opens, closed, after_item, end_of}
use Rattle.document.specs.Judge.{start_of}
use Rattle.document.specs.declared.Placement.TheVariants.{Fine, Over}
use Rattle.trees.specs.Cut.{Judge, on, one}
use Rattle.trees.specs.Grown.{Token, tag_of, item_tokens, tokens_from, tokens_of}
use Rattle.trees.specs.Engine.{outer}
use Rattle.trees.proofs.Passes.{over_fine, over_nothing}
use Rattle.rows.specs.Table.{record_by}
use Rattle.rows.specs.Tokens.{text_over, records_over, text_from}
use Rattle.rows.specs.Laid.{element_text}
use Rattle.sheet.proofs.Counts.{selected_over}

-- ---- tokens from a place on

-- an item ends behind its place and inside the document, or its tokens are the last
tokens_by : (d : List ℕ) (at : ℕ) (us ts : ℕ → List Token) → ((e : ℕ) → at < e → e ≤ length d → us e ≡ ts e) → (i : Item) → Inside d at i
    → item_tokens d at i (us (end_of at i)) ≡ item_tokens d at i (ts (end_of at i))
tokens_by d at us ts f (Declaration e) h = ap (item_tokens d at (Declaration e)) (f e h.0 h.1)
tokens_by d at us ts f (Instruction e) h = ap (item_tokens d at (Instruction e)) (f e h.0 h.1)
tokens_by d at us ts f (Comment e) h = ap (item_tokens d at (Comment e)) (f e h.0 h.1)
tokens_by d at us ts f (Section e) h = ap (item_tokens d at (Section e)) (f e h.0 h.1)
tokens_by d at us ts f (Reference n e) h = ap (item_tokens d at (Reference n e)) (f e h.0 h.1)
tokens_by d at us ts f (Text e) h = ap (item_tokens d at (Text e)) (f e h.0 h.1)
tokens_by d at us ts f (Start n k e m t) h = ap (item_tokens d at (Start n k e m t)) (f e (omega (arith, h.0, h.1)) h.2)
tokens_by d at us ts f (Finish n e) h = ap (item_tokens d at (Finish n e)) (f e (omega (arith, h.0)) h.1)
tokens_by d at us ts f Doctype h = refl
tokens_by d at us ts f Malformed h = refl
tokens_by d at us ts f TooLarge h = refl
tokens_by d at us ts f Nothing h = refl

tokens_enough : (k j : ℕ) (d : List ℕ) (at : ℕ) (first : Bool) → length d - at < k → length d - at < j
    → tokens_from k d at first ≡ tokens_from j d at first
unfolding tokens_from
tokens_enough zero j d at first h l = absurd (omega arith)
tokens_enough (suc k) zero d at first h l = absurd (omega arith)
tokens_enough (suc k) (suc j) d at first h l =
    tokens_by d at (λ (e : ℕ). tokens_from k d e false) (λ (e : ℕ). tokens_from j d e false)
    (λ e a b. tokens_enough k j d e false (omega arith) (omega arith))
    (item_at first d at) (item_inside first d at)

tokens_step : (k : ℕ) (d : List ℕ) (at : ℕ) (first : Bool) {i : Item} → i ≡ item_at first d at
    → tokens_from (suc k) d at first ≡ item_tokens d at i (tokens_from k d (end_of at i) false)
unfolding tokens_from
tokens_step k d at first e = rw e

-- the text of an element is that of the tokens behind its tag
text_behind : (k : ℕ) (d : List ℕ) (e : ℕ) → length d - e < k → text_over 0 (tokens_from k d e false) ≡ text_from 0 d e
unfolding text_from
text_behind k d e h = ap (text_over 0) (tokens_enough k (suc (length d)) d e false h (omega arith))

-- ---- what is left: w is laid so far, n elements are counted, and those of the names `up` are open
pub record Rest (v : Judge) (d : List ℕ) (at : ℕ) (first : Bool) (up : List Name) (w : List ℕ) (n : ℕ) : Type 0 where
  pub fuel : ℕ
  pub enough : length d - at < fuel
  pub laid : w ++ records_over v (tokens_from fuel d at first) up ≡ records_over v (tokens_of d) []
  pub counted : n + selected_over v (tokens_from fuel d at first) up ≡ selected_over v (tokens_of d) []

pub rest_start : (v : Judge) (d : List ℕ) → Rest v d (start_of d) true [] [] 0
unfolding tokens_of
rest_start v d =
    record { fuel = suc (length d); enough = omega arith; laid = refl; counted = zero-add (selected_over v (tokens_of d) []) }

less : (n k : ℕ) → n < k → (j : ℕ) × (k ≡ suc j)
less n zero l = absurd (omega arith)
less n (suc j) l = (j, refl)

module _ {v : Judge} {d : List ℕ} {at : ℕ} {first : Bool} {up : List Name} {w : List ℕ} {n : ℕ} (r : Rest v d at first up w n) {i : Item}
    (e : i ≡ item_at first d at) where
  left : (j : ℕ) × (r.fuel ≡ suc j)
  left = less (length d - at) r.fuel r.enough

  abbrev behind : List Token
  behind = tokens_from left.0 d (end_of at i) false

  tokens_are : tokens_from r.fuel d at first ≡ item_tokens d at i behind
  tokens_are = ap (λ (k : ℕ). tokens_from k d at first) left.1 ∙ tokens_step left.0 d at first e

  laid_turn : w ++ records_over v (item_tokens d at i behind) up ≡ records_over v (tokens_of d) []
  laid_turn = ap (λ (ts : List Token). w ++ records_over v ts up) (sym tokens_are) ∙ r.laid

  counted_turn : n + selected_over v (item_tokens d at i behind) up ≡ selected_over v (tokens_of d) []
  counted_turn = ap (λ (ts : List Token). n + selected_over v ts up) (sym tokens_are) ∙ r.counted

  -- one item on, where its tokens have the records x and k elements selected
  rest_on : (up' : List Name) (x : List ℕ) (k : ℕ) → records_over v (item_tokens d at i behind) up ≡ x ++ records_over v behind up'
      → selected_over v (item_tokens d at i behind) up ≡ k + selected_over v behind up' → at < end_of at i → end_of at i ≤ length d
      → Rest v d (end_of at i) false up' (w ++ x) (n + k)
  rest_on up' x k p q l h =
      record {
        fuel = left.0;
        enough = omega (arith, r.enough, left.1);
        laid = append_assoc w x (records_over v behind up') ∙ ap (λ (y : List ℕ). w ++ y) (sym p) ∙ laid_turn;
        counted = omega (arith, q, counted_turn);
      }

  module _ (s : Opened) (q : placement d at i s ≡ Over) where
    pub rest_over : w ≡ records_over v (tokens_of d) []
    rest_over =
        sym (append-nil w)
        ∙ ap (λ (j : Item). w ++ records_over v (item_tokens d at j behind) up) (sym (over_nothing d at i s q))
        ∙ laid_turn

    pub count_over : n ≡ selected_over v (tokens_of d) []
    count_over =
        let z : n ≡ n + 0 = omega arith in
        z ∙ ap (λ (j : Item). n + selected_over v (item_tokens d at j behind) up) (sym (over_nothing d at i s q)) ∙ counted_turn

-- ---- a tag

-- its record, and whether it is counted
tag_records : (v : Judge) (d : List ℕ) (at n h e : ℕ) (m t : Bool) (up : List Name) (ts : List Token) → text_over 0 ts ≡ text_from 0 d e
    → records_over v (item_tokens d at (Start n h e m t) ts) up
    ≡ record_by (on v (tag_of d at n h e) up) (name_from d (at + 1) n ∷ up) (element_text m d e)
    ++ records_over v ts (opens m (name_from d (at + 1) n) up)
tag_records v d at n h e true t up ts q = refl
tag_records v d at n h e false t up ts q =
    ap (λ (x : List ℕ). record_by (on v (tag_of d at n h e) up) (name_from d (at + 1) n ∷ up) x
    ++ records_over v ts (name_from d (at + 1) n ∷ up)) q

tag_selected : (v : Judge) (d : List ℕ) (at n h e : ℕ) (m t : Bool) (up : List Name) (ts : List Token)
    → selected_over v (item_tokens d at (Start n h e m t) ts) up
    ≡ one (on v (tag_of d at n h e) up) + selected_over v ts (opens m (name_from d (at + 1) n) up)
tag_selected v d at n h e true t up ts = refl
tag_selected v d at n h e false t up ts = refl

pub rest_tag : {v : Judge} {d : List ℕ} {at : ℕ} {first : Bool} {up : List Name} {w : List ℕ} {k : ℕ} → Rest v d at first up w k
    → {n h e : ℕ} {m t : Bool} → Start n h e m t ≡ item_at first d at → at < e → e ≤ length d
    → Rest v d e false (opens m (name_from d (at + 1) n) up)
    (w ++ record_by (on v (tag_of d at n h e) up) (name_from d (at + 1) n ∷ up) (element_text m d e))
    (k + one (on v (tag_of d at n h e) up))
rest_tag {v} {d} {at} {up = up} r {n} {h} {e} {m} {t} q l g =
    let j = left r q in
    let room : length d - e < j.0 = omega (arith, r.enough, j.1) in
    rest_on r q (opens m (name_from d (at + 1) n) up)
    (record_by (on v (tag_of d at n h e) up) (name_from d (at + 1) n ∷ up) (element_text m d e)) (one (on v (tag_of d at n h e) up))
    (tag_records v d at n h e m t up (behind r q) (text_behind j.0 d e room))
    (tag_selected v d at n h e m t up (behind r q)) l g

-- ---- any other item

outer-closed : (up : List Name) → outer up ≡ closed up
outer-closed [] = refl
outer-closed (n ∷ up) = refl

-- it has no record, and leaves open what it leaves open
other_records : (v : Judge) (d : List ℕ) (at : ℕ) (s : Opened) (i : Item) → placement d at i s ≡ Fine
    → Unstarted i
    → (ts : List Token)
    → (records_over v (item_tokens d at i ts) s.names ≡ records_over v ts (after_item d at i s).names)
    × (selected_over v (item_tokens d at i ts) s.names ≡ selected_over v ts (after_item d at i s).names)
other_records v d at s (Declaration e) z k ts = (refl, refl)
other_records v d at s (Instruction e) z k ts = (refl, refl)
other_records v d at s (Comment e) z k ts = (refl, refl)
other_records v d at s (Section e) z k ts = (refl, refl)
other_records v d at s (Reference n e) z k ts = (refl, refl)
other_records v d at s (Text e) z k ts = (refl, refl)
other_records v d at s (Start n h e m t) z k ts = absurd (k n h e m t refl)
other_records v d at s (Finish n e) z k ts =
    (ap (records_over v ts) (outer-closed s.names), ap (selected_over v ts) (outer-closed s.names))
other_records v d at s Doctype z k ts = (cc, cc)
other_records v d at s Malformed z k ts = (cc, cc)
other_records v d at s TooLarge z k ts = (cc, cc)
other_records v d at s Nothing z k ts = over_fine s z

pub rest_other : {v : Judge} {d : List ℕ} {at : ℕ} {first : Bool} (s : Opened) {w : List ℕ} {k : ℕ} → Rest v d at first s.names w k
    → {i : Item} → i ≡ item_at first d at → placement d at i s ≡ Fine → Unstarted i
    → at < end_of at i → end_of at i ≤ length d → Rest v d (end_of at i) false (after_item d at i s).names w k
rest_other {v} {d} {at} s {w} {k} r {i} q z o l g =
    let x = other_records v d at s i z o (behind r q) in
    let up = (after_item d at i s).names in
    let plain : w ++ [] ≡ w = append-nil w in
    let none : k + 0 ≡ k = omega arith in
    rw (plain, none) at (rest_on r q up [] 0 x.0 (x.1 ∙ sym (zero-add (selected_over v (behind r q) up))) l g)
