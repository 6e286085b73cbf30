-- What is left of a pass: from a place on, the engine comes to what it comes to from the start, and so does a sum over the elements. And
-- what they do at one item: a tag; any other item; at the end nothing is left.
use Rattle.document.proofs.Placing.{Unstarted}
use mathlib.Core.Path.{◌≡◌, refl, sym, ap, ◌∙◌}
use mathlib.Core.Bool.{Bool, true, false, cond}
use mathlib.Core.List.{List, [], ◌∷◌, ◌++◌}
use Prim.Native.Nat.{ℕ, zero, suc, ◌+◌, ◌-◌, ◌≤◌, ◌<◌}
use native.Mathlib.Nat.{zero-add}
use native.Mathlib.Omega.{arith}
use lib.ListN.{length}
use Rattle.xml.specs.Forest.{Name}
use Rattle.tags.specs.Kept.{name_from}
use Rattle.items.specs.Item.{item_at}
use Rattle.tags.specs.declared.Item.{Item}
use Rattle.tags.specs.declared.Item.TheVariants.{Declaration, Instruction, Comment, Section, Reference, Text, Start, Finish}
use Rattle.tags.specs.declared.Item.TheVariants.{Doctype, Malformed, TooLarge, Nothing}
use Rattle.document.specs.Place.{Opened, placement, end_of}
use Rattle.document.specs.Judge.{start_of}
use Rattle.document.specs.declared.Placement.TheVariants.{Fine, Over}
use Rattle.notes.proofs.Making.{part_join}
use Rattle.trees.specs.Cut.{Judge, on}
use Rattle.trees.specs.Grown.{Token, part, tag_of, item_tokens, tokens_from, tokens_of}
use Rattle.trees.specs.Engine.{Engine, begun, open_of, on_start, on_finish, on_aside, run, outer, tallied}
use Rattle.trees.proofs.Passes.{over_fine, over_nothing}
use Rattle.trees.proofs.Told.{open_start, open_finish, open_aside}
use Rattle.output.specs.Act.{on_tag, on_other}

-- the engine x, and the sum t of the numbers that f gives for the elements so far
pub record Rest (v : Judge) (f : List Name → ℕ) (d : List ℕ) (at : ℕ) (first : Bool) (x : Engine) (t : ℕ) : Type 0 where
  pub fuel : ℕ
  pub enough : length d - at < fuel
  pub same : run v (tokens_from fuel d at first) x ≡ run v (tokens_of d) begun
  pub sum : t + tallied f (tokens_from fuel d at first) (open_of x) ≡ tallied f (tokens_of d) []

pub rest_start : (v : Judge) (f : List Name → ℕ) (d : List ℕ) → Rest v f d (start_of d) true begun 0
unfolding tokens_of
rest_start v f d =
    record { fuel = suc (length d); enough = omega arith; same = refl; sum = zero-add (tallied f (tokens_of d) []) }

-- ---- one item

tokens_step : (k : ℕ) (d : List ℕ) (at : ℕ) (first : Bool) {i : Item} → i ≡ item_at first d at
    → tokens_from (suc k) d at first ≡ item_tokens d at i (tokens_from k d (end_of at i) false)
unfolding tokens_from
tokens_step k d at first e = rw e

less : (n k : ℕ) → n < k → (j : ℕ) × (k ≡ suc j)
less n zero l = absurd (omega arith)
less n (suc j) l = (j, refl)

-- what the engine makes of an item is what it makes of the item's tokens; the sum follows
abbrev pub Makes : Judge → List ℕ → ℕ → Item → Engine → Engine → Type 0
Makes v d at i x y = (ts : List Token) → run v (item_tokens d at i ts) x ≡ run v ts y

abbrev pub Sums : (List Name → ℕ) → List ℕ → ℕ → Item → Engine → ℕ → Engine → ℕ → Type 0
Sums f d at i x t y u = (ts : List Token) → t + tallied f (item_tokens d at i ts) (open_of x) ≡ u + tallied f ts (open_of y)

module _ {v : Judge} {f : List Name → ℕ} {d : List ℕ} {at : ℕ} {first : Bool} {x : Engine} {t : ℕ}
    (r : Rest v f d at first x t) {i : Item}
    (e : i ≡ item_at first d at) where
  left : (j : ℕ) × (r.fuel ≡ suc j)
  left = less (length d - at) r.fuel r.enough

  abbrev behind : List Token
  behind = tokens_from left.0 d (end_of at i) false

  tokens_are : tokens_from r.fuel d at first ≡ item_tokens d at i behind
  tokens_are = ap (λ (k : ℕ). tokens_from k d at first) left.1 ∙ tokens_step left.0 d at first e

  run_turn : run v (item_tokens d at i behind) x ≡ run v (tokens_of d) begun
  run_turn = ap (λ (ts : List Token). run v ts x) (sym tokens_are) ∙ r.same

  sum_turn : t + tallied f (item_tokens d at i behind) (open_of x) ≡ tallied f (tokens_of d) []
  sum_turn = ap (λ (ts : List Token). t + tallied f ts (open_of x)) (sym tokens_are) ∙ r.sum

  rest_on : {y : Engine} {u : ℕ} → Makes v d at i x y → Sums f d at i x t y u → at < end_of at i → end_of at i ≤ length d
      → Rest v f d (end_of at i) false y u
  rest_on m s l h =
      record {
        fuel = left.0;
        enough = omega (arith, r.enough, left.1);
        same = sym (m behind) ∙ run_turn;
        sum = sym (s behind) ∙ sum_turn;
      }

  module _ (s : Opened) (q : placement d at i s ≡ Over) where
    pub rest_over : x ≡ run v (tokens_of d) begun
    rest_over = ap (λ (j : Item). run v (item_tokens d at j behind) x) (sym (over_nothing d at i s q)) ∙ run_turn

    pub sum_over : t ≡ tallied f (tokens_of d) []
    sum_over =
        let z : t ≡ t + 0 = omega arith in
        z ∙ ap (λ (j : Item). t + tallied f (item_tokens d at j behind) (open_of x)) (sym (over_nothing d at i s q)) ∙ sum_turn

-- ---- a tag

module _ (v : Judge) (d : List ℕ) (at n h e : ℕ) (t : Bool) (x : Engine) (l : at ≤ h) (k : h ≤ e) where
  abbrev pub name : List ℕ
  name = name_from d (at + 1) n

  abbrev pub made : Bool → Engine
  made m = on_tag (on v (tag_of d at n h e) (open_of x)) name (part d at h) (part d at e) m x

  join : on_start (on v (tag_of d at n h e) (open_of x)) name (part d at h) (part d at h ++ part d h e) x
      ≡ on_start (on v (tag_of d at n h e) (open_of x)) name (part d at h) (part d at e) x
  join = ap (λ (raw : List ℕ). on_start (on v (tag_of d at n h e) (open_of x)) name (part d at h) raw x) (part_join d at h e l k)

  pub tag_makes : (m : Bool) → Makes v d at (Start n h e m t) x (made m)
  tag_makes true ts = ap (λ (y : Engine). run v ts (on_finish [] y)) join
  tag_makes false ts = ap (run v ts) join

  opens : open_of (made false) ≡ name ∷ open_of x
  opens = open_start (on v (tag_of d at n h e) (open_of x)) name (part d at h) (part d at e) x

  open_tag : (m : Bool) → open_of (made m) ≡ cond m (open_of x) (name ∷ open_of x)
  open_tag true = open_finish [] (made false) ∙ ap outer opens
  open_tag false = opens

  pub tag_sums : (f : List Name → ℕ) (s : ℕ) (m : Bool) → Sums f d at (Start n h e m t) x s (made m) (s + f (name ∷ open_of x))
  tag_sums f s m ts =
      let a = summed m ts in
      let b = ap (tallied f ts) (open_tag m) in
      omega arith
    where
      summed : (m : Bool) (ts : List Token)
          → tallied f (item_tokens d at (Start n h e m t) ts) (open_of x)
          ≡ f (name ∷ open_of x) + tallied f ts (cond m (open_of x) (name ∷ open_of x))
      summed true ts = refl
      summed false ts = refl

pub rest_tag : {v : Judge} {f : List Name → ℕ} {d : List ℕ} {at : ℕ} {first : Bool} {x : Engine} {s : ℕ} → Rest v f d at first x s
    → {n h e : ℕ} {m t : Bool} → Start n h e m t ≡ item_at first d at → at ≤ h → h < e → e ≤ length d
    → Rest v f d e false (on_tag (on v (tag_of d at n h e) (open_of x)) (name_from d (at + 1) n) (part d at h) (part d at e) m x)
    (s + f (name_from d (at + 1) n ∷ open_of x))
rest_tag {v} {f} {d} {at} {x = x} {s} r {n} {h} {e} {m} {t} q l k g =
    rest_on r q (tag_makes v d at n h e t x l (omega arith) m) (tag_sums v d at n h e t x l (omega arith) f s m) (omega arith) g

-- ---- any other item

module _ (d : List ℕ) (at : ℕ) (s : Opened) (x : Engine) where
  pub other_makes : (v : Judge) (i : Item) → placement d at i s ≡ Fine → Unstarted i
      → Makes v d at i x (on_other d at i x)
  other_makes v (Declaration e) z k ts = refl
  other_makes v (Instruction e) z k ts = refl
  other_makes v (Comment e) z k ts = refl
  other_makes v (Section e) z k ts = refl
  other_makes v (Reference n e) z k ts = refl
  other_makes v (Text e) z k ts = refl
  other_makes v (Start n h e m t) z k ts = absurd (k n h e m t refl)
  other_makes v (Finish n e) z k ts = refl
  other_makes v Doctype z k ts = cc
  other_makes v Malformed z k ts = cc
  other_makes v TooLarge z k ts = cc
  other_makes v Nothing z k ts = over_fine s z

  module _ (f : List Name → ℕ) (t : ℕ) where
    stay : (y : Engine) {up : List Name} (ts : List Token) → open_of y ≡ up → t + tallied f ts up ≡ t + tallied f ts (open_of y)
    stay y ts e = ap (λ (ns : List Name). t + tallied f ts ns) (sym e)

    pub other_sums : (i : Item) → placement d at i s ≡ Fine → Unstarted i
        → Sums f d at i x t (on_other d at i x) t
    other_sums (Declaration e) z k ts = stay (on_aside (part d at e) x) ts (open_aside (part d at e) x)
    other_sums (Instruction e) z k ts = stay (on_aside (part d at e) x) ts (open_aside (part d at e) x)
    other_sums (Comment e) z k ts = stay (on_aside (part d at e) x) ts (open_aside (part d at e) x)
    other_sums (Section e) z k ts = stay (on_aside (part d at e) x) ts (open_aside (part d at e) x)
    other_sums (Reference n e) z k ts = stay (on_aside (part d at e) x) ts (open_aside (part d at e) x)
    other_sums (Text e) z k ts = stay (on_aside (part d at e) x) ts (open_aside (part d at e) x)
    other_sums (Start n h e m t) z k ts = absurd (k n h e m t refl)
    other_sums (Finish n e) z k ts = stay (on_finish (part d at e) x) ts (open_finish (part d at e) x)
    other_sums Doctype z k ts = cc
    other_sums Malformed z k ts = cc
    other_sums TooLarge z k ts = cc
    other_sums Nothing z k ts = over_fine s z

pub rest_other : {v : Judge} {f : List Name → ℕ} {d : List ℕ} {at : ℕ} {first : Bool} {x : Engine} {t : ℕ} → Rest v f d at first x t
    → {i : Item} → i ≡ item_at first d at → (s : Opened) → placement d at i s ≡ Fine → Unstarted i
    → at < end_of at i → end_of at i ≤ length d → Rest v f d (end_of at i) false (on_other d at i x) t
rest_other {v} {f} {d} {at} {x = x} {t} r {i} q s z k l g =
    rest_on r q (other_makes d at s x v i z k) (other_sums d at s x f t i z k) l g
