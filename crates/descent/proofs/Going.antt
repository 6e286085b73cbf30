-- States on the way. In order: the first; an item at fault; one item on, whatever it is; an item that is no tag; a tag; an end tag.
use Rattle.std.specs.Prelude.{Ok, Err}
use Rattle.document.proofs.Placing.{Unstarted, Unfinished}
use mathlib.Core.Path.{◌≡◌, refl, sym, ap, ◌∙◌}
use mathlib.Core.Bool.{Bool, true, false}
use mathlib.Core.List.{List, []}
use Prim.Native.Nat.{ℕ, zero, suc, ◌+◌, ◌-◌, ◌≤◌, ◌<◌}
use native.Mathlib.Numerals.{add-one}
use native.Mathlib.Omega.{arith}
use lib.ListN.{length}
use Rattle.paths.specs.Judge.{list_paths}
use Rattle.tags.specs.declared.Item.{Item}
use Rattle.tags.specs.declared.Item.TheVariants.{Declaration, Instruction, Comment, Section, Reference, Text, Start, Finish}
use Rattle.tags.specs.declared.Item.TheVariants.{Doctype, Malformed, TooLarge, Nothing}
use Rattle.items.specs.Item.{item_at}
use Rattle.document.specs.Place.{Opened, placement, after_item, end_of}
use Rattle.document.specs.Judge.{start_of, onward, scan_from, scanned}
use Rattle.document.specs.declared.Placement.{Placement}
use Rattle.document.specs.declared.Placement.TheVariants.{Fine, Fault as Faulty, Over}
use Rattle.document.specs.declared.Why.{Why}
use Rattle.document.specs.declared.DocumentError.TheVariants.{At}
use Rattle.trees.specs.Cut.{Judge}
use Rattle.trees.specs.Grown.{Token, part, item_tokens, tokens_from, tokens_of}
use Rattle.trees.specs.Engine.{Engine, engine, begun, on_finish, on_aside, run as runs}
use Rattle.trees.specs.Written.{verdicts, cut_of, count_of}
use Rattle.trees.proofs.Passes.{over_fine, over_nothing}
use Rattle.trees.proofs.Told.{run_cut}
use Rattle.descent.specs.Ink.{Stands, Moves}
use Rattle.descent.specs.Tree.{opening, Going}
use Rattle.descent.specs.declared.ink.Run.{Run}

-- ---- the first

pub going_start : (list d o : List ℕ) {r : Run} → r ≡ record { reached = record { 0 = 0 }; len = 0; count = 0 } → {at : ℕ} → at ≡ start_of d
    → (starts lens : List ℕ) → Going list d starts lens o 0 false false r at true o
unfolding scanned tokens_of
going_start list d o er ea starts lens =
    rw (er, ea)
    (record {
      fuel = suc (length d);
      enough = omega arith;
      scans = refl;
      x = begun;
      makes = refl;
      stands = record { kept_is = refl; pend_is = refl; done_is = refl; num_is = refl; text = record { long = refl; laid = refl } };
    })

-- ---- one item

scan_turn : (k : ℕ) (d : List ℕ) (at : ℕ) (first : Bool) (s : Opened) {i : Item} → i ≡ item_at first d at
    → scan_from (suc k) d at first s ≡ onward (placement d at i s) at (scan_from k d (end_of at i) false (after_item d at i s))
unfolding scan_from
scan_turn k d at first s e = rw e

tokens_turn : (k : ℕ) (d : List ℕ) (at : ℕ) (first : Bool) {i : Item} → i ≡ item_at first d at
    → tokens_from (suc k) d at first ≡ item_tokens d at i (tokens_from k d (end_of at i) false)
unfolding tokens_from
tokens_turn k d at first e = rw e

less : (n k : ℕ) → n < k → (j : ℕ) × (k ≡ suc j)
less n zero l = absurd (omega arith)
less n (suc j) l = (j, refl)

module _ {list d starts lens o₀ : List ℕ} {level : ℕ} {rooted kept : Bool} {r : Run} {at : ℕ} {first : Bool} {o : List ℕ}
    (v : Going list d starts lens o₀ level rooted kept r at first o) {i : Item} (e : i ≡ item_at first d at) where
  abbrev s : Opened
  s = opening d starts lens level rooted

  abbrev judge : Judge
  judge = verdicts (list_paths list)

  left : (j : ℕ) × (v.fuel ≡ suc j)
  left = less (length d - at) v.fuel v.enough

  turned : onward (placement d at i s) at (scan_from left.0 d (end_of at i) false (after_item d at i s)) ≡ scanned d
  turned =
      sym (scan_turn left.0 d at first s e) ∙ ap (λ (k : ℕ). scan_from k d at first s) (sym left.1) ∙ v.scans

  made : runs judge (item_tokens d at i (tokens_from left.0 d (end_of at i) false)) v.x ≡ runs judge (tokens_of d) begun
  made =
      ap (λ (ts : List Token). runs judge ts v.x)
      (sym (tokens_turn left.0 d at first e) ∙ ap (λ (k : ℕ). tokens_from k d at first) (sym left.1))
      ∙ v.makes

  pub going_fault : (why : Why) → placement d at i s ≡ Faulty why → Err (At why at) ≡ scanned d
  going_fault why h =
      sym (ap (λ (p : Placement). onward p at (scan_from left.0 d (end_of at i) false (after_item d at i s))) h) ∙ turned

  -- the items are over: the document is sound, and the engine has written its cut
  module _ (h : placement d at i s ≡ Over) where
    pub going_sound : Ok tt ≡ scanned d
    going_sound =
        sym (ap (λ (p : Placement). onward p at (scan_from left.0 d (end_of at i) false (after_item d at i s))) h) ∙ turned

    pub going_whole : v.x ≡ engine false [] [] (cut_of list d) (count_of list d)
    going_whole =
        ap (λ (j : Item). runs judge (item_tokens d at j (tokens_from left.0 d (end_of at i) false)) v.x)
        (sym (over_nothing d at i s h))
        ∙ made
        ∙ run_cut list d (sym going_sound)

  -- the item may stand there: what the scan and the engine make of it is on the way
  pub going_on : placement d at i s ≡ Fine → at < end_of at i → end_of at i ≤ length d
      → {starts' lens' : List ℕ} {level' : ℕ} {rooted' kept' : Bool} {r' : Run} {o' : List ℕ} (y : Engine)
      → opening d starts' lens' level' rooted' ≡ after_item d at i s
      → ((ts : List Token) → runs judge (item_tokens d at i ts) v.x ≡ runs judge ts y)
      → Stands d starts' lens' o₀ level' r'.reached.0 kept' r'.len r'.count o' y
      → Going list d starts' lens' o₀ level' rooted' kept' r' (end_of at i) false o'
  going_on h l g y os mk st =
      record {
        fuel = left.0;
        enough = omega (arith, v.enough, left.1);
        scans =
            ap (scan_from left.0 d (end_of at i) false) os
            ∙ sym (ap (λ (p : Placement). onward p at (scan_from left.0 d (end_of at i) false (after_item d at i s))) h)
            ∙ turned;
        x = y;
        makes = sym (mk (tokens_from left.0 d (end_of at i) false)) ∙ made;
        stands = st;
      }

  -- ---- an item that is no tag

  pub going_aside : placement d at i s ≡ Fine → at < end_of at i → end_of at i ≤ length d
      → Unfinished i → Unstarted i
      → {r' : Run} {o' : List ℕ} → Moves d starts lens level kept r o (on_aside (part d at (end_of at i))) level kept r' o'
      → Going list d starts lens o₀ level rooted kept r' (end_of at i) false o'
  going_aside h l g k k' m =
      going_on h l g (on_aside (part d at (end_of at i)) v.x) (sym (stays i h k k')) (makes i h k k') (m.moves o₀ v.x v.stands)
    where
      stays : (i : Item) → placement d at i s ≡ Fine → Unfinished i
          → Unstarted i → after_item d at i s ≡ s
      stays (Declaration e) z k k' = refl
      stays (Instruction e) z k k' = refl
      stays (Comment e) z k k' = refl
      stays (Section e) z k k' = refl
      stays (Reference n e) z k k' = refl
      stays (Text e) z k k' = refl
      stays (Start n h e m t) z k k' = absurd (k' n h e m t refl)
      stays (Finish n e) z k k' = absurd (k n e refl)
      stays Doctype z k k' = refl
      stays Malformed z k k' = refl
      stays TooLarge z k k' = refl
      stays Nothing z k k' = refl

      makes : (i : Item) → placement d at i s ≡ Fine → Unfinished i → Unstarted i
          → (ts : List Token) → runs judge (item_tokens d at i ts) v.x ≡ runs judge ts (on_aside (part d at (end_of at i)) v.x)
      makes (Declaration e) z k k' ts = refl
      makes (Instruction e) z k k' ts = refl
      makes (Comment e) z k k' ts = refl
      makes (Section e) z k k' ts = refl
      makes (Reference n e) z k k' ts = refl
      makes (Text e) z k k' ts = refl
      makes (Start n h e m t) z k k' ts = absurd (k' n h e m t refl)
      makes (Finish n e) z k k' ts = absurd (k n e refl)
      makes Doctype z k k' ts = cc
      makes Malformed z k k' ts = cc
      makes TooLarge z k k' ts = cc
      makes Nothing z k k' ts = over_fine s z

-- ---- an end tag, of the bytes from at to `end`; the element is at the level

pub going_finish : {list d starts lens o₀ : List ℕ} {level : ℕ} {rooted kept kept' : Bool} {r r' : Run} {at n end : ℕ} {first : Bool}
    {o o' : List ℕ} → Going list d starts lens o₀ (level + 1) rooted kept r at first o → Finish n end ≡ item_at first d at
    → placement d at (Finish n end) (opening d starts lens (level + 1) rooted) ≡ Fine → at < end → end ≤ length d
    → Moves d starts lens (level + 1) kept r o (on_finish (part d at end)) level kept' r' o'
    → Going list d starts lens o₀ level rooted kept' r' end false o'
going_finish {d = d} {starts} {lens} {o₀} {level} {rooted} {at = at} {n} {end} v e h l g m =
    going_on v e h l g (on_finish (part d at end) v.x) closes (λ ts. refl) (m.moves o₀ v.x v.stands)
  where
    closes : opening d starts lens level rooted ≡ after_item d at (Finish n end) (opening d starts lens (level + 1) rooted)
    closes = rw (add-one level)
