-- Text. In order: what `text_of` gives is found from the next mark on; what it gives at a mark; the loop of `text`: i is the end or a place
-- with a mark, and the text from i on is what is left of the text from the start on.
use mathlib.Core.Path.{◌≡◌, refl, sym, ap, ◌∙◌}
use mathlib.Core.Bool.{Bool, true, false, cond, ◌&&◌, ◌||◌}
use mathlib.Core.List.{List, [], ◌∷◌}
use mathlib.Core.Option.{Option, none, some}
use Prim.Native.Nat.{ℕ, ◌+◌, ◌-◌, ◌≤◌, ◌<◌}
use native.Mathlib.Omega.{arith}
use lib.Dec.{eqb}
use lib.ListN.{length, get_or, drop}
use borrow.Author.Tests.{ne_eqb}
use Rattle.xml.specs.Notation.{bytes}
use Rattle.xml.specs.Character.{begins}
use Rattle.utf8.specs.Place.{ends_at}
use Rattle.utf8.proofs.Place.{drop_step, drop_end}
use Rattle.blocks.specs.Block.{until}
use Rattle.chars.specs.Name.{reading_at}
use Rattle.std.specs.Prelude.{Some, None}
use Rattle.readers.specs.Plain.{is_mark, text_of}
use Rattle.scans.proofs.Ends.{Reached, reached_next, reached_on}
use Rattle.scans.proofs.Marks.{until_rest, until_ahead, until_there}

-- ---- from the next mark on

text_plain : (b : ℕ) (s : List ℕ) → is_mark 0x5D b ≡ false → text_of (b ∷ s) ≡ text_of s
unfolding text_of is_mark
text_plain b s e = go (some (b ∷ s)) (text_of s) (eqb b 0x3C) (eqb b 0x26) (eqb b 0x5D) (begins (bytes "]>") s) e
  where
    go : (o t : Option (List ℕ)) (x y z w : Bool) → x || (y || z) ≡ false → cond (x || y) o (cond (z && w) none t) ≡ t
    go o t true y z w e = cc
    go o t false true z w e = cc
    go o t false false true w e = cc
    go o t false false false w e = refl

text_until : (s : List ℕ) → text_of (until (is_mark 0x5D) s) ≡ text_of s
unfolding until
text_until [] = refl
text_until (b ∷ s) = go (is_mark 0x5D b) refl (text_until s)
  where
    go : (x : Bool) → is_mark 0x5D b ≡ x → text_of (until (is_mark 0x5D) s) ≡ text_of s
        → text_of (cond x (b ∷ s) (until (is_mark 0x5D) s)) ≡ text_of (b ∷ s)
    go true e rec = refl
    go false e rec = rec ∙ sym (text_plain b s e)

-- ---- at a mark

module _ (d : List ℕ) (i : ℕ) where
  text_over_lem : length d ≤ i → text_of (drop i d) ≡ some (drop i d)
  unfolding text_of
  text_over_lem h = rw (drop_end d i h)

  module _ (h : i < length d) where
    text_markup : is_mark 0x5D (get_or d i 0) ≡ true → (get_or d i 0 ≡ 0x5D → ⊥) → text_of (drop i d) ≡ some (drop i d)
    unfolding text_of is_mark
    text_markup m n = rw (drop_step d i h) (go _ _ (eqb (get_or d i 0) 0x3C) (eqb (get_or d i 0) 0x26)
        (rw (ne_eqb (get_or d i 0) 0x5D n) at m))
      where
        go : (t o : Option (List ℕ)) (x y : Bool) → x || (y || false) ≡ true → cond (x || y) t o ≡ t
        go t o true y e = refl
        go t o false true e = refl
        go t o false false e = cc

    text_bracket : get_or d i 0 ≡ 0x5D → {x : Bool} → x ≡ begins (bytes "]]>") (drop i d)
        → text_of (drop i d) ≡ cond x none (text_of (drop (i + 1) d))
    unfolding text_of
    text_bracket e {x} q =
        let f : begins (bytes "]]>") (get_or d i 0 ∷ drop (i + 1) d) ≡ x = sym (q ∙ ap (begins (bytes "]]>")) (drop_step d i h)) in
        rw (drop_step d i h, f, e)

-- ---- the loop

pub record Texting (d : List ℕ) (at i : ℕ) : Type 0 where
  pub reached : Reached d at i
  pub same : text_of (drop i d) ≡ text_of (drop at d)
  pub mark : i < length d → is_mark 0x5D (get_or d i 0) ≡ true

pub texting_start : (d : List ℕ) (at : ℕ) {i : ℕ} → i ≡ ends_at d at (until (is_mark 0x5D) (drop at d)) → Texting d at i
texting_start d at e =
    let r = until_rest (is_mark 0x5D) d at e in
    record {
      reached = record { place = e ∙ ap (ends_at d at) (sym r) };
      same = ap text_of r ∙ text_until (drop at d);
      mark = until_there (is_mark 0x5D) d at e;
    }

module _ {d : List ℕ} {at i : ℕ} (v : Texting d at i) where
  ends : text_of (drop i d) ≡ some (drop i d) → Some i ≡ reading_at d at (text_of (drop at d))
  ends e = rw (sym v.same ∙ e) (ap Some v.reached.place)

  pub texting_over : length d ≤ i → Some i ≡ reading_at d at (text_of (drop at d))
  texting_over h = ends (text_over_lem d i h)

  module _ (h : i < length d) where
    pub texting_markup : (get_or d i 0 ≡ 0x5D → ⊥) → Some i ≡ reading_at d at (text_of (drop at d))
    texting_markup n = ends (text_markup d i h (v.mark h) n)

    module _ (b : get_or d i 0 ≡ 0x5D) {x : Bool} (q : x ≡ begins (bytes "]]>") (drop i d)) where
      bracket : {y : Bool} → x ≡ y → text_of (drop i d) ≡ cond y none (text_of (drop (i + 1) d))
      bracket e = text_bracket d i h b (sym e ∙ q)

      pub texting_fault : x ≡ true → None ≡ reading_at d at (text_of (drop at d))
      texting_fault t = rw (sym v.same ∙ bracket t)

      pub texting_on : x ≡ false → {j : ℕ} → j ≡ ends_at d (i + 1) (until (is_mark 0x5D) (drop (i + 1) d)) → Texting d at j
      texting_on f e =
          let w = texting_start d (i + 1) e in
          record {
            reached = reached_on (reached_next v.reached h) (omega arith) w.reached;
            same = w.same ∙ sym (bracket f) ∙ v.same;
            mark = w.mark;
          }

pub texting_less : (d : List ℕ) {i j : ℕ} → i < length d → j ≡ ends_at d (i + 1) (until (is_mark 0x5D) (drop (i + 1) d))
    → length d - j < length d - i
texting_less d {i} h e = let a = until_ahead (is_mark 0x5D) d (i + 1) e in omega arith

pub ruleset texting = (texting_start, texting_over, texting_markup, texting_fault, texting_on, texting_less)
