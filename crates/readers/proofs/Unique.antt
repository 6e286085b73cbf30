-- What `repeated` says of a tag's attribute names: it is false exactly where each name is another than all later ones.
-- Before that, what `has` says of one name and others.
use mathlib.Core.Path.{◌≡◌, refl, sym, ap, ◌∙◌}
use mathlib.Core.Bool.{Bool, true, false, ◌||◌, false≢true}
use mathlib.Core.List.{List, [], ◌∷◌}
use mathlib.Core.Logic.{◌↔◌}
use Prim.Native.Nat.{ℕ}
use Rattle.xml.specs.Productions.{same}
use Rattle.xml.proofs.Bools.{true-false}
use Rattle.xml.proofs.Same.{same_equal, same_refl}
use Rattle.readers.specs.Named.{has, repeated}
use Rattle.xml.specs.Document.{Other, Unique}

-- both tests are false
neither : (a b : Bool) → a || b ≡ false → (a ≡ false) × (b ≡ false)
neither true b h = absurd (false≢true (sym h))
neither false b h = (refl, h)

has_other : (n : List ℕ) (ns : List (List ℕ)) → has n ns ≡ false → Other n ns
has_other n [] h = tt
has_other n (m ∷ ns) h =
    let (a, b) = neither (same n m) (has n ns) h in
    (λ e. true-false (ap (same n) (sym e) ∙ same_refl n) a, has_other n ns b)

other_has : (n : List ℕ) (ns : List (List ℕ)) → Other n ns → has n ns ≡ false
other_has n [] u = refl
other_has n (m ∷ ns) (o, os) = go (same n m) refl (other_has n ns os)
  where
    go : (b : Bool) → same n m ≡ b → has n ns ≡ false → b || has n ns ≡ false
    go true e h = absurd (o (same_equal n m e))
    go false e h = h

unique_sound : (ns : List (List ℕ)) → repeated ns ≡ false → Unique ns
unique_sound [] h = tt
unique_sound (n ∷ ns) h =
    let (a, b) = neither (has n ns) (repeated ns) h in
    (has_other n ns a, unique_sound ns b)

unique_complete : (ns : List (List ℕ)) → Unique ns → repeated ns ≡ false
unique_complete [] u = refl
unique_complete (n ∷ ns) (o, u) = rw (other_has n ns o) (unique_complete ns u)

pub unique_iff : (ns : List (List ℕ)) → repeated ns ≡ false ↔ Unique ns
unique_iff ns = (unique_sound ns, unique_complete ns)
