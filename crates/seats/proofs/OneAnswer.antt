-- Two results that a public function's contract allows are alike: `Seat::none` has one; of `through`, the seat is the same but for the
-- number of notes, so is every byte of the buffer and the names by level, and the notes stand for the same text, unless some were left out.
-- The theorems are over the contracts that the toolchain makes of the source.
use mathlib.Core.Path.{◌≡◌, refl, sym, ap, ap₂, ◌∙◌}
use mathlib.Core.Bool.{Bool, true, false}
use mathlib.Core.List.{List}
use Prim.Native.Nat.{ℕ}
use lib.ListN.{length}
use Rattle.contracts.specs.One.{OneResult}
use Rattle.document.specs.declared.Open.{Open}
use Rattle.document.proofs.Placing.{names_long}
use Rattle.notes.specs.Alike.{Alike}
use Rattle.tape.specs.Taped.{Spot}
use Rattle.output.proofs.OneAnswer.{Same, same_engine}
use Rattle.seats.specs.Seated.{Begun, seat_spot}
use Rattle.seats.specs.Went.{Sits, Went, Through}
use Rattle.seats.specs.declared.seat.Seat.{Seat}
use Rattle.seats.proofs.seat.Seat.none.Reads as none
use Rattle.seats.proofs.seat.through.Reads as through

-- `Seat::none`
pub none_one : OneResult none.Asked none.Learnt
none_one κs a z z' e e' x p q = p ∙ sym q

-- two seats, each with the names by level, the buffer and the log
pub record SameSeat (d starts lens : List ℕ) (r : Seat) (o g starts' lens' : List ℕ) (r' : Seat) (o' g' : List ℕ) : Type 0 where
  pub starts_same : starts ≡ starts'
  pub lens_same : lens ≡ lens'
  pub opened : r.opened ≡ r'.opened
  pub at : r.at ≡ r'.at
  pub first : r.first ≡ r'.first
  pub tests : r.tests ≡ r'.tests
  pub run : Same d r.run o g r'.run o' g'

open_made : {o o' : Open} → o.level.0 ≡ o'.level.0 → o.rooted ≡ o'.rooted → o ≡ o'
open_made p q = ap₂ (λ (l : ℕ) (b : Bool). record { level = record { 0 = l }; rooted = b }) p q

-- all the same
stayed_one : {d starts₁ lens₁ : List ℕ} {r₁ : Seat} {o₁ g₁ starts₂ lens₂ : List ℕ} {r₂ : Seat} {o₂ g₂ : List ℕ} → starts₁ ≡ starts₂
    → lens₁ ≡ lens₂ → r₁ ≡ r₂ → o₁ ≡ o₂ → g₁ ≡ g₂ → SameSeat d starts₁ lens₁ r₁ o₁ g₁ starts₂ lens₂ r₂ o₂ g₂
stayed_one a b c e f =
    rw (a, b, c, e, f)
    (record {
      starts_same = refl;
      lens_same = refl;
      opened = refl;
      at = refl;
      first = refl;
      tests = refl;
      run = record { reached = refl; kept = refl; long = refl; count = refl; buffer = refl; noted = λ h k. refl };
    })

module _ {counts : Bool} {list d starts lens : List ℕ} {s : Seat} {o g : List ℕ} where
  went_one : {items : ℕ} → Begun counts list d starts lens s o g → {starts₁ lens₁ : List ℕ} {r₁ : Seat} {o₁ g₁ starts₂ lens₂ : List ℕ}
      {r₂ : Seat} {o₂ g₂ : List ℕ} → Went counts list d starts lens s o g items starts₁ lens₁ r₁ o₁ g₁
      → Went counts list d starts lens s o g items starts₂ lens₂ r₂ o₂ g₂ → SameSeat d starts₁ lens₁ r₁ o₁ g₁ starts₂ lens₂ r₂ o₂ g₂
  went_one b {starts₁} {lens₁} {r₁} {o₁} {g₁} {starts₂} {lens₂} {r₂} p q =
      let u = p.came b.0 b.1.x b.1.stands in
      let v = q.came b.0 b.1.x b.1.stands in
      record {
        starts_same = names_are;
        lens_same = lengths_are;
        opened = open_made level_is (ap (λ (x : Spot). x.opened.rooted) spots);
        at = ap (λ (x : Spot). x.at) spots;
        first = ap (λ (x : Spot). x.first) spots;
        tests = u.tried ∙ sym v.tried;
        run =
            same_engine r₁.run r₂.run (u.entry ∙ sym v.entry) u.stood
            (rw (names_are, lengths_are, level_is, ap (λ (x : Spot). x.at) spots) v.stood);
      }
    where
      spots : seat_spot d starts₁ lens₁ r₁ ≡ seat_spot d starts₂ lens₂ r₂
      spots = p.spot ∙ sym q.spot

      names_are : starts₁ ≡ starts₂
      names_are = p.starts_are ∙ sym q.starts_are

      lengths_are : lens₁ ≡ lens₂
      lengths_are = p.lens_are ∙ sym q.lens_are

      level_is : r₁.opened.level.0 ≡ r₂.opened.level.0
      level_is =
          sym (names_long d starts₁ lens₁ r₁.opened.level.0)
          ∙ ap (λ (x : Spot). length x.opened.names) spots
          ∙ names_long d starts₂ lens₂ r₂.opened.level.0

  through_same : (live : Bool) {tb t : List ℕ} {tags to : ℕ} {first : Bool}
      → Sits live counts list tb d t starts lens s o g tags to first
      → {starts₁ lens₁ : List ℕ} {r₁ : Seat} {o₁ g₁ starts₂ lens₂ : List ℕ} {r₂ : Seat} {o₂ g₂ : List ℕ}
      → Through live counts list d t starts lens s o g tags to first starts₁ lens₁ r₁ o₁ g₁
      → Through live counts list d t starts lens s o g tags to first starts₂ lens₂ r₂ o₂ g₂
      → SameSeat d starts₁ lens₁ r₁ o₁ g₁ starts₂ lens₂ r₂ o₂ g₂
  through_same true x p q = went_one (x.begun refl) (p.went refl (x.lies refl)) (q.went refl (x.lies refl))
  through_same false x p q =
      let u = p.stays refl in
      let v = q.stays refl in
      stayed_one (u.0 ∙ sym v.0) (u.1 ∙ sym v.1) (u.2 ∙ sym v.2) (u.3 ∙ sym v.3) (u.4 ∙ sym v.4)

-- `seat::through`
pub through_one : Alike through.Asked through.Learnt
    (λ κs a z e z' e'. SameSeat a.1.1.1.1.1.0.now
    e.1.1.1.1.1.1.1.1.1.1.0.now e.1.1.1.1.1.1.1.1.1.1.1.0.now z
    e.1.1.1.1.1.1.1.1.1.1.1.1.0.now e.1.1.1.1.1.1.1.1.1.1.1.1.1.0.now
    e'.1.1.1.1.1.1.1.1.1.1.0.now e'.1.1.1.1.1.1.1.1.1.1.1.0.now z'
    e'.1.1.1.1.1.1.1.1.1.1.1.1.0.now e'.1.1.1.1.1.1.1.1.1.1.1.1.1.0.now)
through_one κs a z z' e e' x p q = through_same a.1.1.1.0 x.3 p q
