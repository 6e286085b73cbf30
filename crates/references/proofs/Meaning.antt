-- What `reference` and `next` answer is what specs/Meaning says in the grammar's words, on any bytes and at any place, and no other answer
-- says it (`..-says`, `..-only`). Then where references and characters end: a reference where the reading of it ends (`reference_ends`).
use mathlib.Core.Path.{◌≡◌, refl, sym, ap, ◌∙◌}
use mathlib.Core.List.{List}
use mathlib.Core.Option.{Option as Maybe, none, some, none-ne-some}
use Prim.Native.Nat.{ℕ}
use lib.ListN.{drop}
use Rattle.xml.specs.Sign.{Sign as Origin, literal, referred, Where, Comes}
use Rattle.utf8.specs.Place.{Stands, ends_at}
use Rattle.utf8.proofs.Place.{stands_ends}
use Rattle.chars.specs.Name.{reading_at}
use Rattle.std.specs.Prelude.{Option, Some, None}
use Rattle.readers.specs.Value.{Said, reference_of, rest_of, reference_end}
use Rattle.readers.specs.Sign.{Next, next_of}
use Rattle.readers.proofs.Left.{Shorter, shorter_end, shorter_place, end_stands, end_ahead}
use Rattle.readers.proofs.Reference.{refers_said, said_refers, refers_shorter}
use Rattle.readers.proofs.Signs.{comes_next, next_comes, comes_shorter}
use Rattle.references.specs.Say.{saying_at}
use Rattle.references.specs.Sign.{sign_of, sign_by, sign_at}
use Rattle.references.specs.Meaning.{ReferenceSays, NextSays}
use Rattle.references.specs.declared.next.Sign.{Sign}
use Rattle.references.specs.declared.next.Sign.TheVariants.{Literal, Referred, Nothing}

-- where a reference ends, without what it says
abbrev pub end_of : Option (ℕ × ℕ) → Option ℕ
end_of (Some (c, e)) = Some e
end_of None = None

module _ (d : List ℕ) (at : ℕ) where
  -- a shorter end stands at its place
  placed : {t : List ℕ} → Shorter (drop at d) t → Stands d (ends_at d at t) t
  placed z = end_stands d at (shorter_place d at z) (shorter_end z)

  -- ---- references

  pub reference_says : ReferenceSays d at (saying_at d at (reference_of (drop at d)))
  reference_says = go (reference_of (drop at d)) refl
    where
      go : (o : Maybe Said) → reference_of (drop at d) ≡ o → ReferenceSays d at (saying_at d at o)
      go none q = λ c t x. none-ne-some _ (sym q ∙ refers_said x)
      go (some r) q =
          let x = said_refers q in
          let p = placed (refers_shorter x) in
          (rw p.rest x, end_ahead d at r.rest, p.inside)

  pub reference_only : (r : Option (ℕ × ℕ)) → ReferenceSays d at r → r ≡ saying_at d at (reference_of (drop at d))
  reference_only (Some (c, e)) (x, l, h) =
      ap (λ (e : ℕ). Some (c, e)) (stands_ends at (record { rest = refl; inside = h }) l)
      ∙ ap (saying_at d at) (sym (refers_said x))
  reference_only None n = go (reference_of (drop at d)) refl
    where
      go : (o : Maybe Said) → reference_of (drop at d) ≡ o → None ≡ saying_at d at o
      go none q = refl
      go (some r) q = absurd (n r.code r.rest (said_refers q))

  pub reference_ends : {r : Option (ℕ × ℕ)} → r ≡ saying_at d at (reference_of (drop at d))
      → end_of r ≡ reading_at d at (reference_end (drop at d))
  reference_ends e = ap end_of e ∙ go (reference_of (drop at d))
    where
      go : (o : Maybe Said) → end_of (saying_at d at o) ≡ reading_at d at (rest_of o)
      go none = refl
      go (some r) = refl

  -- ---- the next character

  module _ (w : Where) where
    pub next_says : NextSays w d at (sign_at w d at)
    unfolding sign_at
    next_says = go (next_of w (drop at d)) refl
      where
        one : (x : Origin) (t : List ℕ) → Comes w x (drop at d) t → NextSays w d at (sign_of x (ends_at d at t))
        one (literal c) t k =
            let p = placed (comes_shorter w k) in
            (rw p.rest k, end_ahead d at t, p.inside)
        one (referred c) t k =
            let p = placed (comes_shorter w k) in
            (rw p.rest k, end_ahead d at t, p.inside)

        go : (o : Maybe Next) → next_of w (drop at d) ≡ o → NextSays w d at (sign_by d at o)
        go none q = λ x t k. none-ne-some _ (sym q ∙ comes_next w k)
        go (some n) q = one n.sign n.rest (next_comes w q)

    pub next_only : (r : Sign) → NextSays w d at r → r ≡ sign_at w d at
    unfolding sign_at
    next_only (Literal c e) (k, l, h) =
        ap (Literal c) (stands_ends at (record { rest = refl; inside = h }) l) ∙ ap (sign_by d at) (sym (comes_next w k))
    next_only (Referred c e) (k, l, h) =
        ap (Referred c) (stands_ends at (record { rest = refl; inside = h }) l) ∙ ap (sign_by d at) (sym (comes_next w k))
    next_only Nothing n = go (next_of w (drop at d)) refl
      where
        go : (o : Maybe Next) → next_of w (drop at d) ≡ o → Nothing ≡ sign_by d at o
        go none q = refl
        go (some x) q = absurd (n x.sign x.rest (next_comes w q))
