-- The first item, and so a whole sound document: it declares, or it is told as any other. In order: the place of the first item, and the
-- characters from it on; whether another encoding is named; a document that begins with a declaration, and one that does not.
use mathlib.Core.Path.{◌≡◌, refl, ap, ◌∙◌}
use mathlib.Core.Bool.{Bool, true, false, cond, false≢true}
use mathlib.Core.List.{List}
use mathlib.Core.Logic.{inl, inr}
use mathlib.Core.Option.{Option, none, some}
use Prim.Native.Nat.{ℕ, suc, ◌+◌, ◌≤◌}
use native.Mathlib.Omega.{arith}
use borrow.Author.Tests.{ltb-false}
use lib.Dec.{ltb}
use lib.ListN.{length, drop, length-append}
use Rattle.std.specs.Prelude.{Ok, Err}
use Rattle.xml.specs.Productions.{is_char, XMLDecl}
use Rattle.xml.specs.Encoding.{NamesOther}
use Rattle.xml.specs.Utf8.{utf8, is_scalar}
use Rattle.xml.specs.Character.{begins}
use Rattle.xml.specs.Forest.{Forest}
use Rattle.xml.specs.Document.{Small, Rooted, Document}
use Rattle.xml.specs.Document as doc
use Rattle.xml.proofs.Bools.{true-false}
use Rattle.xml.proofs.Character.{begins_split}
use Rattle.xml.proofs.Encoding.{declared_utf8}
use Rattle.chars.specs.Check.{check_of}
use Rattle.chars.specs.Meaning.{CheckSays}
use Rattle.std.specs.Prelude.{Result, Ok, Err}
use Rattle.chars.specs.declared.whole.CharError.{CharError}
use Rattle.chars.specs.Name.{reading_at}
use Rattle.chars.proofs.Meaning.{check_says}
use Rattle.readers.specs.Named.{declaration_of, other_encoding}
use Rattle.readers.specs.Meaning.{Chars}
use Rattle.readers.specs.Says.{ReadingSays}
use Rattle.readers.proofs.Says.{declaration_says}
use Rattle.readers.proofs.Encoding.{other_iff}
use Rattle.readers.proofs.Combine.{chars_char, chars_left}
use Rattle.readers.proofs.Follow.{ascii}
use Rattle.tags.specs.declared.Item.TheVariants.{Declaration}
use Rattle.items.specs.Item.{Kind, declares, item_by, item_of, item_at}
use Rattle.document.specs.Place.{placement, after_item, end_of}
use Rattle.document.specs.Judge.{front, start_of, nothing, scanned, by_chars, judge_of}
use Rattle.document.specs.declared.Placement.TheVariants.{Fine, Over}
use Rattle.document.specs.declared.DocumentError.TheVariants.{TooLong, OtherEncoding}
use Rattle.trees.specs.Grown.{item_tokens, tokens_from, tokens_of, grown, forest_of}
use Rattle.trees.proofs.Passes.{Passes, scan_passes}
use Rattle.demands.proofs.Told.{first_kind, declared_kind}
use Rattle.demands.proofs.Tagged.{item_sound}
use Rattle.demands.proofs.Sound.{Begun, begun, passes_begun}

-- ---- the place of the first item: the three bytes in front of it are one character

pub start_inside : (d : List ℕ) → start_of d ≤ length d
unfolding start_of
start_inside d = go (begins front d) refl
  where
    go : (b : Bool) → begins front d ≡ b → cond b 3 0 ≤ length d
    go true q =
        let z : length d ≡ 3 + length (drop 3 d) = ap length (begins_split front d q) ∙ length-append front (drop 3 d) in
        omega arith
    go false q = omega arith

pub start_chars : (d : List ℕ) → Chars d → Chars (drop (start_of d) d)
unfolding start_of is_char is_scalar utf8
start_chars d c = go (begins front d) refl
  where
    go : (b : Bool) → begins front d ≡ b → Chars (drop (cond b 3 0) d)
    go true q = chars_char is_char c (0xFEFF, refl, refl, begins_split front d q)
    go false q = c

-- ---- the encoding that is named there, or none

module _ (s : List ℕ) where
  pub named_none : other_encoding s ≡ false → NamesOther s → ⊥
  named_none e x = true-false ((other_iff s).1 x) e

  pub none_named : (NamesOther s → ⊥) → other_encoding s ≡ false
  none_named n = go (other_encoding s) refl
    where
      go : (b : Bool) → other_encoding s ≡ b → b ≡ false
      go true e = absurd (n ((other_iff s).0 e))
      go false e = refl

-- ---- the document

begun_rooted : {b : Bool} {s : List ℕ} {f : Forest} {xs : List (List ℕ × Forest)} → Begun b s f xs → Rooted Small b s f
begun_rooted (begun r) = r

module _ (k : ℕ) (d : List ℕ) (at : ℕ) (l : at ≤ length d) (c : Chars (drop at d)) where
  -- the item is a declaration, and what follows it is not told as one
  declared_document : (NamesOther (drop at d) → ⊥) → (o : Option (List ℕ)) → ReadingSays XMLDecl d at (reading_at d at o)
      → placement d at (item_by Declaration d at o) nothing ≡ Fine
      → Passes k d (end_of at (item_by Declaration d at o)) false (after_item d at (item_by Declaration d at o) nothing)
      → Document Small (drop at d)
      (grown (item_tokens d at (item_by Declaration d at o) (tokens_from k d (end_of at (item_by Declaration d at o)) false))).front
  declared_document n none x p h = absurd (false≢true cc)
  declared_document n (some t) x p h =
      let i = item_sound d at XMLDecl x in
      doc.declared (record { reads = declared_utf8 (drop at d) _ i.reads n; raw_is = i.raw_is })
      (begun_rooted (passes_begun k d _ true (chars_left XMLDecl (ascii XMLDecl refl) (drop at d) _ c x.0) tt h))

  declared_over : {A : Type 0} (o : Option (List ℕ)) → placement d at (item_by Declaration d at o) nothing ≡ Over → A
  declared_over none p = absurd (false≢true cc)
  declared_over (some t) p = absurd (false≢true cc)

  pub first_declares : declares (drop at d) ≡ true → item_at true d at ≡ item_by Declaration d at (declaration_of (drop at d))
  unfolding item_at
  first_declares q = ap (λ (k : Kind). item_of k d at) (declared_kind (drop at d) q)

  pub first_other : declares (drop at d) ≡ false → item_at true d at ≡ item_at false d at
  unfolding item_at
  first_other q = ap (λ (k : Kind). item_of k d at) (first_kind (drop at d) q)

  pub passes_document : (NamesOther (drop at d) → ⊥) → Passes (suc k) d at true nothing
      → Document Small (drop at d) (grown (tokens_from (suc k) d at true)).front
  unfolding tokens_from
  passes_document n h = go (declares (drop at d)) refl h
    where
      go : (b : Bool) → declares (drop at d) ≡ b → Passes (suc k) d at true nothing
          → Document Small (drop at d) (grown (tokens_from (suc k) d at true)).front
      go true q (inl p) = declared_over (declaration_of (drop at d)) (rw (first_declares q) at p)
      go true q (inr (p, h)) =
          let z = first_declares q in
          rw z (declared_document n (declaration_of (drop at d)) (declaration_says d at c l) (rw z at p) (rw z at h))
      go false q h =
          let z = first_other q in
          rw z (doc.bare (begun_rooted (passes_begun (suc k) d at true c tt (rw z at h))))

-- ---- the judgement

pub scanned_document : (d : List ℕ) → (NamesOther (drop (start_of d) d) → ⊥) → Chars d → scanned d ≡ Ok tt
    → Document Small (drop (start_of d) d) (forest_of d)
unfolding scanned tokens_of forest_of
scanned_document d n c e =
    passes_document (length d) d (start_of d) (start_inside d) (start_chars d c) n
    (scan_passes (suc (length d)) d (start_of d) true nothing e)

-- a sound document is within the size, names no other encoding, is made of Chars, and no item of it is at fault
pub sound_scanned : (d : List ℕ) → judge_of d ≡ Ok tt
    → (length d ≤ 16777216) × (NamesOther (drop (start_of d) d) → ⊥) × Chars d × (scanned d ≡ Ok tt)
unfolding judge_of
sound_scanned d = go (ltb 16777216 (length d)) (other_encoding (drop (start_of d) d)) (check_of d) refl refl (check_says d)
  where
    go : (b o : Bool) (r : Result Unit CharError) → ltb 16777216 (length d) ≡ b → other_encoding (drop (start_of d) d) ≡ o → CheckSays d r
        → cond b (Err TooLong) (cond o (Err (OtherEncoding (start_of d))) (by_chars r (scanned d))) ≡ Ok tt
        → (length d ≤ 16777216) × (NamesOther (drop (start_of d) d) → ⊥) × Chars d × (scanned d ≡ Ok tt)
    go true o r q n x e = absurd (false≢true cc)
    go false true r q n x e = absurd (false≢true cc)
    go false false (Err k) q n x e = absurd (false≢true cc)
    go false false (Ok tt) q n x e = (ltb-false 16777216 (length d) q, named_none (drop (start_of d) d) n, x, e)

pub sound_document : (d : List ℕ) → judge_of d ≡ Ok tt
    → (length d ≤ 16777216) × Chars d × Document Small (drop (start_of d) d) (forest_of d)
sound_document d e = let (l, n, c, s) = sound_scanned d e in (l, c, scanned_document d n c s)
