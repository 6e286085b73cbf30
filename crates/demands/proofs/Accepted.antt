-- Demand 2, of documents: one is accepted exactly when it is derived by production [1], with the constraints Element Type Match and Unique
-- Att Spec and within the sizes of document 01; and the forest that is cut is the one derived. In order: the first item of a document that
-- is derived, and that it names no other encoding; such a document is scanned without a fault; both ways in one. That a sound document is
-- derived is in First.antt.
use mathlib.Core.Path.{◌≡◌, refl, sym, ap, ◌∙◌}
use mathlib.Core.Bool.{Bool, true, false, cond}
use mathlib.Core.List.{List, [], ◌∷◌}
use mathlib.Core.Logic.{◌↔◌}
use Prim.Native.Nat.{ℕ, suc, ◌≤◌}
use native.Mathlib.Omega.{arith}
use borrow.Author.Tests.{ltb-true}
use lib.Dec.{ltb}
use lib.ListN.{length, drop}
use Rattle.std.specs.Prelude.{Ok, Err}
use Rattle.xml.specs.Notation.{Rule, Reads, opt}
use Rattle.xml.specs.Productions.{is_space, XMLDecl}
use Rattle.xml.specs.Encoding.{EncodingBy, DeclBy, Utf8Name, Utf8Decl, NamesOther}
use Rattle.xml.specs.Forest.{Forest, other}
use Rattle.xml.specs.Document.{Item as ItemOf, Small, Rooted, Document}
use Rattle.xml.specs.Document as doc
use Rattle.xml.proofs.Bools.{true-false}
use Rattle.xml.proofs.Run.{reads_starts}
use Rattle.xml.proofs.Encoding.{OtherName, utf8_declaration, other_rule}
use Rattle.chars.specs.Check.{check_of}
use Rattle.std.specs.Prelude.{Ok}
use Rattle.chars.proofs.Meaning.{check_only}
use Rattle.readers.specs.Meaning.{Chars}
use Rattle.readers.proofs.Combine.{chars_left}
use Rattle.readers.proofs.Follow.{ascii}
use Rattle.readers.proofs.Encoding.{utf8_names_none}
use Rattle.tags.specs.declared.Item.{Item}
use Rattle.tags.specs.declared.Item.TheVariants.{Declaration}
use Rattle.items.specs.Item.{declares, item_at}
use Rattle.items.specs.Inside.{Inside}
use Rattle.items.proofs.Insides.{item_inside}
use Rattle.items.proofs.Meaning.{item_only}
use Rattle.document.specs.Judge.{start_of, nothing, scan_from, scanned, by_chars, by_encoding, judge_of}
use Rattle.document.specs.declared.DocumentError.TheVariants.{TooLong}
use Rattle.trees.specs.Grown.{Token, tokens_from, tokens_of, grown, forest_of, tokens}
use Rattle.trees.proofs.Grown.{tokens_grown}
use Rattle.demands.proofs.Told.{declared_kind}
use Rattle.demands.proofs.Begins.{start_undeclared, plain_undeclared, space_first, instruction_undeclared}
use Rattle.demands.proofs.First.{start_inside, start_chars, none_named, first_other, sound_document}
use Rattle.demands.proofs.Goes.{read_at, says_at}
use Rattle.demands.proofs.Complete.{rooted_goes}

-- ---- the first item

comment_undeclared : (s u : List ℕ) → s ≡ 0x3C ∷ 0x21 ∷ u → declares s ≡ false
unfolding declares
comment_undeclared s u e = rw e refl

rooted_undeclared : {b : Bool} {s : List ℕ} {f : Forest} → Rooted Small b s f → Chars s → declares s ≡ false
rooted_undeclared (doc.space_before {s = s} i r) c = let (u, x, rs) = i.reads in plain_undeclared s u (space_first s u x)
rooted_undeclared (doc.instruction_before {s = s} {m = m} i r) c = instruction_undeclared s m c i.reads
rooted_undeclared (doc.comment_before {s = s} i r) c = comment_undeclared s _ i.reads.1
rooted_undeclared (doc.empty_root x k a) c = ap declares x.opens ∙ start_undeclared x.from x.to x.named
rooted_undeclared (doc.root x k r y a) c = ap declares x.opens ∙ start_undeclared x.from x.to x.named

declaration_declares : (e : Rule) (s t : List ℕ) → Reads (DeclBy e) s t → declares s ≡ true
unfolding declares
declaration_declares r s t (u, e, (m, (a, (b, x, rs), y), z)) = rw e (reads_starts is_space u b x)

-- a document that is derived names no other encoding
document_utf8 : {s : List ℕ} {f : Forest} → Chars s → Document Small s f → NamesOther s → ⊥
document_utf8 c (doc.declared {s = s} {m = m} i r) x = utf8_names_none s m i.reads x
document_utf8 {s} c (doc.bare r) x =
    let (t, y) = (other_rule s).0 x in true-false (declaration_declares (EncodingBy OtherName) s t y) (rooted_undeclared r c)

-- ---- a document that is derived is scanned without a fault, and its tokens are those of the forest derived

record Scanned (d : List ℕ) (at : ℕ) (f : Forest) : Type 0 where
  sound : scan_from (suc (length d)) d at true nothing ≡ Ok tt
  tokens_are : tokens_from (suc (length d)) d at true ≡ tokens f []

inside_is : (d : List ℕ) (at : ℕ) (i : Item) → i ≡ item_at true d at → Inside d at i
inside_is d at i q = rw q (item_inside true d at)

module _ (d : List ℕ) (at : ℕ) (l : at ≤ length d) (c : Chars (drop at d)) where
  bare_scanned : {f : Forest} → Rooted Small true (drop at d) f → Scanned d at f
  unfolding scan_from tokens_from
  bare_scanned r =
      let (x, y) = (rooted_goes d r at (record { rest = refl; inside = l }) c).scans (suc (length d)) (omega arith) in
      let z = first_other (length d) d at l c (rooted_undeclared r c) in
      record { sound = rw z x; tokens_are = rw z y }

  declared_scanned : {raw m : List ℕ} {f : Forest} → ItemOf Utf8Decl raw (drop at d) m → Rooted Small true m f → Scanned d at (other raw f)
  unfolding scan_from tokens_from
  declared_scanned {raw} {m} {f} i r =
      let reads = utf8_declaration (drop at d) m i.reads in
      let p = read_at d (record { rest = refl; inside = l }) raw m i.raw_is in
      let e = p.to in
      let k = declared_kind (drop at d) (declaration_declares (opt (EncodingBy Utf8Name)) (drop at d) m i.reads) in
      let q : Declaration e ≡ item_at true d at
      = item_only true d at c (Declaration e) (k, says_at d (record { rest = refl; inside = l }) XMLDecl reads p) in
      let (a, b) = inside_is d at (Declaration e) q in
      let c' = chars_left XMLDecl (ascii XMLDecl refl) (drop at d) m c reads in
      let (x, y) = (rooted_goes d r e p.stands c').scans (length d) (omega arith) in
      record { sound = rw (← q) x; tokens_are = rw (← q, p.raw_is, y) refl }

  document_scanned : {f : Forest} → Document Small (drop at d) f → Scanned d at f
  document_scanned (doc.declared i r) = declared_scanned i r
  document_scanned (doc.bare r) = bare_scanned r

-- ---- the theorems

module _ (d : List ℕ) where
  derived_scanned : {f : Forest} → Chars d → Document Small (drop (start_of d) d) f → Scanned d (start_of d) f
  derived_scanned c = document_scanned d (start_of d) (start_inside d) (start_chars d c)

  -- a document has one forest
  pub derived_forest : {f : Forest} → Chars d → Document Small (drop (start_of d) d) f → f ≡ forest_of d
  unfolding forest_of tokens_of
  derived_forest {f} c x =
      sym (tokens_grown f) ∙ ap (λ (ts : List Token). (grown ts).front) (sym (derived_scanned c x).tokens_are)

  pub derived_sound : {f : Forest} → length d ≤ 16777216 → Chars d → Document Small (drop (start_of d) d) f → judge_of d ≡ Ok tt
  unfolding judge_of scanned
  derived_sound l c x = go (ltb 16777216 (length d)) refl
    where
      go : (b : Bool) → ltb 16777216 (length d) ≡ b → cond b (Err TooLong) (by_encoding d (by_chars (check_of d) (scanned d))) ≡ Ok tt
      go true q = absurd (let z = ltb-true 16777216 (length d) q in omega arith)
      go false q =
          rw (none_named (drop (start_of d) d) (document_utf8 (start_chars d c) x), ← check_only d (Ok tt) c) (derived_scanned c x).sound

  -- a document is accepted exactly when it is derived, from its first item on
  pub accepted : judge_of d ≡ Ok tt ↔ ((length d ≤ 16777216) × Chars d × ((f : Forest) × Document Small (drop (start_of d) d) f))
  accepted =
      ((λ e. let (l, c, x) = sound_document d e in (l, c, (forest_of d, x))), (λ (l, c, (f, x)). derived_sound l c x))
