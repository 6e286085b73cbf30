-- Completeness: what the grammar derives, the scan passes, and the tokens are those of the derivation's forest. In order: characters after
-- tags; what stops a text before content and outside the root; content, what stands after the root, the root and what stands before it;
-- the document, whose forest is the one that its tokens grow to.
use mathlib.Core.Path.{◌≡◌, refl, ap}
use mathlib.Core.Bool.{Bool, true, false}
use mathlib.Core.List.{List, [], ◌∷◌}
use mathlib.Core.Logic.{inl, inr}
use Prim.Native.Nat.{ℕ, suc}
use lib.ListN.{length}
use Rattle.xml.specs.Notation.{Rule}
use Rattle.xml.specs.Productions.{STag, ETag, EmptyElemTag, PI, Comment, CDSect, Reference, CharData, S}
use Rattle.xml.specs.Forest.{Name, Tag, Forest}
use Rattle.xml.specs.Document.{Opens, Closes, Item, Small, Content, After, Rooted}
use Rattle.xml.specs.Document as doc
use Rattle.utf8.specs.Place.{Stands}
use Rattle.readers.specs.Meaning.{Chars, tag_end}
use Rattle.readers.proofs.Attributes.{attributes_star}
use Rattle.readers.proofs.Combine.{chars_left}
use Rattle.readers.proofs.Follow.{ascii}
use Rattle.document.specs.Place.{Opened}
use Rattle.document.specs.Judge.{nothing}
use Rattle.trees.specs.Grown.{Token, finish, tokens}
use Rattle.demands.proofs.Parts.{Stops}
use Rattle.readers.proofs.Reference.{reads_refers, refers_first}
use Rattle.demands.proofs.Goes.{Goes, goes_over, instruction_goes, comment_goes, section_goes, reference_goes}
use Rattle.demands.proofs.Goes.{data_goes, space_goes, start_goes, finish_goes}

-- ---- what follows is characters too

opens_chars : (m : Bool) {v : Tag} {ns : List Name} {s t : List ℕ} → Opens (tag_end m) v ns s t → Chars s → Chars t
opens_chars true {s = s} {t = t} x c =
    chars_left EmptyElemTag (ascii EmptyElemTag refl) s t c
    (x.from, x.opens, (x.to, x.named, (x.after, attributes_star x.listed, (x.last, x.blank, x.closes))))
opens_chars false {s = s} {t = t} x c =
    chars_left STag (ascii STag refl) s t c
    (x.from, x.opens, (x.to, x.named, (x.after, attributes_star x.listed, (x.last, x.blank, x.closes))))

closes_chars : {n : Name} {raw s t : List ℕ} → Closes n raw s t → Chars s → Chars t
closes_chars {s = s} {t = t} x c =
    chars_left ETag (ascii ETag refl) s t c (x.from, x.opens, (x.to, x.named, (x.last, x.blank, x.closes)))

-- ---- what stops a text

closes_stops : {n : Name} {raw s t : List ℕ} → Closes n raw s t → Stops s
closes_stops x = inr (0x2F ∷ x.from, inl x.opens)

reference_stops : {raw s t : List ℕ} → Item Reference raw s t → Stops s
reference_stops {s = s} {t = t} i = let (n, r) = reads_refers i.reads in let (u, e) = refers_first r in inr (u, inr e)

instruction_stops : {raw s t : List ℕ} → Item PI raw s t → Stops s
instruction_stops i = inr (0x3F ∷ i.reads.0, inl i.reads.1)

comment_stops : {raw s t : List ℕ} → Item Comment raw s t → Stops s
comment_stops i = inr (0x21 ∷ 0x2D ∷ 0x2D ∷ i.reads.0, inl i.reads.1)

section_stops : {raw s t : List ℕ} → Item CDSect raw s t → Stops s
section_stops i =
    inr (0x21 ∷ 0x5B ∷ 0x43 ∷ 0x44 ∷ 0x41 ∷ 0x54 ∷ 0x41 ∷ 0x5B ∷ i.reads.0, inl i.reads.1)

opens_stops : {end : Rule} {v : Tag} {ns : List Name} {s t : List ℕ} → Opens end v ns s t → Stops s
opens_stops x = inr (x.from, inl x.opens)

content_stops : {k : ℕ} {s t : List ℕ} {f : Forest} → Content Small k false s t f → Stops t → Stops s
content_stops doc.end z = z
content_stops (doc.reference_next i c) z = reference_stops i
content_stops (doc.section_next i c) z = section_stops i
content_stops (doc.instruction_next i c) z = instruction_stops i
content_stops (doc.comment_next i c) z = comment_stops i
content_stops (doc.empty_next x k c) z = opens_stops x
content_stops (doc.element_next x k c y c') z = opens_stops x

after_stops : {s : List ℕ} {f : Forest} → After Small false s f → Stops s
after_stops doc.over = inl refl
after_stops (doc.instruction_after i a) = instruction_stops i
after_stops (doc.comment_after i a) = comment_stops i

rooted_stops : {s : List ℕ} {f : Forest} → Rooted Small false s f → Stops s
rooted_stops (doc.instruction_before i r) = instruction_stops i
rooted_stops (doc.comment_before i r) = comment_stops i
rooted_stops (doc.empty_root x k a) = opens_stops x
rooted_stops (doc.root x k c y a) = opens_stops x

-- ---- content

abbrev within : List Name → Opened
within ns = record { names = ns; rooted = true }

module _ (d : List ℕ) where
  content_goes : {n : Name} {ns : List Name} {l : ℕ} {b : Bool} {s t : List ℕ} {f : Forest} → Content Small (suc l) b s t f → l ≡ length ns
      → Stops t → (at : ℕ) → Stands d at s → Chars s → (ts : List Token)
      → ((e : ℕ) → Stands d e t → Chars t → Goes d e (within (n ∷ ns)) ts) → Goes d at (within (n ∷ ns)) (tokens f ts)
  content_goes doc.end o z at p c ts next = next at p c
  content_goes {n} {ns} (doc.data_next {s = s} {m = m} w i r) o z at p c ts next =
      data_goes d p c (within (n ∷ ns)) w i (content_stops r z) refl
      (λ e q. content_goes r o z e q (chars_left CharData (ascii CharData refl) s m c i.reads) ts next)
  content_goes {n} {ns} (doc.reference_next {s = s} {m = m} i r) o z at p c ts next =
      reference_goes d p c (within (n ∷ ns)) i refl
      (λ e q. content_goes r o z e q (chars_left Reference (ascii Reference refl) s m c i.reads) ts next)
  content_goes {n} {ns} (doc.section_next {s = s} {m = m} i r) o z at p c ts next =
      section_goes d p c (within (n ∷ ns)) i refl
      (λ e q. content_goes r o z e q (chars_left CDSect (ascii CDSect refl) s m c i.reads) ts next)
  content_goes {n} {ns} (doc.instruction_next {s = s} {m = m} i r) o z at p c ts next =
      instruction_goes d p c (within (n ∷ ns)) i
      (λ e q. content_goes r o z e q (chars_left PI (ascii PI refl) s m c i.reads) ts next)
  content_goes {n} {ns} (doc.comment_next {s = s} {m = m} i r) o z at p c ts next =
      comment_goes d p c (within (n ∷ ns)) i
      (λ e q. content_goes r o z e q (chars_left Comment (ascii Comment refl) s m c i.reads) ts next)
  content_goes {n} {ns} (doc.empty_next x k r) o z at p c ts next =
      start_goes d p c (within (n ∷ ns)) true x (rw o at k) refl (λ e q. content_goes r o z e q (opens_chars true x c) ts next)
  content_goes {n} {ns} (doc.element_next {raw = raw} {f = f} x k r y r') o z at p c ts next =
      start_goes d p c (within (n ∷ ns)) false x (rw o at k) refl (λ e q.
      content_goes r (ap suc o) (closes_stops y) e q (opens_chars false x c) (finish raw ∷ tokens f ts) (λ e' q' c'.
      finish_goes d q' c' (n ∷ ns) true y (rw o at k).1 (λ e'' q''. content_goes r' o z e'' q'' (closes_chars y c') ts next)))

  -- ---- after the root

  after_goes : {b : Bool} {s : List ℕ} {f : Forest} → After Small b s f → (at : ℕ) → Stands d at s → Chars s
      → Goes d at (within []) (tokens f [])
  after_goes doc.over at p c = goes_over d at p
  after_goes (doc.space_after {s = s} {m = m} i a) at p c =
      space_goes d p c (within []) i (after_stops a) (λ e q. after_goes a e q (chars_left S (ascii S refl) s m c i.reads))
  after_goes (doc.instruction_after {s = s} {m = m} i a) at p c =
      instruction_goes d p c (within []) i (λ e q. after_goes a e q (chars_left PI (ascii PI refl) s m c i.reads))
  after_goes (doc.comment_after {s = s} {m = m} i a) at p c =
      comment_goes d p c (within []) i (λ e q. after_goes a e q (chars_left Comment (ascii Comment refl) s m c i.reads))

  -- ---- the root, and what stands before it

  pub rooted_goes : {b : Bool} {s : List ℕ} {f : Forest} → Rooted Small b s f → (at : ℕ) → Stands d at s → Chars s
      → Goes d at nothing (tokens f [])
  rooted_goes (doc.space_before {s = s} {m = m} i r) at p c =
      space_goes d p c nothing i (rooted_stops r) (λ e q. rooted_goes r e q (chars_left S (ascii S refl) s m c i.reads))
  rooted_goes (doc.instruction_before {s = s} {m = m} i r) at p c =
      instruction_goes d p c nothing i (λ e q. rooted_goes r e q (chars_left PI (ascii PI refl) s m c i.reads))
  rooted_goes (doc.comment_before {s = s} {m = m} i r) at p c =
      comment_goes d p c nothing i (λ e q. rooted_goes r e q (chars_left Comment (ascii Comment refl) s m c i.reads))
  rooted_goes (doc.empty_root x k a) at p c =
      start_goes d p c nothing true x k refl (λ e q. after_goes a e q (opens_chars true x c))
  rooted_goes (doc.root {raw = raw} {f = f} x k r y a) at p c =
      start_goes d p c nothing false x k refl (λ e q.
      content_goes r refl (closes_stops y) e q (opens_chars false x c) (finish raw ∷ tokens f []) (λ e' q' c'.
      finish_goes d q' c' [] true y k.1 (λ e'' q''. after_goes a e'' q'' (closes_chars y c'))))
