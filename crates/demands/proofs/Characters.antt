-- A document is made of characters of [2] alone, by its derivation. In order: tags and end tags; content; what stands outside the root;
-- `document_chars`. It is said as the readers ask for it: `Chars s`.
use mathlib.Core.Path.{refl}
use mathlib.Core.Bool.{Bool}
use mathlib.Core.List.{List}
use Prim.Native.Nat.{ℕ}
use Rattle.xml.specs.Notation.{Rule, Reads, Star, done, text, opt}
use Rattle.xml.specs.Productions.{Char, S, Name as NameRule, Eq, AttValue, Reference, CharData, Comment, PI, CDSect}
use Rattle.xml.specs.Encoding.{Utf8Decl}
use Rattle.xml.specs.Forest.{Name, Tag, Forest}
use Rattle.xml.specs.Document as doc
use Rattle.xml.specs.Document.{Attributes, Opens, Closes, Item, Content, After, Rooted, Document}
use Rattle.readers.specs.Meaning.{Chars}
use Rattle.demands.proofs.Allowed.{star_then, Allowed, allowed_chars}
use Rattle.demands.proofs.Productions.{space_allowed, name_allowed, eq_allowed, reference_allowed, value_allowed, data_allowed}
use Rattle.demands.proofs.Productions.{comment_allowed, instruction_allowed, section_allowed, declaration_allowed}

-- ---- tags

-- what is left of s is t, after characters alone
abbrev Passed : List ℕ → List ℕ → Type 0
Passed s t = Star (Reads Char) s t

pub attributes_chars : {ns : List Name} {s t : List ℕ} → Attributes ns s t → Passed s t
attributes_chars doc.done = done
attributes_chars (doc.more {s = s} {a = a} {b = b} {c = c} {e = e} rs rn is rq rv rest) =
    star_then (allowed_chars S space_allowed s a rs)
    (star_then (allowed_chars NameRule name_allowed a b rn)
    (star_then (allowed_chars Eq eq_allowed b c rq)
    (star_then (allowed_chars AttValue value_allowed c e rv) (attributes_chars rest))))

pub opens_chars : {end : Rule} {v : Tag} {ns : List Name} {s t : List ℕ} → Allowed end → Opens end v ns s t → Passed s t
opens_chars {end = end} {s = s} {t = t} g o =
    star_then (allowed_chars (text "<") refl s o.from o.opens)
    (star_then (allowed_chars NameRule name_allowed o.from o.to o.named)
    (star_then (attributes_chars o.listed)
    (star_then (allowed_chars (opt S) (refl, space_allowed) o.after o.last o.blank)
    (allowed_chars end g o.last t o.closes))))

pub closes_chars : {n : Name} {raw s t : List ℕ} → Closes n raw s t → Passed s t
closes_chars {s = s} {t = t} o =
    star_then (allowed_chars (text "</") refl s o.from o.opens)
    (star_then (allowed_chars NameRule name_allowed o.from o.to o.named)
    (star_then (allowed_chars (opt S) (refl, space_allowed) o.to o.last o.blank)
    (allowed_chars (text ">") refl o.last t o.closes)))

-- ---- the document

item_then : {r : Rule} {raw s m t : List ℕ} → Allowed r → Item r raw s m → Passed m t → Passed s t
item_then {r = r} {s = s} {m = m} g i x = star_then (allowed_chars r g s m i.reads) x

module _ {Fits : ℕ → Name → List Name → Type 0} where
  pub content_chars : {k : ℕ} {chars : Bool} {s t : List ℕ} {f : Forest} → Content Fits k chars s t f → Passed s t
  content_chars doc.end = done
  content_chars (doc.data_next e i r) = item_then {r = CharData} data_allowed i (content_chars r)
  content_chars (doc.reference_next i r) = item_then {r = Reference} reference_allowed i (content_chars r)
  content_chars (doc.section_next i r) = item_then {r = CDSect} section_allowed i (content_chars r)
  content_chars (doc.instruction_next i r) = item_then {r = PI} instruction_allowed i (content_chars r)
  content_chars (doc.comment_next i r) = item_then {r = Comment} comment_allowed i (content_chars r)
  content_chars (doc.empty_next o h r) = star_then (opens_chars {end = text "/>"} refl o) (content_chars r)
  content_chars (doc.element_next o h i x r) =
      star_then (opens_chars {end = text ">"} refl o) (star_then (content_chars i) (star_then (closes_chars x) (content_chars r)))

  pub after_chars : {space : Bool} {s : List ℕ} {f : Forest} → After Fits space s f → Chars s
  after_chars doc.over = done
  after_chars (doc.space_after i a) = item_then {r = S} space_allowed i (after_chars a)
  after_chars (doc.instruction_after i a) = item_then {r = PI} instruction_allowed i (after_chars a)
  after_chars (doc.comment_after i a) = item_then {r = Comment} comment_allowed i (after_chars a)

  pub rooted_chars : {space : Bool} {s : List ℕ} {f : Forest} → Rooted Fits space s f → Chars s
  rooted_chars (doc.space_before i r) = item_then {r = S} space_allowed i (rooted_chars r)
  rooted_chars (doc.instruction_before i r) = item_then {r = PI} instruction_allowed i (rooted_chars r)
  rooted_chars (doc.comment_before i r) = item_then {r = Comment} comment_allowed i (rooted_chars r)
  rooted_chars (doc.empty_root o h a) = star_then (opens_chars {end = text "/>"} refl o) (after_chars a)
  rooted_chars (doc.root o h i x a) =
      star_then (opens_chars {end = text ">"} refl o) (star_then (content_chars i) (star_then (closes_chars x) (after_chars a)))

  pub document_chars : {s : List ℕ} {f : Forest} → Document Fits s f → Chars s
  document_chars (doc.declared i r) = item_then {r = Utf8Decl} declaration_allowed i (rooted_chars r)
  document_chars (doc.bare r) = rooted_chars r
