-- The attributes of every element are those that its tag bears by [40], [44], [41] and [10], each by its name and its value made normal. In
-- order: a tag by its derivation; the tags of a document. What a tag bears is one list, and its names are those that the document's
-- derivation has, of which none stands twice.
use mathlib.Core.Path.{◌≡◌, refl, ap, ◌∙◌}
use mathlib.Core.List.{List, [], ◌++◌, append-nil}
use Prim.Native.Nat.{ℕ}
use Rattle.std.specs.Prelude.{Ok}
use Rattle.xml.specs.Notation.{Rule, Reads, text, opt}
use Rattle.xml.specs.Productions.{S, Name as NameRule}
use Rattle.xml.specs.Forest.{Name, Tag, Forest}
use Rattle.xml.specs.Document.{Unique, Opens, Document}
use Rattle.xml.proofs.Language.{language_reads}
use Rattle.readers.specs.Meaning.{Chars}
use Rattle.attributes.specs.Attribute.{Attribute, Bears, names_of}
use Rattle.attributes.specs.Held.{attributes_of}
use Rattle.attributes.proofs.Held.{bears_only, attributes_holds}
use Rattle.document.specs.Judge.{judge_of}
use Rattle.trees.specs.Grown.{forest_of}
use Rattle.demands.proofs.First.{sound_document}
use Rattle.demands.proofs.Allowed.{star_then, allowed_chars}
use Rattle.demands.proofs.Productions.{space_allowed, name_allowed}
use Rattle.demands.proofs.Characters.{attributes_chars}
use Rattle.demands.proofs.Reread.{Shaped, opens_shaped}
use Rattle.demands.proofs.Each.{Each, document_each}

-- ---- a tag

module _ {end : Rule} {v : Tag} {ns : List Name} (z : Shaped end v ns) where
  blank_reads : Reads (opt S) z.blank []
  blank_reads = rw (append-nil z.blank) at (language_reads (opt S) z.blank [] z.blanks)

  name_reads : Reads NameRule (v.name ++ (z.list ++ z.blank)) (z.list ++ z.blank)
  name_reads = language_reads NameRule v.name (z.list ++ z.blank) z.named

  head_chars : Chars v.head
  head_chars =
      rw z.head_is
      (star_then (allowed_chars (text "<") refl _ _ refl)
      (star_then (allowed_chars NameRule name_allowed _ _ name_reads)
      (star_then (attributes_chars (z.listed z.blank))
      (allowed_chars (opt S) (refl, space_allowed) _ _ blank_reads))))

  shaped_bears : (xs : List Attribute) × Bears v xs × (names_of xs ≡ ns)
  shaped_bears =
      let (xs, h, e) = attributes_holds (z.listed z.blank) in (
        xs,
        record {
          from = z.list ++ z.blank;
          head_is = z.head_is;
          named = name_reads;
          lists = record { last = z.blank; holds = h; blank = blank_reads };
        },
        e,
      )

-- what is found in a tag's head is what the tag bears
pub record Borne (v : Tag) : Type 0 where
  pub bears : Bears v (attributes_of v)
  pub only : (xs : List Attribute) → Bears v xs → attributes_of v ≡ xs
  pub unique : Unique (names_of (attributes_of v))

pub opens_borne : {end : Rule} {v : Tag} {ns : List Name} {s t : List ℕ} → Opens end v ns s t
    → Borne v × (names_of (attributes_of v) ≡ ns)
opens_borne {v = v} {ns = ns} o =
    let z = opens_shaped o in
    let (xs, b, e) = shaped_bears z in
    let q = bears_only (head_chars z) b in
    let names : names_of (attributes_of v) ≡ ns = ap names_of q ∙ e in
    (record { bears = rw q b; only = λ ys. bears_only (head_chars z); unique = rw names o.unique }, names)

-- ---- the tags of a document

abbrev pub EachTag : (Tag → Type 0) → Forest → Type 0
EachTag P f = Each (λ (t : Tag) (close : List ℕ). P t) f

pub document_borne : {Fits : ℕ → Name → List Name → Type 0} {s : List ℕ} {f : Forest} → Document Fits s f → EachTag Borne f
document_borne =
    document_each (λ (t : Tag) (close : List ℕ). Borne t) (λ v ns s t o. (opens_borne o).0) (λ v ns raw s a b t o x. (opens_borne o).0)

-- of every element of an accepted document
pub accepted_borne : (d : List ℕ) → judge_of d ≡ Ok tt → EachTag Borne (forest_of d)
accepted_borne d e = document_borne (sound_document d e).2
