-- What is read at one place is read at any other: the tags, end tags and content of xml/specs/Document, with something else after them. In
-- order: a tag by its texts, `Shaped`, and the tags that are written of it; an end tag by its texts, `Shut`; content, `Stands`.
use mathlib.Core.Path.{◌≡◌, refl, sym, ap, ◌∙◌}
use mathlib.Core.Bool.{Bool, true}
use mathlib.Core.List.{List, [], ◌∷◌, ◌++◌, append_assoc, append-nil, append_cancel_right}
use mathlib.Core.Logic.{inl}
use Prim.Native.Nat.{ℕ, suc}
use Rattle.xml.specs.Notation.{Rule, Reads, bytes, text, opt}
use Rattle.xml.specs.Productions.{S, Name as NameRule, Eq, AttValue}
use Rattle.xml.specs.Language.{Language}
use Rattle.xml.specs.Forest.{Name, Tag, Forest, nil, other, elem, render, end_tag}
use Rattle.xml.specs.Document as doc
use Rattle.xml.specs.Document.{Attributes, Unique, Opens, Closes, Item, Content}
use Rattle.xml.proofs.Language.{reads_language, language_reads}
use Rattle.trees.specs.Cut.{opened, bare}

-- what a rule reads is a text of its language
reads_text : (r : Rule) (w s t : List ℕ) → Reads r s t → s ≡ w ++ t → Language r w
reads_text r w s t x e =
    let (v, q, l) = reads_language r s t x in
    rw (append_cancel_right w v t (sym e ∙ q)) l

-- ---- tags

-- the texts of attributes of these names
abbrev Listed : List Name → List ℕ → Type 0
Listed ns w = (t : List ℕ) → Attributes ns (w ++ t) t

five : (x n y z w t : List ℕ) {s a b c e : List ℕ} → s ≡ x ++ a → a ≡ n ++ b → b ≡ y ++ c → c ≡ z ++ e → e ≡ w ++ t
    → s ≡ (x ++ (n ++ (y ++ (z ++ w)))) ++ t
five x n y z w t p q r u v = simp (p, q, r, u, v, append_assoc)

listed_more : (n : Name) (ns : List Name) (x y z w : List ℕ) → Language S x → Language NameRule n → Language Eq y → Language AttValue z
    → Listed ns w → Listed (n ∷ ns) (x ++ (n ++ (y ++ (z ++ w))))
listed_more n ns x y z w a b c d l t =
    rw (sym (five x n y z w t refl refl refl refl refl))
    (doc.more (language_reads S x _ a) (language_reads NameRule n _ b) refl (language_reads Eq y _ c) (language_reads AttValue z _ d) (l t))

attributes_listed : (ns : List Name) (s t : List ℕ) → Attributes ns s t → (w : List ℕ) × (s ≡ w ++ t) × Listed ns w
attributes_listed [] s t doc.done = ([], refl, λ t. doc.done)
attributes_listed (n ∷ ns) s t (doc.more {a = a} {b = b} {c = c} {e = e} rs rn is rq rv rest) =
    let (x, p, l) = reads_language S s a rs in
    let (y, r, k) = reads_language Eq b c rq in
    let (z, u, m) = reads_language AttValue c e rv in
    let (w, v, h) = attributes_listed ns e t rest in
    (x ++ (n ++ (y ++ (z ++ w))), five x n y z w t p is r u v, listed_more n ns x y z w l (reads_text NameRule n a b rn is) k m h)

-- a tag by its texts: `<`, its name, attributes, white space, and its end
pub record Shaped (end : Rule) (v : Tag) (attributes : List Name) : Type 0 where
  pub list : List ℕ
  pub blank : List ℕ
  pub head_is : v.head ≡ bytes "<" ++ (v.name ++ (list ++ blank))
  pub named : Language NameRule v.name
  pub listed : Listed attributes list
  pub blanks : Language (opt S) blank
  pub ends : Language end v.tail
  pub unique : Unique attributes

four : (n w x t : List ℕ) {s a b c : List ℕ} → s ≡ bytes "<" ++ a → a ≡ n ++ b → b ≡ w ++ c → c ≡ x ++ t
    → s ≡ (bytes "<" ++ (n ++ (w ++ x))) ++ t
four n w x t p q r u = simp (p, q, r, u, append_assoc)

pub opens_shaped : {end : Rule} {v : Tag} {ns : List Name} {s t : List ℕ} → Opens end v ns s t → Shaped end v ns
opens_shaped {end = end} {v = v} {ns = ns} {t = t} o =
    let (w, p, l) = attributes_listed ns o.to o.after o.listed in
    let (x, q, k) = reads_language (opt S) o.after o.last o.blank in
    record {
      list = w;
      blank = x;
      head_is = append_cancel_right v.head (bytes "<" ++ (v.name ++ (w ++ x))) o.last
          (sym o.head_is ∙ four v.name w x o.last o.opens o.name_is p q);
      named = reads_text NameRule v.name o.from o.to o.named o.name_is;
      listed = l;
      blanks = k;
      ends = reads_text end v.tail o.last t o.closes o.tail_is;
      unique = o.unique;
    }

head_then : (h n w x t : List ℕ) → h ≡ bytes "<" ++ (n ++ (w ++ x)) → h ++ t ≡ bytes "<" ++ (n ++ (w ++ (x ++ t)))
head_then h n w x t e = simp (e, append_assoc)

pub shaped_opens : (end : Rule) (v : Tag) (ns : List Name) (t : List ℕ) → Shaped end v ns → Opens end v ns (v.head ++ (v.tail ++ t)) t
shaped_opens end v ns t z =
    record {
      from = v.name ++ (z.list ++ (z.blank ++ (v.tail ++ t)));
      to = z.list ++ (z.blank ++ (v.tail ++ t));
      after = z.blank ++ (v.tail ++ t);
      last = v.tail ++ t;
      opens = head_then v.head v.name z.list z.blank (v.tail ++ t) z.head_is;
      named = language_reads NameRule v.name _ z.named;
      name_is = refl;
      listed = z.listed (z.blank ++ (v.tail ++ t));
      blank = language_reads (opt S) z.blank (v.tail ++ t) z.blanks;
      closes = language_reads end v.tail t z.ends;
      head_is = refl;
      tail_is = refl;
      unique = z.unique;
    }

-- the tags that are written of a tag
pub opened_shaped : {end : Rule} {v : Tag} {ns : List Name} → Shaped end v ns → Shaped (text ">") (opened v) ns
opened_shaped z =
    record {
      list = z.list;
      blank = z.blank;
      head_is = z.head_is;
      named = z.named;
      listed = z.listed;
      blanks = z.blanks;
      ends = refl;
      unique = z.unique;
    }

pub bare_shaped : {end : Rule} {v : Tag} {ns : List Name} → Shaped end v ns → Shaped (text ">") (bare v) []
bare_shaped {v = v} z =
    record {
      list = [];
      blank = [];
      head_is = ap (λ (w : List ℕ). 60 ∷ w) (sym (append-nil v.name));
      named = z.named;
      listed = λ t. doc.done;
      blanks = inl refl;
      ends = refl;
      unique = tt;
    }

-- ---- end tags, by their texts

pub record Shut (n : Name) (raw : List ℕ) : Type 0 where
  pub blank : List ℕ
  pub raw_is : raw ≡ bytes "</" ++ (n ++ (blank ++ bytes ">"))
  pub named : Language NameRule n
  pub blanks : Language (opt S) blank

shut_texts : (n x t : List ℕ) {s a b c : List ℕ} → s ≡ bytes "</" ++ a → a ≡ n ++ b → b ≡ x ++ c → c ≡ bytes ">" ++ t
    → s ≡ (bytes "</" ++ (n ++ (x ++ bytes ">"))) ++ t
shut_texts n x t p q r u = simp (p, q, r, u, append_assoc)

pub closes_shut : {n : Name} {raw s t : List ℕ} → Closes n raw s t → Shut n raw
closes_shut {n = n} {raw = raw} {t = t} c =
    let (x, p, l) = reads_language (opt S) c.to c.last c.blank in
    record {
      blank = x;
      raw_is = append_cancel_right raw (bytes "</" ++ (n ++ (x ++ bytes ">"))) t
          (sym c.raw_is ∙ shut_texts n x t c.opens c.name_is p c.closes);
      named = reads_text NameRule n c.from c.to c.named c.name_is;
      blanks = l;
    }

raw_then : (raw n x t : List ℕ) → raw ≡ bytes "</" ++ (n ++ (x ++ bytes ">")) → raw ++ t ≡ bytes "</" ++ (n ++ (x ++ (bytes ">" ++ t)))
raw_then raw n x t e = simp (e, append_assoc)

pub shut_closes : (n : Name) (raw t : List ℕ) → Shut n raw → Closes n raw (raw ++ t) t
shut_closes n raw t z =
    record {
      from = n ++ (z.blank ++ (bytes ">" ++ t));
      to = z.blank ++ (bytes ">" ++ t);
      last = bytes ">" ++ t;
      opens = raw_then raw n z.blank t z.raw_is;
      named = language_reads NameRule n _ z.named;
      name_is = refl;
      blank = language_reads (opt S) z.blank (bytes ">" ++ t) z.blanks;
      closes = refl;
      raw_is = refl;
    }

pub end_shut : (n : Name) → Language NameRule n → Shut n (end_tag n)
end_shut n l = record { blank = []; raw_is = refl; named = l; blanks = inl refl }

-- ---- content

pub item_reread : {r : Rule} {raw s m : List ℕ} → Item r raw s m → (t : List ℕ) → Item r raw (raw ++ t) t
item_reread {r = r} {raw = raw} {s = s} {m = m} i t =
    record { reads = language_reads r raw t (reads_text r raw s m i.reads i.raw_is); raw_is = refl }

elem_then : (h e k c r t : List ℕ) → (h ++ (e ++ (k ++ (c ++ r)))) ++ t ≡ h ++ (e ++ (k ++ (c ++ (r ++ t))))
elem_then h e k c r t = simp append_assoc

module _ (Fits : ℕ → Name → List Name → Type 0) where
  -- f is content at level k, whatever follows it
  abbrev pub Stands : ℕ → Bool → Forest → Type 0
  Stands k chars f = (t : List ℕ) → Content Fits k chars (render f ++ t) t f

  at_place : {k : ℕ} {chars : Bool} {s s' t : List ℕ} {f : Forest} → s ≡ s' → Content Fits k chars s' t f → Content Fits k chars s t f
  at_place e c = rw e c

  pub empty_stands : {k : ℕ} {chars : Bool} {v : Tag} {ns : List Name} {f : Forest} → Shaped (text "/>") v ns → Fits (suc k) v.name ns
      → Stands k true f → Stands k chars (elem v nil [] f)
  empty_stands {v = v} {ns = ns} {f = f} z h c t =
      at_place (elem_then v.head v.tail [] [] (render f) t)
      (doc.empty_next (shaped_opens (text "/>") v ns (render f ++ t) z) h (c t))

  pub element_stands : {k : ℕ} {chars : Bool} {v : Tag} {ns : List Name} {raw : List ℕ} {kids f : Forest} → Shaped (text ">") v ns
      → Fits (suc k) v.name ns → Stands (suc k) true kids → Shut v.name raw → Stands k true f → Stands k chars (elem v kids raw f)
  element_stands {v = v} {ns = ns} {raw = raw} {kids = kids} {f = f} z h i x c t =
      at_place (elem_then v.head v.tail (render kids) raw (render f) t)
      (doc.element_next (shaped_opens (text ">") v ns (render kids ++ (raw ++ (render f ++ t))) z) h (i (raw ++ (render f ++ t)))
      (shut_closes v.name raw (render f ++ t) x) (c t))

  other_stands : {k : ℕ} {chars : Bool} {raw : List ℕ} {f : Forest}
      → ((t : List ℕ) → Content Fits k chars (raw ++ (render f ++ t)) t (other raw f)) → Stands k chars (other raw f)
  other_stands {raw = raw} {f = f} c t = at_place (append_assoc raw (render f) t) (c t)

  pub content_stands : {k : ℕ} {chars : Bool} {s t : List ℕ} {f : Forest} → Content Fits k chars s t f → Stands k chars f
  content_stands doc.end = λ t. doc.end
  content_stands (doc.data_next {f = f} e i c) =
      other_stands (λ t. doc.data_next e (item_reread i (render f ++ t)) (content_stands c t))
  content_stands (doc.reference_next {f = f} i c) =
      other_stands (λ t. doc.reference_next (item_reread i (render f ++ t)) (content_stands c t))
  content_stands (doc.section_next {f = f} i c) =
      other_stands (λ t. doc.section_next (item_reread i (render f ++ t)) (content_stands c t))
  content_stands (doc.instruction_next {f = f} i c) =
      other_stands (λ t. doc.instruction_next (item_reread i (render f ++ t)) (content_stands c t))
  content_stands (doc.comment_next {f = f} i c) =
      other_stands (λ t. doc.comment_next (item_reread i (render f ++ t)) (content_stands c t))
  content_stands (doc.empty_next o h c) = empty_stands (opens_shaped o) h (content_stands c)
  content_stands (doc.element_next o h i x c) =
      element_stands (opens_shaped o) h (content_stands i) (closes_shut x) (content_stands c)
