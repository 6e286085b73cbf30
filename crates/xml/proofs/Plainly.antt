-- `Document` derives the texts that the productions derive as the Recommendation prints them, `document_plain` and `plain_document`, for
-- every condition on levels, names and attributes. In order: tags, and that those with names are [40] [44] [42]; S beside S is one S;
-- content, without its flags and with them; what stands outside the root; documents, `plainly`.
use mathlib.Core.Path.{◌≡◌, refl}
use mathlib.Core.Bool.{Bool, true, false}
use mathlib.Core.List.{List, [], ◌∷◌, ◌++◌, append_assoc}
use mathlib.Core.Logic.{◌⊎◌, inl, inr, ◌↔◌}
use Prim.Native.Nat.{ℕ, suc}
use Rattle.xml.specs.Notation.{Rule, ◌⨾◌, ◌∣◌, ◌∗, Star, done, more, Reads, text, opt}
use Rattle.xml.specs.Productions.{S, Name as NameRule, Eq, AttValue, Reference, CharData, Comment, PI, CDSect, Misc}
use Rattle.xml.specs.Encoding.{Utf8Decl}
use Rattle.xml.specs.Productions.{Attribute, STag, ETag, EmptyElemTag}
use Rattle.xml.specs.Forest.{Name, Tag, Forest, nil, other, elem}
use Rattle.xml.specs.Document.{Attributes, Unique, Opens, Closes, Item}
use Rattle.xml.specs.Document as doc
use Rattle.xml.specs.Plainly.{StartTag, EndTag, Element, Content, Pieces, Piece, Derived}
use Rattle.xml.specs.Plainly as plain
use Rattle.xml.proofs.Language.{reads_suffix}

-- ---- tags

opens_plain : {end : Rule} {v : Tag} {ns : List Name} {s t : List ℕ} → Opens end v ns s t → StartTag end v.name ns s t
opens_plain o =
    plain.tag (rw o.name_is at o.opens) (rw o.name_is at o.named) o.listed (o.last, o.blank, o.closes) o.unique

closes_plain : {n : Name} {raw s t : List ℕ} → Closes n raw s t → EndTag n s t
closes_plain c = plain.tag (rw c.name_is at c.opens) (rw c.name_is at c.named) (c.last, c.blank, c.closes)

-- s is some bytes and then t
abbrev Ends : List ℕ → List ℕ → Type 0
Ends s t = (w : List ℕ) × (s ≡ w ++ t)

ends_over : {s m t : List ℕ} → Ends s m → Ends m t → Ends s t
ends_over (v, p) (w, q) = (v ++ w, simp (p, q, append_assoc))

attributes_ends : {ns : List Name} {s t : List ℕ} → Attributes ns s t → Ends s t
attributes_ends doc.done = ([], refl)
attributes_ends (doc.more {s = s} {a = a} {b = b} {c = c} {e = e} x y n z w r) =
    ends_over (reads_suffix S s a x)
    (ends_over (reads_suffix NameRule a b y)
    (ends_over (reads_suffix Eq b c z) (ends_over (reads_suffix AttValue c e w) (attributes_ends r))))

-- a tag's bytes up to its end, and its end
plain_opens : {end : Rule} {n : Name} {ns : List Name} {s t : List ℕ} → StartTag end n ns s t
    → (v : Tag) × (v.name ≡ n) × Opens end v ns s t
plain_opens {end} {n} {ns} {s} {t} (plain.tag {a = a} {b = b} x y l (m, z, e) u) =
    let head = ends_over (reads_suffix (text "<") s (n ++ a) x)
    (ends_over (n, refl) (ends_over (attributes_ends l) (reads_suffix (opt S) b m z))) in
    let tail = reads_suffix end m t e in (
      record { name = n; head = head.0; tail = tail.0 },
      refl,
      record {
        from = n ++ a;
        to = a;
        after = b;
        last = m;
        opens = x;
        named = y;
        name_is = refl;
        listed = l;
        blank = z;
        closes = e;
        head_is = head.1;
        tail_is = tail.1;
        unique = u;
      },
    )

plain_closes : {n : Name} {s t : List ℕ} → EndTag n s t → (raw : List ℕ) × Closes n raw s t
plain_closes {n} {s} {t} (plain.tag {a = a} x y (m, z, e)) =
    let raw = ends_over (reads_suffix (text "</") s (n ++ a) x)
    (ends_over (n, refl) (ends_over (reads_suffix (opt S) a m z) (reads_suffix (text ">") m t e))) in (
      raw.0,
      record { from = n ++ a; to = a; last = m; opens = x; named = y; name_is = refl; blank = z; closes = e; raw_is = raw.1 },
    )

item_of : (r : Rule) (s t : List ℕ) → Reads r s t → (raw : List ℕ) × Item r raw s t
item_of r s t x = let (w, e) = reads_suffix r s t x in (w, record { reads = x; raw_is = e })

-- ---- the tags of Plainly.antt, with their names, are those of [40] [44] [42]

attributes_read : {ns : List Name} {s t : List ℕ} → Attributes ns s t → Reads ((S ⨾ Attribute) ∗) s t
attributes_read doc.done = done
attributes_read (doc.more {a = a} {b = b} {c = c} x y n z w r) = more (a, x, (b, y, (c, z, w))) (attributes_read r)

read_attributes : {s t : List ℕ} → Star (Reads (S ⨾ Attribute)) s t → (ns : List Name) × Attributes ns s t
read_attributes done = ([], doc.done)
read_attributes (more (a, x, (b, y, (c, z, w))) r) =
    let (n, e) = reads_suffix NameRule a b y in
    let (ns, l) = read_attributes r in
    (n ∷ ns, doc.more x y e z w l)

-- '<' Name (S Attribute)* S? and an end
abbrev TagRule : Rule → Rule
TagRule end = text "<" ⨾ NameRule ⨾ (S ⨾ Attribute) ∗ ⨾ opt S ⨾ end

tag_read : {end : Rule} {n : Name} {ns : List Name} {s t : List ℕ} → StartTag end n ns s t → Reads (TagRule end) s t
tag_read {n = n} (plain.tag {a = a} {b = b} x y l e u) = (n ++ a, x, (a, y, (b, attributes_read l, e)))

read_tag : {end : Rule} {s t : List ℕ} → Reads (TagRule end) s t
    → (n : Name) × (ns : List Name) × (Unique ns → StartTag end n ns s t)
read_tag (m, x, (a, y, (b, l, e))) =
    let (n, q) = reads_suffix NameRule m a y in
    let (ns, l) = read_attributes l in
    (n, ns, λ u. plain.tag (rw q at x) (rw q at y) l e u)

pub start_tag_lem : {n : Name} {ns : List Name} {s t : List ℕ} → StartTag (text ">") n ns s t → Reads STag s t
start_tag_lem x = tag_read x

pub empty_tag : {n : Name} {ns : List Name} {s t : List ℕ} → StartTag (text "/>") n ns s t → Reads EmptyElemTag s t
empty_tag x = tag_read x

pub end_tag_lem : {n : Name} {s t : List ℕ} → EndTag n s t → Reads ETag s t
end_tag_lem {n} (plain.tag {a = a} x y e) = (n ++ a, x, (a, y, e))

-- and the other way: what is read has names, and is such a tag where no attribute name stands twice
pub tag_start : (s t : List ℕ) → Reads STag s t → (n : Name) × (ns : List Name) × (Unique ns → StartTag (text ">") n ns s t)
tag_start s t x = read_tag x

pub tag_empty : (s t : List ℕ) → Reads EmptyElemTag s t → (n : Name) × (ns : List Name) × (Unique ns → StartTag (text "/>") n ns s t)
tag_empty s t x = read_tag x

pub tag_end_lem : (s t : List ℕ) → Reads ETag s t → (n : Name) × EndTag n s t
tag_end_lem s t (m, x, (a, y, e)) = let (n, q) = reads_suffix NameRule m a y in (n, plain.tag (rw q at x) (rw q at y) e)

-- ---- S beside S is one S

star_append : {R : List ℕ → List ℕ → Type 0} {s m t : List ℕ} → Star R s m → Star R m t → Star R s t
star_append done ys = ys
star_append (more x xs) ys = more x (star_append xs ys)

space_append : (s m t : List ℕ) → Reads S s m → Reads S m t → Reads S s t
space_append s m t (a, x, xs) (b, y, ys) = (a, x, star_append xs (more y ys))

-- ---- content

module _ (Fits : ℕ → Name → List Name → Type 0) where
  -- content, or where CharData does not come first what follows its CharData?
  abbrev Flagless : Bool → ℕ → List ℕ → List ℕ → Type 0
  Flagless true k s t = Content Fits k s t
  Flagless false k s t = Pieces Fits k s t

  pieces_either : (chars : Bool) {k : ℕ} {s t : List ℕ} → Pieces Fits k s t → Flagless chars k s t
  pieces_either true p = plain.content (inl refl) p
  pieces_either false p = p

  piece_then : {k : ℕ} {s m t : List ℕ} → Piece Fits k s m → Content Fits k m t → Pieces Fits k s t
  piece_then x (plain.content c p) = plain.more x c p

  content_plain : {k : ℕ} {chars : Bool} {s t : List ℕ} {f : Forest} → doc.Content Fits k chars s t f → Flagless chars k s t
  content_plain (doc.end {chars = chars}) = pieces_either chars plain.done
  content_plain (doc.data_next some i r) = plain.content (inr i.reads) (content_plain r)
  content_plain (doc.reference_next {chars = chars} i r) =
      pieces_either chars (piece_then (plain.other (inl i.reads)) (content_plain r))
  content_plain (doc.section_next {chars = chars} i r) =
      pieces_either chars (piece_then (plain.other (inr (inl i.reads))) (content_plain r))
  content_plain (doc.instruction_next {chars = chars} i r) =
      pieces_either chars (piece_then (plain.other (inr (inr (inl i.reads)))) (content_plain r))
  content_plain (doc.comment_next {chars = chars} i r) =
      pieces_either chars (piece_then (plain.other (inr (inr (inr i.reads)))) (content_plain r))
  content_plain (doc.empty_next {chars = chars} o fit r) =
      pieces_either chars (piece_then (plain.element (plain.hollow (opens_plain o) fit)) (content_plain r))
  content_plain (doc.element_next {chars = chars} o fit kids c r) =
      pieces_either chars
      (piece_then (plain.element (plain.tagged (opens_plain o) fit (content_plain kids) (closes_plain c))) (content_plain r))

  -- content with its forest; an element with its own
  abbrev Grown : ℕ → Bool → List ℕ → List ℕ → Type 0
  Grown k chars s t = (f : Forest) × doc.Content Fits k chars s t f

  data Shaped : ℕ → List ℕ → List ℕ → Type 0 where
    hollow : {k : ℕ} {v : Tag} {ns : List Name} {s t : List ℕ} → Opens (text "/>") v ns s t → Fits k v.name ns → Shaped k s t
    filled : {k : ℕ} {v : Tag} {ns : List Name} {raw s a b t : List ℕ} {kids : Forest} → Opens (text ">") v ns s a → Fits k v.name ns
        → doc.Content Fits k true a b kids → Closes v.name raw b t → Shaped k s t

  shaped_hollow : {k : ℕ} {n : Name} {ns : List Name} {s t : List ℕ} → StartTag (text "/>") n ns s t → Fits k n ns → Shaped k s t
  shaped_hollow x fit = let (v, e, o) = plain_opens x in hollow o (rw (← e) at fit)

  shaped_filled : {k : ℕ} {n : Name} {ns : List Name} {s a b t : List ℕ} → StartTag (text ">") n ns s a → Fits k n ns → Grown k true a b
      → EndTag n b t → Shaped k s t
  shaped_filled x fit (kids, c) y =
      let (v, e, o) = plain_opens x in
      let (raw, z) = plain_closes (rw (← e) at y) in
      filled o (rw (← e) at fit) c z

  element_next : {k : ℕ} {chars : Bool} {s m t : List ℕ} → Shaped (suc k) s m → Grown k true m t → Grown k chars s t
  element_next (hollow {v = v} o fit) (f, r) = (elem v nil [] f, doc.empty_next o fit r)
  element_next (filled {v = v} {raw = raw} {kids = kids} o fit c y) (f, r) = (elem v kids raw f, doc.element_next o fit c y r)

  other_next : {k : ℕ} {chars : Bool} {s m t : List ℕ} → Reads (Reference ∣ CDSect ∣ PI ∣ Comment) s m → Grown k true m t
      → Grown k chars s t
  other_next {s = s} {m = m} (inl x) (f, r) = let (raw, i) = item_of Reference s m x in (other raw f, doc.reference_next i r)
  other_next {s = s} {m = m} (inr (inl x)) (f, r) = let (raw, i) = item_of CDSect s m x in (other raw f, doc.section_next i r)
  other_next {s = s} {m = m} (inr (inr (inl x))) (f, r) = let (raw, i) = item_of PI s m x in (other raw f, doc.instruction_next i r)
  other_next {s = s} {m = m} (inr (inr (inr x))) (f, r) = let (raw, i) = item_of Comment s m x in (other raw f, doc.comment_next i r)

  piece_next : {k : ℕ} {chars : Bool} {s m t : List ℕ} → Shaped (suc k) s m ⊎ Reads (Reference ∣ CDSect ∣ PI ∣ Comment) s m
      → Grown k true m t → Grown k chars s t
  piece_next (inl x) g = element_next x g
  piece_next (inr x) g = other_next x g

  -- CharData? and then what does not begin with CharData; CharData that is empty is left out
  data_next : {k : ℕ} {s m t : List ℕ} → Reads (opt CharData) s m → ((chars : Bool) → Grown k chars m t) → Grown k true s t
  data_next (inl e) g = rw e (g true)
  data_next {k} {s} {m} {t} (inr x) g = let (raw, i) = item_of CharData s m x in go raw i
    where
      go : (raw : List ℕ) → Item CharData raw s m → Grown k true s t
      go [] i = rw i.raw_is (g true)
      go (b ∷ w) i = let (f, r) = g false in (other (b ∷ w) f, doc.data_next tt i r)

  mutual
    shaped : {k : ℕ} {s t : List ℕ} → Element Fits k s t → Shaped k s t
    shaped (plain.hollow x fit) = shaped_hollow x fit
    shaped (plain.tagged x fit c y) = shaped_filled x fit (grown c) y

    grown : {k : ℕ} {s t : List ℕ} → Content Fits k s t → Grown k true s t
    grown (plain.content c p) = data_next c (λ chars. grown_pieces p chars)

    grown_pieces : {k : ℕ} {s t : List ℕ} → Pieces Fits k s t → (chars : Bool) → Grown k chars s t
    grown_pieces plain.done chars = (nil, doc.end)
    grown_pieces (plain.more x c p) chars = piece_next (grown_piece x) (data_next c (λ chars. grown_pieces p chars))

    grown_piece : {k : ℕ} {s t : List ℕ} → Piece Fits k s t → Shaped (suc k) s t ⊎ Reads (Reference ∣ CDSect ∣ PI ∣ Comment) s t
    grown_piece (plain.element e) = inl (shaped e)
    grown_piece (plain.other x) = inr x

  -- ---- outside the root

  after_plain : {space : Bool} {s : List ℕ} {f : Forest} → doc.After Fits space s f → Reads (Misc ∗) s []
  after_plain doc.over = done
  after_plain (doc.space_after i r) = more (inr (inr i.reads)) (after_plain r)
  after_plain (doc.instruction_after i r) = more (inr (inl i.reads)) (after_plain r)
  after_plain (doc.comment_after i r) = more (inl i.reads) (after_plain r)

  -- Misc* element Misc*
  record Around (s : List ℕ) : Type 0 where
    from : List ℕ
    to : List ℕ
    before : Reads (Misc ∗) s from
    root : Element Fits 1 from to
    after : Reads (Misc ∗) to []

  misc_around : {s m : List ℕ} → Reads Misc s m → Around m → Around s
  misc_around x a = record { from = a.from; to = a.to; before = more x a.before; root = a.root; after = a.after }

  rooted_plain : {space : Bool} {s : List ℕ} {f : Forest} → doc.Rooted Fits space s f → Around s
  rooted_plain (doc.space_before i r) = misc_around (inr (inr i.reads)) (rooted_plain r)
  rooted_plain (doc.instruction_before i r) = misc_around (inr (inl i.reads)) (rooted_plain r)
  rooted_plain (doc.comment_before i r) = misc_around (inl i.reads) (rooted_plain r)
  rooted_plain (doc.empty_root o fit a) =
      record { from = _; to = _; before = done; root = plain.hollow (opens_plain o) fit; after = after_plain a }
  rooted_plain (doc.root o fit c y a) =
      record {
        from = _;
        to = _;
        before = done;
        root = plain.tagged (opens_plain o) fit (content_plain c) (closes_plain y);
        after = after_plain a;
      }

  -- the same with forests
  abbrev After : List ℕ → Type 0
  After s = (f : Forest) × doc.After Fits true s f

  abbrev Rooted : List ℕ → Type 0
  Rooted s = (f : Forest) × doc.Rooted Fits true s f

  space_after : {s m : List ℕ} {f : Forest} → Reads S s m → doc.After Fits true m f → After s
  space_after {s} {m} x doc.over = let (raw, i) = item_of S s m x in (other raw nil, doc.space_after i doc.over)
  space_after {s} {m} x (doc.space_after {m = t} {f = f} i r) =
      let (raw, j) = item_of S s t (space_append s m t x i.reads) in (other raw f, doc.space_after j r)
  space_after {s} {m} {f} x (doc.instruction_after i r) =
      let (raw, j) = item_of S s m x in (other raw _, doc.space_after j (doc.instruction_after i r))
  space_after {s} {m} {f} x (doc.comment_after i r) =
      let (raw, j) = item_of S s m x in (other raw _, doc.space_after j (doc.comment_after i r))

  space_before : {s m : List ℕ} {f : Forest} → Reads S s m → doc.Rooted Fits true m f → Rooted s
  space_before {s} {m} x (doc.space_before {m = t} {f = f} i r) =
      let (raw, j) = item_of S s t (space_append s m t x i.reads) in (other raw f, doc.space_before j r)
  space_before {s} {m} x (doc.instruction_before i r) =
      let (raw, j) = item_of S s m x in (other raw _, doc.space_before j (doc.instruction_before i r))
  space_before {s} {m} x (doc.comment_before i r) =
      let (raw, j) = item_of S s m x in (other raw _, doc.space_before j (doc.comment_before i r))
  space_before {s} {m} x (doc.empty_root o fit a) =
      let (raw, j) = item_of S s m x in (other raw _, doc.space_before j (doc.empty_root o fit a))
  space_before {s} {m} x (doc.root o fit c y a) =
      let (raw, j) = item_of S s m x in (other raw _, doc.space_before j (doc.root o fit c y a))

  misc_after : {s m : List ℕ} → Reads Misc s m → After m → After s
  misc_after {s} {m} (inl x) (f, r) = let (raw, i) = item_of Comment s m x in (other raw f, doc.comment_after i r)
  misc_after {s} {m} (inr (inl x)) (f, r) = let (raw, i) = item_of PI s m x in (other raw f, doc.instruction_after i r)
  misc_after {s} {m} (inr (inr x)) (f, r) = space_after x r

  misc_before : {s m : List ℕ} → Reads Misc s m → Rooted m → Rooted s
  misc_before {s} {m} (inl x) (f, r) = let (raw, i) = item_of Comment s m x in (other raw f, doc.comment_before i r)
  misc_before {s} {m} (inr (inl x)) (f, r) = let (raw, i) = item_of PI s m x in (other raw f, doc.instruction_before i r)
  misc_before {s} {m} (inr (inr x)) (f, r) = space_before x r

  all_after : {s t : List ℕ} → Star (Reads Misc) s t → After t → After s
  all_after done a = a
  all_after (more x xs) a = misc_after x (all_after xs a)

  all_before : {s t : List ℕ} → Star (Reads Misc) s t → Rooted t → Rooted s
  all_before done r = r
  all_before (more x xs) r = misc_before x (all_before xs r)

  root_between : {s t : List ℕ} → Shaped 1 s t → After t → Rooted s
  root_between (hollow {v = v} o fit) (f, a) = (elem v nil [] f, doc.empty_root o fit a)
  root_between (filled {v = v} {raw = raw} {kids = kids} o fit c y) (f, a) = (elem v kids raw f, doc.root o fit c y a)

  -- ---- documents

  pub document_plain : {s : List ℕ} {f : Forest} → doc.Document Fits s f → Derived Fits s
  document_plain (doc.declared {m = m} i r) =
      let a = rooted_plain r in plain.document (m, inr i.reads, a.before) a.root a.after
  document_plain (doc.bare {s = s} r) = let a = rooted_plain r in plain.document (s, inl refl, a.before) a.root a.after

  declared_or_bare : {s m : List ℕ} → Reads (opt Utf8Decl) s m → Rooted m → (f : Forest) × doc.Document Fits s f
  declared_or_bare (inl e) (f, r) = rw e (f, doc.bare r)
  declared_or_bare {s} {m} (inr x) (f, r) = let (raw, i) = item_of Utf8Decl s m x in (other raw f, doc.declared i r)

  pub plain_document : {s : List ℕ} → Derived Fits s → (f : Forest) × doc.Document Fits s f
  plain_document (plain.document (m, x, ms) e ns) =
      declared_or_bare x (all_before ms (root_between (shaped e) (all_after ns (nil, doc.over))))

-- the productions with their flags, which fix one forest, derive the texts that the Recommendation's productions derive
pub plainly : (Fits : ℕ → Name → List Name → Type 0) (s : List ℕ) → ((f : Forest) × doc.Document Fits s f) ↔ Derived Fits s
plainly Fits s = ((λ (f, x). document_plain Fits x), plain_document Fits)
