-- The attributes of a tag. In order: a value made normal; one attribute; all that stand one after the other, both ways (`holds_found`,
-- `found_holds`), and up to a tag's blank end (`lists_only`); the tag (`bears_only`); and that attributes by their names, as
-- xml/specs/Document has them, are these.
use mathlib.Core.Path.{◌≡◌, refl, sym, ap, ◌∙◌}
use mathlib.Core.List.{List, [], ◌∷◌, ◌++◌}
use mathlib.Core.Logic.{inl, inr}
use mathlib.Core.Option.{Option, none, some, some-injective}
use Prim.Native.Nat.{ℕ, zero, suc, ◌-◌, ◌<◌}
use native.Mathlib.Omega.{arith}
use lib.ListN.{length, drop}
use lib.Seq.{drop-append_seam}
use Rattle.xml.specs.Notation.{Reads, bytes, opt, ◌⨾◌}
use Rattle.xml.specs.Productions.{is_space, is_name_start, S, Name as NameRule, Eq, Attribute as AttributeRule}
use Rattle.xml.specs.Forest.{Name, Tag}
use Rattle.xml.specs.Document.{Attributes}
use Rattle.xml.specs.Document as doc
use Rattle.xml.specs.Sign.{Sign, in_double, in_single, Valued, double, single}
use Rattle.xml.proofs.Run.{starts_nil}
use Rattle.chars.specs.Name.{name_of}
use Rattle.readers.specs.Read.{space_of}
use Rattle.readers.specs.Value.{value_of}
use Rattle.readers.specs.Sign.{next_of}
use Rattle.readers.specs.Named.{Piece, eq_of, piece_named}
use Rattle.readers.specs.Meaning.{Chars, characters}
use Rattle.readers.proofs.Combine.{then_some, chars_left, chars_drop}
use Rattle.readers.proofs.Follow.{ascii, name_off_space, space_reads, space_is, eq_takes}
use Rattle.readers.proofs.Left.{Shorter, shorter_length, end_shorter, space_leaves, eq_leaves}
use Rattle.readers.proofs.Value.{value_decides, value_shrinks}
use Rattle.readers.proofs.Signs.{shorter_rest, signs_found, double_ends, single_ends, reads_valued, valued_reads, value_signs}
use Rattle.readers.proofs.Attributes.{piece_reads, piece_split, piece_is, piece_end, eq_off_name, value_off_space}
use Rattle.attributes.specs.Normal.{normal}
use Rattle.attributes.specs.Attribute.{Attribute, attribute, Holds, done, more, Lists, Bears, names_of}
use Rattle.attributes.specs.Held.{normal_at, Held, held_of, attributes_by, attributes_in, attributes_of}

-- ---- a value made normal

-- what is computed from the first quote on is that of the value's characters
pub valued_normal : {signs : List Sign} {s t : List ℕ} → Valued signs s t → normal_at s ≡ normal signs
unfolding normal_at
valued_normal {t = t} (double e x z) =
    ap normal_at e ∙ ap normal (signs_found in_double x (ap (next_of in_double) z ∙ double_ends t)).0
valued_normal {t = t} (single e x z) =
    ap normal_at e ∙ ap normal (signs_found in_single x (ap (next_of in_single) z ∙ single_ends t)).0

-- ---- one attribute

-- on characters
module _ (n : Name) {signs : List Sign} {s a b c e : List ℕ} (d : Chars s) (rs : Reads S s a) (rn : Reads NameRule a b) (is : a ≡ n ++ b)
    (rq : Reads Eq b c) (v : Valued signs c e) where
  held_complete : held_of s ≡ some (record { attribute = attribute n (normal signs); rest = e })
  unfolding held_of
  held_complete =
      let d₁ = chars_left NameRule (ascii NameRule refl) a b (chars_left S (ascii S refl) s a d rs) rn in
      let rv = valued_reads v in
      let w : space_of s ≡ some a = space_is rs (name_off_space.off a b rn) in
      let x : piece_named a ≡ some (record { name = n; rest = b }) = piece_is rn is (eq_off_name.off b c rq) in
      let y : eq_of b ≡ some c = (eq_takes {o = characters} value_off_space).complete e d₁ rq rv in
      let z : value_of c ≡ some e = value_decides.complete (chars_left Eq (ascii Eq refl) b c d₁ rq) rv in
      rw (w, x, y, z, valued_normal v)

  held_chars : Chars e
  held_chars =
      chars_left (S ⨾ AttributeRule) (ascii (S ⨾ AttributeRule) refl) s e d (a, rs, (b, rn, (c, rq, valued_reads v)))

-- what `held_of` went through
record Stages (s : List ℕ) (x : Held) : Type 0 where
  from : List ℕ
  piece : Piece
  value : List ℕ
  blank : space_of s ≡ some from
  named : piece_named from ≡ some piece
  equal : eq_of piece.rest ≡ some value
  valued : value_of value ≡ some x.rest
  attribute_is : attribute piece.name (normal_at value) ≡ x.attribute

stages : (s : List ℕ) (x : Held) → held_of s ≡ some x → Stages s x
unfolding held_of
stages s x e =
    let (t, a, e₁) = then_some (space_of s) _ x e in
    let (p, b, e₂) = then_some (piece_named t) _ x e₁ in
    let (u, c, e₃) = then_some (eq_of p.rest) _ x e₂ in
    let (v, d, e₄) = then_some (value_of u) _ x e₃ in
    let z = some-injective _ x e₄ in
    record {
      from = t;
      piece = p;
      value = u;
      blank = a;
      named = b;
      equal = c;
      valued = d ∙ ap (λ (h : Held). some h.rest) z;
      attribute_is = ap (λ (h : Held). h.attribute) z;
    }

-- what it leaves is a shorter end, of any bytes
pub held_shorter : (s : List ℕ) (x : Held) → held_of s ≡ some x → Shorter s x.rest
held_shorter s x e =
    let k = stages s x e in
    end_shorter (space_leaves.ends s k.from k.blank)
    (end_shorter (piece_end k.named)
    (end_shorter (eq_leaves.ends k.piece.rest k.value k.equal) (value_shrinks.front k.value x.rest k.valued)))

-- on characters, what is found is an attribute, characters are left, and with others after it there are that many more
record Sound (s : List ℕ) (x : Held) : Type 0 where
  left : Chars x.rest
  before : {xs : List Attribute} {t : List ℕ} → Holds xs x.rest t → Holds (x.attribute ∷ xs) s t

held_sound : {s : List ℕ} (x : Held) → Chars s → held_of s ≡ some x → Sound s x
held_sound {s} x d e =
    let k = stages s x e in
    let rs = space_reads k.blank in
    let rn = piece_reads k.named in
    let d₁ = chars_left NameRule (ascii NameRule refl) k.from k.piece.rest (chars_left S (ascii S refl) s k.from d rs) rn in
    let rq = (eq_takes {o = characters} value_off_space).sound d₁ k.equal in
    let (signs, v) = value_signs (chars_left Eq (ascii Eq refl) k.piece.rest k.value d₁ rq) k.valued in
    let is : attribute k.piece.name (normal signs) ≡ x.attribute
    = ap (attribute k.piece.name) (sym (valued_normal v)) ∙ k.attribute_is in
    let n = k.piece.name in
    record {
      left = held_chars n d rs rn (piece_split k.named) rq v;
      before = λ h. rw (← is) (more rs rn (piece_split k.named) rq v h);
    }

-- none stands in the blank end of a tag's head
held_none : {s : List ℕ} → Reads (opt S) s [] → held_of s ≡ none
unfolding held_of space_of piece_named name_of
held_none (inl e) = rw (e, starts_nil is_space)
held_none (inr x) = rw (space_is x (starts_nil is_space), starts_nil is_name_start)

-- ---- all of them

in_skip : (k : ℕ) (s : List ℕ) → attributes_in k s ≡ attributes_in 0 (drop k s)
unfolding attributes_in
in_skip zero [] = refl
in_skip (suc k) [] = refl
in_skip zero (b ∷ s) = refl
in_skip (suc k) (b ∷ s) = in_skip k s

pub in_stop : (s : List ℕ) → held_of s ≡ none → attributes_in 0 s ≡ []
unfolding attributes_in
in_stop [] e = refl
in_stop (b ∷ s) e = rw e

pub in_step : (s : List ℕ) (x : Held) → held_of s ≡ some x → attributes_in 0 s ≡ x.attribute ∷ attributes_in 0 x.rest
unfolding attributes_in
in_step [] x e = absurd (let h : length x.rest < 0 = shorter_length (held_shorter [] x e) in omega arith)
in_step (b ∷ s) x e =
    rw e
    (ap (λ (l : List Attribute). x.attribute ∷ l)
    (in_skip (length s - length x.rest) s ∙ ap (attributes_in 0) (shorter_rest b s x.rest (held_shorter (b ∷ s) x e))))

-- on characters, those that stand one after the other, up to where none does, are found
pub holds_found : {xs : List Attribute} {s t : List ℕ} → Chars s → Holds xs s t → held_of t ≡ none → attributes_in 0 s ≡ xs
holds_found {s = s} d done b = in_stop s b
holds_found d (more {n = n} {signs = signs} {s = s} {e = e} rs rn is rq v r) b =
    in_step s (record { attribute = attribute n (normal signs); rest = e }) (held_complete n d rs rn is rq v)
    ∙ ap (λ (l : List Attribute). attribute n (normal signs) ∷ l) (holds_found (held_chars n d rs rn is rq v) r b)

-- and those that are found stand there
found_from : (k : ℕ) (s : List ℕ) → Chars (drop k s) → (t : List ℕ) × Holds (attributes_in k s) (drop k s) t × (held_of t ≡ none)
unfolding attributes_in
found_from zero [] d = ([], done, held_none (inl refl))
found_from (suc k) [] d = ([], done, held_none (inl refl))
found_from (suc k) (b ∷ s) d = found_from k s d
found_from zero (b ∷ s) d = go (held_of (b ∷ s)) refl (λ k. found_from k s)
  where
    go : (o : Option Held) → held_of (b ∷ s) ≡ o
        → ((k : ℕ) → Chars (drop k s) → (t : List ℕ) × Holds (attributes_in k s) (drop k s) t × (held_of t ≡ none))
        → (t : List ℕ) × Holds (attributes_by o (λ k. attributes_in k s) (length s)) (b ∷ s) t × (held_of t ≡ none)
    go none e f = (b ∷ s, done, e)
    go (some x) e f =
        let k = length s - length x.rest in
        let z : drop k s ≡ x.rest = shorter_rest b s x.rest (held_shorter (b ∷ s) x e) in
        let y = held_sound x d e in
        let (t, h, n) = f k (rw z y.left) in
        (t, y.before (rw z at h), n)

pub found_holds : (s : List ℕ) → Chars s → (t : List ℕ) × Holds (attributes_in 0 s) s t × (held_of t ≡ none)
found_holds s = found_from 0 s

-- of a tag's: what is meant is what is found, and so it is one list
pub lists_only : {s : List ℕ} {xs : List Attribute} → Chars s → Lists s xs → attributes_in 0 s ≡ xs
lists_only d l = holds_found d l.holds (held_none l.blank)

-- ---- the tag

pub bears_only : {v : Tag} {xs : List Attribute} → Chars v.head → Bears v xs → attributes_of v ≡ xs
unfolding attributes_of
bears_only {v} {xs} d k =
    let c : Chars (v.name ++ k.from) = chars_drop (bytes "<") _ refl (rw k.head_is at d) in
    ap (attributes_in 0) (ap (drop (suc (length v.name))) k.head_is ∙ drop-append_seam v.name k.from)
    ∙ lists_only (chars_left NameRule (ascii NameRule refl) (v.name ++ k.from) k.from c k.named) k.lists

-- ---- by their names

pub attributes_holds : {ns : List Name} {s t : List ℕ} → Attributes ns s t → (xs : List Attribute) × Holds xs s t × (names_of xs ≡ ns)
attributes_holds doc.done = ([], done, refl)
attributes_holds (doc.more {n = n} rs rn is rq rv r) =
    let (signs, v) = reads_valued rv in
    let (xs, h, e) = attributes_holds r in
    (attribute n (normal signs) ∷ xs, more rs rn is rq v h, ap (λ (l : List Name). n ∷ l) e)

pub holds_attributes : {xs : List Attribute} {s t : List ℕ} → Holds xs s t → Attributes (names_of xs) s t
holds_attributes done = doc.done
holds_attributes (more rs rn is rq v r) = doc.more rs rn is rq (valued_reads v) (holds_attributes r)
