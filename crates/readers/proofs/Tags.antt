-- Tags: [42] ETag, [40] STag, [44] EmptyElemTag. In order: end tags, that their reader and `EndTagIs` say the same, and that this is what
-- the production reads; likewise tags. What stands in a place is one end tag, and one tag.
use mathlib.Core.Path.{◌≡◌, refl, sym, ap, ◌∙◌}
use mathlib.Core.Bool.{Bool, true, false}
use mathlib.Core.List.{List, ◌++◌}
use mathlib.Core.Logic.{inl, inr}
use mathlib.Core.Option.{Option, none, some, some-injective}
use Prim.Native.Nat.{ℕ, suc, ◌+◌, ◌≤◌, ◌<◌}
use native.Mathlib.Omega.{arith}
use lib.ListN.{length, length-append}
use lib.Dec.{lit<}
use Rattle.xml.specs.Notation.{Rule, Reads, bytes, text, opt, ◌⨾◌, ◌∗}
use Rattle.xml.specs.Productions.{is_space, is_name_start, is_name_more, is_name, S, Name, Attribute, STag, ETag, EmptyElemTag}
use Rattle.xml.specs.Character.{starts}
use Rattle.xml.proofs.Language.{reads_suffix}
use Rattle.chars.specs.Name.{name_of}
use Rattle.readers.specs.Read.{and_then, or_else, expect, skip, space_of}
use Rattle.readers.specs.Named.{before, Piece, piece_named, attribute_of, gather, Tag, tag_of, end_tag_of}
use Rattle.readers.specs.Meaning.{Chars, EndTagIs, tag_end, TagIs}
use Rattle.readers.proofs.Combine.{then_some, lit_sound, lit_complete, chars_left}
use Rattle.readers.proofs.Follow.{ascii, Off, off_lit, off_then, off_star, off_opt, off_space, space_name}
use Rattle.readers.proofs.Follow.{skip_reads, skip_is, space_is}
use Rattle.readers.proofs.Left.{End, end_more, before_is, before_split, skip_end}
use Rattle.readers.proofs.Attributes.{piece_reads, piece_split, piece_end, piece_is, attributes_star, star_attributes, gather_end}
use Rattle.readers.proofs.Attributes.{gather_sound, gather_complete}

-- ---- where a tag ends

end_off : {p : ℕ → Bool} → p 0x3E ≡ false → p 0x2F ≡ false → (b : Bool) → Off p (tag_end b)
end_off h k true = off_lit _ _ (lit< tt) k
end_off h k false = off_lit _ _ (lit< tt) h

end_off_space : (b : Bool) → Off is_space (tag_end b)
unfolding is_space
end_off_space = end_off refl refl

end_off_start : (b : Bool) → Off is_name_start (tag_end b)
unfolding is_name_start
end_off_start = end_off refl refl

end_off_name : (b : Bool) → Off is_name (opt S ⨾ tag_end b)
unfolding is_name is_name_start is_name_more
end_off_name b = off_opt (off_space space_name) (end_off refl refl b)

rest_off_name : (b : Bool) → Off is_name ((S ⨾ Attribute) ∗ ⨾ opt S ⨾ tag_end b)
rest_off_name b = off_star (off_then (off_space space_name)) (end_off_name b)

-- no attribute stands there
attribute_none : (b : Bool) (s t : List ℕ) → Reads (opt S ⨾ tag_end b) s t → attribute_of s ≡ none
unfolding attribute_of piece_named name_of space_of
attribute_none b s t (m, inl e, y) = rw (ap (starts is_space) e ∙ (end_off_space b).off m t y)
attribute_none b s t (m, inr x, y) = rw (space_is x ((end_off_space b).off m t y), (end_off_start b).off m t y)

-- ---- end tags

-- on every byte string
end_tag_found : {s : List ℕ} {v : Piece} → end_tag_of s ≡ some v → EndTagIs s v
unfolding end_tag_of
end_tag_found {s} {v} e =
    let (t, a, e₁) = then_some (expect (bytes "</") s) _ v e in
    let (p, b, e₂) = then_some (piece_named t) _ v e₁ in
    let (u, c, e₃) = then_some (expect (bytes ">") (skip p.rest)) _ v e₂ in
    let z = some-injective _ v e₃ in
    rw (← z)
    (record {
      from = t;
      to = p.rest;
      last = skip p.rest;
      opens = lit_sound (bytes "</") s t a;
      named = piece_reads b;
      name_is = piece_split b;
      blank = skip_reads p.rest;
      closes = lit_sound (bytes ">") (skip p.rest) u c;
    })

pub end_tag_sound : {s : List ℕ} {v : Piece} → Chars s → end_tag_of s ≡ some v → EndTagIs s v
end_tag_sound d e = end_tag_found e

pub end_tag_complete : {s : List ℕ} {v : Piece} → Chars s → EndTagIs s v → end_tag_of s ≡ some v
unfolding end_tag_of
end_tag_complete {s} {v} d k =
    let a : expect (bytes "</") s ≡ some k.from = lit_complete (bytes "</") s k.from k.opens in
    let b : piece_named k.from ≡ some (record { name = v.name; rest = k.to })
    = piece_is k.named k.name_is ((end_off_name false).off k.to v.rest (k.last, k.blank, k.closes)) in
    let c : skip k.to ≡ k.last = skip_is k.blank ((end_off_space false).off k.last v.rest k.closes) in
    rw (a, b, c, lit_complete (bytes ">") k.last v.rest k.closes)

-- an end tag has one name, and one end
pub end_tag_once : {s : List ℕ} {v v' : Piece} → Chars s → EndTagIs s v → EndTagIs s v' → v ≡ v'
end_tag_once {v = v} {v' = v'} d x y = some-injective v v' (sym (end_tag_complete d x) ∙ end_tag_complete d y)

pub end_tag_reads : {s : List ℕ} {v : Piece} → EndTagIs s v → Reads ETag s v.rest
end_tag_reads k = (k.from, k.opens, (k.to, k.named, (k.last, k.blank, k.closes)))

pub reads_end_tag : (s t : List ℕ) → Reads ETag s t → (v : Piece) × EndTagIs s v × (v.rest ≡ t)
reads_end_tag s t (from, x, (to, y, (last, z, c))) =
    let (n, e) = reads_suffix Name from to y in (
      record { name = n; rest = t },
      record { from = from; to = to; last = last; opens = x; named = y; name_is = e; blank = z; closes = c },
      refl,
    )

-- what is left is an end, on every byte string
pub end_tag_leaves : (s : List ℕ) (v : Piece) → end_tag_of s ≡ some v → End s v.rest
end_tag_leaves s v e = reads_suffix ETag s v.rest (end_tag_reads (end_tag_found e))

-- its name and what is left are inside
pub end_tag_lengths : (s : List ℕ) (v : Piece) → end_tag_of s ≡ some v → 2 + length v.name + length v.rest < length s
end_tag_lengths s v e =
    let k = end_tag_found e in
    let (w, q) = reads_suffix (opt S) k.to k.last k.blank in
    let x : length s ≡ suc (suc (length k.from)) = ap length k.opens in
    let y : length k.from ≡ length v.name + length k.to = ap length k.name_is ∙ length-append v.name k.to in
    let z : length k.to ≡ length w + length k.last = ap length q ∙ length-append w k.last in
    let u : length k.last ≡ suc (length v.rest) = ap length k.closes in
    omega arith

-- ---- tags

-- the tag that closes after the name p and its attributes
abbrev held : List ℕ → Piece → Bool → List ℕ → Tag
held s p b u =
    let g = gather 0 p.rest in
    record { name = p.name; attributes = g.names; head = before s (skip g.rest); empty = b; rest = u }

abbrev closing : List ℕ → Piece → Option Tag
closing s p =
    let e = skip (gather 0 p.rest).rest in
    or_else (and_then (expect (bytes ">") e) (λ u. some (held s p false u)))
    (and_then (expect (bytes "/>") e) (λ u. some (held s p true u)))

closing_found : (s : List ℕ) (p : Piece) (v : Tag) → closing s p ≡ some v
    → (b : Bool) × (u : List ℕ) × Reads (tag_end b) (skip (gather 0 p.rest).rest) u × (held s p b u ≡ v)
closing_found s p v = go (expect (bytes ">") e) refl
  where
    e : List ℕ
    e = skip (gather 0 p.rest).rest

    go : (o : Option (List ℕ)) → expect (bytes ">") e ≡ o
        → or_else (and_then o (λ u. some (held s p false u))) (and_then (expect (bytes "/>") e) (λ u. some (held s p true u))) ≡ some v
        → (b : Bool) × (u : List ℕ) × Reads (tag_end b) e u × (held s p b u ≡ v)
    go (some u) q h = (false, u, lit_sound (bytes ">") e u q, some-injective _ v h)
    go none q h =
        let (u, r, k) = then_some (expect (bytes "/>") e) (λ u. some (held s p true u)) v h in
        (true, u, lit_sound (bytes "/>") e u r, some-injective _ v k)

slash_first : {s t : List ℕ} → s ≡ bytes "/>" ++ t → expect (bytes ">") s ≡ none
unfolding expect
slash_first e = ap (expect (bytes ">")) e

closing_is : (s : List ℕ) (p : Piece) (b : Bool) (u : List ℕ) → Reads (tag_end b) (skip (gather 0 p.rest).rest) u
    → closing s p ≡ some (held s p b u)
closing_is s p false u x = rw (lit_complete (bytes ">") (skip (gather 0 p.rest).rest) u x)
closing_is s p true u x = rw (slash_first x, lit_complete (bytes "/>") (skip (gather 0 p.rest).rest) u x)

tag_found : (s : List ℕ) (v : Tag) → tag_of s ≡ some v
    → (t : List ℕ) × (p : Piece) × (b : Bool) × (u : List ℕ) × (s ≡ bytes "<" ++ t) × (piece_named t ≡ some p)
    × Reads (tag_end b) (skip (gather 0 p.rest).rest) u × (held s p b u ≡ v)
unfolding tag_of
tag_found s v e =
    let (t, x, e₁) = then_some (expect (bytes "<") s) (λ t. and_then (piece_named t) (closing s)) v e in
    let (p, y, e₂) = then_some (piece_named t) (closing s) v e₁ in
    let (b, u, z, q) = closing_found s p v e₂ in
    (t, p, b, u, lit_sound (bytes "<") s t x, y, z, q)

-- what follows the name and the attributes is an end
last_end : {s t : List ℕ} {p : Piece} → s ≡ bytes "<" ++ t → piece_named t ≡ some p → End s (skip (gather 0 p.rest).rest)
last_end {p = p} x y =
    let g = gather 0 p.rest in
    end_more (bytes "<", x) (end_more (piece_end y) (end_more (gather_end p.rest) (skip_end g.rest)))

pub tag_leaves : (s : List ℕ) (v : Tag) → tag_of s ≡ some v → End s v.rest
tag_leaves s v e =
    let (t, p, b, u, x, y, z, q) = tag_found s v e in
    rw (← q) (end_more (last_end x y) (reads_suffix (tag_end b) (skip (gather 0 p.rest).rest) u z))

close_length : (b : Bool) (s t : List ℕ) → Reads (tag_end b) s t → length t < length s
close_length true s t e = let z : length s ≡ suc (suc (length t)) = ap length e in omega arith
close_length false s t e = let z : length s ≡ suc (length t) = ap length e in omega arith

-- the name is inside the head, and what follows the head is longer than what is left
pub tag_lengths : (s : List ℕ) (v : Tag) → tag_of s ≡ some v
    → (1 + length v.name ≤ length v.head) × (length v.head + length v.rest < length s)
tag_lengths s v e =
    let (t, p, b, u, x, y, z, q) = tag_found s v e in
    rw (← q) (lengths p u x y (close_length b (skip (gather 0 p.rest).rest) u z))
  where
    lengths : {t : List ℕ} (p : Piece) (u : List ℕ) → s ≡ bytes "<" ++ t → piece_named t ≡ some p
        → length u < length (skip (gather 0 p.rest).rest)
        → (1 + length p.name ≤ length (before s (skip (gather 0 p.rest).rest)))
        × (length (before s (skip (gather 0 p.rest).rest)) + length u < length s)
    lengths {t} p u x y l =
        let g = (gather 0 p.rest).rest in
        let (w, r) = end_more (gather_end p.rest) (skip_end g) in
        let a : length s ≡ suc (length t) = ap length x in
        let b : length t ≡ length p.name + length p.rest = ap length (piece_split y) ∙ length-append p.name p.rest in
        let c : length p.rest ≡ length w + length (skip g) = ap length r ∙ length-append w (skip g) in
        let d : length s ≡ length (before s (skip g)) + length (skip g)
        = ap length (before_split (last_end x y)) ∙ length-append (before s (skip g)) (skip g) in
        (omega arith, omega arith)

pub tag_sound : {s : List ℕ} {v : Tag} → Chars s → tag_of s ≡ some v → TagIs s v
tag_sound {s} {v} d e =
    let (t, p, b, u, x, y, z, q) = tag_found s v e in
    let c = chars_left (text "<" ⨾ Name) (ascii (text "<" ⨾ Name) refl) s p.rest d (t, x, piece_reads y) in
    let g = gather 0 p.rest in
    rw (← q)
    (record {
      from = t;
      to = p.rest;
      after = g.rest;
      last = skip g.rest;
      opens = x;
      named = piece_reads y;
      name_is = piece_split y;
      attributes = gather_sound p.rest c;
      blank = skip_reads g.rest;
      head_is = before_split (last_end x y);
      closes = z;
    })

pub tag_complete : {s : List ℕ} {v : Tag} → Chars s → TagIs s v → tag_of s ≡ some v
unfolding tag_of
tag_complete {s} {v} d k =
    let p : Piece = record { name = v.name; rest = k.to } in
    let c = chars_left (text "<" ⨾ Name) (ascii (text "<" ⨾ Name) refl) s k.to d (k.from, k.opens, k.named) in
    let l : Reads (opt S ⨾ tag_end v.empty) k.after v.rest = (k.last, k.blank, k.closes) in
    let x : expect (bytes "<") s ≡ some k.from = lit_complete (bytes "<") s k.from k.opens in
    let y : piece_named k.from ≡ some p
    = piece_is k.named k.name_is
    ((rest_off_name v.empty).off k.to v.rest (k.after, attributes_star k.attributes, l)) in
    let g : gather 0 k.to ≡ record { names = v.attributes; rest = k.after }
    = gather_complete c k.attributes (attribute_none v.empty k.after v.rest l) in
    let e : skip (gather 0 k.to).rest ≡ k.last
    = rw g (skip_is k.blank ((end_off_space v.empty).off k.last v.rest k.closes)) in
    let z : closing s p ≡ some (held s p v.empty v.rest) = closing_is s p v.empty v.rest (rw e k.closes) in
    rw (x, y) (z ∙ rw (e, g, before_is v.head k.last k.head_is))

-- a tag has one name, one list of attributes, one head and one end
pub tag_once : {s : List ℕ} {v v' : Tag} → Chars s → TagIs s v → TagIs s v' → v ≡ v'
tag_once {v = v} {v' = v'} d x y = some-injective v v' (sym (tag_complete d x) ∙ tag_complete d y)

-- ---- what the productions read

-- '<' Name (S Attribute)* S? and a tag's end: [40] and [44] in one
abbrev AnyTag : Bool → Rule
AnyTag b = text "<" ⨾ Name ⨾ (S ⨾ Attribute) ∗ ⨾ opt S ⨾ tag_end b

tag_reads : {s : List ℕ} {v : Tag} → TagIs s v → Reads (AnyTag v.empty) s v.rest
tag_reads k = (k.from, k.opens, (k.to, k.named, (k.after, attributes_star k.attributes, (k.last, k.blank, k.closes))))

pub tag_reads_start : {s : List ℕ} {v : Tag} → TagIs s v → v.empty ≡ false → Reads STag s v.rest
tag_reads_start {s} {v} k e = rw e at (tag_reads k)

pub tag_reads_empty : {s : List ℕ} {v : Tag} → TagIs s v → v.empty ≡ true → Reads EmptyElemTag s v.rest
tag_reads_empty {s} {v} k e = rw e at (tag_reads k)

reads_tag : (b : Bool) (s t : List ℕ) → Reads (AnyTag b) s t → (v : Tag) × TagIs s v × (v.empty ≡ b) × (v.rest ≡ t)
reads_tag b s t (from, x, (to, y, (after, rs, (last, z, c)))) =
    let (n, e) = reads_suffix Name from to y in
    let (ns, k) = star_attributes rs in
    let (h, f)
    = reads_suffix (text "<" ⨾ Name ⨾ (S ⨾ Attribute) ∗ ⨾ opt S) s last (from, x, (to, y, (after, rs, z))) in (
      record { name = n; attributes = ns; head = h; empty = b; rest = t },
      record {
        from = from;
        to = to;
        after = after;
        last = last;
        opens = x;
        named = y;
        name_is = e;
        attributes = k;
        blank = z;
        head_is = f;
        closes = c;
      },
      refl,
      refl,
    )

pub start_tag_is : (s t : List ℕ) → Reads STag s t → (v : Tag) × TagIs s v × (v.empty ≡ false) × (v.rest ≡ t)
start_tag_is = reads_tag false

pub empty_tag_is : (s t : List ℕ) → Reads EmptyElemTag s t → (v : Tag) × TagIs s v × (v.empty ≡ true) × (v.rest ≡ t)
empty_tag_is = reads_tag true
