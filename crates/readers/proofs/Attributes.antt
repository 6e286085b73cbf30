-- Attributes, [41]. In order: a name and what follows; one attribute; how attributes are gathered, step by step; what is gathered is any
-- number of S Attribute, and all of them.
use mathlib.Core.Path.{◌≡◌, refl, sym, ap, ◌∙◌}
use mathlib.Core.Bool.{false}
use mathlib.Core.List.{List, [], ◌∷◌, ◌++◌}
use mathlib.Core.Option.{Option, none, some, none-ne-some, some-injective}
use Prim.Native.Nat.{ℕ, zero, suc, ◌+◌, ◌-◌, ◌<◌}
use native.Mathlib.Omega.{arith}
use lib.ListN.{length, drop, length-append}
use lib.Seq.{drop_at}
use lib.Dec.{lit<}
use Rattle.xml.specs.Notation.{Reads, Star, done, more, ◌⨾◌}
use Rattle.xml.specs.Productions.{is_space, is_name_start, is_name_more, is_name, S, Name, Eq, AttValue, Attribute}
use Rattle.xml.specs.Character.{starts}
use Rattle.xml.proofs.Language.{reads_suffix}
use Rattle.chars.specs.Name.{name_of}
use Rattle.chars.proofs.Meaning.{name_found, name_is}
use Rattle.readers.specs.Read.{space_of}
use Rattle.readers.specs.Value.{value_of}
use Rattle.readers.specs.Named.{before, eq_of, Piece, piece_named, attribute_of, Gathered, gathered_by, gather}
use Rattle.xml.specs.Document.{Attributes, done as no_more, more as one_more}
use Rattle.readers.specs.Meaning.{Chars, characters}
use Rattle.readers.proofs.Combine.{then_some, chars_left}
use Rattle.readers.proofs.Follow.{ascii, Off, off_lit, off_then, off_either, off_opt, off_space, name_off_space, space_name}
use Rattle.readers.proofs.Follow.{space_reads, space_is, eq_takes}
use Rattle.readers.proofs.Left.{End, Shorter, shorter_end, end_more, end_shorter, before_is, before_split}
use Rattle.readers.proofs.Left.{space_leaves, eq_leaves}
use Rattle.readers.proofs.Value.{value_decides, value_shrinks}

-- ---- a name, and what follows

piece_name : (s : List ℕ) (p : Piece) → piece_named s ≡ some p → (name_of s ≡ some p.rest) × (before s p.rest ≡ p.name)
unfolding piece_named
piece_name s p e =
    let (t, q, r) = then_some (name_of s) (λ t. some (record { name = before s t; rest = t })) p e in
    let z : record { name = before s t; rest = t } ≡ p = some-injective _ _ r in
    (q ∙ ap (λ (p : Piece). some p.rest) z, rw (← z))

module _ {s : List ℕ} {p : Piece} (e : piece_named s ≡ some p) where
  pub piece_reads : Reads Name s p.rest
  piece_reads = (name_found s p.rest (piece_name s p e).0).0

  pub piece_split : s ≡ p.name ++ p.rest
  piece_split = rw (← (piece_name s p e).1) (before_split (reads_suffix Name s p.rest piece_reads))

pub piece_end : {s : List ℕ} {p : Piece} → piece_named s ≡ some p → End s p.rest
piece_end {p = p} e = (p.name, piece_split e)

pub piece_is : {s n t : List ℕ} → Reads Name s t → s ≡ n ++ t → starts is_name t ≡ false
    → piece_named s ≡ some (record { name = n; rest = t })
unfolding piece_named
piece_is {s} {n} {t} x e h = rw (name_is s t x h, before_is n t e)

-- ---- one attribute

pub eq_off_name : Off is_name Eq
unfolding is_name is_name_start is_name_more
eq_off_name = off_opt (off_space space_name) (off_then (off_lit _ _ (lit< tt) refl))

pub value_off_space : Off is_space AttValue
unfolding is_space
value_off_space = off_either (off_then (off_lit _ _ (lit< tt) refl)) (off_then (off_lit _ _ (lit< tt) refl))

-- S Attribute, with the attribute's name
pub record AttributeIs (s : List ℕ) (p : Piece) : Type 0 where
  pub from : List ℕ
  pub to : List ℕ
  pub value : List ℕ
  pub blank : Reads S s from
  pub named : Reads Name from to
  pub name_is : from ≡ p.name ++ to
  pub equal : Reads Eq to value
  pub valued : Reads AttValue value p.rest

-- what `attribute_of` went through
record Stages (s : List ℕ) (p : Piece) : Type 0 where
  piece : Piece
  from : List ℕ
  value : List ℕ
  blank : space_of s ≡ some from
  named : piece_named from ≡ some piece
  same_name : piece.name ≡ p.name
  equal : eq_of piece.rest ≡ some value
  valued : value_of value ≡ some p.rest

stages : (s : List ℕ) (p : Piece) → attribute_of s ≡ some p → Stages s p
unfolding attribute_of
stages s p e =
    let (t, a, e₁) = then_some (space_of s) _ p e in
    let (q, b, e₂) = then_some (piece_named t) _ p e₁ in
    let (u, c, e₃) = then_some (eq_of q.rest) _ p e₂ in
    let (v, d, e₄) = then_some (value_of u) _ p e₃ in
    let z = some-injective _ p e₄ in
    record {
      piece = q;
      from = t;
      value = u;
      blank = a;
      named = b;
      same_name = ap (λ (p : Piece). p.name) z;
      equal = c;
      valued = d ∙ ap (λ (p : Piece). some p.rest) z;
    }

pub attribute_shorter : (s : List ℕ) (p : Piece) → attribute_of s ≡ some p → Shorter s p.rest
attribute_shorter s p e =
    let k = stages s p e in
    end_shorter (space_leaves.ends s k.from k.blank)
    (end_shorter (piece_end k.named)
    (end_shorter (eq_leaves.ends k.piece.rest k.value k.equal) (value_shrinks.front k.value p.rest k.valued)))

-- on characters
pub attribute_sound : {s : List ℕ} {p : Piece} → Chars s → attribute_of s ≡ some p → AttributeIs s p
attribute_sound {s} {p} d e =
    let k = stages s p e in
    let to = k.piece.rest in
    let x = space_reads k.blank in
    let y = piece_reads k.named in
    let c = chars_left Name (ascii Name refl) k.from to (chars_left S (ascii S refl) s k.from d x) y in
    let z = (eq_takes {o = characters} value_off_space).sound c k.equal in
    record {
      from = k.from;
      to = to;
      value = k.value;
      blank = x;
      named = y;
      name_is = piece_split k.named ∙ ap (λ (n : List ℕ). n ++ to) k.same_name;
      equal = z;
      valued = value_decides.sound (chars_left Eq (ascii Eq refl) to k.value c z) k.valued;
    }

pub attribute_complete : {s : List ℕ} {p : Piece} → Chars s → AttributeIs s p → attribute_of s ≡ some p
unfolding attribute_of
attribute_complete {s} {p} d k =
    let c = chars_left Name (ascii Name refl) k.from k.to (chars_left S (ascii S refl) s k.from d k.blank) k.named in
    let x : space_of s ≡ some k.from = space_is k.blank (name_off_space.off k.from k.to k.named) in
    let y : piece_named k.from ≡ some (record { name = p.name; rest = k.to })
    = piece_is k.named k.name_is (eq_off_name.off k.to k.value k.equal) in
    let z : eq_of k.to ≡ some k.value = (eq_takes {o = characters} value_off_space).complete p.rest c k.equal k.valued in
    let v : value_of k.value ≡ some p.rest
    = value_decides.complete (chars_left Eq (ascii Eq refl) k.to k.value c k.equal) k.valued in
    rw (x, y, z, v)

-- ---- how attributes are gathered

attribute_nil : attribute_of [] ≡ none
attribute_nil = go (attribute_of []) refl
  where
    go : (o : Option Piece) → attribute_of [] ≡ o → o ≡ none
    go none e = refl
    go (some p) e =
        absurd
        (let (w, q, h) = attribute_shorter [] p e in
        let z : 0 ≡ length w + length p.rest = ap length q ∙ length-append w p.rest in
        omega arith)

-- what is left after the first byte and the rest of an attribute
attribute_rest : (b : ℕ) (s : List ℕ) (p : Piece) → attribute_of (b ∷ s) ≡ some p → drop (length s - length p.rest) s ≡ p.rest
attribute_rest b s p e = go (attribute_shorter (b ∷ s) p e)
  where
    go : Shorter (b ∷ s) p.rest → drop (length s - length p.rest) s ≡ p.rest
    go ([], q, h) = absurd (let z : 0 < 0 = h in omega arith)
    go (y ∷ w, q, h) =
        let r : s ≡ w ++ p.rest = ap (λ (l : List ℕ). drop 1 l) q in
        let n : length w ≡ length s - length p.rest = let z = ap length r ∙ length-append w p.rest in omega arith in
        ap (drop (length s - length p.rest)) r ∙ drop_at w p.rest _ n

gather_skip : (k : ℕ) (s : List ℕ) → gather k s ≡ gather 0 (drop k s)
unfolding gather
gather_skip zero [] = refl
gather_skip (suc k) [] = refl
gather_skip zero (b ∷ s) = refl
gather_skip (suc k) (b ∷ s) = gather_skip k s

pub gather_stop : (s : List ℕ) → attribute_of s ≡ none → gather 0 s ≡ record { names = []; rest = s }
unfolding gather
gather_stop [] e = refl
gather_stop (b ∷ s) e = rw e

pub gather_step : (s : List ℕ) (p : Piece) → attribute_of s ≡ some p
    → gather 0 s ≡ record { names = p.name ∷ (gather 0 p.rest).names; rest = (gather 0 p.rest).rest }
unfolding gather
gather_step [] p e = absurd (none-ne-some p (sym attribute_nil ∙ e))
gather_step (b ∷ s) p e =
    let q : gather (length s - length p.rest) s ≡ gather 0 p.rest
    = gather_skip (length s - length p.rest) s ∙ ap (gather 0) (attribute_rest b s p e) in
    rw (e, q)

-- what holds where it stops, and before an attribute if it holds after it, holds of all that is gathered
module _ (Q : List ℕ → Gathered → Type 0) (stop : (s : List ℕ) → attribute_of s ≡ none → Q s (record { names = []; rest = s }))
    (step : (s : List ℕ) (p : Piece) (g : Gathered) → attribute_of s ≡ some p → Q p.rest g
    → Q s (record { names = p.name ∷ g.names; rest = g.rest })) where
  gather_from : (k : ℕ) (s : List ℕ) → Q (drop k s) (gather k s)
  unfolding gather
  gather_from zero [] = stop [] attribute_nil
  gather_from (suc k) [] = stop [] attribute_nil
  gather_from (suc k) (b ∷ s) = gather_from k s
  gather_from zero (b ∷ s) = go (attribute_of (b ∷ s)) refl (λ k. gather_from k s)
    where
      go : (o : Option Piece) → attribute_of (b ∷ s) ≡ o → ((k : ℕ) → Q (drop k s) (gather k s))
          → Q (b ∷ s) (gathered_by o (b ∷ s) (λ k. gather k s) (length s))
      go none e r = stop (b ∷ s) e
      go (some p) e r = step (b ∷ s) p _ e (rw (attribute_rest b s p e) at (r (length s - length p.rest)))

  gather_holds : (s : List ℕ) → Q s (gather 0 s)
  gather_holds s = gather_from 0 s

pub gather_end : (s : List ℕ) → End s (gather 0 s).rest
gather_end =
    gather_holds (λ s g. End s g.rest) (λ s e. ([], refl))
    (λ s p g e k. end_more (shorter_end (attribute_shorter s p e)) k)

-- ---- what is gathered

pub attributes_star : {ns : List (List ℕ)} {s t : List ℕ} → Attributes ns s t → Star (Reads (S ⨾ Attribute)) s t
attributes_star no_more = done
attributes_star (one_more {a = a} {b = b} {c = c} x y e z v k) = more (a, x, (b, y, (c, z, v))) (attributes_star k)

pub star_attributes : {s t : List ℕ} → Star (Reads (S ⨾ Attribute)) s t → (ns : List (List ℕ)) × Attributes ns s t
star_attributes done = ([], no_more)
star_attributes (more (a, x, (b, y, (c, z, v))) k) =
    let (n, e) = reads_suffix Name a b y in
    let (ns, r) = star_attributes k in
    (n ∷ ns, one_more x y e z v r)

attribute_chars : (s t : List ℕ) → Chars s → Reads (S ⨾ Attribute) s t → Chars t
attribute_chars = chars_left (S ⨾ Attribute) (ascii (S ⨾ Attribute) refl)

pub gather_sound : (s : List ℕ) → Chars s → Attributes (gather 0 s).names s (gather 0 s).rest
gather_sound =
    gather_holds (λ s g. Chars s → Attributes g.names s g.rest) (λ s e d. no_more)
    (λ s p g e k d.
    let a = attribute_sound d e in
    let x : Reads (S ⨾ Attribute) s p.rest = (a.from, a.blank, (a.to, a.named, (a.value, a.equal, a.valued))) in
    one_more a.blank a.named a.name_is a.equal a.valued (k (attribute_chars s p.rest d x)))

pub gather_complete : {ns : List (List ℕ)} {s t : List ℕ} → Chars s → Attributes ns s t → attribute_of t ≡ none
    → gather 0 s ≡ record { names = ns; rest = t }
gather_complete {s = s} d no_more n = gather_stop s n
gather_complete d (one_more {n = n} {s = s} {a = a} {b = b} {c = c} {e = e} x y q z v k) h =
    let p : Piece = record { name = n; rest = e } in
    let r : AttributeIs s p
    = record { from = a; to = b; value = c; blank = x; named = y; name_is = q; equal = z; valued = v } in
    let d' = attribute_chars s e d (a, x, (b, y, (c, z, v))) in
    gather_step s p (attribute_complete d r)
    ∙ ap (λ (g : Gathered). record { names = n ∷ g.names; rest = g.rest }) (gather_complete d' k h)
