-- The attributes of a tag. `next_attribute`: each way through it. `gather`: what is gathered from here on, after the names gathered so far,
-- is what is gathered from the start; the first 32 names are kept by their places.
use mathlib.Core.Path.{◌≡◌, refl, sym, ap, ap₂, ◌∙◌}
use mathlib.Core.Bool.{Bool, true, false, ◌&&◌, ◌||◌, and-true, and_assoc}
use mathlib.Core.List.{List, [], ◌∷◌, ◌++◌, append_assoc, append-nil}
use mathlib.Core.Option.{Option as Maybe, none, some}
use Prim.Native.Nat.{ℕ, ◌+◌, ◌-◌, ◌^◌, ◌≤◌, ◌<◌}
use native.Mathlib.Omega.{arith}
use mir.Syntax.{w64}
use mir.Val.{Fits}
use borrow.Author.Rules.{rules}
use borrow.Author.Tests.{leb-true}
use Rattle.xml.proofs.Bools.{and_left}
use lib.Dec.{leb}
use lib.ListN.{length, take, drop, replicate, length-drop, length-append, length-replicate}
use lib.Seq.{take_all}
use Rattle.utf8.specs.Place.{Stands}
use Rattle.chars.specs.Name.{name_at, reading_at}
use Rattle.std.specs.Prelude.{Option, Some, None}
use Rattle.readers.specs.Read.{space_of}
use Rattle.readers.specs.Value.{value_of}
use Rattle.readers.specs.Named.{Piece, eq_of, attribute_of, Gathered, gather, small_all, repeated}
use Rattle.readers.specs.Answer.{Answers}
use Rattle.readers.proofs.Answers.{ends_some, ends_inside, ends_ahead, fault_none}
use Rattle.readers.proofs.Many.{shrinks_length, reading_answers}
use Rattle.readers.proofs.Value.{value_shrinks}
use Rattle.readers.proofs.Attributes.{gather_stop, gather_step}
use Rattle.tags.specs.Kept.{name_from, KeptOf, Keeps, Noted, AttributeIs, named, fault, AttributesAre}
use Rattle.tags.specs.declared.gather.Attribute.{Attribute}
use Rattle.tags.proofs.Kept.{name_size}
use Rattle.tags.proofs.Named.{piece_none, piece_some, piece_ahead, piece_inside}

-- ---- `next_attribute`

module _ (d : List ℕ) (at : ℕ) {r : Option ℕ} (a : Answers d at r (space_of (drop at d))) where
  pub attribute_blankless : r ≡ None → AttributeIs d at None (attribute_of (drop at d))
  unfolding attribute_of
  attribute_blankless q = rw (fault_none a q) fault

  module _ {i : ℕ} (q : r ≡ Some i) {n : Option ℕ} (b : n ≡ name_at d i) where
    pub attribute_nameless : n ≡ None → AttributeIs d at None (attribute_of (drop at d))
    unfolding attribute_of
    attribute_nameless f = rw (ends_some a q, piece_none d i b f) fault

    module _ {e : ℕ} (g : n ≡ Some e) {m : Option ℕ} (c : Answers d e m (eq_of (drop e d))) where
      pub attribute_unequal : m ≡ None → AttributeIs d at None (attribute_of (drop at d))
      unfolding attribute_of
      attribute_unequal f = rw (ends_some a q, piece_some d i b g, fault_none c f) fault

      module _ {v : ℕ} (h : m ≡ Some v) {w : Option ℕ} (x : w ≡ reading_at d v (value_of (drop v d))) where
        valued : Answers d v w (value_of (drop v d))
        valued = reading_answers value_shrinks d v x

        pub attribute_valueless : w ≡ None → AttributeIs d at None (attribute_of (drop at d))
        unfolding attribute_of
        attribute_valueless f = rw (ends_some a q, piece_some d i b g, ends_some c h, fault_none valued f) fault

        pub attribute_named : {end : ℕ} → w ≡ Some end
            → AttributeIs d at (Some (record { name = i; len = e - i; end = end })) (attribute_of (drop at d))
        unfolding attribute_of
        attribute_named {end} f =
            let p = ends_ahead a q in
            let s = piece_ahead d i b g in
            let u = piece_inside d i b g in
            let t = ends_ahead c h in
            let y = ends_inside valued f in
            let z = shrinks_length value_shrinks (drop v d) (drop end d) (ends_some valued f) in
            rw (ends_some a q, piece_some d i b g, ends_some c h, ends_some valued f)
            (named {a = record { name = i; len = e - i; end = end }} (omega (arith, length-drop v d, length-drop end d, ends_inside c h))
            (omega arith) refl (record { rest = refl; inside = y }))

pub ruleset attributing = (
  attribute_blankless,
  attribute_nameless,
  attribute_unequal,
  attribute_valueless,
  attribute_named,
  ends_inside,
  piece_ahead,
  piece_inside,
  rules,
)

-- ---- `gather`

-- what an attribute's answer says
record Found (d : List ℕ) (at : ℕ) (x : Attribute) (o : Maybe Piece) : Type 0 where
  piece : Piece
  read : o ≡ some piece
  further : at < x.end
  inside : x.name + x.len ≤ length d
  name_is : name_from d x.name x.len ≡ piece.name
  stands : Stands d x.end piece.rest

found : {d : List ℕ} {at : ℕ} {r : Option Attribute} {o : Maybe Piece} {x : Attribute} → AttributeIs d at r o → r ≡ Some x → Found d at x o
found {d} {at} {x = x} a q = go (rw q at a)
  where
    go : {o : Maybe Piece} → AttributeIs d at (Some x) o → Found d at x o
    go (named {p = p} l h e s) = record { piece = p; read = refl; further = l; inside = h; name_is = e; stands = s }

none_found : {d : List ℕ} {at : ℕ} {r : Option Attribute} {o : Maybe Piece} → AttributeIs d at r o → r ≡ None → o ≡ none
none_found {d} {at} a q = go (rw q at a)
  where
    go : {o : Maybe Piece} → AttributeIs d at None o → o ≡ none
    go fault = refl

pub record Gathering (d : List ℕ) (at i count : ℕ) (small twice : Bool) (starts lens : List ℕ) : Type 0 where
  pub names : List (List ℕ)
  pub kept : KeptOf d starts lens count names
  pub inside : i ≤ length d
  pub room : at + count ≤ i
  pub small_is : small ≡ small_all names
  pub twice_is : twice ≡ repeated (take 32 names)
  pub same : gather 0 (drop at d) ≡ record { names = names ++ (gather 0 (drop i d)).names; rest = (gather 0 (drop i d)).rest }

pub gather_start : (d : List ℕ) (at : ℕ) → at ≤ length d → Gathering d at at 0 true false (replicate 32 0) (replicate 32 0)
gather_start d at l =
    record {
      names = [];
      kept =
          record {
            held =
                record {
                  few = omega arith;
                  starts_long = length-replicate {A = ℕ} 32 0;
                  lens_long = length-replicate {A = ℕ} 32 0;
                  inside = λ k h. absurd (omega arith);
                  are = λ k h. absurd (omega arith);
                };
            count_is = refl;
          };
      inside = l;
      room = omega arith;
      small_is = refl;
      twice_is = refl;
      same = refl;
    }

small_snoc : (ns : List (List ℕ)) (w : List ℕ) → small_all (ns ++ w ∷ []) ≡ small_all ns && leb (length w) 255
small_snoc [] w = and-true (leb (length w) 255)
small_snoc (n ∷ ns) w =
    ap (λ (b : Bool). leb (length n) 255 && b) (small_snoc ns w)
    ∙ sym (and_assoc (leb (length n) 255) (small_all ns) (leb (length w) 255))

module _ {d : List ℕ} {at i count : ℕ} {small twice : Bool} {starts lens : List ℕ} (v : Gathering d at i count small twice starts lens)
    {r : Option Attribute} (a : AttributeIs d i r (attribute_of (drop i d))) where
  pub gather_none : r ≡ None → AttributesAre d at (record { end = i; small = leb count 32 && small; twice = twice })
  gather_none q =
      let stop = gather_stop (drop i d) (none_found a q) in
      let all : gather 0 (drop at d) ≡ record { names = v.names; rest = drop i d }
      = v.same ∙ rw stop (ap (λ (ns : List (List ℕ)). record { names = ns; rest = drop i d }) (append-nil v.names)) in
      record {
        ahead = let z = v.room in omega arith;
        stands = record { rest = sym (ap (λ (g : Gathered). g.rest) all); inside = v.inside };
        small_is =
            ap₂ (λ (n : ℕ) (b : Bool). leb n 32 && b) v.kept.count_is v.small_is
            ∙ ap (λ (ns : List (List ℕ)). leb (length ns) 32 && small_all ns) (sym (ap (λ (g : Gathered). g.names) all));
        twice_is = λ s.
            v.twice_is
            ∙ ap repeated (take_all 32 v.names (few (and_left (leb count 32) small s)))
            ∙ ap (λ (g : Gathered). repeated g.names) (sym all);
      }
    where
      few : leb count 32 ≡ true → length v.names ≤ 32
      few e = let z = leb-true count 32 e in let y = v.kept.count_is in omega arith

  module _ {t : Attribute} (q : r ≡ Some t) where
    pub gather_inside : t.name + t.len ≤ length d
    gather_inside = (found a q).inside

    pub gather_less : length d - t.end < length d - i
    gather_less = let z = (found a q).further in let y = (found a q).stands.inside in omega arith

    pub gather_fits : length d < 2 ^ 64 → Fits w64 (count + 1)
    gather_fits l =
        record { fits = let z = v.room in let y = (found a q).further in let x = (found a q).stands.inside in omega arith }

    pub gather_more : {starts' lens' : List ℕ} {again : Bool} → Noted d starts lens count t.name t.len starts' lens' again
        → Gathering d at t.end (count + 1) (small && leb t.len 255) (twice || again) starts' lens'
    gather_more {again = again} n =
        let f = found a q in
        let w = name_from d t.name t.len in
        record {
          names = v.names ++ w ∷ [];
          kept =
              record {
                held = n.held v.names v.kept;
                count_is = let y = v.kept.count_is in omega (arith, length-append v.names (w ∷ []));
              };
          inside = f.stands.inside;
          room = let z = f.further in let y = v.room in omega arith;
          small_is =
              ap₂ (λ (b : Bool) (k : ℕ). b && leb k 255) v.small_is (sym (name_size d t.name t.len f.inside))
              ∙ sym (small_snoc v.names w);
          twice_is = ap (λ (b : Bool). b || again) v.twice_is ∙ sym (n.twice v.names v.kept);
          same =
              v.same
              ∙ ap (λ (g : Gathered). record { names = v.names ++ g.names; rest = g.rest })
              (gather_step (drop i d) f.piece f.read
              ∙ ap₂ (λ (x s : List ℕ). record { names = x ∷ (gather 0 s).names; rest = (gather 0 s).rest }) (sym f.name_is)
              (sym f.stands.rest))
              ∙ ap (λ (ns : List (List ℕ)). record { names = ns; rest = (gather 0 (drop t.end d)).rest })
              (sym (append_assoc v.names (w ∷ []) (gather 0 (drop t.end d)).names));
        }

pub gather_keeps : {d : List ℕ} {at i count : ℕ} {small twice : Bool} {starts lens : List ℕ}
    → Gathering d at i count small twice starts lens → Keeps d starts lens count
gather_keeps v = record { names = v.names; kept = v.kept }

pub gather_within : {d : List ℕ} {at i count : ℕ} {small twice : Bool} {starts lens : List ℕ}
    → Gathering d at i count small twice starts lens → i ≤ length d
gather_within v = v.inside

pub ruleset gathering =
    (gather_start, gather_none, gather_inside, gather_less, gather_fits, gather_more, gather_keeps, gather_within)
