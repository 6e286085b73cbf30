-- A field, a path and a record, part by part: the field of a text that was searched first; the names joined, level by level; that a path
-- holds no byte for which a field is quoted; a record.
use mathlib.Core.Path.{◌≡◌, refl, ap, ◌∙◌}
use mathlib.Core.Bool.{Bool, true, false}
use mathlib.Core.List.{List, [], ◌∷◌, ◌++◌}
use Prim.Native.Nat.{ℕ, zero, suc, ◌+◌, ◌-◌, ◌*◌, ◌≤◌, ◌<◌}
use native.Mathlib.Numerals.{add-one}
use native.Mathlib.Omega.{arith}
use lib.ListN.{length, get_or, take, drop, length-drop}
use lib.Seq.{length-take-le}
use Rattle.xml.specs.Forest.{Name}
use Rattle.tags.specs.Kept.{name_from}
use Rattle.document.specs.Levels.{names_of}
use Rattle.writer.specs.Wrote.{Wrote}
use Rattle.writer.proofs.Laying.{wrote_none, wrote_more, wrote_long}
use Rattle.rows.specs.Field.{special, quote, field, path_of, record_of}
use Rattle.rows.specs.Tokens.{text_from}
use Rattle.rows.specs.Laid.{Lays, joint, PlainNames, element_text}
use Rattle.rows.specs.declared.field.Laid.{Laid}
use Rattle.rows.proofs.Laying.{special_append}

-- ---- a field

quote_short : (q : Bool) → length (quote q) ≤ 1
quote_short true = omega arith
quote_short false = omega arith

-- it is quoted by what was found of its text before
pub field_laid : (s : List ℕ) {q : Bool} {o o₁ o₂ o₃ : List ℕ} {to a t : ℕ} {r : Laid} → q ≡ special s → Wrote o to (quote q) a o₁
    → Lays q o₁ a s r o₂ × (r.to ≤ a + 134217728) → Wrote o₂ r.to (quote q) t o₃ → Wrote o to (field s) t o₃ × (t ≤ to + 134217730)
unfolding field
field_laid s {q} e w (v, n) x =
    (rw (← e) (wrote_more w (wrote_more v.wrote x)), omega (arith, w.long, x.long, quote_short q))

pub quoted_near : (q : Bool) {o o₁ : List ℕ} {to a : ℕ} → Wrote o to (quote q) a o₁ → a ≤ to + 1
quoted_near q w = omega (arith, w.long, quote_short q)

-- ---- a path

path_joint : (n : Name) (ns : List Name) → path_of (n ∷ ns) ≡ path_of ns ++ (joint (length ns) ++ n)
path_joint n [] = refl
path_joint n (m ∷ up) = refl

names_long : (d starts lens : List ℕ) (k : ℕ) → length (names_of d starts lens k) ≡ k
names_long d starts lens zero = refl
names_long d starts lens (suc k) = ap suc (names_long d starts lens k)

-- the names of the first k levels are laid, joined
pub record Joined (d starts lens : List ℕ) (level : ℕ) (o : List ℕ) (to place k : ℕ) (o' : List ℕ) : Type 0 where
  pub laid : Wrote o to (path_of (names_of d starts lens k)) place o'
  pub upto : k ≤ level
  pub near : place ≤ to + 256 * k
  pub same : length o' ≡ length o

module _ {d starts lens : List ℕ} {level : ℕ} {o o₁ : List ℕ} {to place k : ℕ} (p : PlainNames d starts lens level)
    (v : Joined d starts lens level o to place k o₁) where
  pub joined_step : {o₂ o₃ : List ℕ} {a e r : ℕ} → k < level → Wrote o₁ place (joint k) a o₂ × (a ≤ place + 1)
      → e ≡ get_or starts k 0 + get_or lens k 0 → Wrote o₂ a (take (e - get_or starts k 0) (drop (get_or starts k 0) d)) r o₃
      → Joined d starts lens level o to r (k + 1) o₃
  joined_step {o₂} {o₃} {a} {e} {r} l (w, n) q x =
      let z : e - get_or starts k 0 ≡ get_or lens k 0 = omega arith in
      let name = name_from d (get_or starts k 0) (get_or lens k 0) in
      let ns = names_of d starts lens k in
      let y : Wrote o₂ a name r o₃ = rw z at x in
      let long : length name ≡ get_or lens k 0 =
      length-take-le (get_or lens k 0) (drop (get_or starts k 0) d) (omega (arith, length-drop (get_or starts k 0) d, p.inside k l)) in
      record {
        laid =
            rw (add-one k, path_joint name ns, names_long d starts lens k) (wrote_more v.laid (wrote_more w y));
        upto = omega arith;
        near = omega (arith, v.near, y.long, long, p.small k l);
        same = wrote_long y ∙ wrote_long w ∙ v.same;
      }

-- ---- it is plain

joint_plain : (k : ℕ) → special (joint k) ≡ false
joint_plain zero = refl
joint_plain (suc k) = refl

pub path_plain : {d starts lens : List ℕ} {level : ℕ} → PlainNames d starts lens level → (k : ℕ) → k ≤ level
    → special (path_of (names_of d starts lens k)) ≡ false
path_plain v zero h = refl
path_plain {d} {starts} {lens} v (suc k) h =
    let n = name_from d (get_or starts k 0) (get_or lens k 0) in
    let ns = names_of d starts lens k in
    rw (
      path_joint n ns,
      special_append (path_of ns) (joint (length ns) ++ n),
      path_plain v k (omega arith),
      special_append (joint (length ns)) n,
      joint_plain (length ns),
      v.plain k (omega arith),
    )

plain_field : (s : List ℕ) → special s ≡ false → field s ≡ s ++ []
unfolding field
plain_field s e = rw e

-- no text is an empty field
field_none : {o : List ℕ} {at : ℕ} → Wrote o at (field []) at o
unfolding field
field_none = wrote_none

-- ---- a record

pub record_laid : (up : List Name) (s : List ℕ) {o o₁ o₂ o₃ o₄ : List ℕ} {to a b c e : ℕ} → special (path_of up) ≡ false
    → Wrote o to (path_of up) a o₁ → Wrote o₁ a (0x2C ∷ []) b o₂ → Wrote o₂ b (field s) c o₃ → Wrote o₃ c (0xD ∷ 0xA ∷ []) e o₄
    → Wrote o to (record_of up s) e o₄
unfolding record_of
record_laid up s p w x y z = rw (plain_field (path_of up) p) (wrote_more (wrote_more (wrote_more w wrote_none) (wrote_more x y)) z)

-- of an element by its tag: its path is laid, and a comma
module _ {d starts lens : List ℕ} {level : ℕ} (p : PlainNames d starts lens level) {o o₁ o₂ : List ℕ} {to a b : ℕ}
    (w : Wrote o to (path_of (names_of d starts lens level)) a o₁ × (a ≤ to + 16448)) (x : Wrote o₁ a (0x2C ∷ []) b o₂) where
  path_quiet : special (path_of (names_of d starts lens level)) ≡ false
  path_quiet = path_plain p level (omega arith)

  pub record_full : (end : ℕ) {m : Bool} {o₃ o₄ : List ℕ} {c e : ℕ} → m ≡ false
      → Wrote o₂ b (field (text_from 0 d end)) c o₃ × (c ≤ b + 134217730) → Wrote o₃ c (0xD ∷ 0xA ∷ []) e o₄
      → Wrote o to (record_of (names_of d starts lens level) (element_text m d end)) e o₄ × (e ≤ to + 268435456)
  record_full end f (y, n) z =
      (rw f (record_laid (names_of d starts lens level) (text_from 0 d end) path_quiet w.0 x y z), omega (arith, w.1, x.long, z.long))

  pub record_bare : (end : ℕ) {m : Bool} {o₃ : List ℕ} {e : ℕ} → m ≡ true → Wrote o₂ b (0xD ∷ 0xA ∷ []) e o₃
      → Wrote o to (record_of (names_of d starts lens level) (element_text m d end)) e o₃ × (e ≤ to + 268435456)
  record_bare end f z =
      (rw f (record_laid (names_of d starts lens level) [] path_quiet w.0 x field_none z), omega (arith, w.1, x.long, z.long))
