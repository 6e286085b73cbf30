-- Tables laid one behind the other: what is left of one table is laid, `lay`;
-- then the tables laid so far, the rows, which are made in their place, and all of them.
use mathlib.Core.Path.{◌≡◌, refl, sym, ap, ◌∙◌}
use mathlib.Core.List.{List, [], ◌∷◌, ◌++◌, append_assoc, append-nil}
use Prim.Native.Nat.{ℕ, ◌+◌, ◌-◌, ◌≤◌}
use native.Mathlib.Omega.{arith}
use lib.ListN.{length, take, drop, length-append, length-drop, take-append-drop}
use borrow.Rule.Slice.PartMut.{put_mid}
use lib.Seq.{length-take-le, take_at, drop_at, drop-drop, sets, sets-eq}
use Rattle.compiled.specs.Compiled.{joined}
use Rattle.utf8.proofs.Place.{drop_end}

-- ---- `lay`

-- the part is copied to its place
pub lay_whole : (t : List ℕ) (from : ℕ) (part : List ℕ) {new : List ℕ} → from + length part ≤ length t → new ≡ part
    → put_mid from (from + length part - from) t new ≡ sets t from part
lay_whole t from part l e =
    let z : from + length part - from ≡ length part = omega arith in
    rw (e, z, sets-eq part t from l, drop-drop (length part) from t, append_assoc)

-- ---- the tables laid so far

-- w stands at the front of t, up to the place i, and behind it what was there in t₀
pub record Laid (t₀ w : List ℕ) (i : ℕ) (t : List ℕ) : Type 0 where
  pub long : length t₀ ≡ 18400
  pub front_long : length w ≡ i
  pub is : t ≡ w ++ drop i t₀

pub laid_none : {t : List ℕ} → length t ≡ 18400 → Laid t [] 0 t
laid_none l = record { long = l; front_long = refl; is = refl }

module _ {t₀ w : List ℕ} {i : ℕ} {t : List ℕ} (v : Laid t₀ w i t) where
  front_more : (x : List ℕ) (n : ℕ) → length x ≡ n → length (w ++ x) ≡ i + n
  front_more x n l = let z = length-append w x in let y = v.front_long in omega arith

  -- a table is laid
  pub laid_more : (x : List ℕ) {t' : List ℕ} (n : ℕ) → length x ≡ n → i + n ≤ 18400 → t' ≡ sets t i x → Laid t₀ (w ++ x) (i + n) t'
  laid_more x {t'} n l h e =
      record {
        long = v.long;
        front_long = front_more x n l;
        is =
            let r = drop i t₀ in
            let a : take i (w ++ r) ≡ w = take_at w r i v.front_long in
            let b : drop (i + n) (w ++ r) ≡ drop (i + n) t₀ =
            sym (drop-drop n i (w ++ r)) ∙ ap (drop n) (drop_at w r i v.front_long) ∙ drop-drop n i t₀ in
            let m : i + length x ≤ length t =
            let y = v.long in let z = ap length v.is ∙ length-append w r in let u = length-drop i t₀ in let f = v.front_long in
            omega arith in
            e ∙ sets-eq x t i m ∙ rw (v.is, l, a, b);
      }

  -- a table that is there
  pub laid_there : (x : List ℕ) (n : ℕ) → length x ≡ n → take n (drop i t₀) ≡ x → Laid t₀ (w ++ x) (i + n) t
  laid_there x n l e =
      record {
        long = v.long;
        front_long = front_more x n l;
        is =
            v.is
            ∙ ap (λ (r : List ℕ). w ++ r) (sym (take-append-drop n (drop i t₀)) ∙ cc (e, drop-drop n i t₀))
            ∙ sym (append_assoc w x (drop (i + n) t₀));
      }

  pub laid_all : i ≡ 18400 → t ≡ w
  laid_all e = v.is ∙ rw (drop_end t₀ i (let y = v.long in omega arith)) (append-nil w)

-- ---- the rows, in their place; and tables in which that part is another

abbrev pub rows_in : List ℕ → List ℕ
rows_in t = take 16416 (drop 1792 t)

abbrev pub with_rows : List ℕ → List ℕ → List ℕ
with_rows t rows = take 1792 t ++ (rows ++ drop 16416 (drop 1792 t))

module _ (t rows : List ℕ) (l : length t ≡ 18400) (m : length rows ≡ 16416) where
  names_long : length (take 1792 t) ≡ 1792
  names_long = length-take-le 1792 t (omega arith)

  pub rows_stand : rows_in (with_rows t rows) ≡ rows
  rows_stand =
      ap (take 16416) (drop_at (take 1792 t) (rows ++ drop 16416 (drop 1792 t)) 1792 names_long)
      ∙ take_at rows (drop 16416 (drop 1792 t)) 16416 m

  pub with_rows_long : length (with_rows t rows) ≡ 18400
  with_rows_long =
      let a = length-append (take 1792 t) (rows ++ drop 16416 (drop 1792 t)) in
      let b = length-append rows (drop 16416 (drop 1792 t)) in
      let c = length-drop 16416 (drop 1792 t) in
      let e = length-drop 1792 t in
      let f = names_long in
      omega arith

-- ---- all of them

pub record Longs (at len head next rows stays goes far lasts marks tests : List ℕ) : Type 0 where
  pub at_long : length at ≡ 512
  pub len_long : length len ≡ 512
  pub head_long : length head ≡ 256
  pub next_long : length next ≡ 512
  pub rows_long : length rows ≡ 16416
  pub stays_long : length stays ≡ 32
  pub goes_long : length goes ≡ 32
  pub far_long : length far ≡ 32
  pub lasts_long : length lasts ≡ 32
  pub marks_long : length marks ≡ 32
  pub tests_long : length tests ≡ 32

pub laid_tables : {at len head next rows stays goes far lasts marks tests : List ℕ}
    → Longs at len head next rows stays goes far lasts marks tests → (t₀ : List ℕ) {t₁ t₂ : List ℕ} → length t₀ ≡ 18400 → rows_in t₀ ≡ rows
    → t₁ ≡ sets (sets (sets (sets t₀ 0 at) 512 len) 1024 head) 1280 next
    → t₂ ≡ sets (sets (sets (sets (sets (sets t₁ 18208 stays) 18240 goes) 18272 far) 18304 lasts) 18336 marks) 18368 tests
    → t₂ ≡ joined (at ∷ len ∷ head ∷ next ∷ rows ∷ stays ∷ goes ∷ far ∷ lasts ∷ marks ∷ tests ∷ [])
laid_tables {at} {len} {head} {next} {rows} {stays} {goes} {far} {lasts} {marks} {tests} m t₀ l r e f =
    let v₁ = laid_more (laid_none l) at 512 m.at_long (omega arith) refl in
    let v₂ = laid_more v₁ len 512 m.len_long (omega arith) refl in
    let v₃ = laid_more v₂ head 256 m.head_long (omega arith) refl in
    let v₄ = laid_more v₃ next 512 m.next_long (omega arith) e in
    let v₅ = laid_there v₄ rows 16416 m.rows_long r in
    let v₆ = laid_more v₅ stays 32 m.stays_long (omega arith) refl in
    let v₇ = laid_more v₆ goes 32 m.goes_long (omega arith) refl in
    let v₈ = laid_more v₇ far 32 m.far_long (omega arith) refl in
    let v₉ = laid_more v₈ lasts 32 m.lasts_long (omega arith) refl in
    let v₁₀ = laid_more v₉ marks 32 m.marks_long (omega arith) refl in
    let v₁₁ = laid_more v₁₀ tests 32 m.tests_long (omega arith) f in
    laid_all v₁₁ refl ∙ simp (append_assoc, append-nil)
