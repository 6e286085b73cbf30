-- What each answer on the layout of a batch says, in document 02's words and order: "an empty batch, one over 67,108,864 bytes (both offset
-- 0), another version, or the first length that is cut short or runs past the end". proofs/Layouts.antt shows that `layout_of` is said of
-- all bytes, and no other answer. So bytes are a sound batch exactly when they are what some list of documents prints as, and are not too
-- many.
use Rattle.std.specs.Prelude.{◌≡◌, List, [], ◌∷◌, ◌++◌, ◌⊎◌, ℕ, ◌≤◌, ◌<◌, length, Result, Ok}
use Rattle.bundle.specs.Batch.{big, print_batch, fault_at}
use Rattle.bundle.specs.declared.LayoutError.{LayoutError}

-- bytes, as the elements of a slice are
abbrev pub Bytes : List ℕ → Type 0
Bytes [] = Unit {0}
Bytes (x ∷ s) = (x < 256) × Bytes s

-- "a length .. that is cut short": 1 to 3 bytes are left; or "runs past the end": more is promised than is left
abbrev pub CutShort : List ℕ → Type 0
CutShort t = (1 ≤ length t) × (length t < 4)

pub record RunsPast (t : List ℕ) : Type 0 where
  pub promised : ℕ
  pub rest : List ℕ
  pub prints : t ≡ big promised ++ rest
  pub fits : promised < 4294967296
  pub past : length rest < promised

pub data LayoutSays (b : List ℕ) : Result (Unit {0}) LayoutError → Type 0 where
  empty : b ≡ [] → LayoutSays b (fault_at 0)
  over : 67108864 < length b → LayoutSays b (fault_at 0)
  version : {v : ℕ} {s : List ℕ} → b ≡ v ∷ s → length b ≤ 67108864 → (v ≡ 1 → ⊥) → LayoutSays b (fault_at 0)
  -- "the first": whole documents ds stand before it, and t follows them
  bad_length : (ds : List (List ℕ)) {t : List ℕ} → b ≡ print_batch ds ++ t → length b ≤ 67108864 → CutShort t ⊎ RunsPast t
      → LayoutSays b (fault_at (length (print_batch ds)))
  sound : (ds : List (List ℕ)) → b ≡ print_batch ds → length b ≤ 67108864 → LayoutSays b (Ok tt)
