-- What an answer says, by its cases. proofs/Meaning.antt shows that `sequence_at`, which the contract cites, gives the one answer that says
-- so.
use Rattle.std.specs.Prelude.{◌≡◌, true, List, ◌++◌, ℕ, ◌≤◌, length, drop, Option, Some, None}
use Rattle.xml.specs.Utf8.{utf8, is_scalar}

-- at the place at stands the scalar value c in UTF-8, and it ends at e; or no scalar value stands there
abbrev pub SequenceSays : List ℕ → ℕ → Option (ℕ × ℕ) → Type 0
SequenceSays d at (Some (c, e)) = (is_scalar c ≡ true) × (drop at d ≡ utf8 c ++ drop e d) × (e ≤ length d)
SequenceSays d at None = (c : ℕ) (t : List ℕ) → is_scalar c ≡ true → drop at d ≡ utf8 c ++ t → ⊥
