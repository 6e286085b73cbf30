-- What an item says, laid: a section without its marks; a reference by its character; then an item by its first bytes.
use mathlib.Core.Path.{◌≡◌, refl, sym, ◌∙◌}
use mathlib.Core.Bool.{Bool, true, false, false≢true}
use mathlib.Core.List.{List, [], ◌∷◌}
use mathlib.Core.Option.{Option as Maybe, none, some}
use mathlib.Core.Logic.{◌⊎◌, inl, inr}
use Prim.Native.Nat.{ℕ, ◌+◌, ◌-◌, ◌*◌, ◌≤◌, ◌<◌}
use native.Mathlib.Omega.{arith}
use lib.ListN.{length, take, drop, length-drop}
use lib.Seq.{length-take-le}
use Rattle.xml.specs.Notation.{bytes}
use Rattle.xml.specs.Utf8.{utf8}
use Rattle.xml.specs.Character.{begins}
use Rattle.xml.proofs.Utf8.{scalar_cases}
use Rattle.readers.specs.Value.{Said, reference_of}
use Rattle.readers.proofs.Reference.{said_refers, refers_scalar}
use Rattle.references.specs.Say.{saying_at}
use Rattle.std.specs.Prelude.{Option, Some, None}
use Rattle.std.proofs.lemmas.Option.{some_pair_parts}
use Rattle.rows.specs.Text.{lines_from, lines, content, said_by, said_of}
use Rattle.rows.specs.Laid.{Lays}
use Rattle.rows.specs.declared.field.Laid.{Laid}
use Rattle.rows.proofs.Laying.{lays_none}

-- ---- a section

module _ {q : Bool} {o : List ℕ} {to : ℕ} (raw : List ℕ) where
  pub section_none : length raw < 12
      → Lays q o to (lines (content raw)) (record { to = to; special = false }) o × (to ≤ to + 2 * length raw)
  unfolding content lines lines_from
  section_none h = let z : length raw - 12 ≡ 0 = omega arith in (rw z lays_none, omega arith)

  pub section_laid : {o₁ : List ℕ} {e : ℕ} {r : Laid} → 12 ≤ length raw → e ≡ length raw - 3
      → Lays q o to (lines (take (e - 9) (drop 9 raw))) r o₁ × (r.to ≤ to + 2 * length (take (e - 9) (drop 9 raw)))
      → Lays q o to (lines (content raw)) r o₁ × (r.to ≤ to + 2 * length raw)
  unfolding content
  section_laid {e = e} h i (v, n) =
      let z : e - 9 ≡ length raw - 12 = omega arith in
      let l : length (take (e - 9) (drop 9 raw)) ≡ e - 9 = length-take-le (e - 9) (drop 9 raw) (omega (arith, length-drop 9 raw)) in
      (rw (← z) v, omega (arith, l))

pub ruleset sectioning = (section_none, section_laid)

-- ---- a reference

code_small : (raw : List ℕ) {r : Said} → reference_of raw ≡ some r → r.code < 0x110000
code_small raw {r} e = go (scalar_cases r.code (refers_scalar (said_refers e)))
  where
    go : (r.code < 0xD800) ⊎ ((0xE000 ≤ r.code) × (r.code < 0x110000)) → r.code < 0x110000
    go (inl h) = omega arith
    go (inr (l, h)) = h

module _ (raw : List ℕ) {s : Option (ℕ × ℕ)} (e : s ≡ saying_at raw 0 (reference_of raw)) where
  pub says_small : {c i : ℕ} → s ≡ Some (c, i) → c < 0x110000
  says_small {c} {i} z = go (reference_of raw) refl (sym z ∙ e)
    where
      go : (x : Maybe Said) → reference_of raw ≡ x → Some (c, i) ≡ saying_at raw 0 x → c < 0x110000
      go none p y = absurd (false≢true cc)
      go (some r) p y = let (w, _) = some_pair_parts _ _ _ _ y in rw w (code_small raw p)

  says_char : {c i : ℕ} → s ≡ Some (c, i) → said_by (reference_of raw) ≡ utf8 c
  says_char {c} {i} z = go (reference_of raw) (sym z ∙ e)
    where
      go : (x : Maybe Said) → Some (c, i) ≡ saying_at raw 0 x → said_by x ≡ utf8 c
      go none y = absurd (false≢true cc)
      go (some r) y = let (w, _) = some_pair_parts _ _ _ _ y in rw w

  says_none : s ≡ None → said_by (reference_of raw) ≡ []
  says_none z = go (reference_of raw) (sym z ∙ e)
    where
      go : (x : Maybe Said) → None ≡ saying_at raw 0 x → said_by x ≡ []
      go none y = refl
      go (some r) y = absurd (false≢true cc)

  pub says_laid : {q : Bool} {o o₁ : List ℕ} {to c i : ℕ} {r : Laid} → s ≡ Some (c, i) → Lays q o to (utf8 c) r o₁ × (r.to ≤ to + 8)
      → Lays q o to (said_by (reference_of raw)) r o₁ × (r.to ≤ to + 8)
  says_laid z v = rw (says_char z) v

  pub says_fault : {q : Bool} {o : List ℕ} {to : ℕ} → s ≡ None
      → Lays q o to (said_by (reference_of raw)) (record { to = to; special = false }) o × (to ≤ to + 8)
  says_fault z = rw (says_none z) (lays_none, omega arith)

pub ruleset referring = (says_small, says_laid, says_fault)

-- ---- an item, by its first bytes

some_first : (b : ℕ) (w s : List ℕ) → begins (b ∷ w) s ≡ true → 1 ≤ length s
some_first b w [] e = absurd (false≢true e)
some_first b w (c ∷ s) e = omega arith

module _ (raw : List ℕ) {x : Bool} (e : x ≡ begins (bytes "<![CDATA[") raw) where
  pub said_section : {q : Bool} {o o₁ : List ℕ} {to : ℕ} {r : Laid} → x ≡ true
      → Lays q o to (lines (content raw)) r o₁ × (r.to ≤ to + 2 * length raw)
      → Lays q o to (said_of raw) r o₁ × (r.to ≤ to + 8 * length raw)
  unfolding said_of
  said_section t (v, n) = (rw (sym e ∙ t) v, omega arith)

  module _ (f : x ≡ false) {y : Bool} (g : y ≡ begins (bytes "<") raw) where
    pub said_markup : {q : Bool} {o : List ℕ} {to : ℕ} → y ≡ true
        → Lays q o to (said_of raw) (record { to = to; special = false }) o × (to ≤ to + 8 * length raw)
    unfolding said_of
    said_markup t = (rw (sym e ∙ f, sym g ∙ t) lays_none, omega arith)

    module _ (h : y ≡ false) {z : Bool} (i : z ≡ begins (bytes "&") raw) where
      pub said_reference : {q : Bool} {o o₁ : List ℕ} {to : ℕ} {r : Laid} → z ≡ true
          → Lays q o to (said_by (reference_of raw)) r o₁ × (r.to ≤ to + 8)
          → Lays q o to (said_of raw) r o₁ × (r.to ≤ to + 8 * length raw)
      unfolding said_of
      said_reference t (v, n) =
          (rw (sym e ∙ f, sym g ∙ h, sym i ∙ t) v, omega (arith, some_first 0x26 [] raw (sym i ∙ t)))

      pub said_text : {q : Bool} {o o₁ : List ℕ} {to : ℕ} {r : Laid} → z ≡ false
          → Lays q o to (lines raw) r o₁ × (r.to ≤ to + 2 * length raw) → Lays q o to (said_of raw) r o₁ × (r.to ≤ to + 8 * length raw)
      unfolding said_of
      said_text t (v, n) = (rw (sym e ∙ f, sym g ∙ h, sym i ∙ t) v, omega arith)

pub ruleset itemising = (said_section, said_markup, said_reference, said_text)
