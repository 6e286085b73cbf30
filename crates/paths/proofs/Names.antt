-- Names in a list: a name begins with no other ASCII character, an ASCII character that is in no name ends it, and it has a byte. That
-- `name_of` reads a name which no name character follows, and nothing else, is shown in the crate chars.
use mathlib.Core.Path.{◌≡◌, refl, sym, ap, ◌∙◌}
use mathlib.Core.Bool.{Bool, true, false}
use mathlib.Core.List.{List, [], ◌∷◌, ◌++◌}
use Prim.Native.Nat.{ℕ, ◌<◌}
use native.Mathlib.Omega.{arith}
use lib.ListN.{length, length-append}
use Rattle.xml.specs.Language.{Language}
use Rattle.xml.specs.Productions.{Name, is_name_start, is_name}
use Rattle.xml.specs.Character.{begins, starts}
use Rattle.xml.proofs.Bools.{true-false}
use Rattle.xml.proofs.Utf8.{utf8_long}
use Rattle.xml.proofs.Character.{begins_split}
use Rattle.xml.proofs.Language.{language_reads}
use Rattle.xml.proofs.Run.{reads_starts, starts_low}

-- a name begins with no other ASCII character
pub name_front : (x : ℕ) → x < 0x80 → is_name_start x ≡ false → (n t : List ℕ) → Language Name n → begins (x ∷ []) (n ++ t) ≡ false
name_front x l f n t k = go (begins (x ∷ []) (n ++ t)) refl
  where
    go : (b : Bool) → begins (x ∷ []) (n ++ t) ≡ b → b ≡ false
    go false e = refl
    go true e =
        let (m, r, rs) = language_reads Name n t k in
        let y : starts is_name_start (n ++ t) ≡ true = reads_starts is_name_start (n ++ t) m r in
        let z : starts is_name_start (n ++ t) ≡ is_name_start x =
        ap (starts is_name_start) (begins_split (x ∷ []) (n ++ t) e) ∙ starts_low is_name_start x _ l in
        absurd (true-false (sym z ∙ y) f)

-- an ASCII character that is in no name ends it
pub name_ends : (x : ℕ) (s : List ℕ) → x < 0x80 → is_name x ≡ false → starts is_name (x ∷ s) ≡ false
name_ends x s l f = starts_low is_name x s l ∙ f

pub name_long : (n : List ℕ) → Language Name n → 0 < length n
name_long n (x, y, (c, h, p, e), m, q) =
    let z = ap length q ∙ length-append x y in
    let w = ap length e in
    let l = utf8_long c in
    omega arith
