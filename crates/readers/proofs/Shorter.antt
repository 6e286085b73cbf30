-- Items leave a shorter end of what they are given, on every byte string: each begins with a text of its own. In order: comments and
-- sections; text, which is shorter where its first byte is neither `<` nor `&`; instructions; the declaration.
-- References are in proofs/Value, tags in proofs/Tags.
use mathlib.Core.Path.{◌≡◌, ap}
use mathlib.Core.Bool.{Bool, true, false, cond, ◌||◌}
use mathlib.Core.List.{List, [], ◌∷◌}
use mathlib.Core.Option.{Option, none, some, none-ne-some, some-injective}
use Prim.Native.Nat.{ℕ}
use native.Mathlib.Omega.{arith}
use lib.Dec.{eqb}
use Rattle.xml.specs.Notation.{bytes}
use Rattle.xml.specs.Productions.{is_space}
use Rattle.xml.specs.Character.{begins, starts}
use Rattle.chars.specs.Name.{name_of}
use Rattle.readers.specs.Plain.{text_of, comment_of, section_of}
use Rattle.readers.specs.Value.{is_decimal}
use Rattle.readers.specs.Named.{before, is_xml, target_of, instruction_end, instruction_of, in_quotes, setting_of, version_of}
use Rattle.readers.specs.Named.{is_letter, is_encoding, encoding_of, yes_or_no, declaration_of}
use Rattle.readers.proofs.Combine.{then_some}
use Rattle.readers.proofs.Left.{End, Shorter, Leaves, lit_leaves, skip_end, seek_end, then_leaves, or_leaves, after_leaves}
use Rattle.readers.proofs.Left.{if_leaves, led_leaves, stay_end, space_leaves, name_leaves, eq_leaves}
use Rattle.readers.proofs.Many.{Shrinks, lit_shrinks, lead_shrinks}

-- ---- comments and sections

pub comment_shrinks : Shrinks comment_of
unfolding comment_of
comment_shrinks = lead_shrinks (lit_shrinks _ _) (after_leaves (seek_end (bytes "--")) (lit_leaves (bytes "-->")))

pub section_shrinks : Shrinks section_of
unfolding section_of
section_shrinks = lead_shrinks (lit_shrinks _ _) (after_leaves (seek_end (bytes "]]>")) (lit_leaves (bytes "]]>")))

-- ---- text

module _ {t : List ℕ} where
  -- a byte that is passed
  passed : (b : ℕ) (s : List ℕ) (x : Bool) → cond x none (text_of s) ≡ some t → (text_of s ≡ some t → End s t) → Shorter (b ∷ s) t
  passed b s true e f = absurd (none-ne-some t e)
  passed b s false e f = let (w, q) = f e in (b ∷ w, ap (λ (l : List ℕ). b ∷ l) q, omega arith)

  text_end : (s : List ℕ) → text_of s ≡ some t → End s t
  unfolding text_of
  text_end [] e = ([], some-injective [] t e)
  text_end (b ∷ s) e = go (eqb b 0x3C || eqb b 0x26) e (text_end s)
    where
      go : (x : Bool) → cond x (some (b ∷ s)) (cond (begins (bytes "]]>") (b ∷ s)) none (text_of s)) ≡ some t
          → (text_of s ≡ some t → End s t) → End (b ∷ s) t
      go true e f = ([], some-injective (b ∷ s) t e)
      go false e f = let (w, q, h) = passed b s (begins (bytes "]]>") (b ∷ s)) e f in (w, q)

  pub text_shorter : (b : ℕ) (s : List ℕ) → eqb b 0x3C || eqb b 0x26 ≡ false → text_of (b ∷ s) ≡ some t → Shorter (b ∷ s) t
  unfolding text_of
  text_shorter b s h e = passed b s (begins (bytes "]]>") (b ∷ s)) (rw h at e) (text_end s)

-- ---- instructions

target_leaves : Leaves target_of
unfolding target_of
target_leaves =
    record {
      ends = λ s t e.
          let (m, p, q) = then_some (name_of s) (λ m. cond (is_xml (before s m)) none (some m)) t e in
          kept (is_xml (before s m)) q (name_leaves.ends s m p);
    }
  where
    kept : {s m t : List ℕ} (b : Bool) → cond b none (some m) ≡ some t → End s m → End s t
    kept {t = t} true e (w, p) = absurd (none-ne-some t e)
    kept false e (w, p) = rw (← some-injective _ _ e) (w, p)

pub instruction_shrinks : Shrinks instruction_of
unfolding instruction_of instruction_end
instruction_shrinks =
    lead_shrinks (lit_shrinks _ _)
    (then_leaves target_leaves
    (or_leaves (lit_leaves (bytes "?>")) (if_leaves (starts is_space) (after_leaves (seek_end (bytes "?>")) (lit_leaves (bytes "?>"))))))

-- ---- the declaration

quotes_leaves : {f : List ℕ → Option (List ℕ)} → Leaves f → Leaves (in_quotes f)
quotes_leaves k =
    or_leaves (then_leaves (lit_leaves (bytes "'")) (then_leaves k (lit_leaves (bytes "'"))))
    (then_leaves (lit_leaves (bytes "\"")) (then_leaves k (lit_leaves (bytes "\""))))

setting_leaves : (w : List ℕ) (f : List ℕ → Option (List ℕ)) → Leaves f → Leaves (setting_of w f)
setting_leaves w f k = then_leaves space_leaves (then_leaves (lit_leaves w) (then_leaves eq_leaves (quotes_leaves k)))

version_leaves : Leaves version_of
unfolding version_of
version_leaves = then_leaves (lit_leaves (bytes "1.")) (led_leaves is_decimal is_decimal)

encoding_leaves : Leaves encoding_of
unfolding encoding_of
encoding_leaves = led_leaves is_letter is_encoding

yes_leaves : Leaves yes_or_no
unfolding yes_or_no
yes_leaves = or_leaves (lit_leaves (bytes "yes")) (lit_leaves (bytes "no"))

pub declaration_shrinks : Shrinks declaration_of
unfolding declaration_of
declaration_shrinks =
    lead_shrinks (lit_shrinks _ _)
    (then_leaves (setting_leaves (bytes "version") version_of version_leaves)
    (after_leaves (stay_end (setting_leaves (bytes "encoding") encoding_of encoding_leaves))
    (after_leaves (stay_end (setting_leaves (bytes "standalone") yes_or_no yes_leaves))
    (after_leaves skip_end (lit_leaves (bytes "?>"))))))
