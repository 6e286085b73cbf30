-- Attribute values. In order: a value's pieces, of which the plain ones are passed byte by byte, and which leave a shorter end;
-- [10] AttValue. References are in proofs/Reference.
use mathlib.Core.Path.{◌≡◌, refl, sym, ap, ◌∙◌}
use mathlib.Core.Bool.{Bool, true, false, cond, ◌||◌, or-true, or-false}
use mathlib.Core.List.{List, [], ◌∷◌, ◌++◌}
use mathlib.Core.Logic.{inl, inr}
use mathlib.Core.Option.{Option, none, some, none-ne-some, some-injective}
use Prim.Native.Nat.{ℕ, zero, suc, ◌≤◌, ◌<◌}
use Prim.Native.String.{String}
use native.Mathlib.Omega.{arith}
use lib.ListN.{length, length-append}
use lib.Dec.{eqb, ltb, lit<}
use borrow.Author.Tests.{eq-eqb, ne_eqb, ltb-true, ltb-false, lt-ltb}
use Rattle.xml.specs.Notation.{Rule, Reads, Star, done, more, lit, char, bytes, among, ◌⨾◌, ◌∣◌, ◌∗}
use Rattle.xml.specs.Utf8.{utf8, is_scalar}
use Rattle.xml.specs.Productions.{is_char, except, Reference, AttValue}
use Rattle.xml.proofs.Bools.{true-false}
use Rattle.xml.proofs.Utf8.{utf8_low, utf8_long}
use Rattle.readers.specs.Read.{expect, many}
use Rattle.readers.specs.Value.{rest_of, reference_end, plain_byte, piece_of, quoted_of, value_of}
use Rattle.readers.specs.Plain.{is_mark}
use Rattle.readers.specs.Meaning.{Chars, Decides}
use Rattle.readers.proofs.Combine.{lit_sound, lit_complete, lit_then, then_some, chars_left, Apart, alt_decides}
use Rattle.readers.proofs.Left.{Shorter, shorter_length}
use Rattle.readers.proofs.Many.{Shrinks, lit_shrinks, or_shrinks, then_shrinks, after_shrinks}
use Rattle.readers.proofs.Many.{many_stop, many_step, many_end}
use Rattle.readers.proofs.Plain.{pass_char, except_not, not_except}
use Rattle.readers.proofs.Reference.{refers_said, reads_refers, refers_reads, end_refers, refers_first, refers_shorter}
use Rattle.readers.proofs.Reference.{reference_ascii, reference_other, reference_shrinks}

-- ---- the pieces of a value

pub piece_plain : (q b : ℕ) (s : List ℕ) → is_mark q b ≡ false → piece_of q (b ∷ s) ≡ some s
unfolding piece_of
piece_plain q b s h = rw h

pub piece_marked : (q b : ℕ) (s : List ℕ) → is_mark q b ≡ true → piece_of q (b ∷ s) ≡ reference_end (b ∷ s)
unfolding piece_of
piece_marked q b s h = rw h

plain_shrinks : (q : ℕ) → Shrinks (plain_byte q)
plain_shrinks q = record { front = from }
  where
    from : (s t : List ℕ) → plain_byte q s ≡ some t → Shorter s t
    from [] t e = absurd (none-ne-some t e)
    from (b ∷ s) t e = go (is_mark q b) e
      where
        go : (c : Bool) → cond c none (some s) ≡ some t → Shorter (b ∷ s) t
        go true e = absurd (none-ne-some t e)
        go false e = (b ∷ [], ap (λ (l : List ℕ). b ∷ l) (some-injective s t e), omega arith)

pub piece_shrinks : (q : ℕ) → Shrinks (piece_of q)
unfolding piece_of
piece_shrinks q = or_shrinks (plain_shrinks q) reference_shrinks

quoted_shrinks : (q : ℕ) → Shrinks (quoted_of q)
unfolding quoted_of
quoted_shrinks q = then_shrinks (lit_shrinks q []) (after_shrinks (many_end (piece_shrinks q)) (lit_shrinks q []))

pub value_shrinks : Shrinks value_of
unfolding value_of
value_shrinks = or_shrinks (quoted_shrinks 0x22) (quoted_shrinks 0x27)

-- ---- [10] AttValue

-- values in quotes q; xs are the marks
module _ (q : ℕ) (xs : String) (low : q < 0x80) (other : q ≡ 0x26 → ⊥) (marks : (c : ℕ) → among (bytes xs) c ≡ is_mark q c) where
  abbrev Piece : Rule
  Piece = char (except xs) ∣ Reference

  mark_high : (b : ℕ) → 0x80 ≤ b → is_mark q b ≡ false
  unfolding is_mark
  mark_high b l = rw (ne_eqb b 0x3C (omega arith), ne_eqb b 0x26 (omega arith), ne_eqb b q (omega arith))

  mark_low : (c : ℕ) → is_mark q c ≡ true → c < 0x80
  mark_low c h = go (ltb c 0x80) refl
    where
      go : (b : Bool) → ltb c 0x80 ≡ b → c < 0x80
      go true e = ltb-true c 0x80 e
      go false e = absurd (true-false h (mark_high c (ltb-false c 0x80 e)))

  -- a plain character is passed
  pieces_char : (c : ℕ) (s : List ℕ) → is_mark q c ≡ false → many (piece_of q) 0 (utf8 c ++ s) ≡ many (piece_of q) 0 s
  pieces_char c s h = pass_char (many (piece_of q) 0) (λ b s l. one b s (mark_high b l)) c s (λ l e. one c s h)
    where
      one : (b : ℕ) (s : List ℕ) → is_mark q b ≡ false → many (piece_of q) 0 (b ∷ s) ≡ many (piece_of q) 0 s
      one b s h = many_step (piece_shrinks q) (b ∷ s) s (piece_plain q b s h)

  -- a reference is passed
  pieces_reference : (s t : List ℕ) → (m : List ℕ) × (s ≡ 0x26 ∷ m) → reference_end s ≡ some t
      → many (piece_of q) 0 s ≡ many (piece_of q) 0 t
  unfolding is_mark
  pieces_reference s t (m, e) h =
      many_step (piece_shrinks q) s t (ap (piece_of q) e ∙ piece_marked q 0x26 m refl ∙ ap reference_end (sym e) ∙ h)

  -- pieces lead from s to where the reader stops
  abbrev Passes : List ℕ → Type 0
  Passes s = Star (Reads Piece) s (many (piece_of q) 0 s)

  -- one piece, after which the others are passed
  pieces_one : {s : List ℕ} (c : ℕ) (m : List ℕ) → is_scalar c ≡ true → is_char c ≡ true → s ≡ utf8 c ++ m → Chars s → Chars m
      → ((t : List ℕ) → length t < length s → Chars t → Passes t) → Passes s
  pieces_one {s} c m k p e d d' later = go (is_mark q c) refl
    where
      refers : s ≡ c ∷ m → is_mark q c ≡ true → (o : Option (List ℕ)) → reference_end s ≡ o → Passes s
      refers z h none x = rw (many_stop (piece_of q) s (ap (piece_of q) z ∙ piece_marked q c m h ∙ ap reference_end (sym z) ∙ x)) done
      refers z h (some t) x =
          let (n, y) = end_refers x in
          let r = refers_reads y in
          rw (pieces_reference s t (refers_first y) x)
          (more (inr r) (later t (shorter_length (refers_shorter y)) (chars_left Reference reference_ascii s t d r)))

      go : (b : Bool) → is_mark q c ≡ b → Passes s
      go true h = refers (e ∙ rw (utf8_low c (mark_low c h))) h (reference_end s) refl
      go false h =
          let r : Reads Piece s m = inl (c, k, not_except xs c p (marks c ∙ h), e) in
          let l : length m < length s = omega (arith, utf8_long c, ap length e ∙ length-append (utf8 c) m) in
          rw (ap (many (piece_of q) 0) e ∙ pieces_char c m h) (more r (later m l d'))

  -- by the length, since a reference takes several characters at once
  pieces_within : (n : ℕ) {s : List ℕ} → length s < n → Chars s → Passes s
  unfolding many
  pieces_within zero l d = absurd (omega arith)
  pieces_within (suc n) l done = done
  pieces_within (suc n) l (more {s = s} {m = m} (c, k, p, e) d) =
      pieces_one c m k p e (more (c, k, p, e) d) d (λ t h d'. pieces_within n {s = t} (omega arith) d')

  pieces_read : (s : List ℕ) → Chars s → Passes s
  pieces_read s d = pieces_within (suc (length s)) (omega arith) d

  -- the quote is no piece
  quote_stops : (t : List ℕ) → piece_of q (q ∷ t) ≡ none
  unfolding is_mark
  quote_stops t =
      piece_marked q q t (rw (eq-eqb q q refl, or-true (eqb q 0x26), or-true (eqb q 0x3C))) ∙ ap rest_of (reference_other q t other)

  -- pieces up to the quote are all that is passed
  pieces_only : {s m : List ℕ} (t : List ℕ) → Chars s → Star (Reads Piece) s m → m ≡ q ∷ t → many (piece_of q) 0 s ≡ m
  pieces_only {s} t d done e = many_stop (piece_of q) s (rw e (quote_stops t))
  pieces_only t d (more {s = s} {m = m} (inl (c, k, p, e)) rs) z =
      ap (many (piece_of q) 0) e ∙ pieces_char c m (sym (marks c) ∙ except_not xs c p)
      ∙ pieces_only t (chars_left (char (except xs)) tt s m d (c, k, p, e)) rs z
  pieces_only t d (more {s = s} {m = m} (inr r) rs) z =
      (let (n, y) = reads_refers r in pieces_reference s m (refers_first y) (ap rest_of (refers_said y)))
      ∙ pieces_only t (chars_left Reference reference_ascii s m d r) rs z

  quoted_decides : Decides (lit (q ∷ []) ⨾ Piece ∗ ⨾ lit (q ∷ [])) (quoted_of q)
  unfolding quoted_of
  quoted_decides = lit_then (q ∷ []) (rw (lt-ltb q 0x80 low))
      (record {
        sound = λ {s} {t} d e. (many (piece_of q) 0 s, pieces_read s d, lit_sound (q ∷ []) (many (piece_of q) 0 s) t e);
        complete = λ {s} {t} d (m, r, e). rw (pieces_only t d r e) (lit_complete (q ∷ []) m t e);
      })

three_marks : (a b c : Bool) → a || (b || (c || false)) ≡ a || (b || c)
three_marks a b c = rw (or-false c)

quoted_apart : Apart (quoted_of 0x22) (quoted_of 0x27)
unfolding quoted_of expect
quoted_apart =
    record {
      apart = λ s t e.
          let (m, a, b) = then_some (expect (bytes "\"") s) _ t e in
          rw (lit_sound (bytes "\"") s m a);
    }

pub value_decides : Decides AttValue value_of
unfolding value_of is_mark
value_decides =
    alt_decides
    (quoted_decides 0x22 "<&\"" (lit< tt) (omega arith) (λ c. three_marks (eqb c 0x3C) (eqb c 0x26) (eqb c 0x22)))
    (quoted_decides 0x27 "<&'" (lit< tt) (omega arith) (λ c. three_marks (eqb c 0x3C) (eqb c 0x26) (eqb c 0x27)))
    quoted_apart
