-- Usual characters, by their bytes: which bytes go on with a character, which stand in no usual one, which second bytes are out of bounds,
-- and which are asked for. Then the block of 64 bytes, and the place after it. proofs/Owed.antt shows that these are characters of [2].
use Rattle.std.specs.Prelude.{Bool, cond, not, ◌&&◌, ◌||◌, List, ℕ, ◌+◌, eqb, leb, ltb, get_or}
use Rattle.std.specs.Bool.{beq}
use Rattle.xml.specs.Range.{◌–◌, inside}
use Rattle.xml.specs.Productions.{is_char}
use Rattle.blocks.specs.Block.{is_other, some_of}

-- a second, third or fourth byte
unfoldable pub is_later : ℕ → Bool
is_later b = inside (0x80 – 0xBF) b

-- a byte that stands in no usual character: a control character, C0 and C1, which begin overlong forms alone, and from F1 on
unfoldable pub is_never : ℕ → Bool
is_never a = (ltb a 0x20 && not (is_char a) || inside (0xC0 – 0xC1) a) || leb 0xF1 a

-- b after a would make an overlong form, a surrogate, or one of U+FFC0 to U+FFFF, of which two are no characters
unfoldable pub is_outside : ℕ → ℕ → Bool
is_outside a b =
    ((eqb a 0xE0 && ltb b 0xA0 || eqb a 0xED && leb 0xA0 b) || eqb a 0xEF && eqb b 0xBF) || eqb a 0xF0 && ltb b 0x90

-- one of the two, and not both
unfoldable pub differ : Bool → Bool → Bool
differ x y = not (beq x y)

-- a is in no usual character, or b is out of bounds after it, or d goes on with one and is not asked for by a, b or c, or the reverse
unfoldable pub is_odd : ℕ → ℕ → ℕ → ℕ → Bool
is_odd a b c d = (is_never a || is_outside a b) || differ ((leb 0xF0 a || leb 0xE0 b) || leb 0xC0 c) (is_later d)

unfoldable pub odd_at : List ℕ → ℕ → Bool
odd_at d i = is_odd (get_or d i 0) (get_or d (i + 1) 0) (get_or d (i + 2) 0) (get_or d (i + 3) 0)

-- a goes on with a character, or b or c does and is not asked for, or the reverse
unfoldable pub is_cut : ℕ → ℕ → ℕ → Bool
is_cut a b c = (is_later a || differ (leb 0xC0 a) (is_later b)) || differ (leb 0xE0 a || leb 0xC0 b) (is_later c)

unfoldable pub cut_at : List ℕ → ℕ → Bool
cut_at d i = is_cut (get_or d i 0) (get_or d (i + 1) 0) (get_or d (i + 2) 0)

-- the place after the bytes from i on that go on with a character, up to three
unfoldable pub after_later : List ℕ → ℕ → ℕ
after_later d i =
    cond (is_later (get_or d i 0)) (cond (is_later (get_or d (i + 1) 0)) (cond (is_later (get_or d (i + 2) 0)) (i + 3) (i + 2)) (i + 1)) i

-- a is in no character of one or two bytes, or b goes on with one and is not asked for by a, or the reverse
unfoldable pub is_strange : ℕ → ℕ → Bool
is_strange a b = (is_never a || leb 0xE0 a) || differ (leb 0xC0 a) (is_later b)

unfoldable pub strange_at : List ℕ → ℕ → Bool
strange_at d i = is_strange (get_or d i 0) (get_or d (i + 1) 0)

-- the place after 64 bytes whose characters have one or two bytes: the last of them may go over the end; else i
unfoldable pub after_pairs : List ℕ → ℕ → ℕ
after_pairs d i =
    cond (is_later (get_or d i 0)) i (cond (some_of (λ k. strange_at d (i + k)) 64) i
    (cond (is_later (get_or d (i + 64) 0)) (i + 65) (i + 64)))

-- the place after 64 bytes that are plain, or whose characters are usual: the last of them may go over the end; else i
unfoldable pub after_block : List ℕ → ℕ → ℕ
after_block d i =
    cond (some_of (λ k. is_other (get_or d (i + k) 0)) 64)
    (cond (eqb (after_pairs d i) i)
    (cond (cut_at d i) i (cond (some_of (λ k. odd_at d (i + k)) 64) i (after_later d (i + 64)))) (after_pairs d i)) (i + 64)
