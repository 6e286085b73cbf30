-- `end_tags`: of the levels up to `top` the end tags of those above `level` are laid, the innermost first.
-- None has over 16,777,219 bytes, and there are 64 at most.
use mathlib.Core.Path.{◌≡◌, refl, sym, ap, ◌∙◌}
use mathlib.Core.List.{List, [], ◌∷◌, ◌++◌, append_assoc, append-nil}
use Prim.Native.Nat.{ℕ, zero, suc, ◌+◌, ◌-◌, ◌*◌, ◌≤◌, ◌<◌}
use native.Mathlib.Omega.{arith}
use mir.Syntax.{w64}
use mir.Val.{Fits}
use lib.ListN.{length, take, drop, get_or, length-append, length-drop}
use lib.Seq.{length-take-le}
use Rattle.xml.specs.Forest.{end_tag}
use Rattle.tags.specs.Kept.{name_from}
use Rattle.document.specs.Levels.{Names, names_of}
use Rattle.document.specs.declared.Open.{Open}
use Rattle.writer.specs.Wrote.{Wrote}
use Rattle.writer.proofs.Laying.{wrote_none, wrote_more, wrote_long}
use Rattle.mend.specs.Mended.{end_tags}

pub record Closing (d starts lens o : List ℕ) (at top level end : ℕ) (o' : List ℕ) : Type 0 where
  pub high : level ≤ top
  pub far : end ≤ at + (top - level) * 16777219
  pub same : length o' ≡ length o
  pub done : List ℕ
  pub wrote : Wrote o at done end o'
  pub whole : done ++ end_tags (names_of d starts lens level) ≡ end_tags (names_of d starts lens top)

pub close_start : {d starts lens o : List ℕ} {at top : ℕ} → Closing d starts lens o at top top at o
close_start = record { high = omega arith; far = omega arith; same = refl; done = []; wrote = wrote_none; whole = refl }

-- the bytes of a name, as the code lends them
name_lent : (d : List ℕ) (a n : ℕ) → take (a + n - a) (drop a d) ≡ name_from d a n
name_lent d a n =
    let q : a + n - a ≡ n = omega arith in
    rw q

-- the innermost level comes first
innermost : (d starts lens : List ℕ) (level : ℕ) → 0 < level
    → end_tags (names_of d starts lens level)
    ≡ end_tag (name_from d (get_or starts (level - 1) 0) (get_or lens (level - 1) 0)) ++ end_tags (names_of d starts lens (level - 1))
innermost d starts lens zero l = absurd (omega arith)
innermost d starts lens (suc k) l =
    let z : suc k - 1 ≡ k = omega arith in
    rw z

module _ {d starts lens o o₁ : List ℕ} {at top level end : ℕ} (v : Closing d starts lens o at top level end o₁) {x : Open}
    (p : Names d starts lens x) (t : top ≡ x.level.0) (small : length d ≤ 16777216) where
  abbrev a : ℕ
  a = get_or starts (level - 1) 0

  abbrev n : ℕ
  n = get_or lens (level - 1) 0

  pub close_level : 0 < level → level - 1 < 64
  close_level l = omega (arith, v.high, p.deep)

  pub close_inside : 0 < level → a + n ≤ length d
  close_inside l = p.inside (level - 1) (omega (arith, v.high))

  pub close_fits : 0 < level → Fits w64 (a + n)
  close_fits l = record { fits = omega (arith, close_inside l) }

  name_long : 0 < level → length (take (a + n - a) (drop a d)) ≡ n
  name_long l = rw (name_lent d a n) (length-take-le n (drop a d) (omega (arith, length-drop a d, close_inside l)))

  pub close_room : 0 < level → at ≤ 16777216 → end + length (take (a + n - a) (drop a d)) + 3 ≤ 18446744073709551615
  close_room l h = omega (arith, v.far, v.high, p.deep, name_long l, close_inside l)

  module _ (l : 0 < level) {r : ℕ} {o₂ : List ℕ} (w : Wrote o₁ end (end_tag (take (a + n - a) (drop a d))) r o₂) where
    pub close_step : Closing d starts lens o at top (level - 1) r o₂
    close_step =
        let q = name_lent d a n in
        let e : length (end_tag (take (a + n - a) (drop a d))) ≡ n + 3
        = omega (arith, length-append (take (a + n - a) (drop a d)) (62 ∷ []), name_long l) in
        record {
          high = omega (arith, v.high);
          far = omega (arith, v.far, v.high, w.long, e, close_inside l);
          same = wrote_long w ∙ v.same;
          done = v.done ++ end_tag (name_from d a n);
          wrote = wrote_more v.wrote (rw q at w);
          whole = append_assoc v.done (end_tag (name_from d a n)) (end_tags (names_of d starts lens (level - 1)))
              ∙ ap (λ (s : List ℕ). v.done ++ s) (sym (innermost d starts lens level l))
              ∙ v.whole;
        }

  pub close_whole : level ≤ 0 → Wrote o at (end_tags (names_of d starts lens x.level.0)) end o₁
  close_whole l =
      let z : level ≡ 0 = omega arith in
      let e : v.done ≡ end_tags (names_of d starts lens x.level.0)
      = sym (append-nil v.done) ∙ rw (z, t) at v.whole in
      rw e at v.wrote

pub ruleset closing = (close_start, close_level, close_inside, close_fits, close_room, close_step, close_whole)
