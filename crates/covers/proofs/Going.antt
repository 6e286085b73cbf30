-- The laws of `every`: narrow line by narrow line, as long as each is covered.
-- What is left of the narrow list is covered just if the whole is.
use mathlib.Core.Path.{◌≡◌, refl, sym, ap, ◌∙◌}
use mathlib.Core.Bool.{Bool, true, false, not, false≢true, true≢false, ◌&&◌}
use mathlib.Core.List.{List, [], map}
use Prim.Native.Nat.{ℕ, ◌-◌, ◌≤◌, ◌<◌}
use native.Mathlib.Omega.{arith}
use lib.ListN.{length, take, drop}
use Rattle.std.specs.Prelude.{Ok}
use Rattle.utf8.proofs.Place.{drop_end}
use Rattle.paths.specs.Path.{Path}
use Rattle.paths.specs.Reader.{Run}
use Rattle.paths.specs.Judge.{lines, list_answer, list_paths}
use Rattle.paths.proofs.Lines.{sound_nil, lines_none}
use Rattle.paths.proofs.Here.{LineHere, line_here, sound_lines}
use Rattle.compiled.specs.Bits.{bits_of}
use Rattle.compiled.proofs.InLine.{sound_bytes}
use Rattle.compiled.proofs.OverLines.{sound_sized}
use Rattle.matcher.specs.Fit.{Serves}
use Rattle.matcher.specs.State.{fresh_state}
use Rattle.matcher.specs.Test.{lays}
use Rattle.matcher.specs.Says.{some as any_of}
use Rattle.covers.specs.Test.{stands_for, every, covered}
use Rattle.covers.specs.Line.{LineIs, Inside, Lined}
use Rattle.covers.specs.Sending.{sends_by, run_bits, sent_bits}
use Rattle.covers.specs.Standing.{some_by}
use Rattle.covers.specs.declared.line.Line.{Line}
use Rattle.covers.proofs.Lines.{line_of, line_runs, line_less, line_in}
use Rattle.covers.proofs.Sent.{run_laid}
use Rattle.covers.proofs.Stood.{lines_inside, some_stands}

-- ---- line by line

-- a path of the narrow list is covered
abbrev is_covered : List ℕ → Path → Bool
is_covered wide p = any_of (λ q. stands_for p q) (list_paths wide)

-- the lines before the place at are covered
pub record Going (narrow wide : List ℕ) (at : ℕ) : Type 0 where
  pub rest : every (is_covered wide) (lines (drop at narrow)).all ≡ covered (list_paths narrow) (list_paths wide)
  pub left : (lines (drop at narrow)).rest ≡ []
  pub inside : at ≤ length narrow
  pub bytes : length narrow ≤ 8192

pub go_start : {narrow : List ℕ} (wide : List ℕ) → list_answer narrow ≡ Ok tt → Going narrow wide 0
unfolding covered
go_start {narrow} wide e =
    let q = sound_lines narrow e in
    record {
      rest = ap (λ (r : Run Path). every (is_covered wide) r.all) q;
      left = ap (λ (r : Run Path). r.rest) q;
      inside = omega arith;
      bytes = sound_bytes narrow e;
    }

module _ {narrow wide : List ℕ} {at : ℕ} (v : Going narrow wide at) where
  pub go_end : length narrow ≤ at → true ≡ covered (list_paths narrow) (list_paths wide)
  go_end l =
      let n : lines (drop at narrow) ≡ record { all = []; rest = [] } = ap lines (drop_end narrow at l) ∙ lines_none [] sound_nil in
      ap (λ (r : Run Path). every (is_covered wide) r.all) (sym n) ∙ v.rest

  module _ (l : at < length narrow) {r : Line} (w : LineIs narrow at r) where
    there : LineHere narrow at
    there = line_here narrow at v.left l

    pub go_inside : Inside narrow r
    go_inside = (line_of w there).within

    pub go_less : length narrow - r.next < length narrow - at
    go_less = line_less w there

    module _ {t : List ℕ} (s : Serves wide t) {all : List Line} {count : ℕ} (u : Lined wide all count) {sent : ℕ}
        (p : sent ≡ sent_bits (list_paths wide) narrow at) {b : Bool} (q : b ≡ some_by narrow r wide (take count all) sent) where
      sent_are : sent ≡ bits_of (map (λ q. lays sends_by there.path.steps q.steps) (list_paths wide))
      unfolding sent_bits
      sent_are =
          let z = sound_sized wide s.sound in
          p
          ∙ ap (run_bits (list_paths wide) fresh_state 0) there.has_steps
          ∙ run_laid (list_paths wide) z.few z.short there.path.steps there.good.path.some

      covered_is : b ≡ is_covered wide there.path
      covered_is =
          q
          ∙ ap (some_by narrow r wide (take count all)) sent_are
          ∙ some_stands (line_of w there) u.each

      first : (b && every (is_covered wide) (lines (drop r.next narrow)).all) ≡ covered (list_paths narrow) (list_paths wide)
      first =
          ap (λ (c : Bool). c && every (is_covered wide) (lines (drop r.next narrow)).all) covered_is
          ∙ ap (λ (y : Run Path). every (is_covered wide) y.all) (sym (line_runs w there))
          ∙ v.rest

      pub go_stop : not b ≡ true → false ≡ covered (list_paths narrow) (list_paths wide)
      go_stop h = go b h ∙ first
        where
          go : (c : Bool) → not c ≡ true → false ≡ (c && every (is_covered wide) (lines (drop r.next narrow)).all)
          go true h = absurd (false≢true h)
          go false h = refl

      pub go_on : not b ≡ false → Going narrow wide r.next
      go_on h =
          record {
            rest = go b h ∙ first;
            left = sym (ap (λ (y : Run Path). y.rest) (line_runs w there)) ∙ v.left;
            inside = line_in w there;
            bytes = v.bytes;
          }
        where
          go : (c : Bool) → not c ≡ false
              → every (is_covered wide) (lines (drop r.next narrow)).all
              ≡ (c && every (is_covered wide) (lines (drop r.next narrow)).all)
          go true h = refl
          go false h = absurd (true≢false h)

pub ruleset going = (go_start, go_end, go_inside, lines_inside, go_less, go_stop, go_on)
