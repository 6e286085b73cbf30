-- `cut`, and the functions under it: one law for each way out, about the answer and about the buffer. They are those of the crate cutter,
-- with the number of name tests left out. What `whole` comes to is read as a pass whose log has no room: nothing is said of notes.
use mathlib.Core.Path.{◌≡◌, refl, sym, ap, ◌∙◌}
use mathlib.Core.Bool.{Bool, true, false, cond}
use mathlib.Core.List.{List, []}
use Prim.Native.Nat.{ℕ, ◌≤◌, ◌<◌}
use native.Mathlib.Omega.{arith}
use lib.ListN.{length, drop}
use Rattle.std.specs.Prelude.{Result, Ok, Err, ⊤}
use Rattle.paths.specs.Judge.{list_answer}
use Rattle.paths.specs.declared.ListError.{ListError}
use Rattle.chars.specs.Check.{check_of}
use Rattle.std.specs.Prelude.{Result, Ok, Err}
use Rattle.chars.specs.declared.whole.CharError.{CharError}
use Rattle.readers.specs.Named.{other_encoding}
use Rattle.document.specs.Judge.{start_of}
use Rattle.document.specs.declared.ItemError.{ItemError}
use Rattle.trees.specs.Written.{tests_of}
use Rattle.passes.specs.Passed.{PassedBy}
use Rattle.passes.specs.declared.Measured.{Measured}
use Rattle.cutter.specs.Answer.{answer_by, bytes_by, answer_of, bytes_after}
use Rattle.cutter.specs.declared.answer.Cut.{Cut as Full}
use Rattle.refusals.specs.declared.CutError.{CutError}
use Rattle.cutter.proofs.Cutting.{AnswersBy, AnswersOf, both_by, both, by_long, by_other, by_char}
use Rattle.cutter.proofs.Cutting.{written_fault, written_short, written_whole, cut_sound, cut_refused}
use Rattle.descent.specs.Answer.{without}
use Rattle.descent.specs.Tree.{WholeTold, WholeIs}
use Rattle.descent.specs.declared.answer.Cut.{Cut}
use Rattle.document.specs.declared.DocumentError.TheVariants as judged
use Rattle.refusals.specs.declared.CutError.TheVariants as errors
use Rattle.descent.specs.declared.tree.End.{End}

-- ---- the answer and the buffer, together: by a sound list and by any

abbrev pub PlainBy : List ℕ → List ℕ → List ℕ → Result Cut CutError → List ℕ → Type 0
PlainBy list d o r o' = (r ≡ without (answer_by list d (length o))) × (o' ≡ bytes_by list d o)

abbrev pub PlainOf : List ℕ → List ℕ → List ℕ → Result Cut CutError → List ℕ → Type 0
PlainOf list d o r o' = (r ≡ without (answer_of list d (length o))) × (o' ≡ bytes_after list d o)

plain_by : (list d o : List ℕ) {a : Result Full CutError} {o' : List ℕ} → AnswersBy list d o a o' → PlainBy list d o (without a) o'
plain_by list d o v = let z = both_by list d o v in (ap without z.0, z.1)

plain : (list d o : List ℕ) {a : Result Full CutError} {o' : List ℕ} → AnswersOf list d o a o' → PlainOf list d o (without a) o'
plain list d o v = let z = both list d o v in (ap without z.0, z.1)

-- ---- a sound list and a document of characters

-- a log without room, and one note
abbrev pass_by : Bool → List ℕ → List ℕ → Result End ItemError → Result Measured ItemError
pass_by counts list d (Ok e) =
    Ok (record { length = e.run.len; selected = e.run.count; tests = cond counts (tests_of list d) 0; noted = 1 })
pass_by counts list d (Err f) = Err f

passed : (counts : Bool) (list d o : List ℕ) (x : Result End ItemError) (o' : List ℕ) → WholeTold list d o x o'
    → PassedBy counts list d o (pass_by counts list d x) o' []
passed counts list d o (Ok e) o' p =
    record {
      judged = p.sound;
      told = (
        p.long,
        p.counted,
        refl,
        p.laid,
        record { text = λ l. absurd (omega arith); inside = λ l. absurd (omega arith) },
      );
    }
passed counts list d o (Err f) o' p = record { judged = p; told = tt }

module _ (list d o : List ℕ) (small : length d ≤ 16777216) (utf8 : other_encoding (drop (start_of d) d) ≡ false)
    (chars : check_of d ≡ Ok tt) (s : List ℕ) (x : Result End ItemError) (s' : List ℕ) (p : WholeIs list d s x s') where
  pub plain_fault : {f : ItemError} → x ≡ Err f → PlainBy list d o (Err (errors.Document (judged.At f.why f.at))) o
  plain_fault q =
      let first = passed true list d s x s' p.told in
      plain_by list d o (written_fault list d o small utf8 chars first (ap (pass_by true list d) q))

  module _ {e : End} (q : x ≡ Ok e) where
    pub plain_short : length o < e.run.len → PlainBy list d o (Err (errors.Short e.run.len)) o
    plain_short l =
        plain_by list d o (written_short list d o small utf8 chars (passed true list d s x s' p.told) (ap (pass_by true list d) q) l)

    pub plain_whole : e.run.len ≤ length o → (y : Result End ItemError) (o' : List ℕ) → WholeIs list d o y o'
        → PlainBy list d o (Ok (record { length = e.run.len; selected = e.run.count })) o'
    plain_whole l y o' p₂ =
        let first = passed true list d s x s' p.told in
        let second = passed false list d o y o' p₂.told in
        plain_by list d o (written_whole list d o small utf8 chars first (ap (pass_by true list d) q) l second)

-- ---- a sound list

module _ (list d o : List ℕ) where
  pub plain_long : 16777216 < length d → PlainBy list d o (Err (errors.Document judged.TooLong)) o
  plain_long l = plain_by list d o (by_long list d o l)

  pub plain_other : length d ≤ 16777216 → {k : ℕ} → k ≡ start_of d → {b : Bool} → b ≡ other_encoding (drop k d) → b ≡ true
      → PlainBy list d o (Err (errors.Document (judged.OtherEncoding k))) o
  plain_other l e q h = plain_by list d o (by_other list d o l e q h)

  pub plain_char : length d ≤ 16777216 → other_encoding (drop (start_of d) d) ≡ false → {c : Result Unit CharError}
      → c ≡ check_of d → {k : ℕ}
      → c ≡ Err (record { valid_up_to = k }) → PlainBy list d o (Err (errors.Document (judged.NotChar k))) o
  plain_char l n e q = plain_by list d o (by_char list d o l n e q)

-- ---- any list

module _ (list d o : List ℕ) {a : Result ⊤ ListError} (e : a ≡ list_answer list) where
  pub plain_sound : a ≡ Ok tt → {r : Result Cut CutError} {o' : List ℕ} → PlainBy list d o r o' → PlainOf list d o r o'
  plain_sound q v =
      let z = plain list d o (cut_sound list d o e q refl v.1) in
      (v.0 ∙ z.0, z.1)

  pub plain_refused : {x : ListError} → a ≡ Err x → PlainOf list d o (Err (errors.List x)) o
  plain_refused q = plain list d o (cut_refused list d o e q)
