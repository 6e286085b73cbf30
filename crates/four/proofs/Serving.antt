-- One client's part in a call: laws of `head_of`, `by_pass` and `serve`, one for each way out; then what a client has
-- when all are served, with no second pass and with one.
use mathlib.Core.Path.{◌≡◌, refl, sym, ap, ◌∙◌}
use mathlib.Core.Bool.{Bool, true, false, ◌||◌, false≢true}
use mathlib.Core.List.{List}
use Prim.Native.Nat.{ℕ, ◌≤◌, ◌<◌}
use lib.ListN.{length, drop}
use lib.Seq.{sets}
use Rattle.std.specs.Prelude.{Result, Ok, Err, ⊤}
use Rattle.chars.specs.Check.{check_of}
use Rattle.std.specs.Prelude.{Result, Ok, Err}
use Rattle.chars.specs.declared.whole.CharError.{CharError}
use Rattle.readers.specs.Named.{other_encoding}
use Rattle.paths.specs.Judge.{list_answer}
use Rattle.paths.specs.declared.ListError.{ListError}
use Rattle.document.specs.Judge.{start_of, scanned}
use Rattle.document.specs.declared.ItemError.{ItemError}
use Rattle.document.specs.declared.DocumentError.{DocumentError}
use Rattle.document.proofs.Judging.{judged_named}
use Rattle.writer.specs.Wrote.{Wrote}
use Rattle.notes.specs.Notes.{text_of, Within}
use Rattle.trees.specs.Written.{cut_of, count_of}
use Rattle.passes.specs.Passed.{judged_by, Told, PassedBy, Passed}
use Rattle.passes.specs.declared.Measured.{Measured}
use Rattle.cutter.specs.Answer.{by_list, answer_by, bytes_by, answer_of, bytes_after}
use Rattle.cutter.specs.declared.answer.Cut.{Cut}
use Rattle.refusals.specs.declared.CutError.{CutError}
use Rattle.document.specs.declared.DocumentError.TheVariants as judged
use Rattle.refusals.specs.declared.CutError.TheVariants as errors
use Rattle.cutter.proofs.Cutting.{AnswersBy, AnswersOf, both_by, both, by_long, by_other, by_char, noted_within}
use Rattle.cutter.proofs.Cutting.{written_fault, written_short, written_noted, laid_answers, cut_sound, cut_refused}
use Rattle.together.specs.Joined.{Joins, PassedFor}
use Rattle.four.specs.Parts.{Readable, Headed, Listed, soundness, Inside, Serving, ServedBy, ServedOf}
use Rattle.four.specs.declared.parts.Served.{Served}

-- ---- `head_of`

module _ (d : List ℕ) where
  pub head_long : 16777216 < length d → Headed d (Err judged.TooLong)
  head_long l list o = both_by list d o (by_long list d o l)

  module _ (l : length d ≤ 16777216) {k : ℕ} (e : k ≡ start_of d) {b : Bool} (q : b ≡ other_encoding (drop k d)) where
    pub head_other : b ≡ true → Headed d (Err (judged.OtherEncoding k))
    head_other h list o = both_by list d o (by_other list d o l e q h)

    module _ (h : b ≡ false) {c : Result Unit CharError} (z : c ≡ check_of d) where
      pub head_char : {n : ℕ} → c ≡ Err (record { valid_up_to = n }) → Headed d (Err (judged.NotChar n))
      head_char y list o = both_by list d o (by_char list d o l (judged_named d e q h) z y)

      pub head_items : c ≡ Ok tt → Headed d (Ok tt)
      head_items y = record { small = l; utf8 = judged_named d e q h; chars = sym z ∙ y }

pub head_readable : (d : List ℕ) {h : Result ⊤ DocumentError} → Headed d h → h ≡ Ok tt → Readable d
head_readable d v q = rw q at v

pub ruleset heads = (head_long, head_other, head_char, head_items)

-- ---- a list that is sound, and one that is not

sound_is : (a : Result ⊤ ListError) → soundness a ≡ true → a ≡ Ok tt
sound_is (Ok u) q = refl
sound_is (Err e) q = absurd (false≢true q)

unsound_answers : (a : Result ⊤ ListError) → soundness a ≡ false → (list d o : List ℕ) → a ≡ list_answer list
    → (x : Result Cut CutError) → AnswersOf list d o (by_list a x) o
unsound_answers (Ok u) q list d o e x = absurd (false≢true (sym q))
unsound_answers (Err f) q list d o e x = cut_refused list d o e refl

-- a sound one leaves it to the document
sound_both : (list d o : List ℕ) {a : Result ⊤ ListError} → a ≡ list_answer list → a ≡ Ok tt
    → (answer_by list d (length o) ≡ answer_of list d (length o)) × (bytes_by list d o ≡ bytes_after list d o)
sound_both list d o e q = both list d o (cut_sound list d o e q refl refl)

-- a document that is refused before its items are read
pub refused_both : (list d o : List ℕ) (a : Result ⊤ ListError) → a ≡ list_answer list → {h : Result ⊤ DocumentError} → Headed d h
    → {x : DocumentError} → h ≡ Err x → {r : Result Cut CutError} → r ≡ by_list a (Err (errors.Document x))
    → (r ≡ answer_of list d (length o)) × (o ≡ bytes_after list d o)
refused_both list d o a e {h} v {x} q {r} z = go (soundness a) refl
  where
    headed : Headed d (Err x)
    headed = rw q at v

    go : (b : Bool) → soundness a ≡ b → (r ≡ answer_of list d (length o)) × (o ≡ bytes_after list d o)
    go true s =
        let y = sound_is a s in
        let w = headed list o in
        let u = sound_both list d o e y in
        (z ∙ ap (λ (k : Result ⊤ ListError). by_list k (Err (errors.Document x))) y ∙ w.0 ∙ u.0, w.1 ∙ u.1)
    go false s =
        let w = both list d o (unsound_answers a s list d o e (Err (errors.Document x))) in
        (z ∙ w.0, w.1)

-- ---- `by_pass`

-- nothing is left to be laid
served_done : (list d o : List ℕ) {x : Result Cut CutError} {o' : List ℕ} → AnswersBy list d o x o'
    → Serving (answer_by list d (length o)) (bytes_by list d o) list d o (record { answer = x; left = false }) o'
served_done list d o v =
    let w = both_by list d o v in
    record { answer = w.0; done = λ z. w.1; waits = λ z. absurd (false≢true z) }

module _ (d o g : List ℕ) {m : Result Measured ItemError} where
  pub pass_fault : {f : ItemError} → m ≡ Err f
      → ServedBy d o g m (record { answer = Err (errors.Document (judged.At f.why f.at)); left = false }) o
  pass_fault q list s s' v p = served_done list d o (written_fault list d o v.small v.utf8 v.chars p q)

  module _ {x : Measured} (q : m ≡ Ok x) where
    abbrev wrote : Result Cut CutError
    wrote = Ok (record { length = x.length; selected = x.selected; tests = x.tests })

    pub pass_inside : Inside d g m → x.noted ≤ length g → Within d g x.noted
    pass_inside v = rw q at v

    pub pass_short : length o < x.length → ServedBy d o g m (record { answer = Err (errors.Short x.length); left = false }) o
    pass_short l list s s' v p = served_done list d o (written_short list d o v.small v.utf8 v.chars p q l)

    pub pass_noted : x.length ≤ length o → x.noted ≤ length g → {n : ℕ} {o' : List ℕ} → Wrote o 0 (text_of d g x.noted) n o'
        → ServedBy d o g m (record { answer = wrote; left = false }) o'
    pass_noted l f w list s s' v p = served_done list d o (written_noted list d o v.small v.utf8 v.chars p q l f w)

    pub pass_left : x.length ≤ length o → ServedBy d o g m (record { answer = wrote; left = true }) o
    pass_left l list s s' v p =
        let w = both_by list d o (laid_answers list d o v.small v.utf8 v.chars p q l refl) in
        record {
          answer = w.0;
          done = λ z. absurd (false≢true (sym z));
          waits = λ z. (refl, sym p.judged ∙ ap judged_by q, w.1);
        }

pub ruleset passing = (pass_fault, pass_inside, pass_short, pass_noted, pass_left)

-- ---- `serve`

module _ (d o g : List ℕ) {a : Result ⊤ ListError} (m : Result Measured ItemError) where
  pub serve_inside : (soundness a ≡ true → Inside d g m) → a ≡ Ok tt → Inside d g m
  serve_inside v q = v (ap soundness q)

  pub serve_sound : a ≡ Ok tt → {r : Served} {o' : List ℕ} → ServedBy d o g m r o' → ServedOf d o g a m r o'
  serve_sound q {r} {o'} v = record { serving = go; live = λ z. ap soundness q }
    where
      go : (list s s' : List ℕ) → Readable d → a ≡ list_answer list → (soundness a ≡ true → Passed list d s m s' g)
          → Serving (answer_of list d (length o)) (bytes_after list d o) list d o r o'
      go list s s' y z p =
          let w = v list s s' y (p (ap soundness q)) in
          let u = sound_both list d o z q in
          record {
            answer = w.answer ∙ u.0;
            done = λ n. w.done n ∙ u.1;
            waits = λ n. ((w.waits n).0, (w.waits n).1, (w.waits n).2 ∙ u.1);
          }

  pub serve_unsound : {e : ListError} → a ≡ Err e → ServedOf d o g a m (record { answer = Err (errors.List e); left = false }) o
  serve_unsound {e} q = record { serving = go; live = λ n. absurd (false≢true n) }
    where
      go : (list s s' : List ℕ) → Readable d → a ≡ list_answer list → (soundness a ≡ true → Passed list d s m s' g)
          → Serving (answer_of list d (length o)) (bytes_after list d o) list d o (record { answer = Err (errors.List e); left = false }) o
      go list s s' v h p =
          let w = both list d o (cut_refused list d o h q) in
          record { answer = w.0; done = λ n. w.1; waits = λ n. absurd (false≢true n) }

pub ruleset services = (serve_inside, serve_sound, serve_unsound)

-- ---- a client in `measured`

-- it takes part in the pass that measures where its list is sound
pub joins_sound : {list t g : List ℕ} {a : Result ⊤ ListError} → Listed list a t g → {w : Bool} → w ≡ soundness a → Joins w list t g
joins_sound {a = a} v e =
    record { serves = λ z. record { sound = sym v.said ∙ sound_is a (sym e ∙ z); tables = v.tables }; small = v.small }

-- and in the one that writes where its cut is left to be laid
pub joins_left : {list t g g' d o o' : List ℕ} {a : Result ⊤ ListError} → Listed list a t g → {m : Result Measured ItemError} {r : Served}
    → ServedOf d o g' a m r o'
    → length g' ≡ length g → Joins r.left list t g'
joins_left {a = a} v s e =
    record {
      serves = λ z. record { sound = sym v.said ∙ sound_is a (s.live z); tables = v.tables };
      small = rw e v.small;
    }

noted_inside : (list d s s' g : List ℕ) (m : Result Measured ItemError) → Passed list d s m s' g → Inside d g m
noted_inside list d s s' g (Ok m) p = λ f. noted_within p refl f
noted_inside list d s s' g (Err e) p = tt

-- what `serve` asks of its notes
pub client_inside : {list t g₀ d s s' h g : List ℕ} {a : Result ⊤ ListError} → Listed list a t g₀
    → {m : Result Measured ItemError} {w : Bool}
    → w ≡ soundness a
    → PassedFor w true list d s h m s' g → soundness a ≡ true → Inside d g m
client_inside {list} {d = d} {s} {s'} {g = g} l {m} e v z = noted_inside list d s s' g m (v.passed (e ∙ z))

-- what a second pass laid
second_laid : (list d o o' g : List ℕ) (m : Result Measured ItemError) → PassedBy false list d o m o' g → scanned d ≡ Ok tt
    → o' ≡ sets o 0 (cut_of list d)
second_laid list d o o' g m p e = go m (p.judged ∙ e) p.told
  where
    go : (x : Result Measured ItemError) → judged_by x ≡ Ok tt
        → Told d (cut_of list d) (count_of list d) 0 o x o' g → o' ≡ sets o 0 (cut_of list d)
    go (Ok n) q t = t.3
    go (Err f) q t = absurd (false≢true cc)

module _ {list d t g₀ : List ℕ} {a : Result ⊤ ListError} (y : Readable d) (l : Listed list a t g₀) {w : Bool} (e : w ≡ soundness a)
    {s s' h g : List ℕ} {m : Result Measured ItemError} (p : PassedFor w true list d s h m s' g) {o o' : List ℕ} {r : Served}
    (v : ServedOf d o g a m r o')
  where
    serving : Serving (answer_of list d (length o)) (bytes_after list d o) list d o r o'
    serving = v.serving list s s' y l.said (λ z. p.passed (e ∙ z))

    pub client_answer : r.answer ≡ answer_of list d (length o)
    client_answer = serving.answer

    -- nothing is left
    pub client_done : r.left ≡ false → o' ≡ bytes_after list d o
    client_done z = serving.done z

    -- after the second pass, in which it took part where its cut was left
    pub client_laid : {n : Result Measured ItemError} {o'' g''' g'' : List ℕ} → PassedFor r.left false list d o' g''' n o'' g''
        → o'' ≡ bytes_after list d o
    client_laid {n} {o''} {g'' = g''} q = go r.left refl
      where
        go : (b : Bool) → r.left ≡ b → o'' ≡ bytes_after list d o
        go true z =
            let u = serving.waits z in
            second_laid list d o' o'' g'' n (q.passed z) u.1 ∙ ap (λ (x : List ℕ). sets x 0 (cut_of list d)) u.0 ∙ u.2
        go false z = (q.stays z).0 ∙ serving.done z

-- none of four is left
pub none_left : (a b c d : Bool) → (a || b || c || d) ≡ false → (a ≡ false) × (b ≡ false) × (c ≡ false) × (d ≡ false)
none_left false false false false q = (refl, refl, refl, refl)
none_left true b c d q = absurd cc
none_left false true c d q = absurd cc
none_left false false true d q = absurd cc
none_left false false false true q = absurd cc
