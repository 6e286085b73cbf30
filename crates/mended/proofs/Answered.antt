-- Document 02's promises, of calls: `answer_of d room` is what is handed back, `bytes_after d o` the buffer after. In order: what is
-- written and what is reported; a buffer that is left alone; "A sound document comes back unchanged with 0 added"; "the result is always
-- accepted by the filter if it is within the document size"; mending a mended document changes nothing; when each refusal is given.
use mathlib.Core.Path.{◌≡◌, refl, sym, ap, ◌∙◌}
use mathlib.Core.Bool.{Bool, true, false, cond, false≢true}
use mathlib.Core.List.{List, ◌++◌}
use Prim.Native.Nat.{ℕ, ◌+◌, ◌≤◌, ◌<◌}
use native.Mathlib.Omega.{arith}
use borrow.Author.Tests.{lt-ltb, le-ltb, ltb-true, ltb-false}
use lib.Dec.{ltb}
use lib.ListN.{length, take, drop, length-append}
use lib.Seq.{take_at, length-take-le}
use Rattle.std.specs.Prelude.{Ok, Result, Err}
use Rattle.readers.specs.Meaning.{Chars}
use Rattle.readers.specs.Named.{other_encoding}
use Rattle.readers.proofs.Encoding.{other_iff}
use Rattle.paths.specs.Judge.{list_answer}
use Rattle.document.specs.Judge.{start_of, scanned, judge_of, second_of}
use Rattle.document.specs.declared.Why.{Why}
use Rattle.trees.specs.Written.{cut_of, count_of, tests_of}
use Rattle.cutter.specs.Answer as cutter
use Rattle.demands.specs.Reached.{FirstFault}
use Rattle.demands.proofs.First.{named_none, none_named, sound_scanned}
use Rattle.demands.proofs.Faults.{fault_scanned}
use Rattle.mend.specs.Kept.{Kept, readable, kept_of}
use Rattle.mend.specs.Mended.{end_tags, mended_by, bytes_kept, missing, root_kept, tags_added, mended_of}
use Rattle.mend.specs.Answer.{number_of, second_of as second, kept_number, added_number, fault_at, by_root, answer_of, after, bytes_after}
use Rattle.mend.specs.declared.Mended.{Mended}
use Rattle.mend.specs.declared.MendError.{MendError}
use Rattle.mend.specs.declared.MendError.TheVariants.{TooLong, OtherEncoding, NoRoot, Short}
use Rattle.mended.specs.Meaning.{Ends, fault, over, half}
use Rattle.mended.specs.Answers.{Taken, Says, too_long, in_other_encoding, no_root, too_short, mended}
use Rattle.mended.proofs.Accepted.{readable_chars, mended_sound}
use Rattle.mended.proofs.Unchanged.{sound_unchanged}
use Rattle.mended.proofs.Told.{within_open, kept_keeps, kept_rooting, kept_first}
use Rattle.mended.proofs.Only.{keeps_only}

-- ---- what is written

pub record Wrote (d : List ℕ) (room n k a : ℕ) : Type 0 where
  pub size : length d ≤ 16777216
  pub utf8 : other_encoding (drop (start_of d) d) ≡ false
  pub rooted : root_kept d ≡ true
  pub length_is : n ≡ length (mended_of d)
  pub kept_is : k ≡ bytes_kept d
  pub added_is : a ≡ tags_added d
  pub fits : n ≤ room

-- by the tests that `answer_of` makes
abbrev by_tests : Bool → Bool → Bool → Bool → List ℕ → Result Mended MendError
by_tests long other rooted short d =
    cond long (Err TooLong)
    (cond other (Err (OtherEncoding (start_of d)))
    (by_root rooted (fault_at d)
    (cond short (Err (Short (length (mended_of d))))
    (Ok (record { length = length (mended_of d); kept = bytes_kept d; added = tags_added d })))))

record Tested (d : List ℕ) (room : ℕ) (a : Result Mended MendError) : Type 0 where
  long : Bool
  other : Bool
  rooted : Bool
  short : Bool
  long_is : ltb 16777216 (length d) ≡ long
  other_is : other_encoding (drop (start_of d) d) ≡ other
  rooted_is : root_kept d ≡ rooted
  short_is : ltb room (length (mended_of d)) ≡ short
  answer_is : by_tests long other rooted short d ≡ a

tested : (d : List ℕ) (room : ℕ) → Tested d room (answer_of d room)
unfolding answer_of root_kept mended_of bytes_kept missing tags_added
tested d room =
    record {
      long = _;
      other = _;
      rooted = _;
      short = _;
      long_is = refl;
      other_is = refl;
      rooted_is = refl;
      short_is = refl;
      answer_is = refl;
    }

pub mended_wrote : (d : List ℕ) (room n k a : ℕ) → answer_of d room ≡ Ok (record { length = n; kept = k; added = a }) → Wrote d room n k a
mended_wrote d room n k a e =
    let t = tested d room in
    go t.long t.other t.rooted t.short t.long_is t.other_is t.rooted_is t.short_is (t.answer_is ∙ e)
  where
    go : (l o r s : Bool) → ltb 16777216 (length d) ≡ l → other_encoding (drop (start_of d) d) ≡ o → root_kept d ≡ r
        → ltb room (length (mended_of d)) ≡ s → by_tests l o r s d ≡ Ok (record { length = n; kept = k; added = a }) → Wrote d room n k a
    go true o r s p u q v e = absurd (false≢true cc)
    go false true r s p u q v e = absurd (false≢true cc)
    go false false false s p u q v e = absurd (false≢true cc)
    go false false true true p u q v e = absurd (false≢true cc)
    go false false true false p u q v e =
        let l = ltb-false room (length (mended_of d)) v in
        let z : n ≡ length (mended_of d) = sym (ap second e) in
        record {
          size = ltb-false 16777216 (length d) p;
          utf8 = u;
          rooted = q;
          length_is = z;
          kept_is = sym (ap kept_number e);
          added_is = sym (ap added_number e);
          fits = omega arith;
        }

-- 9 is given only where there is too little room
pub short_is : (d : List ℕ) (room n : ℕ) → answer_of d room ≡ Err (Short n) → room < length (mended_of d)
short_is d room n e =
    let t = tested d room in
    go t.long t.other t.rooted t.short t.short_is (t.answer_is ∙ e)
  where
    go : (l o r s : Bool) → ltb room (length (mended_of d)) ≡ s → by_tests l o r s d ≡ Err (Short n) → room < length (mended_of d)
    go true o r s v e = absurd (false≢true cc)
    go false true r s v e = absurd (false≢true cc)
    go false false false s v e = absurd (false≢true cc)
    go false false true true v e = ltb-true room (length (mended_of d)) v
    go false false true false v e = absurd (false≢true cc)

-- the length is that of the bytes kept and of the end tags added
pub mended_length : (d : List ℕ) → length (mended_of d) ≡ bytes_kept d + length (end_tags (missing d))
unfolding mended_of bytes_kept missing
mended_length d =
    let (l, e) = kept_first d in
    length-append (take (bytes_kept d) (readable d)) (end_tags (missing d))
    ∙ ap (λ (k : ℕ). k + length (end_tags (missing d))) (ap length e ∙ length-take-le (bytes_kept d) d l)

-- "otherwise the last two are 0"
pub others_zero : (a : Result Mended MendError) → (number_of a ≡ 0 → ⊥) → (kept_number a ≡ 0) × (added_number a ≡ 0)
others_zero (Ok m) h = absurd (h refl)
others_zero (Err e) h = (refl, refl)

-- ---- the buffer

-- "on any other number the whole output" stays
pub untouched : (d o : List ℕ) → (number_of (answer_of d (length o)) ≡ 0 → ⊥) → bytes_after d o ≡ o
unfolding bytes_after
untouched d o = go (answer_of d (length o))
  where
    go : (a : Result Mended MendError) → (number_of a ≡ 0 → ⊥) → after a (mended_of d) o ≡ o
    go (Ok m) h = absurd (h refl)
    go (Err e) h = refl

-- the mended document stands at the front of the buffer, and the bytes after it stay
pub written_first : (d o : List ℕ) (n k a : ℕ) → answer_of d (length o) ≡ Ok (record { length = n; kept = k; added = a })
    → (bytes_after d o ≡ mended_of d ++ drop n o) × (take n (bytes_after d o) ≡ mended_of d)
unfolding bytes_after
written_first d o n k a e =
    rw e (refl, take_at (mended_of d) (drop n o) n (sym (mended_wrote d (length o) n k a e).length_is))

-- ---- "A sound document comes back unchanged with 0 added"

pub sound_back : (d : List ℕ) (room : ℕ) → judge_of d ≡ Ok tt → length d ≤ room
    → answer_of d room ≡ Ok (record { length = length d; kept = length d; added = 0 })
sound_back d room e l =
    let t = tested d room in
    let u = sound_unchanged d e in
    let (s, n, c, x) = sound_scanned d e in
    let z : t.long ≡ false = sym t.long_is ∙ le-ltb 16777216 (length d) s in
    let y : t.other ≡ false = sym t.other_is ∙ none_named (drop (start_of d) d) n in
    let r : t.rooted ≡ true = sym t.rooted_is ∙ u.rooted in
    let w : t.short ≡ false = sym t.short_is ∙ rw u.same (le-ltb room (length d) l) in
    sym t.answer_is ∙ rw (z, y, r, w, u.same, u.kept, u.added) refl

pub sound_comes_back : (d o : List ℕ) → judge_of d ≡ Ok tt → length d ≤ length o
    → (answer_of d (length o) ≡ Ok (record { length = length d; kept = length d; added = 0 })) × (bytes_after d o ≡ d ++ drop (length d) o)
sound_comes_back d o e l =
    let a = sound_back d (length o) e l in
    (a, (written_first d o (length d) (length d) 0 a).0 ∙ ap (λ (w : List ℕ). w ++ drop (length d) o) (sound_unchanged d e).same)

-- ---- "the result is always accepted by the filter if it is within the document size"

module _ (d o : List ℕ) (n k a : ℕ) (e : answer_of d (length o)
    ≡ Ok (record { length = n; kept = k; added = a })) (size : n ≤ 16777216) where
  abbrev result : List ℕ
  result = take n (bytes_after d o)

  result_is : result ≡ mended_of d
  result_is = (written_first d o n k a e).1

  pub result_sound : judge_of result ≡ Ok tt
  result_sound =
      let w = mended_wrote d (length o) n k a e in
      let l : length (mended_of d) ≤ 16777216 = rw (← w.length_is) size in
      rw result_is (mended_sound d w.utf8 w.rooted l)

  -- so the filter cuts it by every sound list
  pub result_cut : (list : List ℕ) (room : ℕ) → list_answer list ≡ Ok tt → length (cut_of list result) ≤ room
      → cutter.answer_of list result room
      ≡ Ok (record { length = length (cut_of list result); selected = count_of list result; tests = tests_of list result })
  unfolding cutter.answer_of
  result_cut list room p l = rw (p, result_sound, le-ltb room (length (cut_of list result)) l) refl

  -- ---- mending a mended document changes nothing

  result_length : length result ≡ n
  result_length = ap length result_is ∙ sym (mended_wrote d (length o) n k a e).length_is

  pub mended_again : (o' : List ℕ) → n ≤ length o'
      → (answer_of result (length o') ≡ Ok (record { length = n; kept = n; added = 0 })) × (bytes_after result o' ≡ result ++ drop n o')
  mended_again o' l =
      let z : length result ≤ length o' = rw (← result_length) at l in
      rw result_length at (sound_comes_back result o' result_sound z)

-- ---- "Refusals: 4; then 10; then 12 .. if no root tag was kept; then 9"

-- where no root tag is kept, the first fault is where the kept bytes end: nothing is open, so no text was dropped
rootless_fault : (r : List ℕ) → Chars r → (kept_of r).opened.rooted ≡ false → (why : Why) × FirstFault r why (second_of (scanned r))
rootless_fault r c q = go (kept_keeps r c).ends
  where
    go : Ends r (kept_of r) (kept_keeps r c).last → (why : Why) × FirstFault r why (second_of (scanned r))
    go (fault w i s m) =
        let x = kept_keeps r c in
        let f : FirstFault r w (kept_of r).bytes
        = record { first = x.last; opened = (kept_of r).opened; reached = x.reached; item = i; says = s; fault = m } in
        (w, rw (ap second_of (fault_scanned r c f)) f)
    go (over s m) = absurd (false≢true (sym q ∙ m.1))
    go (half t w) = absurd (false≢true (sym q ∙ kept_rooting r (within_open (kept_of r).opened w)))

pub answer_says : (d : List ℕ) (room : ℕ) → Says d room (answer_of d room)
unfolding fault_at root_kept mended_of bytes_kept missing tags_added
answer_says d room =
    let t = tested d room in
    rw (← t.answer_is)
    (go t.long t.other t.rooted t.short t.long_is t.other_is t.rooted_is t.short_is)
  where
    k : Kept
    k = kept_of (readable d)

    taken : ltb 16777216 (length d) ≡ false → other_encoding (drop (start_of d) d) ≡ false → Taken d k
    taken p u =
        record {
          size = ltb-false 16777216 (length d) p;
          utf8 = named_none (drop (start_of d) d) u;
          kept = kept_keeps (readable d) (readable_chars d);
        }

    go : (l o r s : Bool) → ltb 16777216 (length d) ≡ l → other_encoding (drop (start_of d) d) ≡ o → root_kept d ≡ r
        → ltb room (length (mended_of d)) ≡ s → Says d room (by_tests l o r s d)
    go true o r s p u q v = too_long (ltb-true 16777216 (length d) p)
    go false true r s p u q v = in_other_encoding (ltb-false 16777216 (length d) p) ((other_iff (drop (start_of d) d)).0 u)
    go false false false s p u q v =
        let (why, f) = rootless_fault (readable d) (readable_chars d) q in
        no_root k why (taken p u) q f
    go false false true true p u q v = too_short k (taken p u) q (ltb-true room (length (mended_of d)) v)
    go false false true false p u q v = mended k (taken p u) q (ltb-false room (length (mended_of d)) v)

-- and no other answer says so
pub says_answer : (d : List ℕ) (room : ℕ) (a : Result Mended MendError) → Says d room a → a ≡ answer_of d room
unfolding fault_at root_kept mended_of bytes_kept missing tags_added
says_answer d room a x = go x ∙ t.answer_is
  where
    t : Tested d room (answer_of d room)
    t = tested d room

    small : length d ≤ 16777216 → t.long ≡ false
    small l = sym t.long_is ∙ le-ltb 16777216 (length d) l

    taken : {k : Kept} → Taken d k → (t.long ≡ false) × (t.other ≡ false) × (k ≡ kept_of (readable d))
    taken {k} y =
        let u = none_named (drop (start_of d) d) y.utf8 in
        (small y.size, sym t.other_is ∙ u, keeps_only (readable d) (readable_chars d) k y.kept)

    root : {k : Kept} {b : Bool} → k ≡ kept_of (readable d) → k.opened.rooted ≡ b → t.rooted ≡ b
    root e q = sym t.rooted_is ∙ ap (λ (j : Kept). j.opened.rooted) (sym e) ∙ q

    go : {a : Result Mended MendError} → Says d room a → a ≡ by_tests t.long t.other t.rooted t.short d
    go (too_long l) = let z : t.long ≡ true = sym t.long_is ∙ lt-ltb 16777216 (length d) l in rw z refl
    go (in_other_encoding l n) =
        let z : t.other ≡ true = sym t.other_is ∙ (other_iff (drop (start_of d) d)).1 n in
        rw (small l, z) refl
    go (no_root k why y q h) =
        let (l, u, e) = taken y in
        rw (l, u, root e q) (ap (λ (n : ℕ). Err (NoRoot n)) (sym (ap second_of (fault_scanned (readable d) (readable_chars d) h))))
    go (too_short k y q m) =
        let (l, u, e) = taken y in
        let w : t.short ≡ true = sym t.short_is ∙ lt-ltb room (length (mended_of d)) (rw e at m) in
        rw (l, u, root e q, w) (ap (λ (j : Kept). Err (Short (length (mended_by (readable d) j)))) e)
    go (mended k y q m) =
        let (l, u, e) = taken y in
        let w : t.short ≡ false = sym t.short_is ∙ le-ltb room (length (mended_of d)) (rw e at m) in
        rw (l, u, root e q, w)
        (ap (λ (j : Kept). Ok (record { length = length (mended_by (readable d) j); kept = j.bytes; added = length j.opened.names })) e)
