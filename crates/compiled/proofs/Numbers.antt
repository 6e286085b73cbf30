-- The tables of the paths read so far: how long the rows are;
-- and with one more step, whose name is entered and whose bit is added to the row of its number.
use mathlib.Core.Path.{◌≡◌, refl, sym, ap, ◌∙◌}
use mathlib.Core.Bool.{Bool, cond}
use mathlib.Core.List.{List, [], ◌∷◌, ◌++◌, append_assoc, append-nil, map}
use Prim.Native.Nat.{ℕ, ◌+◌, ◌*◌, ◌^◌, ◌≤◌, ◌<◌}
use native.Mathlib.Nat.{add-zero, zero-add}
use native.Mathlib.Omega.{arith}
use borrow.Author.Tests.{eq-eqb, ne_eqb}
use lib.ListN.{length, get_or, set, length-append, length-map}
use lib.Seq.{set-set, set-get_or, get_or-append_seam}
use lib.Dec.{eqb}
use Rattle.paths.specs.Path.{Test, any, named, Step, Path, All}
use Rattle.paths.specs.Path.{print_kind, print_step, print_all, print_line, print_list}
use Rattle.compiled.specs.Bits.{bits_of, step_bits, column}
use Rattle.lookup.specs.Names.{Named, test_names, step_names, list_names, firsts, names_of}
use Rattle.compiled.specs.Built.{number_of, number_row, number_rows, Built, longer}
use Rattle.compiled.proofs.Alls.{all_map}
use Rattle.lookup.proofs.Places.{place_least}
use Rattle.compiled.proofs.Firsts.{HasTest, firsts_append, firsts_kept, names_have, firsts_few, lists_few, steps_few}
use Rattle.compiled.proofs.Bits.{bits_below, bits_snoc, map_snoc, column_long, column_get, column_snoc, column_alike}
use Rattle.compiled.proofs.Listed.{listed_long, listed_entry, listed_set}

-- ---- names

steps_snoc : (at : ℕ) (ss : List Step) (s : Step)
    → step_names at (ss ++ s ∷ [])
    ≡ step_names at ss ++ test_names (at + length (print_all print_step ss) + length (print_kind s.kind)) s.test
steps_snoc at [] s = rw (add-zero at) (append-nil (test_names (at + length (print_kind s.kind)) s.test))
steps_snoc at (x ∷ ss) s =
    let xs = test_names (at + length (print_kind x.kind)) x.test in
    let e = length-append (print_step x) (print_all print_step ss) in
    let z : at + length (print_step x) + length (print_all print_step ss) ≡ at + length (print_all print_step (x ∷ ss)) = omega arith in
    rw (steps_snoc (at + length (print_step x)) ss s, z) (sym (append_assoc xs _ _))

pub lists_snoc : (at : ℕ) (ps : List Path) (q : Path)
    → list_names at (ps ++ q ∷ []) ≡ list_names at ps ++ step_names (at + length (print_list ps)) q.steps
unfolding print_list
lists_snoc at [] q = rw (add-zero at) (append-nil (step_names at q.steps))
lists_snoc at (p ∷ ps) q =
    let e = length-append (print_line p) (print_list ps) in
    let z : at + length (print_line p) + length (print_list ps) ≡ at + length (print_list (p ∷ ps)) = omega arith in
    rw (lists_snoc (at + length (print_line p)) ps q, z) (sym (append_assoc (step_names at p.steps) _ _))

-- there is room for one more
pub names_room : (done : List Path) (q : Path) → length done < 32 → All (λ p. length p.steps ≤ 16) done → length q.steps < 16
    → length (names_of (done ++ q ∷ [])) < 512
unfolding names_of
names_room done q l a h =
    let e = lists_snoc 0 done q in
    let x = firsts_few (list_names 0 (done ++ q ∷ [])) [] in
    let y = lists_few 0 done a in
    let z = steps_few (0 + length (print_list done)) q.steps in
    let w = length-append (list_names 0 done) (step_names (0 + length (print_list done)) q.steps) in
    let u = ap length e in
    omega arith

-- ---- how long the rows are

pub row_long : (ns : List Named) (ps : List Path) → length ps ≤ 32 → (k : ℕ) → length (number_row ns ps k) ≡ 32
unfolding number_row
row_long ns ps l k = column_long _ ps l

pub numbers_long : (ps : List Path) → length ps ≤ 32 → length (number_rows ps) ≡ 16416
unfolding number_rows
numbers_long ps l = listed_long (number_row (names_of ps) ps) (row_long (names_of ps) ps l) 513

pub built_long : {d at len head next rows : List ℕ} {names : ℕ} (done : List Path) (q : Path)
    → Built d at len head next rows names (done ++ q ∷ []) → length done < 32 → length rows ≡ 16416
built_long done q b l = rw b.rows_are (numbers_long (done ++ q ∷ []) (rw (length-append done (q ∷ [])) (omega arith)))

-- ---- the names with one more step

module _ (done : List Path) (q : Path) (s : Step) where
  abbrev step_place : ℕ
  step_place = length (print_list done) + length (print_all print_step q.steps) + length (print_kind s.kind)

  pub names_longer : names_of (done ++ longer q s ∷ []) ≡ firsts (names_of (done ++ q ∷ [])) (test_names step_place s.test)
  unfolding names_of
  names_longer =
      let a = list_names 0 done in
      let b = step_names (length (print_list done)) q.steps in
      let t = test_names step_place s.test in
      let e : list_names 0 (done ++ longer q s ∷ []) ≡ a ++ (b ++ t) =
      lists_snoc 0 done (longer q s)
      ∙ rw (zero-add (length (print_list done)), steps_snoc (length (print_list done)) q.steps s) in
      let f : list_names 0 (done ++ q ∷ []) ≡ a ++ b = lists_snoc 0 done q ∙ rw (zero-add (length (print_list done))) in
      rw (e, f, ← append_assoc a b t) (firsts_append (a ++ b) t [])

  -- ---- rows with one more step

  abbrev before : List Named
  before = names_of (done ++ q ∷ [])

  abbrev after : List Named
  after = names_of (done ++ longer q s ∷ [])

  number_kept : (t : Test) → HasTest before t → number_of after t ≡ number_of before t
  number_kept any h = refl
  number_kept (named m) h = rw names_longer (firsts_kept (test_names step_place s.test) before m h)

  abbrev hits : ℕ → Step → Bool
  hits k x = eqb (number_of after x.test) k

  row_kept : (k : ℕ) → column (step_bits (hits k)) (done ++ q ∷ []) ≡ number_row before (done ++ q ∷ []) k
  unfolding number_row
  row_kept k =
      column_alike (hits k) (λ x. eqb (number_of before x.test) k) (done ++ q ∷ [])
      (all_map (λ p a. all_map (λ x h. ap (λ (n : ℕ). eqb n k) (number_kept x.test h)) a) (names_have (done ++ q ∷ [])))

  bits_longer : (k : ℕ) → step_bits (hits k) (longer q s) ≡ step_bits (hits k) q + cond (hits k s) (2 ^ length q.steps) 0
  bits_longer k =
      ap bits_of (map_snoc (hits k) q.steps s)
      ∙ bits_snoc (map (hits k) q.steps) (hits k s)
      ∙ ap (λ (n : ℕ). step_bits (hits k) q + cond (hits k s) (2 ^ n) 0) (length-map q.steps (hits k))

  column_last : (f : Path → ℕ) → get_or (column f (done ++ q ∷ [])) (length done) 0 ≡ f q
  column_last f =
      column_get f (done ++ q ∷ []) (length done)
      ∙ ap (λ (l : List ℕ). get_or l (length done) 0) (map_snoc f done q)
      ∙ ap (λ (n : ℕ). get_or (map f done ++ f q ∷ []) n 0) (sym (length-map done f))
      ∙ get_or-append_seam (map f done) (f q) [] 0

  column_set : (f : Path → ℕ) → length done < 32
      → column f (done ++ longer q s ∷ []) ≡ set (column f (done ++ q ∷ [])) (length done) (f (longer q s))
  column_set f l =
      sym (column_snoc f done (longer q s) l)
      ∙ sym (set-set (column f done) (length done) (f q) (f (longer q s)))
      ∙ ap (λ (r : List ℕ). set r (length done) (f (longer q s))) (column_snoc f done q l)

  pub row_longer : length done < 32 → (k : ℕ)
      → number_row after (done ++ longer q s ∷ []) k
      ≡ set (number_row before (done ++ q ∷ []) k) (length done)
      (get_or (number_row before (done ++ q ∷ []) k) (length done) 0 + cond (hits k s) (2 ^ length q.steps) 0)
  unfolding number_row
  row_longer l k =
      column_set (step_bits (hits k)) l
      ∙ ap (set (column (step_bits (hits k)) (done ++ q ∷ [])) (length done))
      (bits_longer k ∙ ap (λ (n : ℕ). n + cond (hits k s) (2 ^ length q.steps) 0) (sym (column_last (step_bits (hits k)))))
      ∙ ap (λ (r : List ℕ). set r (length done) (get_or r (length done) 0 + cond (hits k s) (2 ^ length q.steps) 0)) (row_kept k)

  module _ (l : length done < 32) (few : length after ≤ 512) where
    pub number_in : number_of after s.test < 513
    number_in = go s.test
      where
        go : (t : Test) → number_of after t < 513
        go any = omega arith
        go (named m) = let z = place_least after m in omega arith

    each_long : (k : ℕ) → length (number_row before (done ++ q ∷ []) k) ≡ 32
    each_long = row_long before (done ++ q ∷ []) (rw (length-append done (q ∷ [])) (omega arith))

    abbrev cell : ℕ
    cell = 32 * number_of after s.test + length done

    pub cell_is : get_or (number_rows (done ++ q ∷ [])) cell 0
        ≡ get_or (number_row before (done ++ q ∷ []) (number_of after s.test)) (length done) 0
    unfolding number_rows
    cell_is =
        listed_entry (number_row before (done ++ q ∷ [])) each_long 513 (number_of after s.test) (length done) number_in l

    pub last_cell : get_or (number_rows (done ++ q ∷ [])) cell 0 < 2 ^ length q.steps
    unfolding number_row
    last_cell =
        let k = number_of after s.test in
        let f : Step → Bool = λ x. eqb (number_of before x.test) k in
        rw (cell_is, column_last (step_bits f), ← length-map q.steps f) (bits_below (map f q.steps))

    pub rows_longer : number_rows (done ++ longer q s ∷ [])
        ≡ set (number_rows (done ++ q ∷ [])) cell (get_or (number_rows (done ++ q ∷ [])) cell 0 + 2 ^ length q.steps)
    unfolding number_rows
    rows_longer =
        rw cell_is
        (listed_set (number_row before (done ++ q ∷ [])) (number_row after (done ++ longer q s ∷ [])) each_long
        (number_of after s.test) (length done)
        (get_or (number_row before (done ++ q ∷ []) (number_of after s.test)) (length done) 0 + 2 ^ length q.steps)
        l others this 513 number_in)
      where
        others : (j : ℕ) → (j ≡ number_of after s.test → ⊥)
            → number_row after (done ++ longer q s ∷ []) j ≡ number_row before (done ++ q ∷ []) j
        others j h =
            let r = number_row before (done ++ q ∷ []) j in
            row_longer l j
            ∙ rw (ne_eqb (number_of after s.test) j (λ e. h (sym e)), add-zero (get_or r (length done) 0)) (set-get_or r (length done) 0)

        this : number_row after (done ++ longer q s ∷ []) (number_of after s.test)
            ≡ set (number_row before (done ++ q ∷ []) (number_of after s.test)) (length done)
            (get_or (number_row before (done ++ q ∷ []) (number_of after s.test)) (length done) 0 + 2 ^ length q.steps)
        this = row_longer l (number_of after s.test) ∙ rw (eq-eqb (number_of after s.test) (number_of after s.test) refl)
