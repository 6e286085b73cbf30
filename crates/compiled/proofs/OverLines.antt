-- The laws of reading a sound list line by line. A line's end; the tables of no path;
-- a line's entries; the end, where all paths are read.
use mathlib.Core.Path.{◌≡◌, refl, sym, ap, ◌∙◌}
use mathlib.Core.Bool.{Bool, cond}
use mathlib.Core.List.{List, [], ◌∷◌, ◌++◌, append_assoc, append-nil, append_cancel_left}
use Prim.Native.Nat.{ℕ, ◌+◌, ◌-◌, ◌≤◌, ◌<◌}
use native.Mathlib.Omega.{arith}
use lib.ListN.{length, take, set, replicate, length-append, length-replicate, replicate-append-replicate}
use lib.Seq.{take_at, drop_at, sets}
use Rattle.std.specs.Prelude.{Option, None, Some, Ok}
use Rattle.paths.specs.Path.{Path, print_step, print_all, print_line, print_list}
use Rattle.paths.specs.Path.{none as nil}
use Rattle.paths.specs.Reader.{ending_of, print_end}
use Rattle.paths.specs.Place.{line_end_at}
use Rattle.paths.specs.Judge.{list_answer, list_paths}
use Rattle.paths.proofs.Lines.{line_print, line_long}
use Rattle.paths.proofs.Meaning.{paths_print}
use Rattle.compiled.specs.Bits.{column, last_bit, stays_of, goes_of, far_of, lasts_of, marks_of}
use Rattle.lookup.specs.Names.{names_of, chains_of}
use Rattle.lookup.specs.Index.{padded, Indexed, first}
use Rattle.compiled.specs.Sizes.{Sized}
use Rattle.compiled.specs.Compiled.{joined, test_place, tests_of, tables_of}
use Rattle.compiled.specs.Spread.{Spreadable, Spread}
use Rattle.compiled.specs.Built.{number_row, number_rows, Built}
use Rattle.compiled.specs.Line.{AtLine, LineDone, tail_of, if_tested}
use Rattle.compiled.specs.declared.build.Line.{Line}
use Rattle.compiled.specs.declared.build.Tail.{Tail}
use Rattle.lookup.proofs.Search.{index_linked, at_long, len_long}
use Rattle.compiled.proofs.Alls.{all_map}
use Rattle.compiled.proofs.Bits.{column_long, column_snoc}
use Rattle.compiled.proofs.NameRows.{joined_zeros}
use Rattle.compiled.proofs.Listed.{listed_constant}
use Rattle.compiled.proofs.Numbers.{built_long}
use Rattle.compiled.proofs.Spreading.{numbers_spreadable, numbers_spread}
use Rattle.compiled.proofs.Laid.{rows_in, with_rows, rows_stand, with_rows_long, Longs, laid_tables}
use Rattle.compiled.proofs.InLine.{print_append, path_few, sound_bytes}
use Rattle.compiled.proofs.Tests.{tests_long, tests_stored}
use Rattle.compiled.proofs.Tested.{name_place, place_tested, tail_stands, end_below}

-- ---- the tables of no path

numbers_none : replicate 16416 0 ≡ number_rows []
unfolding number_rows number_row column padded
numbers_none =
    sym (ap joined (listed_constant (number_row (names_of []) []) (replicate 32 0) (λ k. refl) 0 513) ∙ joined_zeros 513)

-- zeros where the rows are
zeros_in : rows_in (replicate 18400 0) ≡ replicate 16416 0
zeros_in =
    let z : ℕ → List ℕ = λ n. replicate n 0 in
    let a : z 18400 ≡ z 1792 ++ z 16608 = sym (replicate-append-replicate 1792 16608 0) in
    let b : z 16608 ≡ z 16416 ++ z 192 = sym (replicate-append-replicate 16416 192 0) in
    ap rows_in a
    ∙ ap (take 16416) (drop_at (z 1792) (z 16608) 1792 (length-replicate {A = ℕ} 1792 0) ∙ b)
    ∙ take_at (z 16416) (z 192) 16416 (length-replicate {A = ℕ} 16416 0)

built_none : (d : List ℕ)
    → Built d (replicate 512 0) (replicate 512 0) (replicate 256 0) (replicate 512 0) (rows_in (replicate 18400 0)) 0 []
unfolding names_of chains_of padded
built_none d =
    record {
      indexed = record { few = omega arith; once = first; stand = nil; at_is = refl; len_is = refl; head_is = refl; next_is = refl };
      count = refl;
      rows_are = zeros_in ∙ numbers_none;
    }

-- ---- the lines

-- t has the rows of the paths done
pub record Lining (d at len head next t stays goes far lasts marks tests : List ℕ) (names p place : ℕ) : Type 0 where
  pub sound : list_answer d ≡ Ok tt
  pub done : List Path
  pub left : List Path
  pub all : list_paths d ≡ done ++ left
  pub p_is : p ≡ length done
  pub place_is : place ≡ length (print_list done)
  pub long : length t ≡ 18400
  pub built : Built d at len head next (rows_in t) names done
  pub stays_are : stays ≡ stays_of done
  pub goes_are : goes ≡ goes_of done
  pub far_are : far ≡ far_of done
  pub lasts_are : lasts ≡ lasts_of done
  pub marks_are : marks ≡ marks_of done
  pub tests_are : tests ≡ tests_of done

pub lines_start : {d t : List ℕ} → list_answer d ≡ Ok tt → t ≡ replicate 18400 0
    → Lining d (replicate 512 0) (replicate 512 0) (replicate 256 0) (replicate 512 0) t
    (replicate 32 0) (replicate 32 0) (replicate 32 0) (replicate 32 0) (replicate 32 0) (replicate 32 0) 0 0 0
unfolding stays_of goes_of far_of lasts_of marks_of tests_of column padded print_list
lines_start {d} s z =
    record {
      sound = s;
      done = [];
      left = list_paths d;
      all = refl;
      p_is = refl;
      place_is = refl;
      long = rw z (length-replicate {A = ℕ} 18400 0);
      built = rw z (built_none d);
      stays_are = refl;
      goes_are = refl;
      far_are = refl;
      lasts_are = refl;
      marks_are = refl;
      tests_are = refl;
    }

same_front : {A : Type 0} (xs ys us vs : List A) → xs ++ us ≡ ys ++ vs → length xs ≡ length ys → xs ≡ ys
same_front [] [] us vs e l = refl
same_front [] (y ∷ ys) us vs e l = absurd (omega arith)
same_front (x ∷ xs) [] us vs e l = absurd (omega arith)
same_front (x ∷ xs) (y ∷ ys) us vs e l =
    let h : x ≡ y = cc in
    let t : xs ++ us ≡ ys ++ vs = cc in
    cc (h, same_front xs ys us vs t (omega arith))

-- the number of one more path is stored
column_stored : (f : Path → ℕ) (done : List Path) (q : Path) → length done < 32 → {l : List ℕ} {k x : ℕ} → l ≡ column f done
    → k ≡ length done → x ≡ f q → set l k x ≡ column f (done ++ q ∷ [])
column_stored f done q h a b c = rw (a, b, c) (column_snoc f done q h)

pub sound_sized : (d : List ℕ) → list_answer d ≡ Ok tt → Sized (list_paths d)
sound_sized d e =
    let (p, g, f) = paths_print d e in
    record { few = f; short = all_map (λ q h. h.within.steps) g; bytes = rw p (sound_bytes d e) }

module _ {d at len head next t stays goes far lasts marks tests : List ℕ} {names p place : ℕ}
    (v : Lining d at len head next t stays goes far lasts marks tests names p place) where
  prints : print_list (v.done ++ v.left) ≡ d
  prints = rw v.all at (paths_print d v.sound).0

  place_in : length d ≡ place + length (print_list v.left)
  unfolding print_list
  place_in =
      sym (ap length prints)
      ∙ ap length (print_append print_line v.done v.left)
      ∙ length-append (print_list v.done) (print_list v.left)
      ∙ ap (λ (n : ℕ). n + length (print_list v.left)) (sym v.place_is)

  -- a line is left
  pub lines_line : place < length d → AtLine d at len head next (rows_in t) names p place
  unfolding print_list
  lines_line l = go v.left refl
    where
      go : (qs : List Path) → v.left ≡ qs → AtLine d at len head next (rows_in t) names p place
      go [] e = absurd (let a = place_in in let b : length (print_list v.left) ≡ 0 = rw e in omega arith)
      go (q ∷ rest) e =
          record {
            here =
                record {
                  sound = v.sound;
                  done = v.done;
                  path = q;
                  rest = rest;
                  all = v.all ∙ ap (λ (l : List Path). v.done ++ l) e;
                  p_is = v.p_is;
                };
            place_is = v.place_is;
            built = v.built;
          }

  -- its steps are entered
  module _ {at' len' head' next' rows' : List ℕ} {r : Line} (w : LineDone d at' len' head' next' rows' p r) where
    pub lines_few : p < 32
    lines_few = path_few w.here

    same_done : w.here.done ≡ v.done
    same_done =
        same_front w.here.done v.done (w.here.path ∷ w.here.rest) v.left (sym w.here.all ∙ v.all)
        (sym w.here.p_is ∙ v.p_is)

    abbrev path : Path
    path = w.here.path

    rows_size : length rows' ≡ 16416
    rows_size = built_long w.here.done path w.built (rw (← w.here.p_is) lines_few)

    pub lines_place : r.end < 65536
    lines_place = rw w.end_is (end_below w.here)

    module _ {tail : Tail} (g : tail ≡ tail_of (line_end_at d r.end) r.end) where
      tailed : tail
          ≡ record { test = name_place path.test r.end; marked = path.marked; next = r.end + length (print_end (ending_of path)) }
      tailed = g ∙ tail_stands w.here r.end w.end_is

      next_is : tail.next ≡ length (print_list (v.done ++ path ∷ []))
      unfolding print_list
      next_is =
          let a = ap (λ (x : Tail). x.next) tailed in
          let b = w.end_is in
          let c : print_list (w.here.done ++ path ∷ [])
          ≡ print_list w.here.done ++ (print_all print_step path.steps ++ (print_end (ending_of path) ++ [])) =
          print_append print_line w.here.done (path ∷ [])
          ∙ ap (λ (l : List ℕ). print_list w.here.done ++ l) (line_print path []) in
          let e = ap length c in
          let f = length-append (print_list w.here.done) (print_all print_step path.steps ++ (print_end (ending_of path) ++ [])) in
          let h = length-append (print_all print_step path.steps) (print_end (ending_of path) ++ []) in
          let i = ap length (append-nil (print_end (ending_of path))) in
          rw (← same_done) (omega arith)

      pub lines_less : length d - tail.next < length d - place
      unfolding print_list
      lines_less =
          let a = next_is in
          let b = ap length (print_append print_line v.done (path ∷ [])) in
          let c = length-append (print_list v.done) (print_list (path ∷ [])) in
          let e = line_long path in
          let f = ap length (append-nil (print_line path)) in
          let h = v.place_is in
          let i = place_in in
          let j : length (print_list v.left) ≡ length (print_line path) + length (print_list w.here.rest) =
          ap (λ (l : List Path). length (print_list l)) left_is ∙ length-append (print_line path) (print_list w.here.rest) in
          omega arith
        where
          left_is : v.left ≡ path ∷ w.here.rest
          left_is =
              append_cancel_left v.done v.left (path ∷ w.here.rest)
              (sym v.all ∙ w.here.all ∙ ap (λ (l : List Path). l ++ path ∷ w.here.rest) same_done)

      pub lines_more : {x y : ℕ} → x ≡ cond tail.marked r.last 0 → y ≡ if_tested tail.test r.end
          → Lining d at' len' head' next' (with_rows t rows') (set stays p r.stays) (set goes p r.goes) (set far p r.far)
          (set lasts p r.last) (set marks p x) (set tests p y) r.names (p + 1) tail.next
      unfolding stays_of goes_of far_of lasts_of marks_of
      lines_more {x} {y} e h =
          let l : length v.done < 32 = rw (← v.p_is) lines_few in
          let m = ap (λ (y : Tail). y.marked) tailed in
          let q : x ≡ cond path.marked (last_bit path) 0 =
          e ∙ ap (λ (b : Bool). cond b r.last 0) m ∙ ap (λ (n : ℕ). cond path.marked n 0) w.last_is in
          let u : y ≡ test_place path.test (length (print_list v.done) + length (print_all print_step path.steps)) =
          h
          ∙ ap (λ (z : Tail). if_tested z.test r.end) tailed
          ∙ place_tested path.test r.end
          ∙ ap (test_place path.test)
          (w.end_is ∙ ap (λ (l : List Path). length (print_list l) + length (print_all print_step path.steps)) same_done) in
          record {
            sound = v.sound;
            done = v.done ++ path ∷ [];
            left = w.here.rest;
            all =
                w.here.all
                ∙ ap (λ (l : List Path). l ++ path ∷ w.here.rest) same_done
                ∙ sym (append_assoc v.done (path ∷ []) w.here.rest);
            p_is = rw (length-append v.done (path ∷ [])) (ap (λ (n : ℕ). n + 1) v.p_is);
            place_is = next_is;
            long = with_rows_long t rows' v.long rows_size;
            built = rw (rows_stand t rows' v.long rows_size) (rw same_done at w.built);
            stays_are = column_stored _ v.done path l v.stays_are v.p_is w.stays_is;
            goes_are = column_stored _ v.done path l v.goes_are v.p_is w.goes_is;
            far_are = column_stored _ v.done path l v.far_are v.p_is w.far_is;
            lasts_are = column_stored _ v.done path l v.lasts_are v.p_is w.last_is;
            marks_are = column_stored _ v.done path l v.marks_are v.p_is q;
            tests_are = tests_stored v.done path l v.tests_are v.p_is u;
          }

  -- how long each table is
  pub at_size : length at ≡ 512
  at_size = at_long v.built.indexed

  pub len_size : length len ≡ 512
  len_size = len_long v.built.indexed

  pub head_size : length head ≡ 256
  head_size = (index_linked v.built.indexed).head_long

  pub next_size : length next ≡ 512
  next_size = (index_linked v.built.indexed).next_long

  done_few : length v.done ≤ 32
  done_few =
      let a = (sound_sized d v.sound).few in
      let b = ap length v.all ∙ length-append v.done v.left in
      omega arith

  pub stays_size : length stays ≡ 32
  unfolding stays_of
  stays_size = rw v.stays_are (column_long _ v.done done_few)

  pub goes_size : length goes ≡ 32
  unfolding goes_of
  goes_size = rw v.goes_are (column_long _ v.done done_few)

  pub far_size : length far ≡ 32
  unfolding far_of
  far_size = rw v.far_are (column_long _ v.done done_few)

  pub lasts_size : length lasts ≡ 32
  unfolding lasts_of
  lasts_size = rw v.lasts_are (column_long _ v.done done_few)

  pub marks_size : length marks ≡ 32
  unfolding marks_of
  marks_size = rw v.marks_are (column_long _ v.done done_few)

  pub tests_size : length tests ≡ 32
  tests_size = rw v.tests_are (tests_long v.done done_few)

  -- no line is left
  module _ (l : length d ≤ place) where
    all_done : v.done ≡ list_paths d
    unfolding print_list
    all_done = sym (v.all ∙ ap (λ (qs : List Path). v.done ++ qs) (go v.left refl) ∙ append-nil v.done)
      where
        go : (qs : List Path) → v.left ≡ qs → qs ≡ []
        go [] e = refl
        go (q ∷ qs) e =
            let a = place_in in
            let b : length (print_list v.left) ≡ length (print_line q) + length (print_list qs) =
            rw e (length-append (print_line q) (print_list qs)) in
            absurd (let c = line_long q in omega arith)

    sized : Sized (list_paths d)
    sized = sound_sized d v.sound

    rows_are : rows_in t ≡ number_rows (list_paths d)
    rows_are = v.built.rows_are ∙ ap number_rows all_done

    pub lines_spreadable : Spreadable (rows_in t)
    lines_spreadable = rw rows_are (numbers_spreadable (list_paths d) sized)

    module _ {rows' : List ℕ} (s : Spread (rows_in t) rows') where
      pub lines_long : length (with_rows t rows') ≡ 18400
      lines_long = with_rows_long t rows' v.long s.long

      sizes : Longs at len head next rows' stays goes far lasts marks tests
      sizes =
          record {
            at_long = at_size;
            len_long = len_size;
            head_long = head_size;
            next_long = next_size;
            rows_long = s.long;
            stays_long = stays_size;
            goes_long = goes_size;
            far_long = far_size;
            lasts_long = lasts_size;
            marks_long = marks_size;
            tests_long = tests_size;
          }

      -- each is that of the list's paths
      all_are : joined (at ∷ len ∷ head ∷ next ∷ rows' ∷ stays ∷ goes ∷ far ∷ lasts ∷ marks ∷ tests ∷ []) ≡ tables_of (list_paths d)
      unfolding tables_of
      all_are =
          let i : Indexed d at len head next (names_of (list_paths d)) = rw all_done at v.built.indexed in
          let u : stays ≡ stays_of (list_paths d) = rw all_done at v.stays_are in
          let w : goes ≡ goes_of (list_paths d) = rw all_done at v.goes_are in
          let x : far ≡ far_of (list_paths d) = rw all_done at v.far_are in
          let y : lasts ≡ lasts_of (list_paths d) = rw all_done at v.lasts_are in
          let z : marks ≡ marks_of (list_paths d) = rw all_done at v.marks_are in
          let o : tests ≡ tests_of (list_paths d) = rw all_done at v.tests_are in
          let r = numbers_spread (list_paths d) sized (rw rows_are at s) in
          cc (i.at_is, i.len_is, i.head_is, i.next_is)

      -- the others are laid around the rows
      pub lines_end : {t₁ t₂ : List ℕ} → t₁ ≡ sets (sets (sets (sets (with_rows t rows') 0 at) 512 len) 1024 head) 1280 next
          → t₂ ≡ sets (sets (sets (sets (sets (sets t₁ 18208 stays) 18240 goes) 18272 far) 18304 lasts) 18336 marks) 18368 tests
          → t₂ ≡ tables_of (list_paths d)
      lines_end e f = laid_tables sizes (with_rows t rows') lines_long (rows_stand t rows' v.long s.long) e f ∙ all_are

pub ruleset over_lines = (lines_start, lines_line, lines_few, lines_less, lines_place, lines_more, lines_spreadable)
