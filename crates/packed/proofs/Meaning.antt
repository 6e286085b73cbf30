-- The packed form and its text undo each other. In order: a packed step, test, line and list spelled as text give back what was packed; a
-- text that packs to an input; `text_of` is `PackedForm`, both ways; the two round trips; one text and one packed form.
use mathlib.Core.Path.{◌≡◌, refl, sym, ap, ◌∙◌}
use mathlib.Core.Bool.{Bool, true, false, cond, false≢true}
use mathlib.Core.List.{List, [], ◌∷◌, ◌++◌, append_assoc, append-nil}
use mathlib.Core.Option.{Option, none as nothing, some, none-ne-some, some-injective}
use Prim.Native.Nat.{ℕ, zero, suc, ◌+◌, ◌/◌, ◌%◌, ◌≤◌, ◌<◌}
use native.Mathlib.Omega.{arith}
use borrow.Author.Tests.{eqb-true, eq-eqb, ne_eqb}
use lib.Dec.{eqb}
use lib.ListN.{length, take, drop, get_or, length-append, drop_of_length-le}
use lib.Seq.{drop-drop, take-append_seam, drop-append_seam, get_or-append_seam}
use Rattle.std.specs.Prelude.{Result, Ok, Err, is_ok}
use Rattle.xml.specs.Notation.{bytes}
use Rattle.xml.specs.Character.{begins}
use Rattle.xml.proofs.Bools.{and_left, and_right}
use Rattle.xml.proofs.Character.{begins_append, begins_split}
use Rattle.paths.specs.Path.{Test, any, named, Step, AttributeTest, Path, print_all, print_kind, print_test, print_step, print_attribute}
use Rattle.paths.specs.Path.{print_mark, print_line, print_list, Proper, ProperTest, ProperAttribute, IfAny, All, none, more, Good}
use Rattle.paths.specs.Judge.{list_answer, list_paths}
use Rattle.paths.specs.declared.Kind.{Kind}
use Rattle.paths.specs.declared.Kind.TheVariants.{Child, Descendant, SelfStep, DescendantOrSelf}
use Rattle.paths.specs.declared.ListError.{ListError}
use Rattle.paths.proofs.Names.{name_long}
use Rattle.paths.proofs.Meaning.{paths_print}
use Rattle.packed.specs.Packed.{pack_kind, pack_test, pack_step, pack_attribute, pack_mark, pack_record, pack_line, pack_list, pack_of}
use Rattle.packed.specs.Packed.{PackedForm, NoPackedForm}
use Rattle.packed.specs.Spelled.{Piece, kind_of, spell_step, spell_steps, spell_attribute, spell_end, spell_line, spell_lines}
use Rattle.packed.specs.Spelled.{spelled, same, packs, text_of}
use Rattle.packed.proofs.Spelling.{lines_none, lines_more}

-- ---- what was packed

-- the piece x has this text and takes so many bytes
record Spelt (x : Piece) (text : List ℕ) (size : ℕ) : Type 0 where
  text_is : x.text ≡ text
  size_is : x.size ≡ size

kind_back : (k : Kind) → kind_of (pack_kind k) ≡ k
unfolding kind_of
kind_back Child = refl
kind_back Descendant = refl
kind_back SelfStep = refl
kind_back DescendantOrSelf = refl

step_spelt : (x : Step) (t : List ℕ) → Proper x → Spelt (spell_step (pack_step x ++ t)) (print_step x) (length (pack_step x))
unfolding spell_step pack_step print_step
step_spelt x t ok = go x.test ok.test
  where
    go : (y : Test) → ProperTest y
        → Spelt (spell_step ((pack_kind x.kind ∷ pack_test y) ++ t)) (print_kind x.kind ++ print_test y)
        (length (pack_kind x.kind ∷ pack_test y))
    go any h = record { text_is = rw (kind_back x.kind); size_is = refl }
    go (named n) h =
        let l = name_long n h.name in
        let e : length n ≡ 0 → ⊥ = λ z. omega arith in
        record {
          text_is = rw (kind_back x.kind, ne_eqb (length n) 0 e, take-append_seam n t);
          size_is = omega arith;
        }

steps_spelt : (xs : List Step) (t : List ℕ) → All Proper xs
    → Spelt (spell_steps (length xs) (print_all pack_step xs ++ t)) (print_all print_step xs) (length (print_all pack_step xs))
unfolding spell_steps
steps_spelt [] t none = record { text_is = refl; size_is = refl }
steps_spelt (x ∷ xs) t (more ok oks) =
    let r = print_all pack_step xs ++ t in
    let a = step_spelt x r ok in
    let b = steps_spelt xs t oks in
    let q : (pack_step x ++ print_all pack_step xs) ++ t ≡ pack_step x ++ r = append_assoc (pack_step x) (print_all pack_step xs) t in
    let z : drop (spell_step (pack_step x ++ r)).size (pack_step x ++ r) ≡ r =
    ap (λ (n : ℕ). drop n (pack_step x ++ r)) a.size_is ∙ drop-append_seam (pack_step x) r in
    record {
      text_is = rw (q, z, a.text_is, b.text_is);
      size_is = rw (q, z, a.size_is, b.size_is) (sym (length-append (pack_step x) (print_all pack_step xs)));
    }

tested_spelt : (n v t : List ℕ) → 0 < length n
    → Spelt (spell_attribute (length n ∷ (n ++ length v ∷ (v ++ t)))) (bytes "[@" ++ (n ++ (bytes "=\"" ++ (v ++ bytes "\"]"))))
    (2 + length n + length v)
unfolding spell_attribute
tested_spelt n v t l =
    let r = length v ∷ (v ++ t) in
    let s = length n ∷ (n ++ r) in
    let e : length n ≡ 0 → ⊥ = λ z. omega arith in
    let i : 1 + length n ≡ suc (length n) = omega arith in
    let a : get_or s (1 + length n) 0 ≡ length v = ap (λ (k : ℕ). get_or s k 0) i ∙ get_or-append_seam n (length v) (v ++ t) 0 in
    let b : take (length n) (drop 1 s) ≡ n = take-append_seam n r in
    let j : 2 + length n ≡ suc (length n + 1) = omega arith in
    let c : drop (2 + length n) s ≡ v ++ t =
    ap (λ (k : ℕ). drop k s) j ∙ sym (drop-drop 1 (length n) (n ++ r)) ∙ ap (drop 1) (drop-append_seam n r) in
    record {
      text_is = rw (ne_eqb (length n) 0 e, a, b, c, take-append_seam v t);
      size_is = rw (ne_eqb (length n) 0 e, a);
    }

attribute_spelt : (x : Option AttributeTest) (t : List ℕ) → IfAny ProperAttribute x
    → Spelt (spell_attribute (pack_attribute x ++ t)) (print_attribute x) (length (pack_attribute x))
unfolding spell_attribute
attribute_spelt nothing t ok = record { text_is = refl; size_is = refl }
attribute_spelt (some x) t ok =
    let n = x.name in
    let v = x.value in
    let s = tested_spelt n v t (name_long n ok.name) in
    let q : length n ∷ ((n ++ length v ∷ v) ++ t) ≡ length n ∷ (n ++ length v ∷ (v ++ t)) =
    ap (λ (y : List ℕ). length n ∷ y) (append_assoc n (length v ∷ v) t) in
    let p : bytes "[@" ++ (n ++ (bytes "=\"" ++ (v ++ bytes "\"]"))) ≡ print_attribute (some x) = sym (simp append_assoc) in
    record {
      text_is = ap (λ (y : List ℕ). (spell_attribute y).text) q ∙ s.text_is ∙ p;
      size_is =
          ap (λ (y : List ℕ). (spell_attribute y).size) q
          ∙ s.size_is
          ∙ (omega (arith, length-append n (length v ∷ v)));
    }

mark_back : (m : Bool) → eqb (pack_mark m) 1 ≡ m
mark_back false = refl
mark_back true = refl

-- two bytes of a length, a mark, a number of steps; behind them the steps and the test
front_spelt : (x y m c : ℕ) (r a : List ℕ) {u v : List ℕ} {k j : ℕ} → Spelt (spell_steps c r) u k → drop k r ≡ a
    → Spelt (spell_attribute a) v j → Spelt (spell_line (x ∷ y ∷ m ∷ c ∷ r)) (u ++ (v ++ spell_end m)) (4 + k + j)
unfolding spell_line
front_spelt x y m c r a b e w =
    let s = x ∷ y ∷ m ∷ c ∷ r in
    let z : drop (4 + (spell_steps c r).size) s ≡ a =
    sym (drop-drop (spell_steps c r).size 4 s) ∙ ap (λ (n : ℕ). drop n r) b.size_is ∙ e in
    record { text_is = rw (z, b.text_is, w.text_is); size_is = rw (z, b.size_is, w.size_is) }

line_spelt : (p : Path) (t : List ℕ) → Good p → Spelt (spell_line (pack_line p ++ t)) (print_line p) (length (pack_line p))
unfolding pack_line pack_record print_line
line_spelt p t g =
    let xs = p.steps in
    let n = length (pack_record p) in
    let a = pack_attribute p.test ++ t in
    let r = print_all pack_step xs ++ a in
    let q : (print_all pack_step xs ++ pack_attribute p.test) ++ t ≡ r = append_assoc (print_all pack_step xs) (pack_attribute p.test) t in
    let s =
    front_spelt (n / 256) (n % 256) (pack_mark p.marked) (length xs) r a (steps_spelt xs a g.path.each)
    (drop-append_seam (print_all pack_step xs) a) (attribute_spelt p.test t g.path.test) in
    let f : List ℕ → Piece = λ v. spell_line (n / 256 ∷ n % 256 ∷ pack_mark p.marked ∷ length xs ∷ v) in
    let l = length-append (print_all pack_step xs) (pack_attribute p.test) in
    let e : print_all print_step xs ++ (print_attribute p.test ++ (print_mark p.marked ++ bytes "\n")) ≡ print_line p =
    sym (simp append_assoc) in
    record {
      text_is =
          ap (λ (v : List ℕ). (f v).text) q
          ∙ s.text_is
          ∙ ap (λ (m : Bool). print_all print_step xs ++ (print_attribute p.test ++ (print_mark m ++ bytes "\n"))) (mark_back p.marked)
          ∙ e;
      size_is = ap (λ (v : List ℕ). (f v).size) q ∙ s.size_is ∙ omega arith;
    }

line_some : (p : Path) → 0 < length (pack_line p)
unfolding pack_line
line_some p = omega arith

lines_spelt : (k : ℕ) (ps : List Path) → All Good ps → length ps ≤ k → spell_lines k (print_all pack_line ps) ≡ print_all print_line ps
lines_spelt k [] none l = lines_none k
lines_spelt zero (p ∷ ps) (more g gs) l = absurd (omega arith)
lines_spelt (suc k) (p ∷ ps) (more g gs) l =
    let r = print_all pack_line ps in
    let h = line_spelt p r g in
    let i = line_some p in
    let z : drop (spell_line (pack_line p ++ r)).size (pack_line p ++ r) ≡ r =
    ap (λ (n : ℕ). drop n (pack_line p ++ r)) h.size_is ∙ drop-append_seam (pack_line p) r in
    lines_more k (pack_line p ++ r) (omega (arith, length-append (pack_line p) r))
    ∙ ap (λ (y : List ℕ). y ++ spell_lines k (drop (spell_line (pack_line p ++ r)).size (pack_line p ++ r))) h.text_is
    ∙ ap (λ (y : List ℕ). print_line p ++ spell_lines k y) z
    ∙ ap (λ (y : List ℕ). print_line p ++ y) (lines_spelt k ps gs (omega arith))

-- the packed form of paths is spelled as what they print
pub spelled_pack : (ps : List Path) → All Good ps → length ps ≤ 32 → spelled (pack_list ps) ≡ print_list ps
unfolding spelled pack_list print_list
spelled_pack ps g l = lines_spelt 32 ps g l

-- ---- a text that packs to an input

pub same_true : (a b : List ℕ) → same a b ≡ true → a ≡ b
unfolding same
same_true a b h =
    let l : length a ≡ length b = eqb-true (length a) (length b) (and_left (eqb (length a) (length b)) (begins a b) h) in
    let e = begins_split a b (and_right (eqb (length a) (length b)) (begins a b) h) in
    let k : length b ≤ length a = omega arith in
    let z : drop (length a) b ≡ [] = drop_of_length-le b k in
    sym (e ∙ ap (λ (y : List ℕ). a ++ y) z ∙ append-nil a)

pub same_refl : (a : List ℕ) → same a a ≡ true
unfolding same
same_refl a = rw (eq-eqb (length a) (length a) refl) (ap (begins a) (sym (append-nil a)) ∙ begins_append a [])

sound_true : (a : Result (Unit {0}) ListError) → is_ok a ≡ true → a ≡ Ok tt
sound_true (Ok tt) h = refl
sound_true (Err e) h = absurd (false≢true h)

pub packs_form : (d s : List ℕ) → packs d s ≡ true → PackedForm d s
unfolding packs
packs_form d s h =
    record {
      sound = sound_true (list_answer s) (and_left (is_ok (list_answer s)) (same (pack_of s) d) h);
      packs = sym (same_true (pack_of s) d (and_right (is_ok (list_answer s)) (same (pack_of s) d) h));
    }

pub form_packs : {d s : List ℕ} → PackedForm d s → packs d s ≡ true
unfolding packs
form_packs {d} {s} f = rw (f.sound, f.packs) (same_refl (pack_of s))

-- the packed form of a text is spelled as that text
pub form_spelled : {d s : List ℕ} → PackedForm d s → spelled d ≡ s
unfolding pack_of
form_spelled {d} {s} f =
    let (p, g, n) = paths_print s f.sound in
    ap spelled f.packs ∙ spelled_pack (list_paths s) g n ∙ p

-- ---- `text_of` is `PackedForm`, both ways

-- one text has this packed form
pub form_once : {d s s' : List ℕ} → PackedForm d s → PackedForm d s' → s ≡ s'
form_once f g = sym (form_spelled f) ∙ form_spelled g

pub form_text : {d s : List ℕ} → PackedForm d s → text_of d ≡ some s
unfolding text_of
form_text f = rw (form_spelled f, form_packs f)

module _ (d : List ℕ) where
  text_by : (b : Bool) → packs d (spelled d) ≡ b → text_of d ≡ cond b (some (spelled d)) nothing
  unfolding text_of
  text_by b e = rw e

  pub text_form : (s : List ℕ) → text_of d ≡ some s → PackedForm d s
  text_form s h = go (packs d (spelled d)) refl
    where
      go : (b : Bool) → packs d (spelled d) ≡ b → PackedForm d s
      go true e =
          let q : spelled d ≡ s = some-injective _ _ (sym (text_by true e) ∙ h) in
          rw q at (packs_form d (spelled d) e)
      go false e = absurd (none-ne-some s (sym (text_by false e) ∙ h))

  -- "13 .. exactly when its input is the packed form of no sound text list"
  pub none_form : text_of d ≡ nothing → NoPackedForm d
  none_form h s f = none-ne-some s (sym h ∙ form_text f)

  pub form_none : NoPackedForm d → text_of d ≡ nothing
  form_none n = go (text_of d) refl
    where
      go : (o : Option (List ℕ)) → text_of d ≡ o → o ≡ nothing
      go nothing e = refl
      go (some s) e = absurd (n s (text_form s e))

-- ---- "Text to packed to text gives the same bytes, and so does packed to text to packed"

pub text_packed_text : (s : List ℕ) → list_answer s ≡ Ok tt → text_of (pack_of s) ≡ some s
text_packed_text s e = form_text (record { sound = e; packs = refl })

pub packed_text_packed : (d s : List ℕ) → text_of d ≡ some s → (list_answer s ≡ Ok tt) × (pack_of s ≡ d)
packed_text_packed d s e = let f = text_form d s e in (f.sound, sym f.packs)

-- two sound lists with one packed form are the same
pub pack_once : (s s' : List ℕ) → list_answer s ≡ Ok tt → list_answer s' ≡ Ok tt → pack_of s ≡ pack_of s' → s ≡ s'
pack_once s s' e e' q = form_once (record { sound = e; packs = refl }) (record { sound = e'; packs = q })
