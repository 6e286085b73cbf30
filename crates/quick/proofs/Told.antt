-- What an end tag that is told says: where the bytes at x are a name of n bytes, up to 255, the item at the place is the end tag of that
-- name, and the name is that at x. In order: a name before another byte; the bytes of the tag; the item.
use mathlib.Core.Path.{◌≡◌, refl, sym, ap, ap₂, ◌∙◌}
use mathlib.Core.Bool.{Bool, true, false, cond, ◌&&◌}
use mathlib.Core.List.{List, ◌∷◌, ◌++◌}
use mathlib.Core.Option.{some}
use Prim.Native.Nat.{ℕ, ◌+◌, ◌-◌, ◌≤◌, ◌<◌}
use native.Mathlib.Omega.{arith}
use borrow.Author.Tests.{eqb-true, leb-true}
use lib.Dec.{eqb, leb}
use lib.ListN.{length, get_or, take, drop, take-append-drop, length-drop}
use lib.Seq.{drop-drop, length-take-le, take_at}
use Rattle.xml.specs.Notation.{bytes}
use Rattle.xml.specs.Character.{begins, run}
use Rattle.xml.specs.Productions.{is_name, is_space, Name, is_name_start, is_name_more}
use Rattle.xml.proofs.Bools.{and_left, and_right}
use Rattle.xml.proofs.Character.{begins_split}
use Rattle.xml.proofs.Language.{reads_frame}
use Rattle.xml.proofs.Run.{starts_low, run_low}
use Rattle.utf8.specs.Place.{ends_at}
use Rattle.utf8.proofs.Place.{drop_step, stands_ends}
use Rattle.chars.specs.Name.{name_of, name_at}
use Rattle.chars.specs.Space.{space_end}
use Rattle.std.specs.Prelude.{Some}
use Rattle.chars.proofs.Meaning.{name_found, name_is}
use Rattle.readers.proofs.Answers.{byte_yes}
use Rattle.tags.specs.Kept.{name_from}
use Rattle.tags.specs.declared.Item.TheVariants.{Finish}
use Rattle.tags.specs.Tag.{end_tag_at}
use Rattle.tags.proofs.Named.{finish_ends}
use Rattle.items.specs.Item.{item_at}
use Rattle.items.proofs.Telling.{markup_finish}
use Rattle.quick.specs.End.{closes_here, NamedAt}
use Rattle.quick.proofs.Ending.{asked}

-- ---- a name before another byte

name_moved : (w t : List ℕ) (b : ℕ) (u : List ℕ) → b < 0x80 → is_name b ≡ false → name_of (w ++ t) ≡ some t
    → name_of (w ++ (b ∷ u)) ≡ some (b ∷ u)
name_moved w t b u l n e =
    name_is (w ++ (b ∷ u)) (b ∷ u) (reads_frame Name w t (b ∷ u) (name_found (w ++ t) t e).0) (starts_low is_name b u l ∙ n)

no_name : is_name 0x3E ≡ false
unfolding is_name is_name_start is_name_more
no_name = refl

no_space : is_space 0x3E ≡ false
unfolding is_space
no_space = refl

module _ (d : List ℕ) (at x n : ℕ) (h : x + n ≤ length d) (c : closes_here d at x n ≡ true) where
  -- ---- the bytes of the tag

  room : n + 3 ≤ length d - at
  unfolding closes_here
  room = leb-true (n + 3) (length d - at) (and_left (leb (n + 3) (length d - at)) _ c)

  all : eqb (get_or d (at + 1) 0) 0x2F && (begins (take n (drop x d)) (drop (at + 2) d) && (eqb (get_or d ((at + 2) + n) 0) 0x3E && true))
      ≡ true
  all = sym (asked d at x n h room) ∙ c

  slash : get_or d (at + 1) 0 ≡ 0x2F
  slash = eqb-true (get_or d (at + 1) 0) 0x2F (and_left (eqb (get_or d (at + 1) 0) 0x2F) _ all)

  rest : begins (take n (drop x d)) (drop (at + 2) d) && (eqb (get_or d ((at + 2) + n) 0) 0x3E && true) ≡ true
  rest = and_right (eqb (get_or d (at + 1) 0) 0x2F) _ all

  bracket : get_or d ((at + 2) + n) 0 ≡ 0x3E
  bracket =
      eqb-true (get_or d ((at + 2) + n) 0) 0x3E
      (and_left (eqb (get_or d ((at + 2) + n) 0) 0x3E) true (and_right (begins (take n (drop x d)) (drop (at + 2) d)) _ rest))

  long : length (take n (drop x d)) ≡ n
  long = length-take-le n (drop x d) (omega (arith, length-drop x d))

  after : drop ((at + 2) + n) d ≡ 0x3E ∷ drop ((at + 2) + n + 1) d
  after = drop_step d ((at + 2) + n) (omega (arith, room)) ∙ ap (λ (b : ℕ). b ∷ drop ((at + 2) + n + 1) d) bracket

  there : drop (at + 2) d ≡ take n (drop x d) ++ drop ((at + 2) + n) d
  there =
      begins_split (take n (drop x d)) (drop (at + 2) d) (and_left (begins (take n (drop x d)) (drop (at + 2) d)) _ rest)
      ∙ ap (λ (k : ℕ). take n (drop x d) ++ drop k (drop (at + 2) d)) long
      ∙ ap (λ (s : List ℕ). take n (drop x d) ++ s) (drop-drop n (at + 2) d)

  -- the name of the tag is that at x
  pub told_name : name_from d (at + 2) n ≡ name_from d x n
  told_name = ap (take n) there ∙ take_at (take n (drop x d)) (drop ((at + 2) + n) d) n long

  -- ---- the item

  module _ (m : name_of (drop x d) ≡ some (drop (x + n) d)) where
    named : name_of (drop (at + 2) d) ≡ some (drop ((at + 2) + n) d)
    named =
        let w = take n (drop x d) in
        let split : w ++ drop (x + n) d ≡ drop x d =
        ap (λ (s : List ℕ). w ++ s) (sym (drop-drop n x d)) ∙ take-append-drop n (drop x d) in
        ap name_of (there ∙ ap (λ (s : List ℕ). w ++ s) after)
        ∙ name_moved w (drop (x + n) d) 0x3E (drop ((at + 2) + n + 1) d) (omega arith) no_name (ap name_of split ∙ m)
        ∙ ap some (sym after)

    ends : (at + 2) + n ≡ ends_at d (at + 2) (drop ((at + 2) + n) d)
    ends = stands_ends (at + 2) (record { rest = refl; inside = omega (arith, room) }) (omega arith)

    name_there : Some ((at + 2) + n) ≡ name_at d (at + 2)
    unfolding name_at
    name_there = rw (named, ← ends)

    stays : run is_space 0 (drop ((at + 2) + n) d) ≡ drop ((at + 2) + n) d
    stays = rw (after, run_low is_space 0x3E (drop ((at + 2) + n + 1) d) (omega arith), no_space)

    no_blank : (at + 2) + n ≡ space_end d ((at + 2) + n)
    unfolding space_end
    no_blank = stands_ends ((at + 2) + n) (record { rest = sym stays; inside = omega (arith, room) }) (omega arith)

    module _ (l : n ≤ 255) (first : Bool) (b : get_or d at 0 ≡ 0x3C) where
      opens : true ≡ begins (bytes "</") (drop at d)
      opens = rw (drop_step d at (omega (arith, room)), drop_step d (at + 1) (omega (arith, room)), b, slash)

      tag : Finish (((at + 2) + n) - (at + 2)) (((at + 2) + n) + 1) ≡ end_tag_at d at
      tag =
          finish_ends d at opens refl name_there refl no_blank
          (byte_yes d ((at + 2) + n) 0x3E (omega (arith, room)) bracket) refl (omega arith)

      -- the item, and what the code answers
      pub told_item : Finish n (at + (n + 3)) ≡ item_at first d at
      told_item =
          let z : ((at + 2) + n) - (at + 2) ≡ n = omega arith in
          let y : ((at + 2) + n) + 1 ≡ at + (n + 3) = omega arith in
          markup_finish first d at (omega (arith, room)) b (λ q. omega (arith, room)) slash (ap₂ Finish (sym z) (sym y) ∙ tag)

-- in terms of the answer of `end_tag`
module _ (d : List ℕ) (at x n : ℕ) {r : ℕ} (e : r ≡ cond (closes_here d at x n) (n + 3) 0) (l : 0 < r) where
  answered : (closes_here d at x n ≡ true) × (r ≡ n + 3)
  answered = go (closes_here d at x n) refl e
    where
      go : (b : Bool) → closes_here d at x n ≡ b → r ≡ cond b (n + 3) 0 → (closes_here d at x n ≡ true) × (r ≡ n + 3)
      go true q z = (q, z)
      go false q z = absurd (omega arith)

  pub answer_name : x + n ≤ length d → name_from d (at + 2) n ≡ name_from d x n
  answer_name h = told_name d at x n h answered.0

  pub answer_item : x + n ≤ length d → NamedAt d x n → (first : Bool) → get_or d at 0 ≡ 0x3C → item_at first d at ≡ Finish n (at + r)
  answer_item h m first b =
      sym (told_item d at x n h answered.0 m.named m.small first b) ∙ ap (λ (k : ℕ). Finish n (at + k)) (sym answered.1)
