-- The loop of `content`: a law for each way on and each way out. The invariant: the state now is safe, and where the state at the beginning
-- was on the way, it is.
use Rattle.std.specs.Prelude.{Result, Ok, Err}
use Rattle.document.specs.declared.ItemError.{ItemError}
use Rattle.document.proofs.Placing.{Unstarted, Unfinished}
use mathlib.Core.Path.{◌≡◌, refl, sym, ◌∙◌, subst}
use mathlib.Core.Bool.{Bool, true, false}
use mathlib.Core.List.{List}
use Prim.Native.Nat.{ℕ, ◌+◌, ◌-◌, ◌≤◌, ◌<◌}
use native.Mathlib.Omega.{arith}
use lib.ListN.{length}
use Rattle.tags.specs.declared.Item.{Item}
use Rattle.tags.specs.declared.Item.TheVariants.{Start, Finish}
use Rattle.items.specs.Item.{item_at}
use Rattle.items.specs.Inside.{Inside}
use Rattle.items.proofs.Insides.{item_inside}
use Rattle.document.specs.Place.{placement, end_of}
use Rattle.document.specs.Levels.{Names, opened_of}
use Rattle.document.specs.declared.Open.{Open}
use Rattle.document.specs.declared.Placement.{Placement}
use Rattle.document.specs.declared.Placement.TheVariants.{Fine, Fault as Faulty, Over}
use Rattle.document.specs.declared.Why.{Why}
use Rattle.document.proofs.After.{start_room}
use Rattle.document.proofs.Judging.{fine_ahead}
use Rattle.trees.specs.Grown.{part}
use Rattle.trees.specs.Engine.{on_aside}
use Rattle.descent.specs.Ink.{Moves, Ready}
use Rattle.descent.specs.Tree.{Safe, Going, closed, over, ElementEnds, ElementIs, ContentIs}
use Rattle.descent.specs.declared.ink.Run.{Run}
use Rattle.descent.specs.declared.ink.Tag.{Tag}
use Rattle.descent.specs.declared.tree.End.{End}
use Rattle.descent.proofs.Going.{going_fault, going_aside}

pub record Reading (list d starts lens : List ℕ) (level : ℕ) (kept rooted₀ : Bool) (at₀ : ℕ) (first₀ : Bool) (r₀ : Run) (o₀ : List ℕ)
    (rooted : Bool) (at : ℕ) (first : Bool) (r : Run) (o : List ℕ) : Type 0 where
  pub ahead : at₀ ≤ at
  pub safe : Safe d starts lens level kept r at
  pub same : kept ≡ true → r.reached.0 ≡ r₀.reached.0
  pub room : length o ≡ length o₀
  pub still : rooted₀ ≡ true → rooted ≡ true
  pub goes : (b : List ℕ) → Going list d starts lens b level rooted₀ kept r₀ at₀ first₀ o₀
      → Going list d starts lens b level rooted kept r at first o

pub read_start : {list d starts lens : List ℕ} {level : ℕ} {kept rooted : Bool} {at : ℕ} {first : Bool} {r : Run} {o : List ℕ}
    → Safe d starts lens level kept r at → Reading list d starts lens level kept rooted at first r o rooted at first r o
read_start s = record { ahead = omega arith; safe = s; same = λ e. refl; room = refl; still = λ e. e; goes = λ b g. g }

module _ {list d starts lens : List ℕ} {level : ℕ} {kept rooted₀ : Bool} {at₀ : ℕ} {first₀ : Bool} {r₀ : Run} {o₀ : List ℕ}
    {rooted : Bool} {at : ℕ} {first : Bool} {r : Run} {o : List ℕ}
    (v : Reading list d starts lens level kept rooted₀ at₀ first₀ r₀ o₀ rooted at first r o) where
  abbrev here : Open
  here = record { level = record { 0 = level }; rooted = rooted }

  pub read_names : Names d starts lens here
  read_names =
      let p = v.safe.placed in
      record { deep = p.deep; starts_long = p.starts_long; lens_long = p.lens_long; inside = p.inside }

  module _ {i : Item} (e : i ≡ item_at first d at) where
    pub read_inside : Inside d at i
    read_inside = rw e (item_inside first d at)

    module _ {p : Placement} (q : p ≡ placement d at i (opened_of d starts lens here)) where
      -- ---- out

      pub read_fault : (why : Why) → p ≡ Faulty why
          → ContentIs list d starts lens (record { level = record { 0 = level }; rooted = rooted₀ }) kept at₀ first₀ r₀ o₀
          (Err (record { why = why; at = at })) o
      read_fault why h b g = going_fault (v.goes b g) e why (sym q ∙ h)

      pub read_over : p ≡ Over
          → ContentIs list d starts lens (record { level = record { 0 = level }; rooted = rooted₀ }) kept at₀ first₀ r₀ o₀
          (Ok (record { at = at; end = at; run = r })) o
      read_over h =
          record {
            ahead = v.ahead;
            safe = v.safe;
            same = v.same;
            room = v.room;
            still = v.still;
            rooted = rooted;
            later = first;
            stops = over (rw e at (sym q ∙ h)) refl;
            goes = v.goes;
          }

      module _ (h : p ≡ Fine) where
        next : (at < end_of at i) × (end_of at i ≤ length d)
        next = fine_ahead d at i (opened_of d starts lens here) read_inside (sym q ∙ h)

        pub read_finish : {n end : ℕ} → i ≡ Finish n end
            → ContentIs list d starts lens (record { level = record { 0 = level }; rooted = rooted₀ }) kept at₀ first₀ r₀ o₀
            (Ok (record { at = at; end = end; run = r })) o
        read_finish {n} {end} f =
            record {
              ahead = v.ahead;
              safe = v.safe;
              same = v.same;
              room = v.room;
              still = v.still;
              rooted = rooted;
              later = first;
              stops = closed n (sym f ∙ e) (rw f at (sym q ∙ h));
              goes = v.goes;
            }

        -- ---- on, behind an item that is no tag

        pub read_ready : Ready d r
        read_ready =
            record {
              small = v.safe.small;
              near = omega (arith, v.safe.far, v.safe.small, next.0, next.1);
              few = omega (arith, v.safe.few, v.safe.small, next.0, next.1);
            }

        pub read_less : {end : ℕ} → end ≡ end_of at i → length d - end < length d - at
        read_less g = rw g (omega (arith, next.0, next.1))

        pub read_from : {end : ℕ} → end ≡ end_of at i → at ≤ end
        read_from g = rw g (omega (arith, next.0))

        pub read_to : {end : ℕ} → end ≡ end_of at i → end ≤ length d
        read_to g = rw g next.1

        pub read_aside : Unfinished i → Unstarted i
            → {end : ℕ} → end ≡ end_of at i → {r' : Run} {o' : List ℕ}
            → ((ss ls : List ℕ) (l : ℕ) → r.reached.0 ≤ l → Moves d ss ls l kept r o (on_aside (part d at end)) l kept r' o')
            → r'.reached.0 ≡ r.reached.0
            → Reading list d starts lens level kept rooted₀ at₀ first₀ r₀ o₀ rooted end false r' o'
        read_aside k k' {end} g {r'} {o'} mv er =
            let m = mv starts lens level v.safe.order in
            record {
              ahead = omega (arith, v.ahead, read_from g);
              safe =
                  record {
                    placed = v.safe.placed;
                    within = read_to g;
                    small = v.safe.small;
                    order = m.order;
                    entry = λ y. rw er (v.safe.entry y);
                    far = omega (arith, m.far, v.safe.far, g, next.0);
                    few = omega (arith, m.few, v.safe.few, g, next.0);
                  };
              same = λ y. er ∙ v.same y;
              room = m.same ∙ v.room;
              still = v.still;
              goes = λ b y. rw g (going_aside (v.goes b y) e (sym q ∙ h) next.0 next.1 k k' (rw g at m));
            }

        -- ---- an element

        module _ {n b f : ℕ} {m t : Bool} (s : i ≡ Start n b f m t) where
          places : (at + 1 + n ≤ b) × (b < f) × (f ≤ length d)
          places = rw s at read_inside

          pub read_level : level < 64
          read_level = start_room d starts lens here t (rw s at (sym q ∙ h))

          pub read_behind : at + 1 + n ≤ b
          read_behind = places.0

          pub read_head : b < f
          read_head = places.1

          pub read_tag : f ≤ length d
          read_tag = places.2

          abbrev tag : Tag
          tag = record { at = at; name = n; head = b; end = f }

          -- what the element came to, x
          module _ (x : Result End ItemError) (o' : List ℕ) (w : ElementIs list d starts lens level kept tag m r o x o') where
            pub read_inner_fault : {f : ItemError} → x ≡ Err f
                → ContentIs list d starts lens (record { level = record { 0 = level }; rooted = rooted₀ }) kept at₀ first₀ r₀ o₀
                (Err f) o'
            read_inner_fault {f} g c k =
                let u = subst (λ (y : Result End ItemError). ElementIs list d starts lens level kept tag m r o y o') g w in
                u c first rooted t (sym s ∙ e) (rw s at (sym q ∙ h)) (v.goes c k)

            module _ {z : End} (g : x ≡ Ok z) where
              ended : ElementEnds list d starts lens level kept tag m r o z.end z.run o'
              ended = subst (λ (y : Result End ItemError). ElementIs list d starts lens level kept tag m r o y o') g w

              pub read_element : Reading list d starts lens level kept rooted₀ at₀ first₀ r₀ o₀ true z.end false z.run o'
              read_element =
                  let u = ended in
                  record {
                    ahead = omega (arith, v.ahead, u.ahead);
                    safe = u.safe;
                    same = λ y. u.same y ∙ v.same y;
                    room = u.room ∙ v.room;
                    still = λ y. refl;
                    goes = λ c k. u.goes c first rooted t (sym s ∙ e) (rw s at (sym q ∙ h)) (v.goes c k);
                  }

              pub read_shorter : length d - z.end < length d - at
              read_shorter = let u = ended in omega (arith, u.ahead, u.safe.within)

pub ruleset reading = (
  read_start,
  read_names,
  read_inside,
  read_fault,
  read_over,
  read_finish,
  read_ready,
  read_less,
  read_from,
  read_to,
  read_aside,
  read_level,
  read_behind,
  read_head,
  read_tag,
  read_inner_fault,
  read_element,
  read_shorter,
)
