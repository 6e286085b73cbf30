-- Demand 2: "The bytes written are those that the rule gives." In order: `any_iff`, `any` tells whether an element of a forest is
-- selected, in the words of the choice of places; `leads_iff`, when an element that no path selects is written; `placed_by_rule`, the
-- four cases of `place`; `rule_cut`, the cut of a forest is written by the rule, and `rule_only`, nothing else is; the same of a document
-- by a list, `rule_written` and `written_only`, in one `rule_iff`.
use mathlib.Core.Path.{◌≡◌, refl, sym, ap, ◌∙◌}
use mathlib.Core.Bool.{Bool, true, false, not, ◌||◌, false≢true}
use mathlib.Core.List.{List, [], ◌∷◌, ◌++◌, append_assoc, cons≢nil}
use mathlib.Core.Logic.{◌⊎◌, inl, inr, ◌↔◌}
use Prim.Native.Nat.{ℕ}
use Rattle.xml.specs.Notation.{bytes}
use Rattle.xml.specs.Forest.{Name, Tag, Forest, nil, other, elem, render, end_tag}
use Rattle.xml.proofs.Bools.{or_either, or_left, or_right}
use Rattle.attributes.specs.Held.{attributes_of}
use Rattle.paths.specs.Path.{Path}
use Rattle.paths.specs.Judge.{list_paths}
use Rattle.document.specs.Place.{some}
use Rattle.matcher.specs.Says.{Some, this, later, Says, verdict_of}
use Rattle.matcher.specs.declared.Verdict.{Verdict}
use Rattle.matcher.specs.declared.Verdict.TheVariants.{Unselected, Selected, Marked}
use Rattle.matcher.proofs.Meaning.{says, says_only}
use Rattle.trees.specs.Cut.{on, is_selected, any, place, cut}
use Rattle.trees.specs.Grown.{forest_of}
use Rattle.trees.specs.Written.{root_first, verdicts, cut_of}
use Rattle.demands.specs.Elements.{elements}
use Rattle.demands.specs.Rule.{SomeSelected, LeadsOn, Writes, over, whole, with_tag, bare, dropped, dropped_item}
use Rattle.demands.proofs.Selected.{selected_iff}

-- ---- some of two lists

module _ {A : Type 0} {P : A → Type 0} where
  some_first : {xs : List A} (ys : List A) → Some P xs → Some P (xs ++ ys)
  some_first ys (this h) = this h
  some_first ys (later s) = later (some_first ys s)

  some_second : (xs : List A) {ys : List A} → Some P ys → Some P (xs ++ ys)
  some_second [] s = s
  some_second (x ∷ xs) s = later (some_second xs s)

  some_either : (xs ys : List A) → Some P (xs ++ ys) → Some P xs ⊎ Some P ys
  some_either [] ys s = inr s
  some_either (x ∷ xs) ys (this h) = inl (this h)
  some_either (x ∷ xs) ys (later s) = go (some_either xs ys s)
    where
      go : Some P xs ⊎ Some P ys → Some P (x ∷ xs) ⊎ Some P ys
      go (inl a) = inl (later a)
      go (inr b) = inr b

append_some : {A : Type 0} (xs : List A) (x : A) → xs ++ x ∷ [] ≡ [] → ⊥
append_some [] x e = cons≢nil e
append_some (y ∷ xs) x e = cons≢nil e

-- ---- `any`, in the words of the choice of places

module _ (ps : List Path) where
  any_selected : (up : List Name) (f : Forest) → any (verdicts ps) up f ≡ true → SomeSelected ps (root_first up) f
  unfolding verdicts
  any_selected up nil e = absurd (false≢true e)
  any_selected up (other raw rest) e = any_selected up rest e
  any_selected up (elem t kids close rest) e =
      go (or_either (is_selected (verdict_of ps (root_first (t.name ∷ up)) (attributes_of t))) _ e) (any_selected (t.name ∷ up) kids)
      (any_selected up rest)
    where
      go : (is_selected (verdict_of ps (root_first (t.name ∷ up)) (attributes_of t)) ≡ true)
          ⊎ ((any (verdicts ps) (t.name ∷ up) kids || any (verdicts ps) up rest) ≡ true)
          → (any (verdicts ps) (t.name ∷ up) kids ≡ true → SomeSelected ps (root_first (t.name ∷ up)) kids)
          → (any (verdicts ps) up rest ≡ true → SomeSelected ps (root_first up) rest)
          → SomeSelected ps (root_first up) (elem t kids close rest)
      go (inl s) k r = this ((selected_iff ps (root_first (t.name ∷ up)) (attributes_of t)).1 s)
      go (inr e) k r = inside (or_either (any (verdicts ps) (t.name ∷ up) kids) _ e)
        where
          inside : (any (verdicts ps) (t.name ∷ up) kids ≡ true) ⊎ (any (verdicts ps) up rest ≡ true)
              → SomeSelected ps (root_first up) (elem t kids close rest)
          inside (inl a) = later (some_first (elements (root_first up) rest) (k a))
          inside (inr b) = later (some_second (elements (root_first (t.name ∷ up)) kids) (r b))

  selected_any : (up : List Name) (f : Forest) → SomeSelected ps (root_first up) f → any (verdicts ps) up f ≡ true
  unfolding verdicts
  selected_any up nil s = elim s [ ]
  selected_any up (other raw rest) s = selected_any up rest s
  selected_any up (elem t kids close rest) (this h) =
      or_left (is_selected (verdict_of ps (root_first (t.name ∷ up)) (attributes_of t))) _
      ((selected_iff ps (root_first (t.name ∷ up)) (attributes_of t)).0 h)
  selected_any up (elem t kids close rest) (later s) =
      or_right (is_selected (verdict_of ps (root_first (t.name ∷ up)) (attributes_of t))) _
      (go (some_either (elements (root_first (t.name ∷ up)) kids) (elements (root_first up) rest) s)
      (selected_any (t.name ∷ up) kids) (selected_any up rest))
    where
      go : SomeSelected ps (root_first (t.name ∷ up)) kids ⊎ SomeSelected ps (root_first up) rest
          → (SomeSelected ps (root_first (t.name ∷ up)) kids → any (verdicts ps) (t.name ∷ up) kids ≡ true)
          → (SomeSelected ps (root_first up) rest → any (verdicts ps) up rest ≡ true)
          → any (verdicts ps) (t.name ∷ up) kids || any (verdicts ps) up rest ≡ true
      go (inl a) k r = or_left (any (verdicts ps) (t.name ∷ up) kids) _ (k a)
      go (inr b) k r = or_right (any (verdicts ps) (t.name ∷ up) kids) _ (r b)

  -- "with a selected element somewhere under it"
  pub any_iff : (up : List Name) (f : Forest) → (any (verdicts ps) up f ≡ true) ↔ SomeSelected ps (root_first up) f
  any_iff up f = (any_selected up f, selected_any up f)

  -- "the root, or with a selected element somewhere under it"
  pub leads_iff : (up : List Name) (t : Tag) (kids : Forest)
      → (not (some up) || any (verdicts ps) (t.name ∷ up) kids ≡ true) ↔ LeadsOn ps (root_first up) t kids
  leads_iff [] t kids = ((λ e. inl refl), (λ l. refl))
  leads_iff (m ∷ up) t kids = ((λ e. inr (any_selected (t.name ∷ m ∷ up) kids e)), go)
    where
      go : LeadsOn ps (root_first (m ∷ up)) t kids → any (verdicts ps) (t.name ∷ m ∷ up) kids ≡ true
      go (inl e) = absurd (append_some (root_first up) m e)
      go (inr s) = selected_any (t.name ∷ m ∷ up) kids s

-- ---- the rule, of a forest

-- the bytes of an element and what follows, from the left as in the rule and from the right as in `render`
whole_bytes : (a b c d w : List ℕ) → a ++ b ++ c ++ d ++ w ≡ a ++ (b ++ (c ++ (d ++ w)))
whole_bytes a b c d w = simp append_assoc

tagged_bytes : (a n k w : List ℕ) → a ++ bytes ">" ++ k ++ bytes "</" ++ n ++ bytes ">" ++ w ≡ a ++ (bytes ">" ++ (k ++ (end_tag n ++ w)))
tagged_bytes a n k w = simp append_assoc

module _ (ps : List Path) where
  -- an element, by what is said of it and by whether it leads on
  pub placed_by_rule : (up : List Name) (t : Tag) (kids : Forest) (close : List ℕ) (rest kids' rest' : Forest) (v : Verdict)
      → Says ps (root_first (t.name ∷ up)) (attributes_of t) v → (b : Bool) → (b ≡ true) ↔ LeadsOn ps (root_first up) t kids
      → Writes ps (root_first (t.name ∷ up)) kids (render kids') → Writes ps (root_first up) rest (render rest')
      → Writes ps (root_first up) (elem t kids close rest) (render (place v b t kids close kids' rest'))
  placed_by_rule up t kids close rest x r Marked h b l k w =
      rw (← (whole_bytes t.head t.tail (render kids) close (render r))) (whole h w)
  placed_by_rule up t kids close rest x r Selected h b l k w =
      rw (← (tagged_bytes t.head t.name (render x) (render r))) (with_tag h.1 h.0 k w)
  placed_by_rule up t kids close rest x r Unselected h true l k w =
      rw (← (tagged_bytes (60 ∷ t.name) t.name (render x) (render r))) (bare h (l.0 refl) k w)
  placed_by_rule up t kids close rest x r Unselected h false l k w = dropped h (λ y. false≢true (l.1 y)) w

  pub rule_cut : (up : List Name) (f : Forest) → Writes ps (root_first up) f (render (cut (verdicts ps) up f))
  unfolding verdicts
  rule_cut up nil = over
  rule_cut up (other raw rest) = dropped_item (rule_cut up rest)
  rule_cut up (elem t kids close rest) =
      placed_by_rule up t kids close rest (cut (verdicts ps) (t.name ∷ up) kids) (cut (verdicts ps) up rest)
      (verdict_of ps (root_first (t.name ∷ up)) (attributes_of t)) (says ps (root_first (t.name ∷ up)) (attributes_of t)) _
      (leads_iff ps up t kids) (rule_cut (t.name ∷ up) kids) (rule_cut up rest)

  -- ---- and nothing else is written by it

  verdict_is : (up : List Name) (t : Tag) {above : List Name} → above ≡ root_first up → (v : Verdict)
      → Says ps (above ++ t.name ∷ []) (attributes_of t) v → on (verdicts ps) t up ≡ v
  unfolding verdicts
  verdict_is up t e v h = sym (says_only ps (root_first up ++ t.name ∷ []) (attributes_of t) v (rw e at h))

  leads_true : (up : List Name) (t : Tag) (kids : Forest) {above : List Name} → above ≡ root_first up → LeadsOn ps above t kids
      → not (some up) || any (verdicts ps) (t.name ∷ up) kids ≡ true
  leads_true up t kids e l = (leads_iff ps up t kids).1 (rw e at l)

  leads_false : (up : List Name) (t : Tag) (kids : Forest) {above : List Name} → above ≡ root_first up → ¬ LeadsOn ps above t kids
      → not (some up) || any (verdicts ps) (t.name ∷ up) kids ≡ false
  leads_false up t kids e l = go (not (some up) || any (verdicts ps) (t.name ∷ up) kids) refl
    where
      go : (b : Bool) → not (some up) || any (verdicts ps) (t.name ∷ up) kids ≡ b → b ≡ false
      go true q = absurd (l (rw e ((leads_iff ps up t kids).0 q)))
      go false q = refl

  pub rule_only : {above : List Name} {f : Forest} {w : List ℕ} → Writes ps above f w → (up : List Name) → above ≡ root_first up
      → w ≡ render (cut (verdicts ps) up f)
  rule_only over up e = refl
  rule_only (whole {t = t} {kids = kids} {rest = rest} {close = close} h r) up e =
      rw (verdict_is up t e Marked h, rule_only r up e)
      (whole_bytes t.head t.tail (render kids) close (render (cut (verdicts ps) up rest)))
  rule_only (with_tag {t = t} {kids = kids} {rest = rest} m h k r) up e =
      rw (
        verdict_is up t e Selected (h, m),
        rule_only k (t.name ∷ up) (ap (λ (a : List Name). a ++ t.name ∷ []) e),
        rule_only r up e,
      )
      (tagged_bytes t.head t.name (render (cut (verdicts ps) (t.name ∷ up) kids)) (render (cut (verdicts ps) up rest)))
  rule_only (bare {t = t} {kids = kids} {rest = rest} h l k r) up e =
      rw (
        verdict_is up t e Unselected h,
        leads_true up t kids e l,
        rule_only k (t.name ∷ up) (ap (λ (a : List Name). a ++ t.name ∷ []) e),
        rule_only r up e,
      )
      (tagged_bytes (60 ∷ t.name) t.name (render (cut (verdicts ps) (t.name ∷ up) kids)) (render (cut (verdicts ps) up rest)))
  rule_only (dropped {t = t} {kids = kids} h l r) up e =
      rw (verdict_is up t e Unselected h, leads_false up t kids e l) (rule_only r up e)
  rule_only (dropped_item r) up e = rule_only r up e

-- so what the rule writes of a forest is one text
pub writes_one : {ps : List Path} {f : Forest} {w w' : List ℕ} → Writes ps [] f w → Writes ps [] f w' → w ≡ w'
writes_one {ps} h k = rule_only ps h [] refl ∙ sym (rule_only ps k [] refl)

-- ---- the rule, of a document by a list

pub rule_written : (list d : List ℕ) → Writes (list_paths list) [] (forest_of d) (cut_of list d)
unfolding cut_of
rule_written list d = rule_cut (list_paths list) [] (forest_of d)

pub written_only : (list d w : List ℕ) → Writes (list_paths list) [] (forest_of d) w → w ≡ cut_of list d
unfolding cut_of
written_only list d w h = rule_only (list_paths list) h [] refl

pub rule_iff : (list d w : List ℕ) → Writes (list_paths list) [] (forest_of d) w ↔ (w ≡ cut_of list d)
rule_iff list d w = (written_only list d w, λ e. rw e (rule_written list d))
