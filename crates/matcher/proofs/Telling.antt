-- One path, from place to place: bit by bit its state tells which steps may take the next place from above, and at an element its hits tell
-- which steps reach the element's place, `hits_told`, and which are tried there, `tried_told`. By the three tests of a kind only. In order:
-- the bits of a path; one step; all steps; down a list.
use mathlib.Core.Path.{◌≡◌, refl, sym, ap, ◌∙◌, subst}
use mathlib.Core.Bool.{Bool, true, false, false≢true, true≢false, ◌&&◌, ◌||◌}
use mathlib.Core.List.{List, [], ◌∷◌, ◌++◌, append_assoc, map}
use mathlib.Core.Logic.{◌↔◌, ◌⊎◌, inl, inr}
use Prim.Native.Nat.{ℕ, zero, suc, ◌+◌, ◌-◌, ◌*◌, ◌/◌, ◌≤◌}
use native.Mathlib.Numerals.{add-one}
use native.Mathlib.Omega.{arith}
use lib.ListN.{length, length-append}
use Rattle.xml.proofs.Bools.{and_left, and_right, and_both, or_left, or_right, or_either}
use Rattle.paths.specs.Path.{Step}
use Rattle.compiled.specs.Kinds.{stays, goes, far}
use Rattle.compiled.specs.Bits.{bit, bits_of}
use Rattle.matcher.specs.Select.{At, Stands, all, Reaches}
use Rattle.matcher.specs.Moves.{Moves, same, down}
use Rattle.matcher.specs.Picked.{odd}
use Rattle.matcher.specs.Tried.{TriedAt}
use Rattle.matcher.specs.State.{hits_of, carried, tried_of}
use Rattle.matcher.proofs.Moving.{below_moves}
use Rattle.matcher.proofs.Laying.{at_behind, at_one, reach_more, reach_last, reach_zero, reach_none}
use Rattle.matcher.proofs.Digits.{bit_half, bit_odd, hits_in, is_hit, hits_bit, hits_in_lem}
use Rattle.matcher.proofs.Digits.{carried_in, carried_bit, carried_none, carried_in_lem}
use Rattle.matcher.proofs.Digits.{tried_in, is_tried, tried_bit, tried_last, tried_in_lem}

-- ---- the bits of a path

abbrev pub stay_bits : List Step → ℕ
stay_bits ss = bits_of (map (λ s. stays s.kind) ss)

abbrev pub go_bits : List Step → ℕ
go_bits ss = bits_of (map (λ s. goes s.kind) ss)

abbrev pub far_bits : List Step → ℕ
far_bits ss = bits_of (map (λ s. far s.kind) ss)

abbrev pub fit_bits : {A : Type 0} → (Step → A → Bool) → List Step → A → ℕ
fit_bits fits ss x = bits_of (map (λ s. fits s x) ss)

abbrev pub down_path : {A : Type 0} → (Step → A → Bool) → List Step → ℕ → List A → ℕ
down_path fits ss state [] = state
down_path fits ss state (x ∷ xs) = down_path fits ss (carried state (fit_bits fits ss x) (stay_bits ss) (go_bits ss) (far_bits ss)) xs

-- the hits at an element x below the elements `above`, from a fresh state
abbrev pub path_hits : {A : Type 0} → (Step → A → Bool) → List Step → List A → A → ℕ
path_hits fits ss above x = hits_of (down_path fits ss 1 above) (fit_bits fits ss x) (stay_bits ss) (go_bits ss)

-- the steps tried there
abbrev pub path_tried : {A : Type 0} → (Step → A → Bool) → List Step → List A → A → ℕ
path_tried fits ss above x = tried_of (down_path fits ss 1 above) (fit_bits fits ss x) (stay_bits ss) (go_bits ss)

-- bit by bit, a number says of which steps, after those `done`, P holds
abbrev pub Tells : (List Step → Step → Type 0) → List Step → List Step → ℕ → Type 0
Tells P done [] x = Unit {0}
Tells P done (s ∷ ss) x = ((odd x ≡ true) ↔ P done s) × Tells P (done ++ s ∷ []) ss (x / 2)

tells_bit : (P : List Step → Step → Type 0) (done : List Step) (s : Step) (ss : List Step) {y : ℕ} (b : Bool) (z : ℕ)
    → y ≡ bit b + 2 * z → ((b ≡ true) ↔ P done s) → Tells P (done ++ s ∷ []) ss z → Tells P done (s ∷ ss) y
tells_bit P done s ss b z e h r = (
  subst (λ (c : Bool). (c ≡ true) ↔ P done s) (sym (ap odd e ∙ bit_odd b z)) h,
  subst (λ (u : ℕ). Tells P (done ++ s ∷ []) ss u) (sym (ap (λ (u : ℕ). u / 2) e ∙ bit_half b z)) r,
)

-- ---- one step

nearer : (b k : ℕ) → b ≤ k + 1 → (b ≡ k + 1) ⊎ (b ≤ k)
nearer b k l = go ((k + 1) - b) refl
  where
    go : (d : ℕ) → (k + 1) - b ≡ d → (b ≡ k + 1) ⊎ (b ≤ k)
    go zero e = inl (omega arith)
    go (suc d) e = inr (omega arith)

module _ {A : Type 0} (Fits : Step → A → Type 0) (xs : List A) where
  -- a step may take the place after k from above: the steps before it reach a place to there, k itself unless it may go far
  abbrev ArrivesAt : ℕ → List Step → Step → Type 0
  ArrivesAt k done s = (b : ℕ) × Reaches Fits xs done b × (b ≤ k) × (far s.kind ≡ false → b ≡ k)

  -- the steps to this one reach a place
  abbrev pub ReachesAt : ℕ → List Step → Step → Type 0
  ReachesAt k done s = Reaches Fits xs (done ++ s ∷ []) k

  -- a step is tried there
  abbrev pub TriesAt : ℕ → List Step → Step → Type 0
  TriesAt k done s = TriedAt Fits xs k (done, s)

  module _ (k : ℕ) (done : List Step) (s : Step) where
    -- c: the step before takes the place after k; x: this step may take that place from above
    arrives_on : (c x : Bool) → ((c ≡ true) ↔ Reaches Fits xs done (k + 1)) → ((x ≡ true) ↔ ArrivesAt k done s)
        → ((c || (x && far s.kind)) ≡ true) ↔ ArrivesAt (k + 1) done s
    arrives_on c x hit from = (λ e. into (or_either c (x && far s.kind) e), λ a. back a.0 a.1 a.3 (nearer a.0 k a.2))
      where
        into : (c ≡ true) ⊎ ((x && far s.kind) ≡ true) → ArrivesAt (k + 1) done s
        into (inl e) = (k + 1, hit.0 e, omega arith, λ q. refl)
        into (inr e) =
            let a = from.0 (and_left x (far s.kind) e) in
            let l = a.2 in
            (a.0, a.1, omega arith, λ q. absurd (true≢false (sym (and_right x (far s.kind) e) ∙ q)))

        wide : (b : ℕ) → (far s.kind ≡ false → b ≡ k + 1) → b ≤ k → (f : Bool) → far s.kind ≡ f → f ≡ true
        wide b n l true q = refl
        wide b n l false q = absurd (let z = n q in omega arith)

        back : (b : ℕ) → Reaches Fits xs done b → (far s.kind ≡ false → b ≡ k + 1) → (b ≡ k + 1) ⊎ (b ≤ k)
            → (c || (x && far s.kind)) ≡ true
        back b r n (inl e) = or_left c (x && far s.kind) (hit.1 (subst (Reaches Fits xs done) e r))
        back b r n (inr l) =
            let w = wide b n l (far s.kind) refl in
            or_right c (x && far s.kind) (and_both x (far s.kind) (from.1 (b, r, l, λ q. absurd (true≢false (sym w ∙ q)))) w)

    -- the step is tried at the place after k
    tried_on : (c x : Bool) → ((c ≡ true) ↔ Reaches Fits xs done (k + 1)) → ((x ≡ true) ↔ ArrivesAt k done s)
        → (is_tried c x (stays s.kind) (goes s.kind) ≡ true) ↔ TriesAt (k + 1) done s
    tried_on c x hit from = (
      λ e. into (or_either (x && g) (c && st) e),
      λ a. back a.0 a.1 ((below_moves s.kind a.0 (k + 1)).0 a.2),
    )
      where
        st : Bool
        st = stays s.kind

        g : Bool
        g = goes s.kind

        into : ((x && g) ≡ true) ⊎ ((c && st) ≡ true) → TriesAt (k + 1) done s
        into (inl e) =
            let a = from.0 (and_left x g e) in
            let l = a.2 in (
              a.0,
              a.1,
              (below_moves s.kind a.0 (k + 1)).1
                  (down (and_right x g e) (omega arith) (λ q. let z = a.3 q in omega arith)),
            )
        into (inr e) = (
          k + 1,
          hit.0 (and_left c st e),
          (below_moves s.kind (k + 1) (k + 1)).1 (same (and_right c st e) refl (omega arith)),
        )

        back : (b : ℕ) → Reaches Fits xs done b → Moves st g (far s.kind) b (k + 1) → is_tried c x st g ≡ true
        back b r (same q e z) =
            or_right (x && g) (c && st) (and_both c st (hit.1 (subst (Reaches Fits xs done) (sym e) r)) q)
        back b r (down q l m) =
            or_left (x && g) (c && st) (and_both x g (from.1 (b, r, omega arith, λ w. let z = m w in omega arith)) q)

  module _ (fits : Step → A → Bool) (decides : (s : Step) (x : A) → Fits s x ↔ (fits s x ≡ true)) (k : ℕ) (n : A)
      (here : At xs (k + 1) n) where
    -- the step takes the place after k, which is n's
    hit_on : (done : List Step) (s : Step) (c x : Bool) → ((c ≡ true) ↔ Reaches Fits xs done (k + 1))
        → ((x ≡ true) ↔ ArrivesAt k done s)
        → (is_hit c x (fits s n) (stays s.kind) (goes s.kind) ≡ true) ↔ ReachesAt (k + 1) done s
    hit_on done s c x hit from = (
      λ e. into (or_either ((x && goes s.kind) && fits s n) ((stays s.kind && fits s n) && c) e),
      λ r. let a = reach_last Fits xs done s r in back a.0 a.1 a.2 ((below_moves s.kind a.0 (k + 1)).0 a.2.below),
    )
      where
        st : Bool
        st = stays s.kind

        g : Bool
        g = goes s.kind

        f : Bool
        f = fits s n

        stand : (b : ℕ) → Moves st g (far s.kind) b (k + 1) → f ≡ true → Stands Fits xs b s (k + 1)
        stand b m e = record { below = (below_moves s.kind b (k + 1)).1 m; what = n; there = here; fits = (decides s n).1 e }

        into : (((x && g) && f) ≡ true) ⊎ (((st && f) && c) ≡ true) → ReachesAt (k + 1) done s
        into (inl e) =
            let w = and_left (x && g) f e in
            let a = from.0 (and_left x g w) in
            let l = a.2 in
            reach_more Fits xs done s a.1
            (stand a.0 (down (and_right x g w) (omega arith) (λ q. let z = a.3 q in omega arith)) (and_right (x && g) f e))
        into (inr e) =
            let w = and_left (st && f) c e in
            reach_more Fits xs done s (hit.0 (and_right (st && f) c e))
            (stand (k + 1) (same (and_left st f w) refl (omega arith)) (and_right st f w))

        back : (b : ℕ) → Reaches Fits xs done b → Stands Fits xs b s (k + 1) → Moves st g (far s.kind) b (k + 1)
            → is_hit c x f st g ≡ true
        back b r h (same q e z) =
            let v = (decides s n).0 (subst (Fits s) (at_one h.there here refl) h.fits) in
            or_right ((x && g) && f) ((st && f) && c)
            (and_both (st && f) c (and_both st f q v) (hit.1 (subst (Reaches Fits xs done) (sym e) r)))
        back b r h (down q l m) =
            let v = (decides s n).0 (subst (Fits s) (at_one h.there here refl) h.fits) in
            or_left ((x && g) && f) ((st && f) && c)
            (and_both (x && g) f (and_both x g (from.1 (b, r, omega arith, λ w. let z = m w in omega arith)) q) v)

    -- ---- all steps of a path

    hits_tell : (ss done : List Step) (c : Bool) → ((c ≡ true) ↔ Reaches Fits xs done (k + 1)) → (x : ℕ)
        → Tells (ArrivesAt k) done ss x
        → Tells (ReachesAt (k + 1)) done ss (hits_in c x (fit_bits fits ss n) (stay_bits ss) (go_bits ss))
    hits_tell [] done c hit x from = tt
    hits_tell (s ∷ ss) done c hit x from =
        let t = is_hit c (odd x) (fits s n) (stays s.kind) (goes s.kind) in
        let h = hit_on done s c (odd x) hit from.0 in
        tells_bit (ReachesAt (k + 1)) done s ss t (hits_in t (x / 2) (fit_bits fits ss n) (stay_bits ss) (go_bits ss))
        (hits_bit c x (fits s n) (fit_bits fits ss n) (stays s.kind) (stay_bits ss) (goes s.kind) (go_bits ss))
        h
        (hits_tell ss (done ++ s ∷ []) t h (x / 2) from.1)

    -- h has the hits
    carried_tells : (ss : List Step) (w : ℕ) → length ss ≤ w + 1 → (done : List Step) (c : Bool)
        → ((c ≡ true) ↔ Reaches Fits xs done (k + 1)) → (h x : ℕ)
        → Tells (ReachesAt (k + 1)) done ss h → Tells (ArrivesAt k) done ss x
        → Tells (ArrivesAt (k + 1)) done ss (carried_in w c h x (far_bits ss))
    carried_tells [] w l done c hit h x hits from = tt
    carried_tells (s ∷ []) zero l done c hit h x hits from = (
      subst (λ (b : Bool). (b ≡ true) ↔ ArrivesAt (k + 1) done s) (sym (carried_none c h x (far s.kind) 0))
          (arrives_on k done s c (odd x) hit from.0),
      tt,
    )
    carried_tells (s ∷ r ∷ ss) zero l done c hit h x hits from = absurd (omega arith)
    carried_tells (s ∷ ss) (suc w) l done c hit h x hits from =
        let y = carried_in w (odd h) (h / 2) (x / 2) (far_bits ss) in
        tells_bit (ArrivesAt (k + 1)) done s ss (c || (odd x && far s.kind)) y
        (ap (λ (v : ℕ). carried_in v c h x (far_bits (s ∷ ss))) (sym (add-one w)) ∙ carried_bit c h x (far s.kind) (far_bits ss) w)
        (arrives_on k done s c (odd x) hit from.0)
        (carried_tells ss w (omega arith) (done ++ s ∷ []) (odd h) hits.0 (h / 2) (x / 2) hits.1 from.1)

    tried_tells : (ss : List Step) (w : ℕ) → length ss ≤ w + 1 → (done : List Step) (c : Bool)
        → ((c ≡ true) ↔ Reaches Fits xs done (k + 1)) → (h x : ℕ)
        → Tells (ReachesAt (k + 1)) done ss h → Tells (ArrivesAt k) done ss x
        → Tells (TriesAt (k + 1)) done ss (tried_in w c h x (stay_bits ss) (go_bits ss))
    tried_tells [] w l done c hit h x hits from = tt
    tried_tells (s ∷ []) zero l done c hit h x hits from = (
      subst (λ (b : Bool). (b ≡ true) ↔ TriesAt (k + 1) done s) (sym (tried_last c h x (stays s.kind) 0 (goes s.kind) 0))
          (tried_on k done s c (odd x) hit from.0),
      tt,
    )
    tried_tells (s ∷ r ∷ ss) zero l done c hit h x hits from = absurd (omega arith)
    tried_tells (s ∷ ss) (suc w) l done c hit h x hits from =
        let y = tried_in w (odd h) (h / 2) (x / 2) (stay_bits ss) (go_bits ss) in
        tells_bit (TriesAt (k + 1)) done s ss (is_tried c (odd x) (stays s.kind) (goes s.kind)) y
        (ap (λ (v : ℕ). tried_in v c h x (stay_bits (s ∷ ss)) (go_bits (s ∷ ss))) (sym (add-one w))
        ∙ tried_bit c h x (stays s.kind) (stay_bits ss) (goes s.kind) (go_bits ss) w)
        (tried_on k done s c (odd x) hit from.0)
        (tried_tells ss w (omega arith) (done ++ s ∷ []) (odd h) hits.0 (h / 2) (x / 2) hits.1 from.1)

    -- before the first step nothing takes the place
    nothing_hit : (false ≡ true) ↔ Reaches Fits xs [] (k + 1)
    nothing_hit = (λ e. absurd (false≢true e), λ r. absurd (let z = reach_none Fits xs r in omega arith))

    hits_here : (ss : List Step) (x : ℕ) → Tells (ArrivesAt k) [] ss x
        → Tells (ReachesAt (k + 1)) [] ss (hits_of x (fit_bits fits ss n) (stay_bits ss) (go_bits ss))
    hits_here ss x from =
        subst (Tells (ReachesAt (k + 1)) [] ss) (sym (hits_in_lem x (fit_bits fits ss n) (stay_bits ss) (go_bits ss)))
        (hits_tell ss [] false nothing_hit x from)

    tried_here : (ss : List Step) → length ss ≤ 16 → (x : ℕ) → Tells (ArrivesAt k) [] ss x
        → Tells (TriesAt (k + 1)) [] ss (tried_of x (fit_bits fits ss n) (stay_bits ss) (go_bits ss))
    tried_here ss l x from =
        subst (Tells (TriesAt (k + 1)) [] ss) (sym (tried_in_lem x (fit_bits fits ss n) (stay_bits ss) (go_bits ss)))
        (tried_tells ss 15 l [] false nothing_hit (hits_of x (fit_bits fits ss n) (stay_bits ss) (go_bits ss)) x (hits_here ss x from) from)

    deeper_here : (ss : List Step) → length ss ≤ 16 → (x : ℕ) → Tells (ArrivesAt k) [] ss x
        → Tells (ArrivesAt (k + 1)) [] ss (carried x (fit_bits fits ss n) (stay_bits ss) (go_bits ss) (far_bits ss))
    deeper_here ss l x from =
        subst (Tells (ArrivesAt (k + 1)) [] ss) (sym (carried_in_lem x (fit_bits fits ss n) (stay_bits ss) (go_bits ss) (far_bits ss)))
        (carried_tells ss 15 l [] false nothing_hit (hits_of x (fit_bits fits ss n) (stay_bits ss) (go_bits ss)) x (hits_here ss x from)
        from)

  -- ---- down a list

  tells_none : (ss done : List Step) → (Reaches Fits xs done 0 → ⊥) → Tells (ArrivesAt 0) done ss 0
  tells_none [] done never = tt
  tells_none (s ∷ ss) done never = (
    (λ e. absurd (false≢true e), λ a. absurd (never (subst (Reaches Fits xs done) (let l = a.2 in omega arith) a.1))),
    tells_none ss (done ++ s ∷ []) (reach_zero Fits xs done s),
  )

  tells_fresh : (ss : List Step) → Tells (ArrivesAt 0) [] ss 1
  tells_fresh [] = tt
  tells_fresh (s ∷ ss) =
      ((λ e. (0, ([], all), omega arith, λ q. refl), λ a. refl), tells_none ss (s ∷ []) (reach_zero Fits xs [] s))

  module _ (fits : Step → A → Bool) (decides : (s : Step) (x : A) → Fits s x ↔ (fits s x ≡ true)) (ss : List Step)
      (short : length ss ≤ 16) where
    tells_down : (ys zs ws : List A) → xs ≡ zs ++ (ys ++ ws) → (x k m : ℕ) → k ≡ length zs → m ≡ k + length ys
        → Tells (ArrivesAt k) [] ss x → Tells (ArrivesAt m) [] ss (down_path fits ss x ys)
    tells_down [] zs ws e x k m p q from = subst (λ (u : ℕ). Tells (ArrivesAt u) [] ss x) (let z : k ≡ m = omega arith in z) from
    tells_down (y ∷ ys) zs ws e x k m p q from =
        let here : At xs (k + 1) y = rw (e, p) (at_behind zs y (ys ++ ws)) in
        tells_down ys (zs ++ y ∷ []) ws (e ∙ sym (append_assoc zs (y ∷ []) (ys ++ ws)))
        (carried x (fit_bits fits ss y) (stay_bits ss) (go_bits ss) (far_bits ss)) (k + 1) m
        (rw (length-append zs (y ∷ [])) (omega arith)) (omega arith)
        (deeper_here fits decides k y here ss short x from)

module _ {A : Type 0} (Fits : Step → A → Type 0) (fits : Step → A → Bool) (decides : (s : Step) (x : A) → Fits s x ↔ (fits s x ≡ true))
    (ss : List Step) (short : length ss ≤ 16) (above : List A) (n : A) where
  from_above : Tells (ArrivesAt Fits (above ++ n ∷ []) (length above)) [] ss (down_path fits ss 1 above)
  from_above =
      let xs = above ++ n ∷ [] in
      tells_down Fits xs fits decides ss short above [] (n ∷ []) refl 1 0 (length above) refl (omega arith) (tells_fresh Fits xs ss)

  pub hits_told : Tells (ReachesAt Fits (above ++ n ∷ []) (length above + 1)) [] ss (path_hits fits ss above n)
  hits_told = hits_here Fits (above ++ n ∷ []) fits decides (length above) n (at_behind above n []) ss (down_path fits ss 1 above)
      from_above

  pub tried_told : Tells (TriesAt Fits (above ++ n ∷ []) (length above + 1)) [] ss (path_tried fits ss above n)
  tried_told =
      tried_here Fits (above ++ n ∷ []) fits decides (length above) n (at_behind above n []) ss short (down_path fits ss 1 above) from_above
