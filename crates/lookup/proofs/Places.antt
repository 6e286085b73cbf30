-- Where a name stands among names: what a place says, and what one more name changes. Then lists of names each of which stands there once:
-- there the place of the name at k is k + 1.
use mathlib.Core.Path.{◌≡◌, refl, ap, ◌∙◌}
use mathlib.Core.Bool.{Bool, true, false}
use mathlib.Core.List.{List, [], ◌∷◌, ◌++◌, map}
use Prim.Native.Nat.{ℕ, zero, suc, ◌≤◌, ◌<◌}
use native.Mathlib.Omega.{arith}
use borrow.Author.Tests.{ltb-true, ltb-false}
use lib.ListN.{length, get_or, length-append}
use lib.Dec.{ltb}
use Rattle.xml.specs.Productions.{same}
use Rattle.lookup.specs.Names.{Named, placed, place_of}
use Rattle.lookup.specs.Index.{Once, first, another}
use Rattle.xml.proofs.Same.{same_equal, same_refl}

abbrev pub name_of : Named → List ℕ
name_of x = x.name

-- the name at k, from 0
abbrev pub name_at : List Named → ℕ → List ℕ
name_at ns k = get_or (map name_of ns) k []

-- n is one of the names
abbrev pub Has : List Named → List ℕ → Type 0
Has ns n = place_of ns n ≡ 0 → ⊥

placed_none : (b : Bool) (k : ℕ) → placed b k ≡ 0 → (b ≡ false) × (k ≡ 0)
placed_none true k e = absurd (omega arith)
placed_none false zero e = (refl, refl)
placed_none false (suc k) e = absurd (omega arith)

pub place_least : (ns : List Named) (n : List ℕ) → place_of ns n ≤ length ns
place_least [] n = omega arith
place_least (x ∷ ns) n = go (same x.name n) (place_of ns n) (place_least ns n)
  where
    go : (b : Bool) (k : ℕ) → k ≤ length ns → placed b k ≤ suc (length ns)
    go true k l = omega arith
    go false zero l = omega arith
    go false (suc k) l = omega arith

pub place_says : (ns : List Named) (n : List ℕ) (k : ℕ) → place_of ns n ≡ suc k → (k < length ns) × (name_at ns k ≡ n)
place_says [] n k e = absurd (omega arith)
place_says (x ∷ ns) n k e = go (same x.name n) refl (place_of ns n) refl k e (place_says ns n)
  where
    go : (b : Bool) → same x.name n ≡ b → (y : ℕ) → place_of ns n ≡ y → (k : ℕ) → placed b y ≡ suc k
        → ((j : ℕ) → place_of ns n ≡ suc j → (j < length ns) × (name_at ns j ≡ n))
        → (k < suc (length ns)) × (name_at (x ∷ ns) k ≡ n)
    go true h y q zero e later = (omega arith, same_equal x.name n h)
    go true h y q (suc k) e later = absurd (omega arith)
    go false h zero q k e later = absurd (omega arith)
    go false h (suc y) q zero e later = absurd (omega arith)
    go false h (suc y) q (suc k) e later =
        let z : y ≡ k = omega arith in
        let (a, b) = later k (q ∙ ap suc z) in
        (omega arith, b)

-- ---- one more name

pub place_old : (ns : List Named) (x : Named) (n : List ℕ) → same x.name n ≡ false → place_of (ns ++ x ∷ []) n ≡ place_of ns n
place_old [] x n e = rw e
place_old (y ∷ ns) x n e = ap (placed (same y.name n)) (place_old ns x n e)

pub place_new : (ns : List Named) (x : Named) → place_of ns x.name ≡ 0 → place_of (ns ++ x ∷ []) x.name ≡ suc (length ns)
place_new [] x z = rw (same_refl x.name)
place_new (y ∷ ns) x z =
    let (a, b) = placed_none (same y.name x.name) (place_of ns x.name) z in
    rw (a, place_new ns x b)

pub has_left : (ns : List Named) (x : Named) (n : List ℕ) → Has ns n → Has (ns ++ x ∷ []) n
has_left [] x n h e = h refl
has_left (y ∷ ns) x n h e =
    let (a, b) = placed_none (same y.name n) (place_of (ns ++ x ∷ []) n) e in
    has_left ns x n (λ z. h (rw (a, z))) b

pub has_right : (ns : List Named) (x : Named) → Has (ns ++ x ∷ []) x.name
has_right [] x e = let z : ◌≡◌ {A = ℕ} 1 0 = rw (same_refl x.name) at e in omega arith
has_right (y ∷ ns) x e =
    has_right ns x (placed_none (same y.name x.name) (place_of (ns ++ x ∷ []) x.name) e).1

pub place_kept : (ns : List Named) (x : Named) (n : List ℕ) → Has ns n → place_of (ns ++ x ∷ []) n ≡ place_of ns n
place_kept [] x n h = absurd (h refl)
place_kept (y ∷ ns) x n h = go (same y.name n) (place_of ns n) refl h (place_kept ns x n)
  where
    go : (b : Bool) (k : ℕ) → place_of ns n ≡ k → (placed b k ≡ 0 → ⊥) → (Has ns n → place_of (ns ++ x ∷ []) n ≡ place_of ns n)
        → placed b (place_of (ns ++ x ∷ []) n) ≡ placed b k
    go true k e h later = refl
    go false zero e h later = absurd (h refl)
    go false (suc k) e h later = ap (placed false) (later (λ z. omega arith) ∙ e)

pub name_left : (ns : List Named) (x : Named) (k : ℕ) → k < length ns → name_at (ns ++ x ∷ []) k ≡ name_at ns k
name_left [] x k l = absurd (omega arith)
name_left (y ∷ ns) x zero l = refl
name_left (y ∷ ns) x (suc k) l = name_left ns x k (omega arith)

pub name_right : (ns : List Named) (x : Named) → name_at (ns ++ x ∷ []) (length ns) ≡ x.name
name_right [] x = refl
name_right (y ∷ ns) x = name_right ns x

-- ---- each once

pub place_once : {ns : List Named} → Once ns → (k : ℕ) → k < length ns → place_of ns (name_at ns k) ≡ suc k
place_once first k l = absurd (omega arith)
place_once (another {ns} x o z) k l = go (ltb k (length ns)) refl (λ i. place_once o k i)
  where
    go : (b : Bool) → ltb k (length ns) ≡ b → (k < length ns → place_of ns (name_at ns k) ≡ suc k)
        → place_of (ns ++ x ∷ []) (name_at (ns ++ x ∷ []) k) ≡ suc k
    go true e before =
        let i = ltb-true k (length ns) e in
        let p = before i in
        rw (name_left ns x k i) (place_kept ns x (name_at ns k) (λ q. omega arith) ∙ p)
    go false e before =
        let i = ltb-false k (length ns) e in
        let j : k ≡ length ns = let m = length-append ns (x ∷ []) in omega arith in
        rw (j, name_right ns x) (place_new ns x z)
