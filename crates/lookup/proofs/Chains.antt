-- Chains find: the walk from the head of a name's number along `next` ends at the name's place. A walk has a count of links, and a link
-- goes down, so a count of the head's place is enough. Shown for each name that is put before its chain, and so for all of them.
use mathlib.Core.Path.{◌≡◌, refl, sym, ap, ◌∙◌}
use mathlib.Core.Bool.{Bool, true, false}
use mathlib.Core.List.{List, [], ◌∷◌, ◌++◌}
use Prim.Native.Nat.{ℕ, zero, suc, ◌+◌, ◌≤◌, ◌<◌, ◌*◌, ◌%◌}
use native.Mathlib.Nat.{add-zero, zero-add}
use native.Mathlib.Numerals.{add-one}
use native.Mathlib.Omega.{arith}
use borrow.Author.Tests.{eqb-true, eqb-false, ltb-true, ltb-false}
use lib.ListN.{length, get_or, set, replicate, length-append, length-set, length-replicate}
use lib.Seq.{get_or-set_same, get_or-set_other}
use lib.Dec.{eqb, ltb}
use Rattle.xml.specs.Productions.{same}
use Rattle.lookup.specs.Names.{Named, place_of, hash_from, hash_of, Chains, linked, linked_all, chains_of}
use Rattle.lookup.specs.Index.{Once, first, another}
use Rattle.xml.proofs.Same.{same_equal, same_other}
use Rattle.lookup.proofs.Places.{name_at, name_left, name_right, place_old, place_new}
use Rattle.lookup.proofs.Padded.{zeros}

-- the place k, or what comes later
abbrev pub stops : Bool → ℕ → ℕ → ℕ
stops true k later = k
stops false k later = later

-- from the place k on (from 1; 0 is the end), the place where n stands; f links at most
abbrev pub chain : List Named → List ℕ → List ℕ → ℕ → ℕ → ℕ
chain ns next n zero k = 0
chain ns next n (suc f) zero = 0
chain ns next n (suc f) (suc k) = stops (same (name_at ns k) n) (suc k) (chain ns next n f (get_or next k 0))

from_below : (h : ℕ) (n : List ℕ) → h < 256 → hash_from h n < 256
from_below h [] l = l
from_below h (b ∷ n) l = from_below ((h * 31 + b) % 256) n (omega arith)

pub hash_below : (n : List ℕ) → hash_of n < 256
unfolding hash_of
hash_below n = from_below 0 n (omega arith)

pub record Linked (ns : List Named) (head next : List ℕ) : Type 0 where
  pub head_long : length head ≡ 256
  pub next_long : length next ≡ 512
  pub top : (h : ℕ) → get_or head h 0 ≤ length ns
  pub down : (k : ℕ) → k < length ns → get_or next k 0 ≤ k
  pub most : (k : ℕ) → get_or next k 0 ≤ length ns
  pub finds : (n : List ℕ) (f : ℕ) → get_or head (hash_of n) 0 ≤ f → chain ns next n f (get_or head (hash_of n) 0) ≡ place_of ns n

linked_none : Linked [] (replicate 256 0) (replicate 512 0)
linked_none =
    record {
      head_long = length-replicate {A = ℕ} 256 0;
      next_long = length-replicate {A = ℕ} 512 0;
      top = λ h. rw (zeros 256 h) (omega arith);
      down = λ k l. absurd (omega arith);
      most = λ k. rw (zeros 512 k) (omega arith);
      finds = λ n f l. rw (zeros 256 (hash_of n)) (none n f);
    }
  where
    none : (n : List ℕ) (f : ℕ) → chain [] (replicate 512 0) n f 0 ≡ 0
    none n zero = refl
    none n (suc f) = refl

-- ---- one more name, put before its chain

module _ (ns : List Named) (x : Named) (head next : List ℕ) (v : Linked ns head next) (z : place_of ns x.name ≡ 0)
    (few : length ns < 512) where
  head_in : hash_of x.name < length head
  head_in = rw v.head_long (hash_below x.name)

  next_in : length ns < length next
  next_in = rw v.next_long few

  abbrev before : List ℕ
  before = set next (length ns) (get_or head (hash_of x.name) 0)

  -- a chain through the names before is as it was
  chain_old : (n : List ℕ) (f k : ℕ) → k ≤ length ns → chain (ns ++ x ∷ []) before n f k ≡ chain ns next n f k
  chain_old n zero k i = refl
  chain_old n (suc f) zero i = refl
  chain_old n (suc f) (suc k) i =
      let ne : k ≡ length ns → ⊥ = λ q. omega arith in
      rw (name_left ns x k (omega arith), get_or-set_other next (length ns) k (get_or head (hash_of x.name) 0) 0 ne)
      (ap (stops (same (name_at ns k) n) (suc k))
      (chain_old n f (get_or next k 0) (let y = v.down k (omega arith) in omega arith)))

  chain_new : (n : List ℕ) (f : ℕ) → suc (length ns) ≤ f → hash_of n ≡ hash_of x.name
      → chain (ns ++ x ∷ []) before n f (suc (length ns)) ≡ place_of (ns ++ x ∷ []) n
  chain_new n zero i y = absurd (omega arith)
  chain_new n (suc f) i y =
      rw (name_right ns x, get_or-set_same next (length ns) (get_or head (hash_of x.name) 0) 0 next_in) (go (same x.name n) refl)
    where
      go : (b : Bool) → same x.name n ≡ b
          → stops b (suc (length ns)) (chain (ns ++ x ∷ []) before n f (get_or head (hash_of x.name) 0)) ≡ place_of (ns ++ x ∷ []) n
      go true s = rw (← same_equal x.name n s) (sym (place_new ns x z))
      go false s =
          chain_old n f (get_or head (hash_of x.name) 0) (v.top (hash_of x.name))
          ∙ rw (← y) (v.finds n f (let w = v.top (hash_of n) in omega arith))
          ∙ sym (place_old ns x n s)

  finds_more : (n : List ℕ) (f : ℕ) → get_or (set head (hash_of x.name) (length ns + 1)) (hash_of n) 0 ≤ f
      → chain (ns ++ x ∷ []) before n f (get_or (set head (hash_of x.name) (length ns + 1)) (hash_of n) 0)
      ≡ place_of (ns ++ x ∷ []) n
  finds_more n f i = go (eqb (hash_of n) (hash_of x.name)) refl
    where
      go : (b : Bool) → eqb (hash_of n) (hash_of x.name) ≡ b
          → chain (ns ++ x ∷ []) before n f (get_or (set head (hash_of x.name) (length ns + 1)) (hash_of n) 0)
          ≡ place_of (ns ++ x ∷ []) n
      go true b =
          let y = eqb-true (hash_of n) (hash_of x.name) b in
          let q : get_or (set head (hash_of x.name) (length ns + 1)) (hash_of n) 0 ≡ suc (length ns) =
          rw y (get_or-set_same head (hash_of x.name) (length ns + 1) 0 head_in ∙ add-one (length ns)) in
          rw q (chain_new n f (rw q at i) y)
      go false b =
          let y = eqb-false (hash_of n) (hash_of x.name) b in
          let q = get_or-set_other head (hash_of x.name) (hash_of n) (length ns + 1) 0 y in
          rw q
          (chain_old n f (get_or head (hash_of n) 0) (v.top (hash_of n))
          ∙ v.finds n f (rw q at i)
          ∙ sym (place_old ns x n (same_other x.name n (λ s. y (sym (ap hash_of s))))))

  pub linked_more : Linked (ns ++ x ∷ []) (set head (hash_of x.name) (length ns + 1)) before
  linked_more =
      record {
        head_long = length-set head (hash_of x.name) (length ns + 1) ∙ v.head_long;
        next_long = length-set next (length ns) (get_or head (hash_of x.name) 0) ∙ v.next_long;
        top = λ h. rw (length-append ns (x ∷ [])) (tops h (eqb h (hash_of x.name)) refl);
        down = λ k l. downs k (rw (length-append ns (x ∷ [])) at l) (eqb k (length ns)) refl;
        most = λ k. rw (length-append ns (x ∷ [])) (mosts k (eqb k (length ns)) refl);
        finds = finds_more;
      }
    where
      mosts : (k : ℕ) (b : Bool) → eqb k (length ns) ≡ b → get_or before k 0 ≤ length ns + 1
      mosts k true b =
          rw (eqb-true k (length ns) b, get_or-set_same next (length ns) (get_or head (hash_of x.name) 0) 0 next_in)
          (let y = v.top (hash_of x.name) in omega arith)
      mosts k false b =
          rw (get_or-set_other next (length ns) k (get_or head (hash_of x.name) 0) 0 (eqb-false k (length ns) b))
          (let y = v.most k in omega arith)

      tops : (h : ℕ) (b : Bool) → eqb h (hash_of x.name) ≡ b
          → get_or (set head (hash_of x.name) (length ns + 1)) h 0 ≤ length ns + 1
      tops h true b =
          rw (eqb-true h (hash_of x.name) b, get_or-set_same head (hash_of x.name) (length ns + 1) 0 head_in) (omega arith)
      tops h false b =
          rw (get_or-set_other head (hash_of x.name) h (length ns + 1) 0 (eqb-false h (hash_of x.name) b))
          (let y = v.top h in omega arith)

      below : (k : ℕ) → k < length ns + 1 → (k ≡ length ns → ⊥) → (b : Bool) → ltb k (length ns) ≡ b → k < length ns
      below k l n true b = ltb-true k (length ns) b
      below k l n false b = absurd (n (let y = ltb-false k (length ns) b in omega arith))

      downs : (k : ℕ) → k < length ns + 1 → (b : Bool) → eqb k (length ns) ≡ b → get_or before k 0 ≤ k
      downs k l true b =
          rw (eqb-true k (length ns) b, get_or-set_same next (length ns) (get_or head (hash_of x.name) 0) 0 next_in)
          (v.top (hash_of x.name))
      downs k l false b =
          let n = eqb-false k (length ns) b in
          rw (get_or-set_other next (length ns) k (get_or head (hash_of x.name) 0) 0 n) (v.down k (below k l n (ltb k (length ns)) refl))

-- ---- all of them

linked_snoc : (ns : List Named) (x : Named) (c : Chains) (k : ℕ)
    → linked_all c k (ns ++ x ∷ []) ≡ linked (linked_all c k ns) (k + length ns) x.name
linked_snoc [] x c k = rw (add-zero k)
linked_snoc (y ∷ ns) x c k =
    let z : k + 1 + length ns ≡ k + suc (length ns) = omega arith in
    linked_snoc ns x (linked c k y.name) (k + 1)
    ∙ ap (λ (i : ℕ). linked (linked_all (linked c k y.name) (k + 1) ns) i x.name) z

pub chains_snoc : (ns : List Named) (x : Named) → chains_of (ns ++ x ∷ []) ≡ linked (chains_of ns) (length ns) x.name
unfolding chains_of
chains_snoc ns x = linked_snoc ns x _ 0 ∙ ap (λ (i : ℕ). linked (chains_of ns) i x.name) (zero-add (length ns))

pub chains_linked : {ns : List Named} → Once ns → length ns ≤ 512 → Linked ns (chains_of ns).head (chains_of ns).next
unfolding chains_of
chains_linked first l = linked_none
chains_linked (another {ns} x o z) l =
    let m = length-append ns (x ∷ []) in
    rw (chains_snoc ns x)
    (linked_more ns x (chains_of ns).head (chains_of ns).next (chains_linked o (omega arith)) z (omega arith))

-- the walk from the head finds the place
pub chains_find : {ns : List Named} → Once ns → length ns ≤ 512 → (n : List ℕ) (f : ℕ) → length ns ≤ f
    → chain ns (chains_of ns).next n f (get_or (chains_of ns).head (hash_of n) 0) ≡ place_of ns n
chains_find o l n f h =
    let v = chains_linked o l in
    v.finds n f (let z = v.top (hash_of n) in omega arith)
