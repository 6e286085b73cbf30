-- The laws of `with_name`: `*` changes nothing; a name that is there has its place; a new name is stored after the others, and put before
-- its chain.
use mathlib.Core.Path.{◌≡◌, refl, sym, ap, ◌∙◌}
use mathlib.Core.List.{List, [], ◌∷◌, ◌++◌, map}
use Prim.Native.Nat.{ℕ, zero, suc, ◌+◌, ◌-◌, ◌≤◌, ◌<◌}
use native.Mathlib.Numerals.{add-one}
use native.Mathlib.Omega.{arith}
use lib.ListN.{length, take, drop, get_or, set, length-append, length-map, length-drop}
use lib.Seq.{length-take-le}
use Rattle.paths.specs.Path.{named, none, more}
use Rattle.lookup.specs.Names.{Named, place_of, hash_of, unless}
use Rattle.lookup.specs.Index.{padded, Stands, another, Indexed, Found}
use Rattle.compiled.specs.Built.{test_of, test_in, Numbers, Entered}
use Rattle.compiled.proofs.Alls.{all_append}
use Rattle.lookup.proofs.Padded.{padded_snoc}
use Rattle.lookup.proofs.Places.{place_new}
use Rattle.compiled.proofs.Bits.{map_snoc}
use Rattle.lookup.proofs.Chains.{chains_snoc}

test_some : (d : List ℕ) (a n : ℕ) → (n ≡ 0 → ⊥) → test_in d a n ≡ named (take n (drop a d))
unfolding test_in
test_some d a n h = go n h (take n (drop a d))
  where
    go : (n : ℕ) → (n ≡ 0 → ⊥) → (w : List ℕ) → test_of n w ≡ named w
    go zero h w = absurd (h refl)
    go (suc n) h w = refl

pub enter_any : {d at len head next : List ℕ} {names a n : ℕ} → n ≡ 0
    → Entered d at len head next names a n at len head next (record { names = names; number = 0 })
unfolding test_in
enter_any e = record { is = λ ns v c. rw e (record { indexed = v; names = c; number = refl }) }

-- the names ns with one more, in the tables
module _ {d at len head next : List ℕ} (ns : List Named) (v : Indexed d at len head next ns) (x : Named) (s : Stands d x)
    (z : place_of ns x.name ≡ 0) (few : length ns < 512) where
  pub index_snoc : Indexed d (set at (length ns) x.place) (set len (length ns) (length x.name))
      (set head (hash_of x.name) (length ns + 1)) (set next (length ns) (get_or head (hash_of x.name) 0)) (ns ++ x ∷ [])
  index_snoc =
      record {
        few = rw (length-append ns (x ∷ [])) (omega arith);
        once = another x v.once z;
        stand = all_append v.stand (more s none);
        at_is = rw v.at_is (column (λ x. x.place));
        len_is = rw v.len_is (column (λ x. length x.name));
        head_is = rw (chains_snoc ns x, v.head_is);
        next_is = rw (chains_snoc ns x, v.head_is, v.next_is);
      }
    where
      column : (f : Named → ℕ) → set (padded 512 (map f ns)) (length ns) (f x) ≡ padded 512 (map f (ns ++ x ∷ []))
      column f =
          ap (λ (k : ℕ). set (padded 512 (map f ns)) k (f x)) (sym (length-map ns f))
          ∙ padded_snoc 512 (map f ns) (f x) (rw (length-map ns f) few)
          ∙ ap (padded 512) (sym (map_snoc f ns x))

module _ {d at len head next : List ℕ} (names a n : ℕ) (l : a + n ≤ length d) (h : n ≡ 0 → ⊥) {k : ℕ}
    (e : Found d at len head next (take (a + n - a) (drop a d)) k) where
  whole : take (a + n - a) (drop a d) ≡ take n (drop a d)
  whole = let z : a + n - a ≡ n = omega arith in rw z

  found : (ns : List Named) → Indexed d at len head next ns → k ≡ place_of ns (take n (drop a d))
  found ns v = rw whole at (e.is ns v)

  pub enter_there : (k ≡ 0 → ⊥) → Entered d at len head next names a n at len head next (record { names = names; number = k })
  enter_there q =
      record {
        is = λ ns v c. rw (test_some d a n h, ← found ns v)
            (go k q ns (record { place = a; name = take n (drop a d) }) v c (found ns v));
      }
    where
      go : (k : ℕ) → (k ≡ 0 → ⊥) → (ns : List Named) (x : Named) → Indexed d at len head next ns → names ≡ length ns
          → k ≡ place_of ns x.name
          → Numbers d at len head next (unless k ns x) (named x.name) (record { names = names; number = k })
      go zero q ns x v c e = absurd (q refl)
      go (suc k) q ns x v c e = record { indexed = v; names = c; number = e }

  module _ (q : k ≡ 0) (few : names < 512) {g : ℕ} (g_is : g ≡ hash_of (take (a + n - a) (drop a d))) where
    pub enter_new : Entered d at len head next names a n (set at names a) (set len names n) (set head g (names + 1))
        (set next names (get_or head g 0)) (record { names = names + 1; number = names + 1 })
    enter_new =
        record {
          is = λ ns v c. rw (test_some d a n h, g_is, whole, sym (found ns v) ∙ q, c) (go ns v (found ns v) c);
        }
      where
        long : length (take n (drop a d)) ≡ n
        long = length-take-le n (drop a d) (let z = length-drop a d in omega arith)

        go : (ns : List Named) → Indexed d at len head next ns → k ≡ place_of ns (take n (drop a d)) → names ≡ length ns
            → Numbers d (set at (length ns) a) (set len (length ns) n) (set head (hash_of (take n (drop a d))) (length ns + 1))
            (set next (length ns) (get_or head (hash_of (take n (drop a d))) 0))
            (ns ++ record { place = a; name = take n (drop a d) } ∷ []) (named (take n (drop a d)))
            (record { names = length ns + 1; number = length ns + 1 })
        go ns v p c =
            let x : Named = record { place = a; name = take n (drop a d) } in
            let z : place_of ns (take n (drop a d)) ≡ 0 = sym p ∙ q in
            let s : Stands d x = record { inside = rw long l; is = rw long } in
            record {
              indexed = rw long at (index_snoc ns v x s z (omega arith));
              names = sym (length-append ns (x ∷ []));
              number = sym (place_new ns x z ∙ sym (add-one (length ns)));
            }
