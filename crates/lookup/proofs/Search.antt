-- The laws of the search for a name. `hash`. Tables of names: an entry stands for its name.
-- `find`: what is left of the chain is searched.
use mathlib.Core.Path.{◌≡◌, refl, sym, ap, ◌∙◌}
use mathlib.Core.Bool.{Bool, true, false}
use mathlib.Core.List.{List, [], ◌∷◌, map}
use Prim.Native.Nat.{ℕ, zero, suc, ◌+◌, ◌-◌, ◌*◌, ◌%◌, ◌≤◌, ◌<◌}
use native.Mathlib.Omega.{arith}
use lib.ListN.{length, take, drop, get_or, length-map}
use Rattle.xml.specs.Productions.{same}
use Rattle.paths.specs.Path.{All, none, more}
use Rattle.utf8.proofs.Place.{drop_step, drop_end}
use Rattle.lookup.specs.Names.{Named, place_of, hash_from, hash_of}
use Rattle.lookup.specs.Index.{padded, Stands, Indexed, Tables, Found}
use Rattle.lookup.proofs.Places.{name_at}
use Rattle.lookup.proofs.Padded.{padded_long, padded_get}
use Rattle.lookup.proofs.Chains.{stops, chain, Linked, chains_linked}

-- ---- `hash`

-- what is left of the name is gone through
pub record Hashing (n : List ℕ) (h i : ℕ) : Type 0 where
  pub below : h < 256
  pub inside : i ≤ length n
  pub same : hash_from h (drop i n) ≡ hash_of n

pub hash_start : {n : List ℕ} → Hashing n 0 0
unfolding hash_of
hash_start = record { below = omega arith; inside = omega arith; same = refl }

module _ {n : List ℕ} {h i : ℕ} (v : Hashing n h i) where
  pub hash_on : {b : ℕ} → i < length n → b ≡ get_or n i 0 → Hashing n ((h * 31 + b) % 256) (i + 1)
  hash_on {b} l e =
      record { below = omega arith; inside = omega arith; same = rw e (sym (rw (drop_step n i l)) ∙ v.same) }

  pub hash_end : length n ≤ i → h ≡ hash_of n
  hash_end l = sym (rw (drop_end n i l)) ∙ v.same

pub ruleset hashes = (hash_start, hash_on, hash_end)

-- ---- tables of names

-- entry i of the tables at and len is a part of the list: the name w
pub record Entry (d at len : List ℕ) (i : ℕ) (w : List ℕ) : Type 0 where
  pub inside : get_or at i 0 + get_or len i 0 ≤ length d
  pub is : take (get_or len i 0) (drop (get_or at i 0) d) ≡ w

module _ {d at len head next : List ℕ} {ns : List Named} (v : Indexed d at len head next ns) where
  pub index_entry : (i : ℕ) → i < length ns → Entry d at len i (name_at ns i)
  index_entry i l = rw (v.at_is, v.len_is) (pad (go ns v.stand i l))
    where
      go : (ns : List Named) → All (Stands d) ns → (i : ℕ) → i < length ns
          → Entry d (map (λ x. x.place) ns) (map (λ x. length x.name) ns) i (name_at ns i)
      go [] none i l = absurd (omega arith)
      go (x ∷ ns) (more s a) zero l = record { inside = s.inside; is = s.is }
      go (x ∷ ns) (more s a) (suc i) l = let e = go ns a i (omega arith) in record { inside = e.inside; is = e.is }

      pad : {a l : List ℕ} {w : List ℕ} → Entry d a l i w → Entry d (padded 512 a) (padded 512 l) i w
      pad {a} {l} {w} e =
          record {
            inside = rw (padded_get 512 a i, padded_get 512 l i) e.inside;
            is = rw (padded_get 512 a i, padded_get 512 l i) e.is;
          }

  pub index_linked : Linked ns head next
  index_linked = rw (v.head_is, v.next_is) (chains_linked v.once v.few)

  -- how long each table is
  pub at_long : length at ≡ 512
  at_long = rw v.at_is (padded_long 512 (map (λ x. x.place) ns) (rw (length-map ns (λ x. x.place)) v.few))

  pub len_long : length len ≡ 512
  len_long = rw v.len_is (padded_long 512 (map (λ x. length x.name) ns) (rw (length-map ns (λ x. length x.name)) v.few))

-- ---- `find`

pub tables_heads : {d at len head next : List ℕ} → Tables d at len head next → length head ≡ 256
tables_heads t = (index_linked t.indexed).head_long

-- from the place k on the chain goes to the place of n
pub record Walking (ns : List Named) (next n : List ℕ) (k : ℕ) : Type 0 where
  pub bound : ℕ
  pub k_le : k ≤ bound
  pub k_in : k ≤ length ns
  pub goes : (f : ℕ) → bound ≤ f → chain ns next n f k ≡ place_of ns n

pub record Finding (d at len head next n : List ℕ) (k : ℕ) : Type 0 where
  pub tables : Tables d at len head next
  pub walk : (ns : List Named) → Indexed d at len head next ns → Walking ns next n k

pub find_start : {d at len head next n : List ℕ} {h : ℕ} → Tables d at len head next → h ≡ hash_of n
    → Finding d at len head next n (get_or head h 0)
find_start {head = head} {n = n} {h = h} t e =
    record {
      tables = t;
      walk = λ ns v. let k = index_linked v in
          record { bound = get_or head h 0; k_le = omega arith; k_in = k.top h; goes = rw e (k.finds n) };
    }

module _ {d at len head next n : List ℕ} {k : ℕ} (v : Finding d at len head next n k) (l : 0 < k) where
  here : Walking v.tables.names next n k
  here = v.walk v.tables.names v.tables.indexed

  find_room : k - 1 < 512
  find_room = let a = here.k_in in let b = v.tables.indexed.few in omega arith

  -- each table has an entry for the place k
  pub room_at : k - 1 < length at
  room_at = rw (at_long v.tables.indexed) find_room

  pub room_len : k - 1 < length len
  room_len = rw (len_long v.tables.indexed) find_room

  pub room_next : k - 1 < length next
  room_next = rw (index_linked v.tables.indexed).next_long find_room

  pub find_in : get_or at (k - 1) 0 + get_or len (k - 1) 0 ≤ length d
  find_in = (index_entry v.tables.indexed (k - 1) (let a = here.k_in in omega arith)).inside

  pub find_less : get_or next (k - 1) 0 < k
  find_less =
      let a = here.k_in in
      let b = (index_linked v.tables.indexed).down (k - 1) (omega arith) in
      omega arith

  module _ (ns : List Named) (x : Indexed d at len head next ns) {b : Bool}
      (e : b ≡ same (take (get_or len (k - 1) 0) (drop (get_or at (k - 1) 0) d)) n) where
    inside : k - 1 < length ns
    inside = let a = (v.walk ns x).k_in in omega arith

    test : b ≡ same (name_at ns (k - 1)) n
    test = e ∙ ap (λ (w : List ℕ). same w n) (index_entry x (k - 1) inside).is

    link : (f : ℕ) → (v.walk ns x).bound ≤ suc f → stops b k (chain ns next n f (get_or next (k - 1) 0)) ≡ place_of ns n
    link f h = rw test (go k l (v.walk ns x).goes)
      where
        go : (k : ℕ) → 0 < k → ((f : ℕ) → (v.walk ns x).bound ≤ f → chain ns next n f k ≡ place_of ns n)
            → stops (same (name_at ns (k - 1)) n) k (chain ns next n f (get_or next (k - 1) 0)) ≡ place_of ns n
        go zero l g = absurd (omega arith)
        go (suc k) l g = rw (let z : suc k - 1 ≡ k = omega arith in z) (g (suc f) h)

    stop_here : b ≡ true → k ≡ place_of ns n
    stop_here t = rw t at (link (v.walk ns x).bound (omega arith))

    step_on : b ≡ false → Walking ns next n (get_or next (k - 1) 0)
    step_on t =
        let a = (v.walk ns x).k_le in
        let c = (v.walk ns x).k_in in
        let y = find_less in
        record {
          bound = (v.walk ns x).bound - 1;
          k_le = omega arith;
          k_in = omega arith;
          goes = λ f h. rw t at (link f (omega arith));
        }

  module _ {b : Bool} (e : b ≡ same (take (get_or len (k - 1) 0) (drop (get_or at (k - 1) 0) d)) n) where
    pub find_here : b ≡ true → Found d at len head next n k
    find_here t = record { is = λ ns x. stop_here ns x e t }

    pub find_more : b ≡ false → Finding d at len head next n (get_or next (k - 1) 0)
    find_more t = record { tables = v.tables; walk = λ ns x. step_on ns x e t }

pub find_end : {d at len head next n : List ℕ} {k : ℕ} → Finding d at len head next n k → k ≤ 0 → Found d at len head next n 0
find_end {next = next} {n = n} {k = k} v l =
    record {
      is = λ ns x. let w = v.walk ns x in
          let z : k ≡ 0 = omega arith in
          sym (ap (chain ns next n (suc w.bound)) z) ∙ w.goes (suc w.bound) (omega arith);
    }

pub ruleset finding = (find_start, room_at, room_len, room_next, find_in, find_less, find_end)
