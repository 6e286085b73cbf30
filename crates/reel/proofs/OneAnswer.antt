-- Two results that the contract of `items` allows are equal: how many items are read and how many tags are on the tape, why the reader
-- stopped, what is open then and where. Over the contract that the toolchain makes of the source. The entries are told by the definitions;
-- of what stands in the arrays above the level reached, and on the tape behind the tags, nothing is said.
use mathlib.Core.Path.{◌≡◌, refl, sym, ap, ◌∙◌}
use mathlib.Core.Bool.{Bool, false≢true}
use mathlib.Core.List.{List}
use Prim.Native.Nat.{ℕ, ◌<◌}
use native.Mathlib.Omega.{arith}
use lib.ListN.{length}
use Rattle.contracts.specs.One.{OneResult}
use Rattle.document.specs.Place.{Opened}
use Rattle.document.specs.Levels.{opened_of}
use Rattle.document.specs.declared.Open.{Open}
use Rattle.document.specs.declared.Placement.TheVariants as placed
use Rattle.document.proofs.Placing.{names_long}
use Rattle.tape.specs.Taped.{Spot, spot_of, behind, tags_in, Taped}
use Rattle.reel.specs.Reeling.{Reeling, Stopped}
use Rattle.reel.specs.declared.Read.{Read}
use Rattle.reel.specs.declared.Stop.{Stop}
use Rattle.reel.specs.declared.Stop.TheVariants.{Full, Over, Fault}
use Rattle.reel.proofs.items.Reads as items

-- one that stopped is not behind another
module _ (d : List ℕ) (s : Spot) (n m n' m' : ℕ) where
  not_less : (x : Stop) (t : List ℕ) → Stopped d s n m x → m ≡ tags_in d s n → Taped d t s n' m'
      → ((k : ℕ) → k < n' → tags_in d s k < 4096) → n < n' → ⊥
  not_less Full t p c v r h = omega (arith, r n h)
  not_less Over t p c v r h = let e : placed.Over ≡ placed.Fine = sym p.1 ∙ v.fine n h in false≢true cc
  not_less (Fault why) t p c v r h = let e : placed.Fault why ≡ placed.Fine = sym p.1 ∙ v.fine n h in false≢true cc

same_stop : (d : List ℕ) (s : Spot) (n m : ℕ) (x y : Stop) → Stopped d s n m x → Stopped d s n m y → x ≡ y
same_stop d s n m Full Full p q = refl
same_stop d s n m Full Over p q = absurd (omega (arith, q.0))
same_stop d s n m Full (Fault w) p q = absurd (omega (arith, q.0))
same_stop d s n m Over Full p q = absurd (omega (arith, p.0))
same_stop d s n m Over Over p q = refl
same_stop d s n m Over (Fault w) p q = let e : placed.Over ≡ placed.Fault w = sym p.1 ∙ q.1 in cc
same_stop d s n m (Fault w) Full p q = absurd (omega (arith, p.0))
same_stop d s n m (Fault w) Over p q = let e : placed.Fault w ≡ placed.Over = sym p.1 ∙ q.1 in cc
same_stop d s n m (Fault w) (Fault w') p q =
    let e : placed.Fault w ≡ placed.Fault w' = sym p.1 ∙ q.1 in
    let z : w ≡ w' = cc in
    ap Fault z

same_count : (n n' : ℕ) → (n < n' → ⊥) → (n' < n → ⊥) → n ≡ n'
same_count n n' a b = omega arith

made_open : {l l' : ℕ} {r r' : Bool} → l ≡ l' → r ≡ r'
    → ◌≡◌ {A = Open} (record { level = record { 0 = l }; rooted = r }) (record { level = record { 0 = l' }; rooted = r' })
made_open p q = rw (p, q)

-- what is open, by as many names
same_open : (d starts lens starts' lens' : List ℕ) (o o' : Open) → opened_of d starts lens o ≡ opened_of d starts' lens' o' → o ≡ o'
same_open d starts lens starts' lens' o o' e =
    let l : o.level.0 ≡ o'.level.0 =
    sym (names_long d starts lens o.level.0)
    ∙ ap (λ (x : Opened). length x.names) e
    ∙ names_long d starts' lens' o'.level.0 in
    made_open l (ap (λ (x : Opened). x.rooted) e)

made_read : {n n' m m' : ℕ} {o o' : Open} {at at' : ℕ} {f f' : Bool} {x x' : Stop}
    → n ≡ n' → m ≡ m' → o ≡ o' → at ≡ at' → f ≡ f' → x ≡ x'
    → ◌≡◌ {A = Read} (record { items = n; tags = m; opened = o; at = at; first = f; stop = x })
    (record { items = n'; tags = m'; opened = o'; at = at'; first = f'; stop = x' })
made_read p c q r s t = rw (p, c, q, r, s, t)

read_one : (d : List ℕ) (s : Spot) (starts lens tape starts' lens' tape' : List ℕ) (z z' : Read)
    → Reeling d s starts lens tape z.opened z.at z.first z.items z.tags → Stopped d s z.items z.tags z.stop
    → Reeling d s starts' lens' tape' z'.opened z'.at z'.first z'.items z'.tags
    → Stopped d s z'.items z'.tags z'.stop → z ≡ z'
read_one d s starts lens tape starts' lens' tape' z z' v p w q =
    let n : z.items ≡ z'.items =
    same_count z.items z'.items
    (not_less d s z.items z.tags z'.items z'.tags z.stop tape' p v.taped.count w.taped w.room)
    (not_less d s z'.items z'.tags z.items z.tags z'.stop tape q w.taped.count v.taped v.room) in
    let m : z.tags ≡ z'.tags = v.taped.count ∙ ap (tags_in d s) n ∙ sym w.taped.count in
    let e : spot_of d starts lens z.opened z.at z.first ≡ spot_of d starts' lens' z'.opened z'.at z'.first =
    v.spot ∙ ap (behind d s) n ∙ sym w.spot in
    made_read n m
    (same_open d starts lens starts' lens' z.opened z'.opened (ap (λ (x : Spot). x.opened) e))
    (ap (λ (x : Spot). x.at) e)
    (ap (λ (x : Spot). x.first) e)
    (same_stop d s z'.items z'.tags z.stop z'.stop (rw (n, m) at p) q)

-- `items`
pub items_one : OneResult items.Asked items.Learnt
items_one κs a z z' e e' x p q = read_one _ _ _ _ _ _ _ _ z z' p.0 p.1 q.0 q.1
