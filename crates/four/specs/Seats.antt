-- Four clients in one call. In order: what a client hands over, what it gets back, and that as a call made for it alone gives it; the
-- seats; and the two claims of document 02's Q-14, on a call and on two calls.
use Rattle.std.specs.Prelude.{◌≡◌, List, ℕ, length, Result}
use Rattle.cutter.specs.Answer.{answer_of, bytes_after, number_of, second_of, third_of, fourth_of}
use Rattle.cutter.specs.declared.answer.Cut.{Cut}
use Rattle.refusals.specs.declared.CutError.{CutError}

-- "each with a list and an output buffer of its own"
pub record Client : Type 0 where
  pub list : List ℕ
  pub out : List ℕ

abbrev pub client_of : List ℕ → List ℕ → Client
client_of l o = record { list = l; out = o }

-- "What a client gets back, its number, place, counts and bytes"
pub record Gets : Type 0 where
  pub number : ℕ
  pub place : ℕ
  pub selected : ℕ
  pub tests : ℕ
  pub bytes : List ℕ

abbrev pub gets_by : Result Cut CutError → List ℕ → Gets
gets_by a o = record { number = number_of a; place = second_of a; selected = third_of a; tests = fourth_of a; bytes = o }

-- "a call made for it alone"
unfoldable pub alone_of : List ℕ → Client → Gets
alone_of d c = gets_by (answer_of c.list d (length c.out)) (bytes_after c.list d c.out)

-- "One call should serve four clients"
pub data Seat : Type 0 where
  first second third fourth : Seat

-- a value for each seat
abbrev pub seated : {A : Type 0} → A → A → A → A → Seat → A
seated w x y z first = w
seated w x y z second = x
seated w x y z third = y
seated w x y z fourth = z

-- The claims are on a contract, as the toolchain makes it of the source: Q is asked of what is handed over, P is learnt of that, the result
-- and the parameters at exit. The document, the clients and what they get are read from these.
module _ {K : Type 0} {A Z E : K → Type 0} (Q : (κs : K) → A κs → Type 0) (P : (κs : K) → A κs → Z κs → E κs → Type 0)
    (doc : (κs : K) → A κs → List ℕ) (clients : (κs : K) → A κs → Seat → Client) (gets : (κs : K) → Z κs → E κs → Seat → Gets) where
  -- "and equals a call made for it alone"
  abbrev pub AsAlone : Type 0
  AsAlone = (κs : K) (a : A κs) (z : Z κs) (e : E κs) → Q κs a → P κs a z e → (s : Seat) → gets κs z e s ≡ alone_of (doc κs a)
      (clients κs a s)

  -- "depends on its list, its buffer and the document only: change the other three lists and buffers at will and it stays the same"
  abbrev pub Apart : Type 0
  Apart =
      (κs κs' : K) (a : A κs) (a' : A κs') (z : Z κs) (z' : Z κs') (e : E κs) (e' : E κs') → Q κs a → Q κs' a' → P κs a z e
      → P κs' a' z' e'
      → doc κs a ≡ doc κs' a' → (s : Seat) → clients κs a s ≡ clients κs' a' s → gets κs z e s ≡ gets κs' z' e' s
