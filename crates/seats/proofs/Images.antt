-- Items and a tape: a tag that comes back from there is the one that was put there, but for whether an attribute stands twice; and what
-- has no entry is no tag.
use Rattle.document.proofs.Placing.{Unstarted, Unfinished}
use mathlib.Core.Path.{◌≡◌, refl}
use mathlib.Core.Bool.{Bool, false}
use mathlib.Core.List.{List}
use mathlib.Core.Logic.{◌⊎◌, inl, inr}
use Prim.Native.Nat.{ℕ}
use native.Mathlib.Omega.{arith}
use Rattle.tags.specs.declared.Item.{Item}
use Rattle.tags.specs.declared.Item.TheVariants.{Declaration, Instruction, Comment, Section, Reference, Text, Start, Finish}
use Rattle.tags.specs.declared.Item.TheVariants.{Doctype, Malformed, TooLarge, Nothing}
use Rattle.document.specs.Levels.{open_after}
use Rattle.document.specs.declared.Open.{Open}
use Rattle.tape.specs.Tape.{tags_of, image_of}
use Rattle.seats.specs.Made.{kept_at}

-- a start tag or empty tag was one, and what is none was the same
pub image_start : (i : Item) {n h e : ℕ} {m t : Bool} → image_of i ≡ Start n h e m t → (w : Bool) × (i ≡ Start n h e m w)
image_start (Declaration e) q = (false, cc)
image_start (Instruction e) q = (false, cc)
image_start (Comment e) q = (false, cc)
image_start (Section e) q = (false, cc)
image_start (Reference n e) q = (false, cc)
image_start (Text e) q = (false, cc)
image_start (Start n h e m t) q = (t, cc)
image_start (Finish n e) q = (false, cc)
image_start Doctype q = (false, cc)
image_start Malformed q = (false, cc)
image_start TooLarge q = (false, cc)
image_start Nothing q = (false, cc)

pub image_same : (i : Item) → Unstarted (image_of i) → image_of i ≡ i
image_same (Declaration e) k = refl
image_same (Instruction e) k = refl
image_same (Comment e) k = refl
image_same (Section e) k = refl
image_same (Reference n e) k = refl
image_same (Text e) k = refl
image_same (Start n h e m t) k = absurd (k n h e m false refl)
image_same (Finish n e) k = refl
image_same Doctype k = refl
image_same Malformed k = refl
image_same TooLarge k = refl
image_same Nothing k = refl

-- ---- an item has an entry or none; what has none is no tag

pub some_entry : (i : Item) → (tags_of i ≡ 1) ⊎ (tags_of i ≡ 0)
some_entry (Declaration e) = inr refl
some_entry (Instruction e) = inr refl
some_entry (Comment e) = inr refl
some_entry (Section e) = inr refl
some_entry (Reference n e) = inr refl
some_entry (Text e) = inr refl
some_entry (Start n h e m t) = inl refl
some_entry (Finish n e) = inl refl
some_entry Doctype = inr refl
some_entry Malformed = inr refl
some_entry TooLarge = inr refl
some_entry Nothing = inr refl

apart : ◌≡◌ {A = ℕ} 1 0 → ⊥
apart q = omega arith

pub aside_untagged : (i : Item) → tags_of i ≡ 0 → Unstarted i
aside_untagged (Declaration e) q = λ n' h' e' m' t' z. cc
aside_untagged (Instruction e) q = λ n' h' e' m' t' z. cc
aside_untagged (Comment e) q = λ n' h' e' m' t' z. cc
aside_untagged (Section e) q = λ n' h' e' m' t' z. cc
aside_untagged (Reference n e) q = λ n' h' e' m' t' z. cc
aside_untagged (Text e) q = λ n' h' e' m' t' z. cc
aside_untagged (Start n h e m t) q = absurd (apart q)
aside_untagged (Finish n e) q = absurd (apart q)
aside_untagged Doctype q = λ n' h' e' m' t' z. cc
aside_untagged Malformed q = λ n' h' e' m' t' z. cc
aside_untagged TooLarge q = λ n' h' e' m' t' z. cc
aside_untagged Nothing q = λ n' h' e' m' t' z. cc

pub aside_unfinished : (i : Item) → tags_of i ≡ 0 → Unfinished i
aside_unfinished (Declaration e) q = λ n' e' z. cc
aside_unfinished (Instruction e) q = λ n' e' z. cc
aside_unfinished (Comment e) q = λ n' e' z. cc
aside_unfinished (Section e) q = λ n' e' z. cc
aside_unfinished (Reference n e) q = λ n' e' z. cc
aside_unfinished (Text e) q = λ n' e' z. cc
aside_unfinished (Start n h e m t) q = absurd (apart q)
aside_unfinished (Finish n e) q = absurd (apart q)
aside_unfinished Doctype q = λ n' e' z. cc
aside_unfinished Malformed q = λ n' e' z. cc
aside_unfinished TooLarge q = λ n' e' z. cc
aside_unfinished Nothing q = λ n' e' z. cc

-- and leaves open what is open
pub aside_opens : (i : Item) (o : Open) → tags_of i ≡ 0 → o ≡ open_after i o
aside_opens (Declaration e) o q = refl
aside_opens (Instruction e) o q = refl
aside_opens (Comment e) o q = refl
aside_opens (Section e) o q = refl
aside_opens (Reference n e) o q = refl
aside_opens (Text e) o q = refl
aside_opens (Start n h e m t) o q = absurd (apart q)
aside_opens (Finish n e) o q = absurd (apart q)
aside_opens Doctype o q = refl
aside_opens Malformed o q = refl
aside_opens TooLarge o q = refl
aside_opens Nothing o q = refl

-- an item that is no start tag and no empty tag has no name that is kept
pub kept_other : (i : Item) → Unstarted i → (l y : ℕ) (xs : List ℕ) → xs ≡ kept_at i l y xs
kept_other (Declaration e) k l y xs = refl
kept_other (Instruction e) k l y xs = refl
kept_other (Comment e) k l y xs = refl
kept_other (Section e) k l y xs = refl
kept_other (Reference n e) k l y xs = refl
kept_other (Text e) k l y xs = refl
kept_other (Start n h e m t) k l y xs = absurd (k n h e m t refl)
kept_other (Finish n e) k l y xs = refl
kept_other Doctype k l y xs = refl
kept_other Malformed k l y xs = refl
kept_other TooLarge k l y xs = refl
kept_other Nothing k l y xs = refl
