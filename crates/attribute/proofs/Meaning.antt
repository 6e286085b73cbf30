-- What `has` answers is what specs/Meaning says in the grammar's words, and no other answer says it (`..-says`, `..-only`): on characters,
-- of the attributes of [41] that stand somewhere, with white space at their end or not, and so of those that a tag bears.
use mathlib.Core.Path.{◌≡◌, refl, sym}
use mathlib.Core.Bool.{Bool, true, false}
use mathlib.Core.List.{List}
use Prim.Native.Nat.{ℕ, suc}
use lib.ListN.{length, drop}
use Rattle.xml.specs.Forest.{Name, Tag}
use Rattle.xml.proofs.Bools.{true-false}
use Rattle.readers.specs.Meaning.{Chars}
use Rattle.attributes.specs.Attribute.{Attribute, Lists, Bears}
use Rattle.attributes.specs.Held.{attributes_in, attributes_of, has_attribute}
use Rattle.attributes.proofs.Held.{lists_only, bears_only}
use Rattle.attributes.proofs.Has.{has_found, found_has}
use Rattle.attribute.specs.Meaning.{HasSays}

module _ (n : Name) (text : List ℕ) where
  among_says : (xs : List Attribute) → HasSays xs n text (has_attribute xs n text)
  among_says xs = go (has_attribute xs n text) refl
    where
      go : (b : Bool) → has_attribute xs n text ≡ b → HasSays xs n text b
      go true e = found_has n text xs e
      go false e = λ h. true-false (has_found n text h) e

  among_only : (xs : List Attribute) (r : Bool) → HasSays xs n text r → r ≡ has_attribute xs n text
  among_only xs true h = sym (has_found n text h)
  among_only xs false f = go (has_attribute xs n text) refl
    where
      go : (b : Bool) → has_attribute xs n text ≡ b → false ≡ b
      go true e = absurd (f (found_has n text xs e))
      go false e = refl

  -- of the attributes that stand in s
  module _ {s : List ℕ} {xs : List Attribute} (d : Chars s) (l : Lists s xs) where
    pub has_says : HasSays xs n text (has_attribute (attributes_in 0 s) n text)
    has_says = rw (lists_only d l) (among_says xs)

    pub has_only : (r : Bool) → HasSays xs n text r → r ≡ has_attribute (attributes_in 0 s) n text
    has_only r h = rw (lists_only d l) (among_only xs r h)

  -- of those that a tag bears
  module _ {v : Tag} {xs : List Attribute} (d : Chars v.head) (b : Bears v xs) where
    pub tag_says : HasSays xs n text (has_attribute (attributes_in 0 (drop (suc (length v.name)) v.head)) n text)
    unfolding attributes_of
    tag_says = rw (bears_only d b) (among_says xs)

    pub tag_only : (r : Bool) → HasSays xs n text r → r ≡ has_attribute (attributes_in 0 (drop (suc (length v.name)) v.head)) n text
    unfolding attributes_of
    tag_only r h = rw (bears_only d b) (among_only xs r h)
