-- Laws of All: over both parts of a list,
-- and from one property to another.
use mathlib.Core.List.{List, [], ◌∷◌, ◌++◌}
use Rattle.paths.specs.Path.{All, none, more}

module _ {A : Type 0} {P : A → Type 0} where
  pub all_left : (xs ys : List A) → All P (xs ++ ys) → All P xs
  all_left [] ys a = none
  all_left (x ∷ xs) ys (more p a) = more p (all_left xs ys a)

  pub all_right : (xs ys : List A) → All P (xs ++ ys) → All P ys
  all_right [] ys a = a
  all_right (x ∷ xs) ys (more p a) = all_right xs ys a

  pub all_append : {xs ys : List A} → All P xs → All P ys → All P (xs ++ ys)
  all_append none b = b
  all_append (more p a) b = more p (all_append a b)

pub all_map : {A : Type 0} {P Q : A → Type 0} {xs : List A} → ((x : A) → P x → Q x) → All P xs → All Q xs
all_map f none = none
all_map f (more p a) = more (f _ p) (all_map f a)
