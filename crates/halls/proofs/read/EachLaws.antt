-- The bytes of some items, one behind the other.
use mathlib.Core.Path.{◌≡◌, refl}
use mathlib.Core.List.{List, [], ◌∷◌, ◌++◌, append_assoc, append-nil}
use Prim.Native.Nat.{ℕ}
use Rattle.halls.specs.List.{each}

module _ {A : Type 0} (f : A → List ℕ) where
  pub each_append : (xs ys : List A) → each f (xs ++ ys) ≡ each f xs ++ each f ys
  unfolding each
  each_append [] ys = refl
  each_append (x ∷ xs) ys = rw (each_append xs ys, append_assoc)

  pub each-one : (x : A) → each f (x ∷ []) ≡ f x
  unfolding each
  each-one x = append-nil (f x)

  pub each_snoc : (xs : List A) (x : A) → each f (xs ++ (x ∷ [])) ≡ each f xs ++ f x
  each_snoc xs x = rw (each_append xs (x ∷ []), each-one x)
