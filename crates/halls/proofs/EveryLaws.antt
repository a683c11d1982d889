-- Tests and properties of every element of a list.
use mathlib.Core.Path.{◌≡◌, refl, ap, ◌∙◌}
use mathlib.Core.Bool.{Bool, true, false, ◌&&◌}
use mathlib.Core.List.{List, [], ◌∷◌, ◌++◌}
use Prim.Native.Nat.{ℕ, zero, suc, ◌<◌}
use lib.ListN.{get_or}
use Rattle.sections.proofs.AddressLaws.{both_true}
use Rattle.halls.specs.Every.{every, Each}

and_assoc : (a b c : Bool) → (a && (b && c)) ≡ ((a && b) && c)
and_assoc true b c = refl
and_assoc false b c = refl

pub and_true : (b : Bool) → (b && true) ≡ b
and_true true = refl
and_true false = refl

pub and_false : (b : Bool) → (b && false) ≡ false
and_false true = refl
and_false false = refl

module _ {A : Type 0} where
  pub every_append : (test : A → Bool) (xs ys : List A) → every test (xs ++ ys) ≡ (every test xs && every test ys)
  unfolding every
  every_append test [] ys = refl
  every_append test (x ∷ xs) ys = ap (λ (b : Bool). test x && b) (every_append test xs ys) ∙ and_assoc (test x) (every test xs) (every test ys)

  pub every-each : (test : A → Bool) (xs : List A) → every test xs ≡ true → Each (λ (x : A). test x ≡ true) xs
  unfolding every Each
  every-each test [] e = tt
  every-each test (x ∷ xs) e = let b = both_true (test x) (every test xs) e in (b.0, every-each test xs b.1)

  pub each-every : (test : A → Bool) (xs : List A) → Each (λ (x : A). test x ≡ true) xs → every test xs ≡ true
  unfolding every Each
  each-every test [] w = refl
  each-every test (x ∷ xs) w = rw (w.0, each-every test xs w.1)

  -- what follows from two properties
  pub each_both : {P Q R : A → Type 0} → ((x : A) → P x → Q x → R x) → (xs : List A) → Each P xs → Each Q xs → Each R xs
  unfolding Each
  each_both f [] p q = tt
  each_both f (x ∷ xs) p q = (f x p.0 q.0, each_both f xs p.1 q.1)

-- numbers below a limit, as a list and by their places
pub each_below : (n : ℕ) → 0 < n → (xs : List ℕ) → Each (λ (x : ℕ). x < n) xs → (i : ℕ) → get_or xs i 0 < n
unfolding Each
each_below n p [] w i = p
each_below n p (x ∷ xs) w zero = w.0
each_below n p (x ∷ xs) w (suc i) = each_below n p xs w.1 i

pub below_each : (n : ℕ) (xs : List ℕ) → ((i : ℕ) → get_or xs i 0 < n) → Each (λ (x : ℕ). x < n) xs
unfolding Each
below_each n [] f = tt
below_each n (x ∷ xs) f = (f 0, below_each n xs (λ i. f (suc i)))
