-- Sums of what some items come to, and a fold that adds them up: what they came to so far, and what is left.
use mathlib.Core.Path.{◌≡◌, refl, sym, ap, subst, ◌∙◌}
use mathlib.Core.List.{List, [], ◌∷◌, ◌++◌}
use Rattle.std.specs.Iterator.{Yields, YieldsFirst}
use Prim.Native.Nat.{ℕ, ◌+◌, ◌*◌, ◌/◌, ◌≤◌}
use native.Mathlib.Omega.{arith}
use Rattle.halls.specs.Inner.Taking.{nothing_taken, together, all_taken, record_taken, Fitting}
use Rattle.halls.specs.declared.edit.judge_read.Taken.{Taken}
use Rattle.halls.specs.Inner.Order.{passed}

-- ---- sums

abbrev taken : ℕ → ℕ → ℕ → ℕ → ℕ → Taken
taken lowest models geometries parts long = record { lowest = lowest; summary = record { models = models; geometries = geometries; units = parts }; «length» = long }

same_taken : {a b c d e a' b' c' d' e' : ℕ} → a ≡ a' → b ≡ b' → c ≡ c' → d ≡ d' → e ≡ e' → taken a b c d e ≡ taken a' b' c' d' e'
same_taken p q r s t = cc

together-assoc : (a b c : Taken) → together (together a b) c ≡ together a (together b c)
together-assoc a b c = same_taken (omega arith) (omega arith) (omega arith) (omega arith) (omega arith)

-- with nothing before or behind it stays as it is
nothing-before : (t : Taken) → t.lowest ≤ passed → together nothing_taken t ≡ t
nothing-before t h = same_taken (omega arith) (omega arith) (omega arith) (omega arith) (omega arith)

pub nothing-behind : (t : Taken) → t.lowest ≤ passed → together t nothing_taken ≡ t
nothing-behind t h = same_taken (omega arith) (omega arith) (omega arith) (omega arith) (omega arith)

-- a model's record, by its entries
pub record_taken_lem : (n : ℕ) → taken passed 1 0 (3 + (n + 1) / 2 + (n + 7) / 8) (12 + 2 * n) ≡ record_taken n
record_taken_lem n = same_taken refl refl refl (omega arith) refl

module _ {A : Type 0} (f : A → Taken) where
  all-low : (xs : List A) → (all_taken f xs).lowest ≤ passed
  unfolding all_taken
  all-low [] = omega arith
  all-low (x ∷ xs) = omega (arith, all-low xs)

-- a part of a sum that fits
fits-first : (a b : Taken) → Fitting (together a b) → Fitting a
fits-first a b h = record { models = omega (arith, h.models); geometries = omega (arith, h.geometries); image = omega (arith, h.image); long = omega (arith, h.long) }

pub fits-second : (a b : Taken) → Fitting (together a b) → Fitting b
fits-second a b h = record { models = omega (arith, h.models); geometries = omega (arith, h.geometries); image = omega (arith, h.image); long = omega (arith, h.long) }

-- ---- a fold that adds up the items of an iterator

-- those that came, and what is left behind them
pub yielded : {A : Type 0} (xs s t : List A) → Yields (YieldsFirst (λ (rest : List A). rest)) s xs t → s ≡ xs ++ t
yielded [] s t y = y
yielded (x ∷ xs) s t y = y.1 ∙ ap (λ zs. x ∷ zs) (yielded xs y.0 t y.2)

module _ {A : Type 0} (f : A → Taken) where
  all_append : (xs ys : List A) → all_taken f (xs ++ ys) ≡ together (all_taken f xs) (all_taken f ys)
  unfolding all_taken
  all_append [] ys = sym (nothing-before (all_taken f ys) (all-low f ys))
  all_append (x ∷ xs) ys = ap (together (f x)) (all_append xs ys) ∙ sym (together-assoc (f x) (all_taken f xs) (all_taken f ys))

  pub taking-start : {t : Taken} → t ≡ nothing_taken → t ≡ all_taken f []
  unfolding all_taken
  taking-start e = e

  -- one item more
  pub taking_turn : (xs : List A) (x : A) {t r : Taken} → t ≡ all_taken f xs → r ≡ together t (f x) → r ≡ all_taken f (xs ++ (x ∷ []))
  unfolding all_taken
  taking_turn xs x e q =
      q ∙ ap (λ (z : Taken). together z (f x)) e ∙ sym (nothing-behind (together (all_taken f xs) (f x)) (omega (arith, all-low f xs)))
      ∙ together-assoc (all_taken f xs) (f x) nothing_taken ∙ sym (all_append xs (x ∷ []))

  -- of items whose sum fits
  module _ (all xs : List A) (x : A) (others : List A) (fits : Fitting (all_taken f all)) (e : all ≡ xs ++ (x ∷ others)) where
    fits-so_far : Fitting (together (all_taken f xs) (f x))
    unfolding all_taken
    fits-so_far =
        fits-first (together (all_taken f xs) (f x)) (all_taken f others)
        (subst Fitting (ap (all_taken f) e ∙ all_append xs (x ∷ others) ∙ sym (together-assoc (all_taken f xs) (f x) (all_taken f others))) fits)

    pub taking-part : Fitting (f x)
    taking-part = fits-second (all_taken f xs) (f x) fits-so_far

    pub taking_room : {t r : Taken} → t ≡ all_taken f xs → r ≡ f x → Fitting (together t r)
    taking_room p q = rw (p, q) fits-so_far
