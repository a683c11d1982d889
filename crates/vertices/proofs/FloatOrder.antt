-- What comparisons of a float with whole numbers say of each other. Assumes nothing.
use mathlib.Core.Path.{◌≡◌, refl, sym, subst}
use mathlib.Core.Logic.{◌⊎◌, inl, inr}
use mathlib.Core.Bool.{Bool, true, false, not, ◌&&◌, ◌||◌}
use Prim.Native.Nat.{ℕ, ◌+◌, ◌*◌, ◌≤◌, ◌<◌}
use native.Mathlib.Nat.{mul-one, mul-pos, mul-lt-mul_of_pos_right, lt_of_le_of_lt}
use native.Mathlib.Omega.{arith}
use lib.Dec.{T, ltb, eqb, ltb→lt, lt→ltb, eqb→eq}
use lib.Ieee.{Float, nan, inf, fin, up, down, lt, le, is_nan}
use lib.Ieee.Fits.{down_pos, and_l}
use borrow.Author.Tests.{ltb-false, ltb-true, le-ltb, lt-ltb}
use Rattle.vertices.specs.Normalised.{number, negative}

-- what is not below 0 is above -1
pub above_minus_one : (x : Float) → T (not (is_nan x)) → lt x (number 0) ≡ false → T (lt (negative 1) x)
unfolding lt is_nan
above_minus_one nan n h = absurd n
above_minus_one (inf true) n h = absurd (subst T h tt)
above_minus_one (inf false) n h = tt
above_minus_one (fin false m e) n h = lt→ltb 0 (1 * 1 * down e + m * up e * 1) (omega (arith, down_pos e))
above_minus_one (fin true m e) n h =
    lt→ltb (m * up e * 1) (1 * 1 * down e) (omega (arith, down_pos e, ltb-false 0 (m * up e * 1 + 0 * 1 * down e) h))

-- what is not above c is below any larger d
pub below_larger : (c d : ℕ) (x : Float) → c < d → T (not (is_nan x)) → lt (number c) x ≡ false → T (lt x (number d))
unfolding lt is_nan
below_larger c d nan l n h = absurd n
below_larger c d (inf true) l n h = tt
below_larger c d (inf false) l n h = absurd (subst T h tt)
below_larger c d (fin false m e) l n h =
    let k : c * 1 * down e < d * 1 * down e = simp mul-one (mul-lt-mul_of_pos_right l (down_pos e)) in
    lt→ltb (m * up e * 1) (d * 1 * down e) (lt_of_le_of_lt (ltb-false (c * 1 * down e) (m * up e * 1) h) k)
below_larger c d (fin true m e) l n h =
    let k : 0 < d * 1 * down e = simp mul-one (mul-pos (omega arith) (down_pos e)) in
    lt→ltb 0 (m * up e * 1 + d * 1 * down e) (omega arith)

or_cases : (a b : Bool) → T (a || b) → T a ⊎ T b
or_cases true b t = inl t
or_cases false b t = inr t

le-or_eq : (a b : ℕ) (t : Bool) → T (ltb a b || (eqb a b && t)) → a ≤ b
le-or_eq a b t h =
    elim (or_cases (ltb a b) (eqb a b && t) h) [
      | inl l ↦ omega (arith, ltb→lt a b l)
      | inr q ↦ omega (arith, eqb→eq a b (and_l (eqb a b) t q))
    ]

-- what is at most c is not above c
pub not_above : (c : ℕ) (x : Float) → T (le x (number c)) → lt (number c) x ≡ false
unfolding lt le
not_above c nan h = absurd h
not_above c (inf true) h = refl
not_above c (inf false) h = absurd h
not_above c (fin false m e) h = le-ltb (c * 1 * down e) (m * up e * 1) (le-or_eq (m * up e * 1) (c * 1 * down e) true h)
not_above c (fin true m e) h = refl

-- what is above a whole number is not below 0
pub not_below : (c : ℕ) (x : Float) → lt (number c) x ≡ true → lt x (number 0) ≡ false
unfolding lt
not_below c nan h = refl
not_below c (inf true) h = absurd (subst T (sym h) tt)
not_below c (inf false) h = refl
not_below c (fin false m e) h = le-ltb (m * up e * 1) (0 * 1 * down e) (omega arith)
not_below c (fin true m e) h = absurd (subst T (sym h) tt)

-- what is above a whole number is above 0
pub above_zero : (c : ℕ) (x : Float) → lt (number c) x ≡ true → lt (number 0) x ≡ true
unfolding lt
above_zero c nan h = h
above_zero c (inf true) h = h
above_zero c (inf false) h = refl
above_zero c (fin false m e) h = lt-ltb (0 * 1 * down e) (m * up e * 1) (omega (arith, ltb-true (c * 1 * down e) (m * up e * 1) h))
above_zero c (fin true m e) h = h
