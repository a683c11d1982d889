-- What `round` gives, whatever it rounds: no NaN, the sign that it is given, and zero for zero. Assumes nothing.
use mathlib.Core.Path.{◌≡◌, refl, sym, ◌∙◌}
use mathlib.Core.Bool.{Bool, true, false, not, cond}
use Prim.Native.Nat.{ℕ, zero, suc, ◌+◌, ◌*◌, ◌/◌, ◌^◌, ◌<◌}
use native.Mathlib.Nat.{zero-mul, zero-div, eq_of_mul-eq-mul_right}
use native.Mathlib.Omega.{arith}
use lib.Pow.{pow_pos}
use lib.IntN.{ℤ, pos}
use lib.Dec.{T, ltb}
use lib.Ieee.{Float, nan, inf, fin, Format, binary32, prec, emax, low, up, down, odd, units, round, neg, lt, is_nan, to_unsigned}
use lib.Ieee.Exact.{HasValue, round_exact}
use borrow.Author.Tests.{le-ltb}
use Rattle.vertices.specs.Normalised.{number}
use Rattle.vertices.specs.Inner.Small.{plain}

module _ (R : Float → Float → Type 0) (s t : Bool) (at-inf : R (inf s) (inf t)) (at-fin : (m : ℕ) (e : ℤ) → R (fin s m e) (fin t m e)) (f : Format) where
  pub odd-by_sign : (d q k l : ℕ) → R (odd d s q k l) (odd d t q k l)
  unfolding odd
  odd-by_sign d zero k l = at-fin zero (pos zero)
  odd-by_sign d (suc q) k l = at-fin _ _

  units-by_sign : (q k : ℕ) → R (units f s q k) (units f t q k)
  unfolding units
  units-by_sign q k = go (ltb (q * 2 ^ k) (2 ^ (low f + suc (emax f))))
    where
      go : (b : Bool) → R (cond b (odd (suc (prec f)) s q k (low f)) (inf s)) (cond b (odd (suc (prec f)) t q k (low f)) (inf t))
      go true = odd-by_sign (suc (prec f)) q k (low f)
      go false = at-inf

  -- what relates the infinities of two signs, and every two finite values that differ in these signs alone, relates what is rounded with these signs
  pub round_by_sign : (a b : ℕ) → R (round f s a b) (round f t a b)
  unfolding round
  round_by_sign a b = units-by_sign _ _

-- a rounded number is no NaN
pub round_not_nan : (f : Format) (s : Bool) (a b : ℕ) → T (not (is_nan (round f s a b)))
unfolding is_nan
round_not_nan f s a b = round_by_sign (λ (x y : Float). T (not (is_nan x))) s s tt (λ m e. tt) f a b

-- rounding is the same on both sides of zero
pub round_neg : (f : Format) (a b : ℕ) → neg (round f false a b) ≡ round f true a b
unfolding neg
round_neg f a b = round_by_sign (λ (x y : Float). neg x ≡ y) false true refl (λ m e. refl) f a b

-- what is rounded without a sign has none
pub round-plain : (f : Format) (a b : ℕ) → T (plain (round f false a b))
round-plain f a b = round_by_sign (λ (x y : Float). T (plain x)) false false tt (λ m e. tt) f a b

-- what is rounded without a sign is not below zero
pub round_not_below : (f : Format) (a b : ℕ) → lt (round f false a b) (number 0) ≡ false
unfolding lt
round_not_below f a b =
    round_by_sign (λ (x y : Float). lt x (number 0) ≡ false) false false refl (λ m e. le-ltb (m * up e * 1) (0 * 1 * down e) (omega arith)) f a b

-- a zero of either sign is cut to 0
zero-cut : (w : ℕ) (s : Bool) (m : ℕ) (e : ℤ) → m * up e ≡ 0 → to_unsigned w (fin s m e) ≡ 0
unfolding to_unsigned
zero-cut w true m e z = refl
zero-cut w false m e z =
    let q : m * up e / down e ≡ 0 = rw z (zero-div (down e)) in
    omega arith

-- zero rounds to zero, which is cut to 0
pub round-zero : (w : ℕ) (s : Bool) (d : ℕ) → 0 < d → to_unsigned w (round binary32 s 0 d) ≡ 0
round-zero w s d D =
    cut (round binary32 s 0 d) (round_exact binary32 s 0 d 0 0 D (pow_pos 24) (pow_pos 277) (zero-mul (2 ^ 149) ∙ sym (zero-mul d)))
  where
    cut : (x : Float) → HasValue x s 0 d → to_unsigned w x ≡ 0
    cut nan h = absurd h
    cut (inf t) h = absurd h
    cut (fin t m e) h =
        zero-cut w t m e (eq_of_mul-eq-mul_right d D (m * up e) 0 (h.1 ∙ zero-mul (down e) ∙ sym (zero-mul d)))
