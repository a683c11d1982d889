-- Which bits are a NaN's, and which results are none. Assumes nothing.
use mathlib.Core.Path.{◌≡◌, refl, sym, subst, ◌∙◌}
use mathlib.Core.Bool.{Bool, false, true, not, cond}
use Prim.Native.Nat.{ℕ, suc, ◌+◌, ◌*◌, ◌%◌, ◌≤◌}
use native.Mathlib.Omega.{arith}
use lib.IntN.{ℤ, pos, negsuc}
use lib.Dec.{T, eqb}
use lib.Ieee.{Float, nan, inf, fin, Format, binary32, up, down, unlike, round, sum, add, div, of_int, of_bits, is_nan, nan_bits}
use lib.Ieee.Bits.{nan_bits_above, nan_bits_is, cond_no}
use lib.Ieee.Exact.{HasValue}
use borrow.Author.Tests.{le-ltb}
use Rattle.vertices.specs.Normalised.{number}
use Rattle.vertices.proofs.FloatRounding.{round_not_nan}

-- the test that bits are no NaN's, as reading them as a float requires it
pub not_nan-bits : (b : ℕ) → nan_bits binary32 b ≡ false → T (not (nan_bits binary32 b))
not_nan-bits b h = rw h tt

-- up to infinity's, bits without a sign are no NaN's
pub not_nan_below : (b : ℕ) → b ≤ 2139095040 → T (not (nan_bits binary32 b))
not_nan_below b h =
    let l : b % 2147483648 ≤ 2139095040 = omega arith in
    not_nan-bits b (nan_bits_above binary32 b ∙ le-ltb 2139095040 (b % 2147483648) l)

nan_if_is_nan : (x : Float) → T (is_nan x) → x ≡ nan
unfolding is_nan
nan_if_is_nan nan h = refl
nan_if_is_nan (inf s) h = absurd h
nan_if_is_nan (fin s m e) h = absurd h

-- a NaN's bits stand for the NaN
pub nan_value : (b : ℕ) → nan_bits binary32 b ≡ true → of_bits binary32 b ≡ nan
nan_value b h = nan_if_is_nan (of_bits binary32 b) (rw (← nan_bits_is binary32 b, h) tt)

-- an integer as a float is no NaN
pub of_int_not_nan : (f : Format) (z : ℤ) → T (not (is_nan (of_int f z)))
unfolding of_int
of_int_not_nan f (pos n) = round_not_nan f false n 1
of_int_not_nan f (negsuc n) = round_not_nan f true (suc n) 1

other : (b : Bool) (x y : Float) → T (not b) → T (not (is_nan y)) → T (not (is_nan (cond b x y)))
other b x y h n = subst (λ (v : Float). T (not (is_nan v))) (sym (cond_no b x y h)) n

-- the sum of two finite numbers without a sign is no NaN
pub add_not_nan : (f : Format) (x y : Float) (a c b d : ℕ) → HasValue x false a c → HasValue y false b d → T (not (is_nan (add f x y)))
unfolding add sum
add_not_nan f nan y a c b d h k = absurd h
add_not_nan f (inf s) y a c b d h k = absurd h
add_not_nan f (fin true m e) y a c b d h k = absurd (subst T h.0 tt)
add_not_nan f (fin false m e) nan a c b d h k = absurd k
add_not_nan f (fin false m e) (inf t) a c b d h k = absurd k
add_not_nan f (fin false m e) (fin true n g) a c b d h k = absurd (subst T k.0 tt)
add_not_nan f (fin false m e) (fin false n g) a c b d h k = round_not_nan f false (m * up e * down g + n * up g * down e) (down e * down g)

-- a number that is no NaN, divided by a whole number that is not 0, is no NaN
pub div_not_nan : (f : Format) (n : ℕ) (x : Float) → T (not (eqb n 0)) → T (not (is_nan x)) → T (not (is_nan (div f x (number n))))
unfolding div is_nan
div_not_nan f n nan z h = absurd h
div_not_nan f n (inf s) z h = tt
div_not_nan f n (fin s m e) z h =
    other (eqb n 0) (cond (eqb m 0) nan (inf (unlike s false))) (round f (unlike s false) (m * up e * 1) (n * 1 * down e)) z
    (round_not_nan f (unlike s false) (m * up e * 1) (n * 1 * down e))
