-- Halves (IEEE 754's binary16) and floats (binary32) as their bits: the sign, the exponent's field, then 10 or 23 fraction bits.
use Rattle.std.specs.Prelude.{cond, ℕ, ◌+◌, ◌-◌, ◌*◌, ◌/◌, ◌%◌, ◌^◌, eqb, leb, ltb}
use Rattle.std.specs.Int.Count.{count_leading_zeros}

-- The size of the float whose bits below the sign are m, in units of its format's smallest value, with p fraction bits.
-- A field of 0 has no leading digit and counts as 1. The field of all ones is read like any other: a half's infinity is 65,536.
unfoldable pub magnitude : ℕ → ℕ → ℕ
magnitude p m = cond (ltb m (2 ^ p)) m ((2 ^ p + m % 2 ^ p) * 2 ^ (m / 2 ^ p - 1))

-- n / p to the nearest whole number, of two the even one
unfoldable pub round_even : ℕ → ℕ → ℕ
round_even n p = cond (ltb (n % p * 2) p) (n / p) (cond (ltb p (n % p * 2)) (n / p + 1) (n / p + n / p % 2))

-- a float's bits below the sign: the exponent's field and ten fraction bits, those below them 0
abbrev pub float_of : ℕ → ℕ → ℕ
float_of field fraction = field * 2 ^ 23 + fraction * 2 ^ 13

-- a subnormal half's fraction f, moved up by k places so that its leading digit stands before the ten bits: the exponent is lower by k
unfoldable pub normalised : ℕ → ℕ → ℕ
normalised f k = float_of (113 - k) (f * 2 ^ k % 2 ^ 10)

-- the float's bits for a half's, m, both below the sign
unfoldable pub decoded : ℕ → ℕ
unfolding normalised
decoded m =
    -- zero
    cond (eqb m 0) 0
    -- subnormal
    (cond (ltb m (2 ^ 10)) (normalised m (count_leading_zeros 10 m + 1))
    -- normal: the exponents' biases are 15 and 127
    (cond (ltb m (31 * 2 ^ 10)) (float_of (m / 2 ^ 10 + 112) (m % 2 ^ 10))
    -- infinity and NaN
    (float_of 255 (m % 2 ^ 10))))

-- the half's bits for a float's, m, both below the sign
unfoldable pub encoded : ℕ → ℕ
unfolding magnitude round_even
encoded m =
    -- NaN: the upper ten fraction bits, with 0x200 set
    cond (ltb (255 * 2 ^ 23) m) (31 * 2 ^ 10 + (2 ^ 9 + m / 2 ^ 13 % 2 ^ 9))
    -- infinity, and 2^16 and above
    (cond (leb (143 * 2 ^ 23) m) (31 * 2 ^ 10)
    -- 2^-14 and above, normal: 13 fraction bits are rounded away, and a carry moves into the exponent's field
    (cond (leb (113 * 2 ^ 23) m) (round_even (m - 112 * 2 ^ 23) (2 ^ 13))
    -- subnormal and zero: whole multiples of 2^-24, each 2^125 of the float's units
    (round_even (magnitude 23 m) (2 ^ 125))))

-- the bits of the float that the half h stands for
unfoldable pub f16_to_f32 : ℕ → ℕ
unfolding decoded
f16_to_f32 h = h / 2 ^ 15 * 2 ^ 31 + decoded (h % 2 ^ 15)

-- the bits of the half nearest to the float b
unfoldable pub f32_to_f16 : ℕ → ℕ
unfolding encoded
f32_to_f16 b = b / 2 ^ 31 * 2 ^ 15 + encoded (b % 2 ^ 31)
