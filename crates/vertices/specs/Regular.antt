-- Which halves and floats are converted in blocks: zeros and normal numbers. Only private functions use it.
use Rattle.std.specs.Prelude.{cond, ℕ, ◌*◌, ◌%◌, ◌^◌, eqb, ltb}

-- 0 where m is 0, or `least` or more and below `limit`; else 1
unfoldable pub irregular : ℕ → ℕ → ℕ → ℕ
irregular least limit m = cond (eqb m 0) 0 (cond (ltb m least) 1 (cond (ltb m limit) 0 1))

-- 0 for a half that is a zero or a normal number, 1 for a subnormal one, an infinity and a NaN
abbrev pub irregular_half : ℕ → ℕ
irregular_half h = irregular (2 ^ 10) (31 * 2 ^ 10) (h % 2 ^ 15)

-- 0 for a zero and for a float of 2^-14 and above and below 2^16, of either sign; 1 for any other
abbrev pub irregular_float : ℕ → ℕ
irregular_float b = irregular (113 * 2 ^ 23) (143 * 2 ^ 23) (b % 2 ^ 31)
