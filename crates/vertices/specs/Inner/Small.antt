-- Which floats are cut to whole numbers by a sum, and which are converted to halves without a test for infinity and NaN.
use Rattle.std.specs.Prelude.{ℕ, ◌*◌, ◌%◌, ◌^◌, ◌<◌, Bool, false, not, Float}
use Rattle.std.specs.Float.{nan, inf, fin}

-- a number whose sign is not set
abbrev pub plain : Float → Bool
plain nan = false
plain (inf s) = not s
plain (fin s m e) = not s

-- a float's bits, below 65,536 in size
abbrev pub small : ℕ → Type 0
small x = x % 2 ^ 31 < 143 * 2 ^ 23
