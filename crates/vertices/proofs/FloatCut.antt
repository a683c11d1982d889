-- Cutting a float that lies between -1 and 256 to a byte. Assumes nothing.
use Rattle.std.proofs.Common.{◌≡◌, ◌+◌, ◌*◌, ◌/◌, ◌^◌, ◌<◌, true, false, T, pos, refl, div-lt_iff_lt-mul, arith, ltb→lt, lt→ltb}
use lib.Ieee.{Float, nan, inf, fin, up, down, lt, to_unsigned}
use lib.Ieee.Fits.{down_pos}
use Rattle.vertices.specs.Normalised.{number, negative}

-- what is below 256 is below 2^64
pub below_wider : (x : Float) → T (lt x (number 256)) → T (lt x (fin false 1 (pos 64)))
unfolding lt
below_wider nan h = absurd h
below_wider (inf true) h = tt
below_wider (inf false) h = absurd h
below_wider (fin false m e) h =
    lt→ltb (m * up e * 1) (1 * 2 ^ 64 * down e) (omega (arith, down_pos e, ltb→lt (m * up e * 1) (256 * 1 * down e) h))
below_wider (fin true m e) h = lt→ltb 0 (m * up e * 1 + 1 * 2 ^ 64 * down e) (omega (arith, down_pos e))

-- cut to 64 bits or to 8, it is the same number
pub cut_same : (x : Float) → T (lt (negative 1) x) → T (lt x (number 256)) → to_unsigned 64 x ≡ to_unsigned 8 x
unfolding lt to_unsigned
cut_same nan l h = absurd h
cut_same (inf true) l h = absurd l
cut_same (inf false) l h = absurd h
cut_same (fin true m e) l h = refl
cut_same (fin false m e) l h =
    let q : m * up e / down e < 256 = (div-lt_iff_lt-mul (down_pos e)).1 (omega (arith, ltb→lt (m * up e * 1) (256 * 1 * down e) h)) in
    omega arith
