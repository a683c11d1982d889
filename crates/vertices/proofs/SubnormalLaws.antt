-- A subnormal half's float by way of a cast: its bits as a whole number, made a float, with the exponent 24 less.
use Rattle.std.proofs.Common.{◌≡◌, ℕ, zero, suc, ◌+◌, ◌<◌, Bool, not, ◌&&◌, T, eqb, pos, not-suc-le-zero, arith, eqb→eq}
use lib.Count.{count_leading_zeros}
use lib.Ieee.{binary32, in_float, is_nan, of_int, to_bits}
use lib.Ieee.Fits.{and_l, and_r}
use Rattle.vertices.specs.Half.{decoded}
use Rattle.vertices.proofs.AllBelow.{all_below, each}

-- the cast of i + 1 is exact and no NaN, and its bits are those of the half's float with an exponent 24 higher
right : ℕ → Bool
right i =
    in_float binary32 (pos (suc i)) && (not (is_nan (of_int binary32 (pos (suc i)))) && eqb (to_bits binary32 (of_int binary32 (pos (suc i)))) (decoded (suc i) + 201326592))

all_right : T (all_below right 1023)
unfolding right in_float is_nan of_int to_bits decoded count_leading_zeros
all_right = tt

-- what holds of the cast of a subnormal half's bits, m
pub record CastSubnormal (m : ℕ) : Type 0 where
  pub exact : T (in_float binary32 (pos m))
  pub number : T (not (is_nan (of_int binary32 (pos m))))
  pub bits : to_bits binary32 (of_int binary32 (pos m)) ≡ decoded m + 201326592

-- The cast gives the half's float with an exponent 24 higher: computed for each of the 1,023.
pub CastSubnormal_lem : (m : ℕ) → 0 < m → m < 1024 → CastSubnormal m
unfolding right
CastSubnormal_lem zero h l = absurd (not-suc-le-zero h)
CastSubnormal_lem (suc i) h l =
    let t = each right 1023 all_right i (omega arith) in
    let a = in_float binary32 (pos (suc i)) in
    let b = not (is_nan (of_int binary32 (pos (suc i)))) in
    let e = eqb (to_bits binary32 (of_int binary32 (pos (suc i)))) (decoded (suc i) + 201326592) in
    let u = and_r a (b && e) t in
    record { exact = and_l a (b && e) t; number = and_l b e u; bits = eqb→eq _ _ (and_r b e u) }
