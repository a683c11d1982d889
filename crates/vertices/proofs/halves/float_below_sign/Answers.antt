-- `float_below_sign`: `lift`, of the bits below the sign.
use mathlib.Core.Path.{◌≡◌}
use Prim.Native.Nat.{◌+◌}
use native.Mathlib.Omega.{arith}
use lib.Ieee.{binary32, add, to_bits}
use Rattle.vertices.specs.Half.{decoded}
use Rattle.vertices.proofs.HalfDecode.{decoded-fits}
use Rattle.vertices.proofs.HalfLift.{lift, moved}
use Rattle.vertices.proofs.halves.float_below_sign.Goals as goal

pub float_from_bits-moved : goal.float_from_bits-moved
float_from_bits-moved c = (lift c.args.rest c.requires).real

pub float_to_bits-result : goal.float_to_bits-result
float_to_bits-result c = rw c.not_above_zero.ensures (lift c.args.rest c.requires).number

pub overflow_add-result : goal.overflow_add-result
overflow_add-result c =
    let joined : to_bits binary32 (add binary32 (moved c.args.rest) c.not_above_zero.result) + c.all_ones.result ≡ decoded c.args.rest = rw (c.all_ones.ensures, c.not_above_zero.ensures) (lift c.args.rest c.requires).bits in
    omega (arith, joined, decoded-fits c.args.rest c.requires)

pub returns : goal.returns
returns c = rw (c.all_ones.ensures, c.not_above_zero.ensures) (lift c.args.rest c.requires).bits
