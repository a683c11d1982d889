-- `half_of_small`: `low_sums` below the normal halves, `round-sum` from there on.
use mathlib.Core.Path.{sym, ◌∙◌}
use Prim.Native.Nat.{◌-◌}
use native.Mathlib.Omega.{arith}
use Rattle.vertices.proofs.HalfEncode.{encoded-normal}
use Rattle.vertices.proofs.HalfSum.{low_sums}
use Rattle.vertices.proofs.HalfRound.{round-sum}
use Rattle.vertices.proofs.halves.half_of_small.Goals as goal

pub float_from_bits-result : goal.float_from_bits-result
float_from_bits-result c = (low_sums c.args.rest (omega arith)).real

pub float_to_bits-result : goal.float_to_bits-result
float_to_bits-result c = (low_sums c.args.rest (omega arith)).number

pub overflow_sub-result : goal.overflow_sub-result
overflow_sub-result c = omega (arith, (low_sums c.args.rest (omega arith)).bits)

pub returns-then-rest-lt947912704 : goal.returns-then-rest-lt947912704
returns-then-rest-lt947912704 c = omega (arith, (low_sums c.args.rest (omega arith)).bits)

pub returns : goal.returns
returns c = round-sum (c.args.rest - 939524096) ∙ sym (encoded-normal c.args.rest (omega arith) (omega arith))
