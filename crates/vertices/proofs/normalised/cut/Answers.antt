-- `cut`: `CutBits_lem`, by the test.
use native.Mathlib.Omega.{arith}
use Rattle.vertices.proofs.CutSum.{CutBits_lem}
use Rattle.vertices.proofs.normalised.cut.Goals as goal

pub float_to_bits-nearest : goal.float_to_bits-nearest
float_to_bits-nearest c = (CutBits_lem _ c.requires.0 c.requires.1).number

pub overflow_sub-nearest : goal.overflow_sub-nearest
overflow_sub-nearest c = (CutBits_lem _ c.requires.0 c.requires.1).least

pub overflow_sub-result : goal.overflow_sub-result
overflow_sub-result c = omega (arith, (CutBits_lem _ c.requires.0 c.requires.1).over c.if-value-sum.true)

pub returns-then-value-sum : goal.returns-then-value-sum
returns-then-value-sum c = omega (arith, (CutBits_lem _ c.requires.0 c.requires.1).over c.if-value-sum.true)

pub returns : goal.returns
returns c = omega (arith, (CutBits_lem _ c.requires.0 c.requires.1).exact c.if-value-sum.false)
