-- The sum of the three parts.
use native.Mathlib.Omega.{arith}
use Rattle.halls.specs.Inner.View.{view_length}
use Rattle.halls.proofs.read.view.view_length.Goals as goal

pub returns : goal.returns
unfolding view_length
returns c = (omega (arith, c.indices_length.ensures.0, c.buffer_length.ensures.0), omega arith)
