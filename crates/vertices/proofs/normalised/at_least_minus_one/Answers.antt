-- The choice is `at_least`'s own.
use lib.Ieee.{neg, lt, of_bits}
use Rattle.std.proofs.Common.{rules}
use Rattle.vertices.specs.Normalised.{at_least}
use Rattle.vertices.proofs.normalised.at_least_minus_one.Goals as goal

pub returns-then-x : goal.returns-then-x
unfolding at_least neg lt of_bits
returns-then-x c = search rules

pub returns : goal.returns
unfolding at_least neg lt of_bits
returns c = rw c.if-x.false
