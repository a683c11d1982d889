-- `colour_byte`: `colour_of_lem`, of the value from 0 to 1.
use lib.Ieee.{of_bits}
use mathlib.Core.Path.{◌∙◌}
use lib.Ieee.Casts.{to_unsigned-lt}
use Rattle.vertices.proofs.NormalisedColour.{colour_of_lem}
use Rattle.vertices.proofs.normalised.colour_byte.Goals as goal

pub cut-requires : goal.cut-requires
unfolding of_bits
cut-requires c = rw (c.at_most.ensures, c.from_zero.ensures) (colour_of_lem c.args.value).whole

pub overflow_cast-result : goal.overflow_cast-result
overflow_cast-result c = record { fits = rw c.cut.ensures (to_unsigned-lt 8 _) }

pub returns : goal.returns
unfolding of_bits
returns c = c.cut.ensures ∙ rw (c.at_most.ensures, c.from_zero.ensures) (colour_of_lem c.args.value).byte
