-- `is_nan` meets its contract: with the sign taken off, a NaN's bits are those above infinity's.
use mathlib.Core.Path.{sym}
use lib.Ieee.{binary32}
use lib.Ieee.Bits.{nan_bits_above}
use Rattle.vertices.proofs.normalised.is_nan.Goals as goal

pub returns : goal.returns
returns c = sym (nan_bits_above binary32 c.args.bits)
