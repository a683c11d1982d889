-- The byte as a number of one byte.
use Rattle.std.proofs.Common.{◌≡◌, ◌%◌, arith}
use Rattle.sections.specs.Le.{bytes}
use Rattle.sections.proofs.fields.put_u8_le.Goals as goal

pub returns : goal.returns
unfolding bytes
returns c = let e : c.args.v % 256 ≡ c.args.v = omega arith in rw e c.put_bytes.ensures
