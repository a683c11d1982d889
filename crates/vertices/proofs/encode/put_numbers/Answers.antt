-- The numbers so far stand one behind the other.
use Rattle.std.proofs.Common.{refl}
use Rattle.vertices.proofs.EncodeLaws.{encoding_start, encoding_turn}
use Rattle.vertices.proofs.encode.put_numbers.Goals as goal

pub loop-i-init : goal.loop-i-init
loop-i-init c = encoding_start c.requires

pub loop-i-preserved : goal.loop-i-preserved
loop-i-preserved c = encoding_turn c.requires c.loop-i.invariant c.loop-i-test.true refl (rw c.width_of-width.ensures at c.put_number.ensures)
