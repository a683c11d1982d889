-- The numbers so far stand one behind the other.
use Rattle.vertices.specs.Encode.{stored_as, width_of}
use Rattle.vertices.proofs.EncodeLaws.{Encoding}
use Rattle.vertices.proofs.encode.put_numbers.Given as goal

abbrev pub invariant-loop-i : goal.invariant-loop-i
invariant-loop-i l = Encoding (width_of l.fn.component_type) (stored_as l.fn.component_type) l.fn.numbers l.fn.buf l.fn.off l.buf l.i
