-- What is sought among the records that are left is what was sought.
use Rattle.halls.specs.Inner.Kinds.{kind_number}
use Rattle.halls.specs.Inner.Seeking.{sought}
use Rattle.halls.proofs.check.SeekLaws.{Seeking}
use Rattle.halls.proofs.check.find.seek.Given as goal

abbrev pub invariant-loop-record : goal.invariant-loop-record
invariant-loop-record l = Seeking (kind_number l.fn.kind) l.left (sought l.list l.at (kind_number l.fn.kind) l.skip) l.record-iterator
