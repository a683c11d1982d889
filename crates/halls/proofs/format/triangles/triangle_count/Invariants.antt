-- The records before those that are left are counted; each turn counts one more.
use Rattle.halls.proofs.format.TriangleLaws.{Counting}
use Rattle.halls.proofs.format.triangles.triangle_count.Given as goal

abbrev pub invariant-loop-record : goal.invariant-loop-record
invariant-loop-record l = Counting l.list l.record-iterator l.awaited l.total
