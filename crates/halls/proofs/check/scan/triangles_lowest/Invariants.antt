-- The blocks passed come to the lowest so far, one more a turn; an index out of range ends the scan.
use Prim.Native.Nat.{◌*◌, ◌-◌, min}
use lib.ListN.{take}
use Rattle.halls.proofs.check.ScanLaws.{Scanned}
use Rattle.halls.proofs.check.scan.triangles_lowest.Given as goal

abbrev pub invariant-loop-first : goal.invariant-loop-first
invariant-loop-first g l = Scanned l.limit (take (3 * min l.first l.count) (g.L.IndexList.indices l.list)) l.lowest (min l.first l.count)

abbrev pub decreases-loop-first : goal.decreases-loop-first
decreases-loop-first g l = l.count - l.first
