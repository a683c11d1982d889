-- The triangles passed were counted, one more a turn.
use Prim.Native.Nat.{◌*◌, ◌-◌, ◌≤◌}
use lib.ListN.{take, drop}
use Rattle.halls.proofs.check.ScanLaws.{Counted}
use Rattle.halls.proofs.check.scan.block_lowest.Given as goal

abbrev pub invariant-loop-i : goal.invariant-loop-i
invariant-loop-i g l = (Counted l.limit (take (3 * (l.i - l.first)) (drop (3 * l.first) (g.L.IndexList.indices l.list))) l.inside l.pairs (l.i - l.first)) × (l.first ≤ l.i) × (l.i ≤ l.end)
