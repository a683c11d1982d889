-- The blocks passed come to the lowest so far, one more a turn; an index out of range ends the scan.
use mathlib.Core.Path.{◌≡◌, refl, ap, ◌∙◌}
use Prim.Native.Nat.{◌+◌, ◌*◌, ◌-◌, min}
use native.Mathlib.Omega.{arith}
use lib.ListN.{take}
use Rattle.halls.proofs.check.ScanLaws.{Scanned, Scanned-start, Scanned-turn, Scanned-fails, triangles-add, triangles-length, triangles-all}
use Rattle.halls.proofs.check.scan.triangles_lowest.Given.{Over}
use Rattle.halls.proofs.check.scan.triangles_lowest.Goals as goal
use Rattle.halls.proofs.check.scan.triangles_lowest.Goals.{After-min-lowest}

-- behind a block
module _ (g : Over) (c : After-min-lowest g) where
  turned : Scanned c.args.limit (take (3 * (c.loop-first.first + c.min.result)) (g.L.IndexList.indices c.args.list)) c.min-lowest.result (c.loop-first.first + c.min.result)
  turned =
      let xs = g.L.IndexList.indices c.args.list in
      let first = c.loop-first.first in
      let n = c.min.result in
      let here : min first c.args.count ≡ first = omega arith in
      let size : first + n - first ≡ n = omega arith in
      Scanned-turn (rw here at c.loop-first.invariant) n _ (triangles-add xs first n) (triangles-length xs first n (omega (arith, c.min.ensures, c.requires)))
      (c.min-lowest.ensures ∙ ap (min c.loop-first.lowest) (rw size at c.block_lowest.ensures))

pub loop-first-init : goal.loop-first-init
loop-first-init g c =
    let none : min 0 c.args.count ≡ 0 = omega arith in
    rw none (Scanned-start _ _ refl)

pub returns-then-lowest-eq18 : goal.returns-then-lowest-eq18
returns-then-lowest-eq18 g c =
    let xs = g.L.IndexList.indices c.args.list in
    Scanned-fails (turned g (goal.at.returns-then-lowest-eq18 g c).After-min-lowest) _ (triangles-all xs (c.loop-first.first + c.min.result) c.args.count (omega (arith, c.min.ensures))) c.if-lowest-eq18.true

pub loop-first-preserved : goal.loop-first-preserved
loop-first-preserved g c =
    let end : min (c.loop-first.first + 64) c.args.count ≡ c.loop-first.first + c.min.result = omega (arith, c.min.ensures) in
    rw end (turned g (goal.at.loop-first-preserved g c).After-min-lowest)

pub returns-else-lowest-eq18 : goal.returns-else-lowest-eq18
returns-else-lowest-eq18 g c =
    let end : c.loop-first.first + c.min.result ≡ c.args.count = omega (arith, c.min.ensures) in
    let all = turned g (goal.at.returns-else-lowest-eq18 g c).After-min-lowest in
    rw end at all.is
