-- The head's lowest, and where it has none checks 18 and 27, which are the scan's.
use mathlib.Core.Path.{ap, ◌∙◌}
use Prim.Native.Nat.{◌+◌, ◌*◌, ◌/◌, ◌≤◌}
use native.Mathlib.Omega.{arith}
use lib.ListN.{length, drop, length-drop}
use Rattle.vertices.proofs.RunLaws.{numbers-length}
use Rattle.halls.specs.Fronts.{front_geometry}
use Rattle.halls.specs.Inner.Judging.{indices_lowest_of}
use Rattle.halls.proofs.check.JudgingLaws.{lowest-head, front-triangles, front-scanned}
use Rattle.halls.proofs.check.ScanLaws.{numbers-take}
use Rattle.halls.proofs.check.WalkLaws.{slice-rest}
use Rattle.halls.proofs.check.geometry.geometry_lowest.Goals as goal
use Rattle.halls.proofs.check.geometry.geometry_lowest.Goals.{Else-lowest-ne-PASSED}

-- the triangles stand in the bytes behind the head and the vertices
module _ (c : Else-lowest-ne-PASSED) where
  fit : 3 * c.geometry_head-head.result.numbers.triangle_count ≤ length (drop (65 + c.args.shape.content) c.args.front.now) / 4
  fit =
      let held = front-triangles c.requires c.geometry_head-head.ensures c.head_lowest-lowest.ensures c.if-lowest-ne-PASSED.false in
      omega (arith, c.requires.long, held, length-drop (65 + c.args.shape.content) c.args.front.now)

pub returns-then-lowest-ne-PASSED : goal.returns-then-lowest-ne-PASSED
returns-then-lowest-ne-PASSED c = lowest-head (front_geometry _) c.geometry_head-head.ensures c.head_lowest-lowest.ensures c.if-lowest-ne-PASSED.true

pub triangles_lowest-requires : goal.triangles_lowest-requires
triangles_lowest-requires c =
    let rest = slice-rest c.args.front.now (65 + c.args.shape.content) in
    rw (c.of-indices.ensures, rest, numbers-length 4 (length (drop (65 + c.args.shape.content) c.args.front.now) / 4) (drop (65 + c.args.shape.content) c.args.front.now)) (fit (goal.at.triangles_lowest-requires c).Else-lowest-ne-PASSED)

pub returns : goal.returns
returns c =
    let rest = slice-rest c.args.front.now (65 + c.args.shape.content) in
    let scanned = rw (c.of-indices.ensures, rest) at c.triangles_lowest.ensures in
    front-scanned c.requires c.geometry_head-head.ensures c.head_lowest-lowest.ensures c.if-lowest-ne-PASSED.false
    (scanned ∙ ap (indices_lowest_of c.geometry_head-head.result.vertices_count) (numbers-take 4 (3 * c.geometry_head-head.result.numbers.triangle_count) _ (drop (65 + c.args.shape.content) c.args.front.now) (fit (goal.at.returns c).Else-lowest-ne-PASSED)))
