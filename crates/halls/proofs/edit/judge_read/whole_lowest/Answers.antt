-- The lowest of the numbers, and where they have none checks 18 and 27, which are the scan's.
use Rattle.std.proofs.Common.{arith, refl, ap, length, ◌∙◌}
use Rattle.halls.specs.Hall.{FullGeometry}
use Rattle.halls.specs.Inner.Judging.{indices_lowest_of}
use Rattle.halls.proofs.check.JudgingLaws.{lowest-head, lowest-triangles}
use Rattle.halls.proofs.edit.ShownLaws.{full_scanned}
use Rattle.halls.proofs.edit.judge_read.whole_lowest.Goals as goal

pub returns-then-lowest-ne-PASSED : goal.returns-then-lowest-ne-PASSED
returns-then-lowest-ne-PASSED c = lowest-head c.args.geometry.now refl c.numbers_lowest-lowest.ensures c.if-lowest-ne-PASSED.true

pub items_lowest-requires : goal.items_lowest-requires
items_lowest-requires c =
    let whole = lowest-triangles c.args.geometry.now refl c.numbers_lowest-lowest.ensures c.if-lowest-ne-PASSED.false in
    let items = ap (λ (g : FullGeometry). length g.indices.items) c.geometry.view_is in
    omega (arith, whole, items, ap (λ (g : FullGeometry). g.triangle_count) c.geometry.view_is)

pub returns : goal.returns
returns c =
    let same = ap (λ (x : FullGeometry). indices_lowest_of x.vertex_count x.indices.items) c.geometry.view_is in
    full_scanned c.args.geometry.now c.numbers_lowest-lowest.ensures c.if-lowest-ne-PASSED.false (c.items_lowest.ensures ∙ same)
