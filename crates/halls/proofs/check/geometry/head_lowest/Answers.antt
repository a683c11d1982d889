-- The first check that fails is the lowest.
use Rattle.halls.proofs.check.JudgingLaws.{tested_as, components_tested, judged-15, judged-16, judged-17, judged-none}
use Rattle.halls.proofs.check.geometry.head_lowest.Goals as goal

pub returns-then-not-components_inside : goal.returns-then-not-components_inside
returns-then-not-components_inside c = judged-15 (tested_as c.strides_agree.ensures (c.if-not-strides_agree.false)) (tested_as (components_tested _ c.components_inside.ensures) (c.if-not-components_inside.true))

pub returns-then-not-vertex_counts_agree : goal.returns-then-not-vertex_counts_agree
returns-then-not-vertex_counts_agree c =
    judged-16 (tested_as c.strides_agree.ensures (c.if-not-strides_agree.false)) (tested_as (components_tested _ c.components_inside.ensures) (c.if-not-components_inside.false))
    (tested_as c.vertex_counts_agree.ensures (c.if-not-vertex_counts_agree.true))

pub returns-then-not-index_counts_agree : goal.returns-then-not-index_counts_agree
returns-then-not-index_counts_agree c =
    judged-17 (tested_as c.strides_agree.ensures (c.if-not-strides_agree.false)) (tested_as (components_tested _ c.components_inside.ensures) (c.if-not-components_inside.false))
    (tested_as c.vertex_counts_agree.ensures (c.if-not-vertex_counts_agree.false))
    (tested_as c.index_counts_agree.ensures (c.if-not-index_counts_agree.true))

pub returns : goal.returns
returns c =
    judged-none (tested_as c.strides_agree.ensures (c.if-not-strides_agree.false)) (tested_as (components_tested _ c.components_inside.ensures) (c.if-not-components_inside.false))
    (tested_as c.vertex_counts_agree.ensures (c.if-not-vertex_counts_agree.false))
    (tested_as c.index_counts_agree.ensures (c.if-not-index_counts_agree.false))
