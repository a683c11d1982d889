-- The records before those that are left are counted; each turn counts one more.
use mathlib.Core.Path.{◌∙◌}
use Rattle.halls.proofs.format.TriangleLaws.{Counting-start, Counting-inside, Counting-turn, Counting-end}
use Rattle.halls.proofs.format.triangles.triangle_count.Goals as goal

pub loop-record-init : goal.loop-record-init
loop-record-init c = Counting-start _ (c.into_iter-record-iterator.ensures.into_iter_gives ∙ c.records_from-record-items.ensures)

pub slice_bounds-body-count : goal.slice_bounds-body-count
slice_bounds-body-count c = (Counting-inside c.loop-record.invariant c.in-Some.ensures.steps).0

pub slice_bounds-body-start : goal.slice_bounds-body-start
slice_bounds-body-start c = (Counting-inside c.loop-record.invariant c.in-Some.ensures.steps).0

pub slice_bounds-body-end : goal.slice_bounds-body-end
slice_bounds-body-end c = (Counting-inside c.loop-record.invariant c.in-Some.ensures.steps).1

pub loop-record-preserved : goal.loop-record-preserved
loop-record-preserved c =
    Counting-turn c.loop-record.invariant c.in-Some.ensures.steps c.record_triangles.ensures c.awaits_indices-awaited.ensures c.saturating_add-total.ensures

pub returns : goal.returns
returns c = Counting-end c.loop-record.invariant c.in-None.ensures.steps.0
