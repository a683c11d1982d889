-- The sizes added up and those of the components still to come are the total.
use mathlib.Core.Path.{◌∙◌}
use Rattle.vertices.specs.Declaration.{components_of, total_size}
use Rattle.vertices.proofs.ComponentSizes.{summing_start, summing_set, Summing-clear, Summing-end}
use Rattle.vertices.proofs.declaration.VertexDeclaration.size_in_bytes.Goals as goal
use Rattle.vertices.proofs.declaration.VertexDeclaration.size_in_bytes.Goals.{then-flags-eq1, else-flags-eq1}

pub loop-index-init : goal.loop-index-init
unfolding total_size components_of
loop-index-init c = summing_start _ _

pub loop-index-preserved : goal.loop-index-preserved
loop-index-preserved c =
    let inv = c.loop-index.invariant in
    let low = c.loop-index-test.true in
    elim c.if-flags-eq1.branch [ then-flags-eq1 w ↦ summing_set inv low w.if-flags-eq1.true (w.total-is ∙ rw (w.from-total.ensures, w.size_in_bytes.ensures, w.from_nibble-component_type.ensures)) | else-flags-eq1 w ↦ Summing-clear inv low w.if-flags-eq1.false w.total-is ]

pub returns : goal.returns
returns c = Summing-end c.loop-index.invariant c.loop-index-test.false
