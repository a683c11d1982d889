-- What is left of src, put behind the pieces so far, makes the whole.
use Rattle.std.proofs.Common.{◌∙◌}
use Rattle.sections.proofs.Runs.{Pieces-turn, Pieces-end}
use Rattle.sections.proofs.edits.copy_blocks.Goals as goal

pub loop-i-preserved : goal.loop-i-preserved
loop-i-preserved c =
    let s = c.in-Some.ensures.steps in
    let size = c.loop-i.invariant.0 in
    (s.0.0 ∙ size, rw (s.2, c.copy_block.ensures, s.1) (Pieces-turn c.loop-i.invariant.1 _ _ s.0.1.0 (rw size at s.0.1.1)))

pub returns : goal.returns
returns c = Pieces-end c.loop-i.invariant.1 c.in-None.ensures.steps.0.1.0
