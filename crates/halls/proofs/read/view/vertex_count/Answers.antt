-- The stored count unless it is 0, else the buffer's, at most 65,535.
use Rattle.std.proofs.Common.{rules}
use borrow.Author.Tests.{eq-eqb, ne_eqb}
use Rattle.halls.specs.Reading.{vertex_count_of}
use Rattle.halls.proofs.read.view.vertex_count.Goals as goal

pub returns-then-stored-ne0 : goal.returns-then-stored-ne0
unfolding vertex_count_of
returns-then-stored-ne0 c = rw (ne_eqb _ _ c.if-stored-ne0.true)

pub returns : goal.returns
unfolding vertex_count_of
returns c = rw (eq-eqb _ _ c.if-stored-ne0.false) (search rules)
