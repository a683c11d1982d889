-- No bytes by the two tests, else what resolves.
use borrow.Author.Tests.{eq-eqb, ne_eqb}
use Rattle.halls.specs.Inner.Measure.{list_bytes}
use Rattle.halls.proofs.read.pointers.list_bytes.Goals.{then-count-eq0-via-then-count-eq0, then-count-eq0-via-else-count-eq0+then-pointer-eq0}
use Rattle.halls.proofs.read.pointers.list_bytes.Goals as goal

pub returns-then-count-eq0 : goal.returns-then-count-eq0
unfolding list_bytes
returns-then-count-eq0 c = elim c.then-count-eq0.branch [
  | then-count-eq0-via-then-count-eq0 w ↦ rw (eq-eqb _ _ w.if-count-eq0.true)
  | then-count-eq0-via-else-count-eq0+then-pointer-eq0 w ↦ rw (ne_eqb _ _ w.if-count-eq0.false, eq-eqb _ _ w.if-pointer-eq0.true)
]

pub returns : goal.returns
unfolding list_bytes
returns c = rw (ne_eqb _ _ c.if-count-eq0.false, ne_eqb _ _ c.if-pointer-eq0.false, ← c.from.ensures) c.resolve.ensures
