-- Absent by the two tests, else what the lookup of all the bytes says.
use Rattle.std.proofs.Common.{rules}
use borrow.Author.Tests.{eq-eqb, ne_eqb}
use Rattle.halls.specs.Inner.View.{view_at}
use Rattle.halls.proofs.read.view.view_at.Goals.{then-pointer-eq0-via-then-pointer-eq0, then-pointer-eq0-via-else-pointer-eq0+then-count-eq0}
use Rattle.halls.proofs.read.view.view_at.Goals as goal

pub returns-then-pointer-eq0 : goal.returns-then-pointer-eq0
unfolding view_at
returns-then-pointer-eq0 c = elim c.then-pointer-eq0.branch [
  | then-pointer-eq0-via-then-pointer-eq0 w ↦ rw (eq-eqb _ _ w.if-pointer-eq0.true)
  | then-pointer-eq0-via-else-pointer-eq0+then-count-eq0 w ↦ rw (ne_eqb _ _ w.if-pointer-eq0.false, eq-eqb _ _ w.if-count-eq0.true)
]

pub returns-in_err-place : goal.returns-in_err-place
unfolding view_at
returns-in_err-place c = rw (ne_eqb _ _ c.if-pointer-eq0.false, ne_eqb _ _ c.if-count-eq0.false, ← c.bytes.ensures, ← c.locate.ensures) (search rules)

pub returns : goal.returns
unfolding view_at
returns c = rw (ne_eqb _ _ c.if-pointer-eq0.false, ne_eqb _ _ c.if-count-eq0.false, ← c.bytes.ensures, ← c.locate.ensures) (search rules)
