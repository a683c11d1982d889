-- Inside where there is no vertex or nothing to read; else it is enough to test the last vertex.
use mathlib.Core.Path.{◌≡◌, sym, ◌∙◌}
use borrow.Author.Tests.{eq-eqb}
use native.Mathlib.Omega.{arith}
use Rattle.vertices.proofs.UnifiedChecks.{last-compared, nothing_read, Vertices-none}
use Rattle.vertices.proofs.unify.all_inside.Goals.{then-count-eq0, else-count-eq0}
use Rattle.vertices.proofs.unify.all_inside.Goals as goal

pub returns-then-total-eq0 : goal.returns-then-total-eq0
returns-then-total-eq0 c = elim c.if-count-eq0.branch [
  | then-count-eq0 w ↦ w.t-8-is ∙ eq-eqb _ _ w.if-count-eq0.true ∙ rw w.if-count-eq0.true (sym (Vertices-none _ _ _))
  | else-count-eq0 w ↦
      let nothing : c.from-total.result ≡ 0 = omega arith in
      w.t-8-is ∙ eq-eqb _ _ nothing ∙ nothing_read _ _ _ _ (c.from-total.ensures ∙ c.size_in_bytes.ensures) nothing
]

pub returns-else-total-eq0 : goal.returns-else-total-eq0
returns-else-total-eq0 c =
    last-compared _ _ _ _ (c.from-total.ensures ∙ c.size_in_bytes.ensures) c.base_of.ensures.0 (omega arith) (omega (arith, c.if-total-eq0.false.0))
