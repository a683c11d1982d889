-- No set flag was passed: the components of the flags to come are those that were left.
use Rattle.std.proofs.Common.{◌∙◌, ◌≤◌, arith}
use Rattle.vertices.specs.Declaration.{components_from}
use Rattle.vertices.proofs.ComponentWalk.{walking_set, walking_clear, walking_end}
use Rattle.vertices.proofs.components.ComponentsIterator.next.Goals as goal

pub returns-then-set-clause-steps : goal.returns-then-set-clause-steps
unfolding components_from
returns-then-set-clause-steps c = rw (c.from.ensures, c.component_at-component.ensures) (walking_set c.loop-self.invariant c.loop-self-test.true c.if-set.true)

pub returns-then-set-clause-goes : goal.returns-then-set-clause-goes
returns-then-set-clause-goes c =
    let steps = returns-then-set-clause-steps c in
    grind (arith, steps)

pub loop-self-preserved : goal.loop-self-preserved
loop-self-preserved c = walking_clear c.loop-self.invariant c.loop-self-test.true c.if-set.false

pub returns-else-self-ne0-clause-steps : goal.returns-else-self-ne0-clause-steps
returns-else-self-ne0-clause-steps c =
    let none = walking_end c.loop-self.invariant (λ low. c.if-self-ne0.false) in
    (none, c.loop-self.invariant.same ∙ none)

pub returns-after-loop-self-clause-steps : goal.returns-after-loop-self-clause-steps
returns-after-loop-self-clause-steps c =
    let past : 16 ≤ c.loop-self.self-inside.index = omega arith in
    let none = walking_end c.loop-self.invariant (λ low. omega arith) in
    (none, c.loop-self.invariant.same ∙ none)
