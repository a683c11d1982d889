-- The mapping of the model's block.
use Rattle.std.proofs.Common.{◌∙◌, sym, ap, arith}
use Rattle.halls.specs.Inner.View.{model_of}
use Rattle.halls.specs.List.{Model}
use Rattle.halls.proofs.read.ModelLaws.{mapping-numbers, mapping-even, mapping-few}
use Rattle.halls.proofs.read.stored.StoredModel.mapping.Goals as goal

pub returns-clause-numbers : goal.returns-clause-numbers
unfolding model_of
returns-clause-numbers c = sym (mapping-numbers _ _ _ _ c.self.invariant) ∙ ap (λ (m : Model). m.mapping) c.self.view_is

pub returns-clause-even : goal.returns-clause-even
returns-clause-even c = mapping-even _ _ _ _ c.self.invariant

pub returns-clause-few : goal.returns-clause-few
returns-clause-few c = omega (arith, mapping-few _ _ _ _ c.self.invariant)
