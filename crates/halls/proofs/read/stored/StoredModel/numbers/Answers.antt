-- The fields of the model's block.
use Rattle.std.proofs.Common.{rules}
use Rattle.halls.specs.Blocks.{model_block}
use Rattle.halls.specs.Inner.View.{model_of}
use Rattle.halls.proofs.read.stored.StoredModel.numbers.Goals as goal

pub returns-clause-binding : goal.returns-clause-binding
unfolding model_of model_block
returns-clause-binding c = rw (← c.self.view_is) (search rules)

pub returns-clause-mask : goal.returns-clause-mask
unfolding model_of model_block
returns-clause-mask c = rw (← c.self.view_is) (search rules)
