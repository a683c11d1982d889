-- None is left where there are fewer than two bytes.
use Rattle.std.proofs.Common.{sym, ap, ◌∙◌}
use Rattle.halls.specs.Inner.Order.{failing}
use Rattle.halls.proofs.check.WalkLaws.{none-left}
use Rattle.halls.proofs.check.pass.unanswered.Goals as goal

pub returns : goal.returns
returns c = c.failing.ensures ∙ ap (failing 12) (sym (none-left c.args.left.now))
