-- The bytes behind `at`, and of them the first.
use Rattle.sections.specs.Address.{part_of}
use Rattle.sections.proofs.EditLaws.{range-whole}
use Rattle.sections.proofs.reader.part_of.Goals as goal

pub returns : goal.returns
unfolding part_of
returns c = let rest = c.in_ok-get.ensures.lookup.0 in range-whole c.args.s.now c.args.at c.args.len _ c.get-2.result rest.0 rest.2 c.get-2.ensures.lookup.0
