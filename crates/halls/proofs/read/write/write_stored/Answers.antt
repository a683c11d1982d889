-- The record, or nothing.
use mathlib.Core.Path.{sym}
use native.Mathlib.Omega.{arith}
use Rattle.sections.proofs.EditLaws.{overwrite-none}
use Rattle.halls.proofs.read.write.write_stored.Goals as goal

pub returns-in-None : goal.returns-in-None
returns-in-None c = (rw c.in-None.is (omega arith), rw c.in-None.is (sym (overwrite-none c.args.out.now c.args.at)))
