-- The bytes of the buffer that was found, or none.
use mathlib.Core.Path.{refl, sym}
use mathlib.Core.List.{[]}
use native.Mathlib.Omega.{arith}
use Rattle.sections.proofs.EditLaws.{overwrite-none}
use Rattle.exports.proofs.ToldLaws.{fitting-yes}
use Rattle.exports.proofs.buffers.write_found.Goals as goal

pub returns-in_default : goal.returns-in_default
returns-in_default c = rw c.in_default.is (fitting-yes [] (omega arith) (sym (overwrite-none _ 0)) refl)
