-- The declaration is put right behind the head.
use mathlib.Core.Path.{refl}
use native.Mathlib.Omega.{arith}
use Rattle.sections.specs.Le.{bytes}
use Rattle.sections.proofs.EditLaws.{Edited-behind}
use Rattle.vertices.specs.Declaration.{declaration_bytes}
use Rattle.halls.specs.List.{record_bytes, declaration_record}
use Rattle.halls.proofs.format.record.put_declaration.Goals as goal

pub returns : goal.returns
unfolding declaration_record record_bytes declaration_bytes bytes
returns c = Edited-behind _ _ _ 6 16 c.put_head.ensures refl refl c.write_declaration.ensures (omega arith)
