-- Each number is put right behind the one before it.
use mathlib.Core.Path.{refl}
use native.Mathlib.Omega.{arith}
use Rattle.sections.specs.Le.{bytes}
use Rattle.sections.proofs.EditLaws.{Edited-behind}
use Rattle.halls.proofs.format.record.put_model_numbers.Goals as goal

pub returns : goal.returns
unfolding bytes
returns c =
    let binding = Edited-behind _ _ _ 6 4 c.put_head.ensures refl refl c.put_u32_le.ensures (omega arith) in
    Edited-behind _ _ _ 10 2 binding refl refl c.put_u16_le.ensures (omega arith)
