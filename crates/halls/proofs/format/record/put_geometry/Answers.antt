-- Each number is put right behind the one before it.
use mathlib.Core.Path.{refl}
use native.Mathlib.Omega.{arith}
use Rattle.sections.specs.Le.{bytes}
use Rattle.sections.proofs.EditLaws.{Edited-behind}
use Rattle.halls.specs.List.{record_bytes, geometry_record}
use Rattle.halls.proofs.format.record.put_geometry.Goals as goal

pub returns : goal.returns
unfolding geometry_record record_bytes bytes
returns c =
    let shader = Edited-behind _ _ _ 6 2 c.put_head.ensures refl refl c.put_u16_le.ensures (omega arith) in
    let indices = Edited-behind _ _ _ 8 4 shader refl refl c.put_u32_le.ensures (omega arith) in
    let triangles = Edited-behind _ _ _ 12 4 indices refl refl c.put_u32_le-2.ensures (omega arith) in
    let vertices = Edited-behind _ _ _ 16 2 triangles refl refl c.put_u16_le-2.ensures (omega arith) in
    Edited-behind _ _ _ 18 2 vertices refl refl c.put_u16_le-3.ensures (omega arith)
