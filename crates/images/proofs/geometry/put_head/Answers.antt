-- Each part is put right behind the one before it.
use mathlib.Core.Path.{refl, ap, ◌∙◌}
use native.Mathlib.Omega.{arith}
use Rattle.sections.specs.Edit.{overwrite, part}
use Rattle.sections.proofs.EditLaws.{overwrite-behind, Edited-behind}
use Rattle.images.specs.Fronts.{vertex_numbers}
use Rattle.images.proofs.BlockLaws.{VertexBlock-length}
use Rattle.images.proofs.FrontLaws.{slice-length}
use Rattle.images.proofs.WrittenGeometry.{head-joined}
use Rattle.images.proofs.SizeLaws.{Block-filled-length, head-length}
use Rattle.images.proofs.geometry.put_head.Goals as goal

pub returns : goal.returns
unfolding part
returns c =
    let long = slice-length c.args.front.now 26 42 (omega arith) c.requires.2 in
    let vertices = VertexBlock-length (vertex_numbers c.args.at c.args.front.now) in
    let two = overwrite-behind _ _ _ 0xA0 _ c.put_geometry_numbers.ensures (Block-filled-length _) c.put_vertex_numbers.ensures (omega (arith, vertices, c.requires.0.fits)) in
    Edited-behind _ _ _ 0x120 _ two (head-length _ _) refl c.copy_into.ensures (omega (arith, long, c.requires.0.fits)) ∙ ap (overwrite _ _) (head-joined c.args.at c.args.index_block c.args.front.now)
