-- The four records are those of the geometry that is seen, with layout 0.
use Rattle.std.proofs.Common.{arith, ap, sym, ◌∙◌, length}
use Rattle.sections.specs.Edit.{overwrite}
use Rattle.vertices.specs.declared.declaration.VertexDeclaration.{VertexDeclaration}
use Rattle.halls.specs.Hall.{FullGeometry, listed_geometry}
use Rattle.halls.specs.List.{write_geometry, geometry_record}
use Rattle.halls.specs.Inner.Taking.{full_shown}
use Rattle.halls.specs.Inner.View.{four_records}
use Rattle.halls.proofs.edit.TakenBytes.{whole-length, whole-room}
use Rattle.halls.proofs.edit.write_taken.write_whole.Goals as goal

pub put_full-requires : goal.put_full-requires
put_full-requires c =
    let room = whole-room c.args.at (length c.args.out.now) c.geometry.view_is c.requires in
    record { room = omega (arith, room); few = (c.geometry.invariant, omega (arith, c.held.ensures)) }

pub returns : goal.returns
unfolding four_records write_geometry geometry_record
returns c =
    let a = c.args in
    let view = c.geometry.inside in
    let long = ap (λ (g : FullGeometry). length (write_geometry (listed_geometry g))) c.geometry.view_is in
    let full = full_shown view.numbers view.buffer view.content.now view.indices in
    let same = ap (λ (d : VertexDeclaration). overwrite a.out.now a.at (four_records view.numbers d full.vertices view.indices)) c.or_position_only.ensures in (
      omega (arith, sym long, whole-length full, c.held.ensures.0),
      c.put_full.ensures ∙ same ∙ ap (λ (g : FullGeometry). overwrite a.out.now a.at (write_geometry (listed_geometry g))) c.geometry.view_is,
    )
