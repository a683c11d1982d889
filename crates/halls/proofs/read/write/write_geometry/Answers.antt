-- Kind 2, the buffer's records and the indices', one behind the other.
use Rattle.std.proofs.Common.{arith, ap, sym, length, List, ℕ, Option, ◌∙◌, ◌≡◌}
use Rattle.sections.specs.Address.{Sections, sections_of}
use Rattle.halls.specs.List.{Geometry, Indices, optional, indices_record}
use Rattle.halls.specs.Inner.Taking.{geometry_shown}
use Rattle.halls.specs.declared.read.view.GeometryView.{GeometryView}
use Rattle.halls.proofs.edit.ShownLaws.{shown-indices}
use Rattle.sections.specs.Edit.{overwrite}
use Rattle.halls.specs.Inner.View.{index_record, view_length}
use Rattle.halls.proofs.read.ViewLaws.{index_record-length, view_written}
use Rattle.halls.proofs.read.ViewRecords.{index_record_lem, shown_length, shown_records}
use Rattle.halls.proofs.read.write.write_geometry.Goals as goal

pub put_geometry-requires : goal.put_geometry-requires
unfolding view_length
put_geometry-requires c =
    let long = shown_length (sections_of c.geometry.inside.limited.reader.now) c.geometry.inside.view c.geometry.view_is c.geometry.invariant.buffer in
    omega (arith, c.requires, long)

pub write_buffer-next-requires : goal.write_buffer-next-requires
unfolding view_length
write_buffer-next-requires c =
    let long = shown_length (sections_of c.geometry.inside.limited.reader.now) c.geometry.inside.view c.geometry.view_is c.geometry.invariant.buffer in
    (c.geometry.invariant.buffer, omega (arith, c.requires, long))

-- the indices' record, as the view's
module _ (s : Sections) (v : GeometryView) {g : Geometry} {i : Option Indices} (is : geometry_shown s v ≡ g) (e : i ≡ g.indices) where
  last : optional indices_record i ≡ index_record s v.indices
  last = ap (λ (o : Option Indices). optional indices_record o) (e ∙ sym (shown-indices s v is)) ∙ sym (index_record_lem s v.indices)

pub write_indices-requires : goal.write_indices-requires
unfolding view_length
write_indices-requires c =
    let s = (sections_of c.geometry.inside.limited.reader.now) in
    let view = c.geometry.inside.view in
    let long = shown_length s view c.geometry.view_is c.geometry.invariant.buffer in
    let one = ap length (last s view c.geometry.view_is c.indices.ensures) ∙ index_record-length s view.indices in
    omega (arith, one, c.write_buffer-next.ensures.0, c.requires, long)

pub returns : goal.returns
unfolding view_length
returns c =
    let a = c.args in
    let s = (sections_of c.geometry.inside.limited.reader.now) in
    let view = c.geometry.inside.view in
    let held = c.geometry.invariant.buffer in
    let long = shown_length s view c.geometry.view_is held in
    let same = last s view c.geometry.view_is c.indices.ensures in
    let one = ap length same ∙ index_record-length s view.indices in
    let indices = c.write_indices.ensures in
    let put = indices.1 ∙ ap (λ (x : List ℕ). overwrite c.write_buffer-next.new.out c.write_buffer-next.result x) same in
    let buffer = c.write_buffer-next.ensures in
    let written = view_written s view a.out.now a.at held c.put_geometry.ensures buffer.1 buffer.0 put (omega (arith, c.requires, long)) in
    (omega (arith, indices.0, buffer.0, long, one), written ∙ ap (overwrite a.out.now a.at) (shown_records s view c.geometry.view_is))
