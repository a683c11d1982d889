-- Each record is put right behind the one before it.
use native.Mathlib.Omega.{arith}
use lib.ListN.{length}
use Rattle.halls.specs.Inner.View.{four_records, numbers_seen, vertices_in}
use Rattle.halls.specs.List.{geometry_record, declaration_record, vertices_record, indices_record}
use Rattle.halls.proofs.edit.AddedGeometry.{four-put}
use Rattle.halls.proofs.read.ViewLaws.{geometry_record-length, declaration_record-length, vertices_record-length, indices_record-length}
use Rattle.halls.proofs.format.record.put_full.Goals as goal

pub returns : goal.returns
unfolding four_records
returns g c =
    let a = c.args in
    let i = g.I.RecordIndices.indices a.indices.now in
    let n = numbers_seen a.numbers in
    let v = vertices_in a.vertices in
    four-put a.out.now a.at (length v.content) (geometry_record n) (declaration_record a.declaration) (vertices_record v) (indices_record i)
    (geometry_record-length n) (declaration_record-length a.declaration) (vertices_record-length v) (omega (arith, indices_record-length i, c.requires.room))
    c.put_geometry.ensures c.put_declaration.ensures c.put_vertices.ensures c.put_indices.ensures
