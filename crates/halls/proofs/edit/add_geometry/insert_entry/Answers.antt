-- The entry is put right before the bytes that moved.
use Rattle.halls.proofs.edit.AddedGeometry.{entry_inserted}
use Rattle.halls.proofs.edit.add_geometry.insert_entry.Goals as goal

pub returns : goal.returns
returns c =
    let p = c.requires in
    entry_inserted _ _ _ _ p.0 p.1 c.copy_within.ensures c.put_u16_le.ensures
