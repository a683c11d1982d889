-- The tail moves to where it will stand, the new record is put before it, then the two counts.
use mathlib.Core.Path.{refl}
use Rattle.halls.proofs.edit.IndicesWritten.{all-written}
use Rattle.halls.proofs.edit.replace_indices.rewrite.Goals as goal

pub returns : goal.returns
returns c =
    let p = c.requires in
    all-written _ _ _ _ _ _ p.inside.0 p.inside.1 p.inside.2 p.room refl refl c.move_tail.ensures
    c.put_indices.ensures c.put_u32_le.ensures c.put_u32_le-2.ensures
