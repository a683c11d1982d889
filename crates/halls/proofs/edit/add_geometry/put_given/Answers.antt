-- The four records are those of the given geometry.
use Rattle.halls.specs.Inner.View.{four_records}
use Rattle.halls.specs.List.{write_geometry, geometry_record}
use Rattle.halls.proofs.edit.add_geometry.put_given.Goals as goal

pub returns : goal.returns
unfolding four_records write_geometry geometry_record
returns c = c.put_full.ensures
