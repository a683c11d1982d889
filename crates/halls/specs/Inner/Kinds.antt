-- The numbers that the kinds of records have in a list.
use Rattle.std.specs.Prelude.{ℕ}
use Rattle.halls.specs.declared.format.kind.RecordKind.{RecordKind}
use Rattle.halls.specs.declared.format.kind.RecordKind.TheVariants.{Model, Geometry, Declaration, Vertices, Indices}

abbrev pub kind_number : RecordKind → ℕ
kind_number Model = 1
kind_number Geometry = 2
kind_number Declaration = 3
kind_number Vertices = 4
kind_number Indices = 5
