-- A number that no kind has is neither a geometry's nor that of indices.
use mathlib.Core.Path.{sym}
use Rattle.halls.specs.declared.format.kind.RecordKind.TheVariants.{Geometry, Indices}
use Rattle.halls.proofs.format.TriangleLaws.{added-other}
use Rattle.halls.proofs.format.triangles.record_triangles.Goals as goal

pub returns-in_default-3 : goal.returns-in_default-3
returns-in_default-3 c =
    let none = rw c.in_default.is at c.of.ensures in
    sym (added-other _ _ _ (λ e. none Geometry (sym e)) (λ e. none Indices (sym e)))
