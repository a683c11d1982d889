-- A number that no kind has is neither a geometry's nor that of indices.
use mathlib.Core.Path.{sym}
use Rattle.halls.specs.declared.format.kind.RecordKind.TheVariants.{Geometry, Indices}
use Rattle.halls.proofs.format.TriangleLaws.{awaits-other}
use Rattle.halls.proofs.format.triangles.awaits_indices.Goals as goal

pub returns-in_default-2 : goal.returns-in_default-2
returns-in_default-2 c =
    let none = rw c.in_default.is at c.of.ensures in
    sym (awaits-other _ _ _ (λ e. none Geometry (sym e)) (λ e. none Indices (sym e)))
