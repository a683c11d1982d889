-- The nearest place is of the model, the geometry is sought from there, and the vertices' record says where the indices begin.
use mathlib.Core.Path.{refl, ◌∙◌}
use native.Mathlib.Omega.{arith}
use Rattle.halls.specs.Parsing.{models_in}
use Rattle.halls.specs.Records.{records}
use Rattle.halls.proofs.PlaceLaws.{ModelHere, GeometryOf, geometry_found_lem}
use Rattle.halls.proofs.NearLaws.{model-near, without-model, geometry-absent, geometry-stands}
use Rattle.halls.proofs.check.find.geometry_at.Goals as goal
use Rattle.halls.proofs.check.find.geometry_at.Goals.{In_ok-geometry}

model : (c : In_ok-geometry) → let a = c.args in ModelHere a.list.now (models_in (records a.list.now)) a.sought.model a.nearest.model
model c = model-near _ _ c.requires.0 c.requires.1 c.in_ok-model.ensures.0

geometry : (c : In_ok-geometry) → GeometryOf (model c) c.args.sought.index c.in_ok-geometry.geometry
geometry c = geometry-stands c.requires.1 c.in_ok-model.ensures.0 (model c) refl c.seek.ensures c.in_ok-geometry.was

pub returns-in_err-model : goal.returns-in_err-model
returns-in_err-model c = c.from_residual.ensures ∙ without-model _ _ c.requires.0 c.requires.1 c.in_err-model.ensures

pub returns-in_err-geometry : goal.returns-in_err-geometry
returns-in_err-geometry c =
    let here = model-near _ _ c.requires.0 c.requires.1 c.in_ok-model.ensures.0 in
    c.from_residual-in_err-geometry.ensures ∙ geometry-absent c.requires.1 c.in_ok-model.ensures.0 here refl c.seek.ensures c.in_err-geometry.was

pub overflow_add-vertices : goal.overflow_add-vertices
overflow_add-vertices c = omega (arith, (geometry (goal.at.overflow_add-vertices c).In_ok-geometry).low)

pub overflow_add-indices : goal.overflow_add-indices
overflow_add-indices c = omega (arith, (geometry (goal.at.overflow_add-indices c).In_ok-geometry).low)

pub overflow_add-indices-2 : goal.overflow_add-indices-2
overflow_add-indices-2 c =
    let here = geometry (goal.at.overflow_add-indices-2 c).In_ok-geometry in
    omega (arith, c.u32_le.ensures, here.length-is, here.low)

pub overflow_add-result : goal.overflow_add-result
overflow_add-result c = omega (arith, (geometry (goal.at.overflow_add-result c).In_ok-geometry).low)

pub returns : goal.returns
returns c =
    let k = (goal.at.returns c).In_ok-geometry in
    rw c.in_ok-model.ensures.1 (geometry_found_lem (model k) c.args.sought.index (geometry k) c.u32_le.ensures)
