-- What stands at the front decides the turn.
use mathlib.Core.Path.{sym, ap, ◌∙◌}
use Rattle.std.specs.Prelude.{Some}
use Rattle.halls.specs.Inner.Walk.{front_of}
use Rattle.halls.proofs.check.WalkLaws.{ModelFits_lem, GeometryFits_lem, broken_stops, slice-rest}
use Rattle.halls.proofs.check.pass.next_turn.Goals as goal

pub returns-in_err-entries : goal.returns-in_err-entries
returns-in_err-entries c =
    let broken = sym c.in_err-entries.was ∙ c.front_of.ensures ∙ ap front_of (slice-rest c.args.list.now c.args.t.at) in
    rw c.from_residual.ensures (broken_stops _ _ c.requires.0 c.requires.1 broken)

pub pass_model-requires : goal.pass_model-requires
pass_model-requires c =
    let model = ap Some (sym c.in-Model.is) ∙ sym c.in_ok-entries.was ∙ c.front_of.ensures ∙ ap front_of (slice-rest c.args.list.now c.args.t.at) in
    (c.requires.0, model, ModelFits_lem _ _ c.requires.0 _ model)

pub pass_geometry-requires : goal.pass_geometry-requires
pass_geometry-requires c =
    let geometry = ap Some (sym c.in-Geometry.is) ∙ sym c.in_ok-entries.was ∙ c.front_of.ensures ∙ ap front_of (slice-rest c.args.list.now c.args.t.at) in
    (c.requires.0, geometry, GeometryFits_lem _ _ c.requires.0 _ _ geometry)
