-- A model's record is tested first, then a geometry's four.
use mathlib.Core.Path.{sym, ◌∙◌}
use Rattle.halls.proofs.format.FrontLaws.{front_model_lem, front_geometry_lem, front-broken}
use Rattle.halls.proofs.format.front.front_of.Goals as goal

pub returns-then-has_record : goal.returns-then-has_record
returns-then-has_record c = front_model_lem _ c.entries_of-entries.ensures.0 (sym c.has_record.ensures ∙ c.if-has_record.true)

pub returns-then-has_geometry : goal.returns-then-has_geometry
returns-then-has_geometry c =
    front_geometry_lem _ c.entries_of-entries.ensures.0 (sym c.has_record.ensures ∙ c.if-has_record.false) c.shape_of-shape.ensures
    (sym c.has_geometry.ensures ∙ c.if-has_geometry.true)

pub returns : goal.returns
returns c =
    front-broken _ c.entries_of-entries.ensures.0 (sym c.has_record.ensures ∙ c.if-has_record.false)
    (sym c.has_geometry.ensures ∙ c.if-has_geometry.false)
