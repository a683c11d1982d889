-- The rank of its first failing check, its part of the image and its records, by the vertex bytes and indices that it shows.
use Rattle.std.proofs.Common.{rules, ◌≡◌, ◌∙◌, sym, ap}
use Rattle.sections.specs.Address.{sections_of}
use Rattle.halls.specs.Inner.Taking.{as_halls, geometry_taken, lowest_in}
use Rattle.halls.specs.List.{Geometry}
use Rattle.halls.proofs.edit.ShownLaws.{view-taken}
use Rattle.halls.proofs.edit.judge_read.judge_geometry.Goals as goal

pub returns : goal.returns
returns c =
    let none : c.default.result ≡ record { models = 0; geometries = 0; units = 0 } = search rules in
    rw none (
    view-taken (sections_of c.geometry.inside.limited.reader.now) c.geometry.inside.view c.geometry.invariant.buffer (c.held_lowest.ensures ∙ ap (λ (g : Geometry). lowest_in (as_halls g)) (sym c.geometry.view_is))
    c.content_seen.ensures.0 c.held_seen.ensures.0 c.units.ensures c.record_bytes.ensures
    ∙ ap geometry_taken c.geometry.view_is)
