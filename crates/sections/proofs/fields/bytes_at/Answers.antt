-- The first bytes of what is behind the place.
use Rattle.std.proofs.Common.{◌∙◌}
use Rattle.sections.proofs.EditLaws.{chunk-found}
use Rattle.sections.proofs.fields.bytes_at.Goals as goal

pub returns : goal.returns
returns g c =
    let found = c.in_ok-get.ensures.lookup.0 in
    c.copied.ensures ∙ chunk-found c.args.b.now c.args.off g.row.N c.in_ok-get.field-0.now _ found.0 found.2 c.first_chunk.ensures.cases
