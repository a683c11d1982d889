-- The length of the view of the bytes that were found, which is that of the records.
use Rattle.std.proofs.Common.{rules, ap, ◌∙◌, ◌≡◌, length}
use Rattle.sections.specs.Address.{sections_of}
use Rattle.halls.specs.Blocks.{geometry_block}
use Rattle.halls.specs.List.{write_geometry}
use Rattle.halls.specs.Reading.{geometry_of}
use Rattle.halls.specs.Inner.Measure.{length_at}
use Rattle.halls.specs.Inner.View.{view_length}
use Rattle.halls.proofs.read.ViewLaws.{view_length_lem}
use Rattle.halls.proofs.read.measure.length_at.Goals as goal

pub returns-in_err-raw-clause-value : goal.returns-in_err-raw-clause-value
unfolding length_at
returns-in_err-raw-clause-value c = rw (← c.resolve.ensures) (search rules)

pub returns-clause-value : goal.returns-clause-value
unfolding length_at
returns-clause-value c =
    let e : c.view_length.result ≡ length (write_geometry (geometry_of (sections_of c.args.reader.now) c.args.shader (geometry_block c.in_ok-raw.raw.now))) = c.view_length.ensures.0 ∙ ap view_length c.geometry_view.ensures ∙ view_length_lem _ _ _ in
    rw (← c.resolve.ensures, e) (search rules)
