-- The view's indices, and the bytes at their place.
use Rattle.std.proofs.Common.{rules, None, Some, sym, ap, ◌∙◌, ◌≡◌}
use Rattle.sections.specs.Address.{sections_of}
use Rattle.halls.specs.Inner.Taking.{indices_shown}
use Rattle.halls.specs.Inner.View.{indices_in}
use Rattle.halls.proofs.edit.ShownLaws.{shown-indices}
use Rattle.halls.proofs.read.stored.HeldGeometry.indices.Goals as goal

pub returns-in_err-view : goal.returns-in_err-view
returns-in_err-view c =
    let none : c.from_residual.result ≡ None = search rules in
    none ∙ ap (indices_shown (sections_of c.self.inside.limited.reader.now)) (sym c.in_err-view.was) ∙ shown-indices _ c.self.inside.view c.self.view_is

pub returns : goal.returns
returns c =
    ap Some (ap (indices_in c.in_ok-view.view) c.indices_at-bytes.ensures) ∙ ap (indices_shown (sections_of c.self.inside.limited.reader.now)) (sym c.in_ok-view.was) ∙ shown-indices _ c.self.inside.view c.self.view_is
