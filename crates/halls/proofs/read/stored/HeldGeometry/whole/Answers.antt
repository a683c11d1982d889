-- The parts of the view, where both are there.
use Rattle.std.proofs.Common.{rules, None, Some, arith, sym, ap, subst, ◌∙◌, ◌≡◌, List, ℕ, length}
use Rattle.sections.specs.Address.{sections_of}
use Rattle.halls.specs.Reading.{vertices_of}
use Rattle.halls.specs.Inner.Taking.{as_halls, full_shown}
use Rattle.halls.specs.Inner.View.{BufferHeld}
use Rattle.halls.proofs.edit.ShownLaws.{lacks_vertices, shown-full, shown-indices}
use Rattle.halls.proofs.read.stored.HeldGeometry.whole.Goals as goal

pub returns-in_err-buffer : goal.returns-in_err-buffer
returns-in_err-buffer c =
    let none : c.from_residual.result ≡ None = search rules in
    none ∙ sym (lacks_vertices _ _ c.in_err-buffer.was) ∙ ap as_halls c.self.view_is

pub invariant_of-result : goal.invariant_of-result
unfolding vertices_of
invariant_of-result c =
    let held = subst (BufferHeld (sections_of c.self.inside.limited.reader.now)) c.in_ok-buffer.was c.self.invariant.buffer in
    omega (arith, held.1, ap length c.vertices_at-content.ensures)

pub returns : goal.returns
returns c =
    let s = (sections_of c.self.inside.limited.reader.now) in
    let view = c.self.inside.view in
    let shown = shown-full s view _ _ c.in_ok-buffer.was (shown-indices s view c.self.view_is ∙ sym c.indices.ensures ∙ c.in_ok-indices.was) in
    ap (λ (content : List ℕ). Some (full_shown view.numbers c.in_ok-buffer.buffer content c.in_ok-indices.indices)) c.vertices_at-content.ensures ∙ sym shown ∙ ap as_halls c.self.view_is
