-- The entry is the first of those left, where there is one.
use Rattle.std.proofs.Common.{sym, ap, arith, ◌∙◌, ◌≡◌, ℕ, eqb, length, ◌/◌}
use borrow.Author.Tests.{lt-leb}
use Rattle.halls.specs.Inner.Order.{failing}
use Rattle.halls.specs.Inner.Walk.{entries_in, leads}
use Rattle.halls.proofs.check.WalkLaws.{leads-none, leads-first}
use Rattle.halls.proofs.check.pass.answered.Goals as goal
use Rattle.halls.proofs.check.pass.answered.Goals.{then-left-ge2, else-left-ge2}

pub returns : goal.returns
returns c =
    let b = c.args.left.now in
    let asked : c.if-left-ge2.failing ≡ leads c.args.shader (entries_in b) =
    elim c.if-left-ge2.branch [
      | then-left-ge2 w ↦ w.failing-is ∙ ap (λ (n : ℕ). eqb n c.args.shader) w.u16_le.ensures ∙ sym (leads-first (length b / 2) b 0 c.args.shader (λ e. omega (arith, e, w.if-left-ge2.true)) (omega arith))
      | else-left-ge2 w ↦ w.failing-is ∙ rw (lt-leb 2 (length b) w.if-left-ge2.false) (sym (leads-none b 0 c.args.shader (omega (arith, w.if-left-ge2.false))))
    ] in
    c.failing.ensures ∙ ap (failing 12) asked
