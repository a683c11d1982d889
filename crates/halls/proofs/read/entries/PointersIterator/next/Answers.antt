-- The first pointer stands in the first eight bytes, where there are so many.
use Rattle.std.proofs.Common.{rules, arith, ◌≡◌, ◌∙◌, ap, sym, List, [], ◌∷◌, ℕ, ◌≤◌, length, drop}
use lib.Seq.{take_all, length-take-le}
use Rattle.sections.specs.Edit.{part}
use Rattle.sections.specs.Le.{le}
use Rattle.sections.proofs.LeLaws.{field_in}
use Rattle.halls.specs.Inner.Measure.{whole_numbers}
use Rattle.halls.proofs.read.EntryLaws.{pointers_none, pointers_next}
use Rattle.halls.proofs.read.entries.PointersIterator.next.Goals as goal

pub returns-in_err-first-clause-steps : goal.returns-in_err-first-clause-steps
returns-in_err-first-clause-steps c =
    let none : c.args.self.now ≡ [] = sym c.self.view_is ∙ pointers_none c.self.inside.left.now (omega (arith, c.in_err-first.ensures.cases)) in
    search (rules, none, c.from_residual.ensures)

pub returns-clause-steps : goal.returns-clause-steps
unfolding part
returns-clause-steps c =
    let s = c.self.inside.left.now in
    let first = c.in_ok-first.first.now in
    let split = c.in_ok-first.ensures.cases in
    let long : 8 ≤ length s = omega (arith, split.2) in
    let eight : length first ≡ 8 = ap length split.0 ∙ length-take-le 8 s long in
    let value = c.u64_le.ensures ∙ field_in 8 first 0 (omega (arith, eight)) ∙ ap le (take_all 8 first (omega (arith, eight)) ∙ split.0) ∙ sym (field_in 8 s 0 long) in
    sym c.self.view_is ∙ pointers_next s long ∙ ap (λ (x : ℕ). x ∷ whole_numbers 8 (drop 8 s)) (sym value) ∙ ap (λ (l : List ℕ). c.u64_le.result ∷ whole_numbers 8 l) (sym split.1)

pub returns-clause-goes : goal.returns-clause-goes
returns-clause-goes c =
    let steps = returns-clause-steps c in
    grind (arith, steps)
