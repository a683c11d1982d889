-- The first check that fails is the lowest.
use mathlib.Core.Path.{refl, sym, ◌∙◌}
use mathlib.Core.Bool.{true, false}
use Rattle.std.proofs.Common.{rules, tests}
use borrow.Author.Tests.{eq-eqb, ne_eqb, le-leb}
use Rattle.halls.specs.Calls.{given_in}
use Rattle.halls.proofs.edit.AddedGeometry.{given_is}
use Rattle.halls.proofs.edit.add_geometry.given_lowest.Goals as goal

pub returns-then-content-from : goal.returns-then-content-from
returns-then-content-from c =
    let a = c.args.given in
    sym (given_is (given_in a) (ne_eqb _ _ (rw (c.from.ensures, c.from-2.ensures) at c.if-content-from.true)) refl refl refl)

pub returns-then-declaration-stride : goal.returns-then-declaration-stride
returns-then-declaration-stride c =
    let a = c.args.given in
    sym (given_is (given_in a) (eq-eqb _ _ (rw (c.from.ensures, c.from-2.ensures) at c.if-content-from.false)) (ne_eqb _ _ c.if-declaration-stride.true) refl refl)

pub returns-then-not-components_inside : goal.returns-then-not-components_inside
returns-then-not-components_inside c =
    let a = c.args.given in
    sym (given_is (given_in a) (eq-eqb _ _ (rw (c.from.ensures, c.from-2.ensures) at c.if-content-from.false)) (eq-eqb _ _ c.if-declaration-stride.false) (sym c.components_inside.ensures ∙ c.if-not-components_inside.true) refl)

pub returns-then-count-lt1 : goal.returns-then-count-lt1
returns-then-count-lt1 c =
    let a = c.args.given in
    sym (given_is (given_in a) {d = false} (eq-eqb _ _ (rw (c.from.ensures, c.from-2.ensures) at c.if-content-from.false)) (eq-eqb _ _ c.if-declaration-stride.false) (sym c.components_inside.ensures ∙ c.if-not-components_inside.false) (search (rules, tests)))

pub returns : goal.returns
returns c =
    let a = c.args.given in
    c.lent_indices_lowest.ensures
    ∙ sym (given_is (given_in a) {d = true} (eq-eqb _ _ (rw (c.from.ensures, c.from-2.ensures) at c.if-content-from.false)) (eq-eqb _ _ c.if-declaration-stride.false) (sym c.components_inside.ensures ∙ c.if-not-components_inside.false) (rw (le-leb 1 a.count c.if-count-lt1.false, le-leb a.count 65535 c.if-count-gt-MOST_VERTICES.false)))
