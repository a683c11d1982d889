-- A check of the hall refuses, or 21; so do a vertex that is not there, by 21, a semantic that is not declared or a component of size 0, by 22, and a value of
-- another shape, by 23. Else the value's bytes go over the component's, which are inside the vertex bytes.
use Rattle.std.specs.Prelude.{Some, Err}
use borrow.Author.Rules.{rules}
use mathlib.Core.Path.{◌≡◌, refl, sym, ap, ◌∙◌}
use Prim.Native.Nat.{ℕ, ◌+◌, ◌*◌, ◌≤◌, ◌<◌}
use native.Mathlib.Omega.{arith}
use Rattle.sections.specs.Le.{field}
use Rattle.vertices.specs.Declaration.{component_of, declaration_at}
use Rattle.vertices.specs.declared.declaration.VertexDeclaration.{VertexDeclaration}
use Rattle.halls.specs.Calls.{proposed}
use Rattle.halls.proofs.check.PlacedLaws.{placed, placed-spot, stays_unplaced}
use Rattle.halls.proofs.check.SpotLaws.{Spot, Spot-inside, Spot-records}
use Rattle.halls.proofs.check.ToldLaws.{or-refused}
use Rattle.halls.proofs.edit.AttributeSet.{set-no_vertex, set-missing, set-no-size, set-no_shape, set_room, set-done}
use Rattle.halls.proofs.edit.StepLaws.{answered}
use Rattle.halls.proofs.edit.set_attribute.set_attribute.Goals as goal
use Rattle.halls.proofs.edit.set_attribute.set_attribute.Goals.{In_ok-found, In_ok-component}

-- the geometry in the old hall
here : (c : In_ok-found) → let a = c.args in Spot a.hall.now a.n a.change.geometry.model a.change.geometry.index c.in_ok-found.found.places.geometry
here c = placed-spot _ _ _ _ (λ i. search rules) c.find_placed.ensures c.in_ok-found.was

-- where its declaration and its vertex bytes begin
records : (c : In_ok-found) → let p = c.in_ok-found.found.places in (p.declaration + 6 ≡ p.geometry + 26) × (p.vertices + 13 ≡ p.geometry + 55)
records c = Spot-records (here c) (placed _ _ _ _ (λ i. search rules) c.find_placed.ensures c.in_ok-found.was).there

pub returns-in_err-found : goal.returns-in_err-found
unfolding proposed
returns-in_err-found c =
    let answer : c.from_residual.result ≡ Err c.in_err-found.field-0.0 = search rules in
    answered answer (stays_unplaced _ _ _ _ (λ i. search rules) _ _ refl c.find_placed.ensures c.in_err-found.was)

pub overflow_add-at : goal.overflow_add-at
overflow_add-at c =
    let k = (goal.at.overflow_add-at c).In_ok-found in
    omega (arith, Spot-inside (here k))

pub returns-then-from-change : goal.returns-then-from-change
returns-then-from-change c =
    let k = (goal.at.returns-then-from-change c).In_ok-found in
    answered (ap Err c.by.ensures) (set-no_vertex _ _ _ _ _ _ _ (here k) (c.from.ensures ∙ c.u16_le.ensures) c.if-from-change.true)

pub overflow_add-at-2 : goal.overflow_add-at-2
overflow_add-at-2 c =
    let k = (goal.at.overflow_add-at-2 c).In_ok-found in
    omega (arith, Spot-inside (here k))

pub returns-in_err-component : goal.returns-in_err-component
returns-in_err-component c =
    let k = (goal.at.returns-in_err-component c).In_ok-found in
    let a = c.args in
    let looked : c.component.result ≡ component_of (declaration_at a.hall.now (c.in_ok-found.found.places.geometry + 26)) a.change.semantic =
    c.component.ensures ∙ ap (λ (d : VertexDeclaration). component_of d a.change.semantic) (rw (records k).0 at c.read_declaration-declaration.ensures) in
    let answer : c.from_residual-in_err-component.result ≡ Err c.in_err-component.field-0.0 = search rules in
    let refusal = or-refused _ c.in_err-component.ensures.value in
    answered (answer ∙ ap Err (refusal.1 ∙ c.by-2.ensures))
    (set-missing _ _ _ _ _ _ a.change.value (here k) (omega (arith, c.from.ensures, c.u16_le.ensures, c.if-from-change.false)) (sym refusal.0 ∙ looked))

within : (c : In_ok-component) → let a = c.args in Spot a.hall.now a.n a.change.geometry.model a.change.geometry.index c.in_ok-found.found.places.geometry
within c = placed-spot _ _ _ _ (λ i. search rules) c.find_placed.ensures c.in_ok-found.was

-- the vertex is there, and so is the component that is looked for
below : (c : In_ok-component) → let a = c.args in a.change.vertex < field 2 a.hall.now (c.in_ok-found.found.places.geometry + 16)
below c = omega (arith, c.from.ensures, c.u16_le.ensures, c.if-from-change.false)

looked : (c : In_ok-component) → let a = c.args in
    component_of (declaration_at a.hall.now (c.in_ok-found.found.places.geometry + 26)) a.change.semantic ≡ Some c.in_ok-component.component
looked c =
    let a = c.args in
    let records = Spot-records (within c) (placed _ _ _ _ (λ i. search rules) c.find_placed.ensures c.in_ok-found.was).there in
    sym (c.component.ensures ∙ ap (λ (d : VertexDeclaration). component_of d a.change.semantic) (rw records.0 at c.read_declaration-declaration.ensures)) ∙ c.in_ok-component.ensures.ok_part

-- the component's bytes are inside the hall
room : (k : In_ok-component) {stride : ℕ} → let a = k.args in stride ≡ field 2 a.hall.now (k.in_ok-found.found.places.geometry + 18)
    → k.in_ok-found.found.places.geometry + 55 + a.change.vertex * stride + k.in_ok-component.component.offset + k.in_ok-component.component.size ≤ a.n
room k e = set_room _ _ _ _ _ _ k.args.change.value (within k) (below k) _ (looked k) e

pub returns-then-component-eq0 : goal.returns-then-component-eq0
returns-then-component-eq0 c =
    let k = (goal.at.returns-then-component-eq0 c).In_ok-component in
    answered (ap Err c.by-then-component-eq0.ensures) (set-no-size _ _ _ _ _ _ _ (within k) (below k) _ (looked k) c.if-component-eq0.true)

pub returns-then-not-has_shape : goal.returns-then-not-has_shape
returns-then-not-has_shape c =
    let k = (goal.at.returns-then-not-has_shape c).In_ok-component in
    answered (ap Err c.by-then-not-has_shape.ensures) (set-no_shape _ _ _ _ _ _ _ (within k) (below k) _ (looked k) c.if-component-eq0.false c.has_shape.ensures c.if-not-has_shape.true)

pub overflow_add-found : goal.overflow_add-found
overflow_add-found c =
    let k = (goal.at.overflow_add-found c).In_ok-found in
    omega (arith, (records k).0, Spot-inside (here k))

pub overflow_add-begin : goal.overflow_add-begin
overflow_add-begin c =
    let k = (goal.at.overflow_add-begin c).In_ok-found in
    omega (arith, (records k).1, Spot-inside (here k))

pub overflow_add-begin-2 : goal.overflow_add-begin-2
overflow_add-begin-2 c =
    let k = goal.at.overflow_add-begin-2 c in
    omega (arith, (records k.In_ok-found).1, room k.In_ok-component (c.from-stride.ensures ∙ c.u16_le-2.ensures))

pub overflow_add-place : goal.overflow_add-place
overflow_add-place c =
    let k = goal.at.overflow_add-place c in
    omega (arith, c.from-2.ensures, (records k.In_ok-found).1, room k.In_ok-component (c.from-stride.ensures ∙ c.u16_le-2.ensures))

pub returns : goal.returns
returns c =
    let k = (goal.at.returns c).In_ok-component in
    set-done _ _ _ _ _ _ _ (within k) (below k) _ (looked k) c.if-component-eq0.false (sym c.has_shape.ensures ∙ c.if-not-has_shape.false) (c.from-stride.ensures ∙ c.u16_le-2.ensures) (rw (c.from-2.ensures, (records (goal.at.returns c).In_ok-found).1) refl) c.encode_value.ensures
