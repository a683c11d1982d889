-- A check of the hall refuses, or 21. Otherwise the model's record gets 2 bytes shorter, and the bytes of the geometry and of its entry go: what is left is the hall without it.
use borrow.Author.Rules.{rules}
use mathlib.Core.Path.{◌≡◌, refl}
use Prim.Native.Nat.{ℕ}
use native.Mathlib.Omega.{arith}
use Rattle.std.specs.Prelude.{Err}
use Rattle.sections.specs.Le.{field}
use Rattle.halls.specs.Calls.{proposed}
use Rattle.halls.proofs.check.PlacedLaws.{placed, placed-old, stays_unplaced}
use Rattle.halls.proofs.edit.RemovedGeometry.{GeometryThere, GeometryThere_lem, Spot, spot, geometry-cut}
use Rattle.halls.proofs.edit.StepLaws.{hall_in, Old, answered}
use Rattle.halls.proofs.edit.remove.remove_geometry.Goals as goal
use Rattle.halls.proofs.edit.remove.remove_geometry.Goals.{In_ok-found}

sound : (c : In_ok-found) → Old c.args.hall.now c.args.n
sound c = placed-old _ _ _ _ (λ i. search rules) c.find_placed.ensures c.in_ok-found.was

there : (c : In_ok-found) → let a = c.args in GeometryThere (hall_in a.hall.now a.n) a.removed.model a.removed.index c.in_ok-found.found.places
there c = GeometryThere_lem _ _ _ _ (placed _ _ _ _ (λ i. search rules) c.find_placed.ensures c.in_ok-found.was).there

-- by the length of the indices' record
facts : (k : In_ok-found) {n : ℕ} → let a = k.args in n ≡ field 4 a.hall.now k.in_ok-found.found.places.indices → Spot a.hall.now a.n (sound k) a.removed.model a.removed.index k.in_ok-found.found.places (there k) n
facts k e = spot _ _ (sound k) _ _ _ (there k) _ e

pub returns-in_err-found : goal.returns-in_err-found
unfolding proposed
returns-in_err-found c =
    let answer : c.from_residual.result ≡ Err c.in_err-found.field-0.0 = search rules in
    answered answer (stays_unplaced _ _ _ _ (λ i. search rules) _ _ refl c.find_placed.ensures c.in_err-found.was)

pub overflow_add-entry : goal.overflow_add-entry
overflow_add-entry c =
    let k = (goal.at.overflow_add-entry c).In_ok-found in
    let f = facts k refl in omega (arith, f.entry-low, f.Indices-low, f.end_is, f.end_low)

pub overflow_mul-entry : goal.overflow_mul-entry
overflow_mul-entry c =
    let k = (goal.at.overflow_mul-entry c).In_ok-found in
    let f = facts k refl in omega (arith, f.entry-low, f.end_is, f.end_low)

pub overflow_add-entry-2 : goal.overflow_add-entry-2
overflow_add-entry-2 c =
    let k = (goal.at.overflow_add-entry-2 c).In_ok-found in
    let f = facts k refl in omega (arith, f.entry-low, f.end_is, f.end_low)

pub overflow_add-end : goal.overflow_add-end
overflow_add-end c =
    let k = (goal.at.overflow_add-end c).In_ok-found in
    let f = facts k refl in omega (arith, f.Indices-low)

pub overflow_add-end-2 : goal.overflow_add-end-2
overflow_add-end-2 c =
    let k = (goal.at.overflow_add-end-2 c).In_ok-found in
    let f = facts k refl in omega (arith, c.u32_le.ensures, f.end_low)

pub overflow_sub-length : goal.overflow_sub-length
overflow_sub-length c =
    let k = (goal.at.overflow_sub-length c).In_ok-found in
    let f = facts k refl in omega (arith, c.u32_le-length.ensures, f.some-entry)

pub overflow_add-entry-3 : goal.overflow_add-entry-3
overflow_add-entry-3 c =
    let k = (goal.at.overflow_add-entry-3 c).In_ok-found in
    let f = facts k c.u32_le.ensures in omega (arith, f.entry-low, f.end_is, f.end_low)

pub overflow_add-entry-4 : goal.overflow_add-entry-4
overflow_add-entry-4 c =
    let k = (goal.at.overflow_add-entry-4 c).In_ok-found in
    let f = facts k c.u32_le.ensures in omega (arith, f.entry-low, f.end_is, f.end_low)

pub overflow_sub-at : goal.overflow_sub-at
overflow_sub-at c =
    let k = (goal.at.overflow_sub-at c).In_ok-found in
    let f = facts k c.u32_le.ensures in omega (arith, f.entry-low)

pub overflow_sub-at-2 : goal.overflow_sub-at-2
overflow_sub-at-2 c =
    let k = (goal.at.overflow_sub-at-2 c).In_ok-found in
    let f = facts k c.u32_le.ensures in omega (arith, f.entry-low)

pub close_gap-requires : goal.close_gap-requires
close_gap-requires c =
    let k = (goal.at.close_gap-requires c).In_ok-found in
    let f = facts k c.u32_le.ensures in
    (omega (arith, f.end_is), f.end_low, omega (arith, (sound k).within))

pub overflow_sub-result : goal.overflow_sub-result
overflow_sub-result c =
    let k = (goal.at.overflow_sub-result c).In_ok-found in
    let f = facts k c.u32_le.ensures in omega (arith, f.end_is)

pub overflow_sub-result-2 : goal.overflow_sub-result-2
overflow_sub-result-2 c =
    let k = (goal.at.overflow_sub-result-2 c).In_ok-found in
    let f = facts k c.u32_le.ensures in omega (arith, f.end_low)

pub overflow_sub-result-3 : goal.overflow_sub-result-3
overflow_sub-result-3 c =
    let k = (goal.at.overflow_sub-result-3 c).In_ok-found in
    let f = facts k c.u32_le.ensures in omega (arith, f.entry-low, f.end_is, f.end_low)

pub returns : goal.returns
returns c =
    let k = (goal.at.returns c).In_ok-found in
    geometry-cut _ _ (sound k) _ _ _ (there k) _ c.u32_le.ensures _ c.u32_le-length.ensures c.put_u32_le.ensures c.copy_within.ensures c.close_gap.ensures
