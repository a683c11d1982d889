-- A check of the hall refuses, or 21; then the first check that the new indices fail refuses, then a buffer that is too short; else the bytes are those of the hall with them.
use Rattle.std.specs.Prelude.{Err}
use mathlib.Core.Path.{◌≡◌, refl, ap, ◌∙◌}
use borrow.Author.Rules.{rules}
use Prim.Native.Nat.{ℕ, ◌+◌, ◌*◌}
use native.Mathlib.Omega.{arith}
use Rattle.sections.specs.Le.{field}
use Rattle.halls.proofs.check.ToldLaws.{told-passed, told-fails}
use Rattle.halls.proofs.edit.NewIndices.{start-room, Record-room, few-units, replaced-fails, few_indices, replaced-long, replaced-done}
use Rattle.halls.specs.Calls.{proposed}
use Rattle.halls.specs.Inner.Walk.{Counted}
use Rattle.halls.proofs.check.PlacedLaws.{placed, placed-spot, stays_unplaced}
use Rattle.halls.proofs.check.SpotLaws.{Spot, Spot-inside, Spot-indices}
use Rattle.halls.proofs.edit.StepLaws.{hall_in, answered}
use Rattle.halls.proofs.edit.replace_indices.replace_indices.Goals as goal
use Rattle.halls.proofs.edit.replace_indices.replace_indices.Goals.{In_ok-found}

-- the geometry in the old hall, and what that comes to
here : (c : In_ok-found) → let a = c.args in Spot a.hall.now a.n a.replaced.model a.replaced.index c.in_ok-found.found.places.geometry
here c = placed-spot _ _ _ _ (λ i. search rules) c.find_placed.ensures c.in_ok-found.was

counted : (c : In_ok-found) → Counted (hall_in c.args.hall.now c.args.n) c.in_ok-found.found.summary
counted c = (placed _ _ _ _ (λ i. search rules) c.find_placed.ensures c.in_ok-found.was).counted

-- its indices begin behind as many vertices as it has
start : (k : In_ok-found) {count : ℕ} → let b = k.args.hall.now in let p = k.in_ok-found.found.places in count ≡ field 2 b (p.geometry + 16)
    → p.indices ≡ p.geometry + 55 + count * field 2 b (p.geometry + 18)
start k e = Spot-indices (here k) (placed _ _ _ _ (λ i. search rules) k.find_placed.ensures k.in_ok-found.was).there ∙ rw e refl

pub returns-in_err-found : goal.returns-in_err-found
unfolding proposed
returns-in_err-found c =
    let answer : c.from_residual.result ≡ Err c.in_err-found.field-0.0 = search rules in
    answered answer (stays_unplaced _ _ _ _ (λ i. search rules) _ _ refl c.find_placed.ensures c.in_err-found.was)

pub overflow_add-at : goal.overflow_add-at
overflow_add-at c =
    let k = (goal.at.overflow_add-at c).In_ok-found in
    omega (arith, Spot-inside (here k))

pub overflow_add-start : goal.overflow_add-start
overflow_add-start c =
    let k = (goal.at.overflow_add-start c).In_ok-found in
    omega (arith, start k (c.from-count.ensures ∙ c.u16_le.ensures), start-room (here k) c.args.indices.now (c.from-count.ensures ∙ c.u16_le.ensures) refl)

pub indices_lowest-requires : goal.indices_lowest-requires
indices_lowest-requires c =
    let k = (goal.at.indices_lowest-requires c).In_ok-found in
    few-units (here k) c.args.indices.now (c.from-count.ensures ∙ c.u16_le.ensures) refl (rw (start k (c.from-count.ensures ∙ c.u16_le.ensures)) at c.u32_le-held.ensures) _ (counted k)

pub returns-in_err-verdict_of : goal.returns-in_err-verdict_of
returns-in_err-verdict_of c =
    let k = (goal.at.returns-in_err-verdict_of c).In_ok-found in
    let told = told-fails c.verdict_of.ensures c.in_err-verdict_of.was in
    let answer : c.from_residual-in_err-verdict_of.result ≡ Err c.in_err-verdict_of.field-0.0 = search rules in
    answered (answer ∙ ap Err told.1)
    (replaced-fails (here k) _ (c.from-count.ensures ∙ c.u16_le.ensures) refl (rw (start k (c.from-count.ensures ∙ c.u16_le.ensures)) at c.u32_le-held.ensures) _ (counted k) c.indices_lowest.result c.indices_lowest.ensures told.0)

pub overflow_sub-needed : goal.overflow_sub-needed
overflow_sub-needed c =
    let k = (goal.at.overflow_sub-needed c).In_ok-found in
    omega (arith, Record-room (here k) c.args.indices.now (c.from-count.ensures ∙ c.u16_le.ensures) refl (rw (start k (c.from-count.ensures ∙ c.u16_le.ensures)) at c.u32_le-held.ensures))

pub overflow_add-needed : goal.overflow_add-needed
overflow_add-needed c =
    let k = (goal.at.overflow_add-needed c).In_ok-found in
    omega (arith, (here k).old.within, few_indices (here k) _ (c.from-count.ensures ∙ c.u16_le.ensures) refl (rw (start k (c.from-count.ensures ∙ c.u16_le.ensures)) at c.u32_le-held.ensures) _ (counted k) c.indices_lowest.result c.indices_lowest.ensures (told-passed c.verdict_of.ensures c.in_ok-verdict_of.was))

pub returns-in_err-room : goal.returns-in_err-room
returns-in_err-room c =
    let k = (goal.at.returns-in_err-room c).In_ok-found in
    let answer : c.from_residual-in_err-room.result ≡ Err c.in_err-room.field-0.0 = search rules in
    answered (answer ∙ ap Err c.in_err-room.ensures.1)
    (replaced-long (here k) _ (c.from-count.ensures ∙ c.u16_le.ensures) refl (rw (start k (c.from-count.ensures ∙ c.u16_le.ensures)) at c.u32_le-held.ensures) _ (counted k) c.indices_lowest.result c.indices_lowest.ensures (told-passed c.verdict_of.ensures c.in_ok-verdict_of.was) c.in_err-room.ensures.0)

pub rewrite-requires : goal.rewrite-requires
rewrite-requires c =
    let k = (goal.at.rewrite-requires c).In_ok-found in
    let inside = Record-room (here k) c.args.indices.now (c.from-count.ensures ∙ c.u16_le.ensures) refl (rw (start k (c.from-count.ensures ∙ c.u16_le.ensures)) at c.u32_le-held.ensures) in
    let few = few_indices (here k) _ (c.from-count.ensures ∙ c.u16_le.ensures) refl (rw (start k (c.from-count.ensures ∙ c.u16_le.ensures)) at c.u32_le-held.ensures) _ (counted k) c.indices_lowest.result c.indices_lowest.ensures (told-passed c.verdict_of.ensures c.in_ok-verdict_of.was) in
    let begin = start k (c.from-count.ensures ∙ c.u16_le.ensures) in
    record { inside = (omega (arith, begin), omega (arith, begin, inside), (here k).old.within); room = c.in_ok-room.ensures; few = omega (arith, few) }

pub returns : goal.returns
returns c =
    let k = (goal.at.returns c).In_ok-found in
    replaced-done (here k) _ (c.from-count.ensures ∙ c.u16_le.ensures) refl (rw (start k (c.from-count.ensures ∙ c.u16_le.ensures)) at c.u32_le-held.ensures) _ (counted k) c.indices_lowest.result c.indices_lowest.ensures (told-passed c.verdict_of.ensures c.in_ok-verdict_of.was)
    c.in_ok-room.ensures (rw (start k (c.from-count.ensures ∙ c.u16_le.ensures)) at c.rewrite.ensures)
