-- Check 9, then check 10, then all vertices are written.
use mathlib.Core.Path.{sym, ◌∙◌}
use Rattle.vertices.proofs.UnifiedChecks.{Vertices-true}
use Rattle.vertices.proofs.UnifiedLaws.{plan_readable, planned-run, Unified-written, room_told}
use Rattle.vertices.proofs.unify.unified_vertices.Goals as goal

pub unify_all-requires : goal.unify_all-requires
unify_all-requires c =
    let inside = sym c.all_inside.ensures ∙ c.if-not-all_inside.false in
    let room = room_told _ _ (sym c.fitting.ensures ∙ c.in_ok-size.was) in
    (room.0, λ i h. rw c.plan_of.ensures (plan_readable _ _ _ (Vertices-true _ _ _ _ inside i h)))

pub returns : goal.returns
returns c =
    let inside = sym c.all_inside.ensures ∙ c.if-not-all_inside.false in
    let room = room_told _ _ (sym c.fitting.ensures ∙ c.in_ok-size.was) in
    let written = rw c.plan_of.ensures at c.unify_all.ensures in
    rw room.1 (Unified-written inside room.0 (rw (planned-run c.args.vertices.declaration c.args.vertices.«data».now c.args.vertices.stride c.args.vertices.count) at written))
