-- A geometry's four records are passed: `geometry-turned`.
use mathlib.Core.Path.{◌≡◌, ◌∙◌, ap}
use mathlib.Core.List.{List}
use Prim.Native.Nat.{ℕ, ◌+◌, ◌*◌}
use native.Mathlib.Omega.{arith}
use Rattle.halls.specs.Fronts.{front_geometry}
use Rattle.halls.specs.Inner.Judging.{lowest_of}
use Rattle.halls.proofs.check.WalkLaws.{GeometryFront_lem, geometry-turned, geometry-stops, slice-rest}
use Rattle.halls.proofs.check.pass.pass_geometry.Goals as goal

pub returns-then-t-eq0 : goal.returns-then-t-eq0
returns-then-t-eq0 c = geometry-stops _ _ c.requires.0 _ _ c.requires.1 c.if-t-eq0.true

pub geometry_lowest-found-requires : goal.geometry_lowest-found-requires
geometry_lowest-found-requires c = rw (slice-rest c.args.list.now c.args.t.at) (GeometryFront_lem _ _ _ c.requires.1)

pub returns : goal.returns
returns c =
    let s = c.args.list.now in
    let found = c.geometry_lowest-found.ensures in
    let lowest = c.min.ensures in
    let t = c.args.t in
    let beyond : t.at + c.record_bytes.result ≡ t.at + 65 + c.args.shape.content + 4 * c.args.shape.held = omega arith in
    rw beyond
    (geometry-turned _ _ c.requires.0 _ _ c.requires.1 _ _ _ _ _ _ _ c.if-t-eq0.false c.u16_le-shader.ensures c.answered-answer.ensures
    (found ∙ ap (λ (l : List ℕ). lowest_of (front_geometry l)) (slice-rest s t.at)) (c.min-lowest.ensures ∙ rw lowest) (ap (λ (n : ℕ). t.summary.units + n) c.units.ensures) c.min-2.ensures (slice-rest t.left.now _))
