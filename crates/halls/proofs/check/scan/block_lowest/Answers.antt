-- The triangles passed were counted, one more a turn.
use mathlib.Core.Path.{◌≡◌, refl, ◌∙◌}
use Prim.Native.Nat.{◌+◌, ◌-◌}
use native.Mathlib.Omega.{arith}
use Rattle.halls.proofs.check.ScanLaws.{counted_start, Counted-turn, Counted-end, triangles-next}
use Rattle.halls.proofs.check.scan.block_lowest.Goals as goal

pub loop-i-init : goal.loop-i-init
loop-i-init g c =
    let none : c.args.first - c.args.first ≡ 0 = omega arith in
    (rw none (counted_start _ _ refl), omega arith, omega arith)

pub loop-i-preserved : goal.loop-i-preserved
loop-i-preserved g c =
    let one : c.loop-i.i + 1 - c.args.first ≡ c.loop-i.i - c.args.first + 1 = omega (arith, c.loop-i.invariant.1) in
    let next = triangles-next _ c.args.first c.loop-i.i c.loop-i.invariant.1 (omega arith) c.triangle-t.ensures in (
      rw one (Counted-turn c.loop-i.invariant.0 c.triangle-t.result (rw one at next) (omega (arith, c.indices_below-inside.ensures.0)) (omega (arith, c.equal_pairs-pairs.ensures.0))),
      omega arith,
      omega arith,
    )

pub returns : goal.returns
returns g c =
    let whole : c.loop-i.i ≡ c.args.end = omega arith in
    c.counted_lowest.ensures ∙ rw whole at (Counted-end c.loop-i.invariant.0)
