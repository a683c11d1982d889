-- `encode_run`: a block a turn, and then all that are left.
use native.Mathlib.Omega.{arith}
use Rattle.std.proofs.Common.{◌≡◌, ◌+◌, ◌*◌, ◌/◌}
use Rattle.vertices.specs.Half.{f32_to_f16}
use Rattle.vertices.proofs.RunLoops.{Converting-start, run-turn, run-last}
use Rattle.vertices.proofs.runs.encode_run.Goals.{else-loop-first-test, then-loop-first-test+else-rest-first-gt64}
use Rattle.vertices.proofs.runs.encode_run.Goals as goal

pub loop-first-init : goal.loop-first-init
loop-first-init c = (omega arith, Converting-start (omega arith))

pub loop-first-preserved : goal.loop-first-preserved
loop-first-preserved c = (omega arith, run-turn c.loop-first.invariant.1 64 (omega arith) c.encode_block.ensures)

pub returns : goal.returns
returns c =
    let rest = c.convert_each.ensures f32_to_f16 (λ x y p. p) in
    elim c.loop-first-test.branch [
      | else-loop-first-test w ↦
          let last : c.args.n / 64 * 64 ≡ c.loop-first.first = omega (arith, c.loop-first.invariant.0, c.loop-first.invariant.1.writing.low, w.loop-first-test.false) in
          run-last c.loop-first.invariant.1 (rw (last, w.dst-is) at rest)
      | then-loop-first-test+else-rest-first-gt64 w ↦
          let last : c.args.n / 64 * 64 ≡ c.loop-first.first + 64 = omega (arith, c.loop-first.invariant.0, w.loop-first-test.true) in
          run-last (run-turn c.loop-first.invariant.1 64 (omega (arith, last)) w.encode_block.ensures) (rw (last, w.dst-is) at rest)
    ]
