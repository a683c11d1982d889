-- One block a turn, begun as a copy of the first.
use mathlib.Core.Path.{◌≡◌}
use native.Mathlib.Omega.{arith}
use Rattle.vertices.proofs.LaneBlocks.{Vertices-end, BlockReady_lem, Vertices-turn}
use Rattle.vertices.proofs.unify.unify_all.Goals as goal

pub unify_block-requires : goal.unify_block-requires
unify_block-requires c =
    BlockReady_lem c.loop-first.invariant c.begin_block.ensures (omega arith) (omega arith) (omega arith) (omega arith) c.requires.0 c.requires.1

pub loop-first-preserved : goal.loop-first-preserved
loop-first-preserved c =
    let whole : c.min.result ≡ 48 = omega arith in
    rw whole at (Vertices-turn c.loop-first.invariant c.begin_block.ensures c.unify_block.ensures (omega arith) (λ h. omega arith))

pub returns : goal.returns
returns c = Vertices-end c.loop-first.invariant (omega (arith, c.loop-first.invariant.low)) c.requires.0

pub returns-2 : goal.returns-2
returns-2 c =
    let last = Vertices-turn c.loop-first.invariant c.begin_block.ensures c.unify_block.ensures (omega arith) (λ h. omega arith) in
    Vertices-end last (omega arith) c.requires.0
