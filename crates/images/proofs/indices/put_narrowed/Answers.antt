-- The pairs, and behind them one number more where the count is odd.
use mathlib.Core.Path.{◌≡◌}
use Prim.Native.Nat.{◌+◌, ◌*◌, ◌/◌}
use native.Mathlib.Omega.{arith}
use Rattle.images.proofs.NarrowLaws.{Narrowing-odd}
use Rattle.images.proofs.indices.put_narrowed.Goals as goal

pub returns : goal.returns
returns c =
    let one : c.args.n / 2 * 2 + 1 ≡ c.args.n = omega (arith, c.if-pairs-n.false) in
    Narrowing-odd c.args.raw.now c.args.out.now c.args.at c.args.n (c.args.n / 2) c.requires.0 c.requires.1 c.put_pairs.ensures one
    c.u32_at.ensures c.low_half.ensures c.set_u16.ensures
