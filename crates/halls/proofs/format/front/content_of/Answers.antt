-- A four-byte number times a two-byte one fits 48 bits.
use Prim.Native.Nat.{◌≤◌}
use native.Mathlib.Nat.{mul-le-mul}
use native.Mathlib.Omega.{arith}
use Rattle.halls.specs.Fronts.{content_at}
use Rattle.halls.proofs.format.front.content_of.Goals as goal

pub returns : goal.returns
unfolding content_at
returns c =
    let n = c.u32_le in
    let m = c.from in
    let a : n.result ≤ 4294967296 = omega arith in
    let b : m.result ≤ 65536 = omega arith in
    (rw (n.ensures, m.ensures, c.u16_le.ensures), mul-le-mul a b)
