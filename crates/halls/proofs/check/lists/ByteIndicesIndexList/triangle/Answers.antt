-- The three numbers stand one behind the other in the bytes.
use mathlib.Core.Path.{◌≡◌, refl}
use Prim.Native.Nat.{◌*◌, ◌/◌}
use native.Mathlib.Omega.{arith}
use lib.ListN.{length}
use Rattle.vertices.specs.Runs.{numbers}
use Rattle.halls.specs.Inner.Counting.{triangle_in}
use Rattle.halls.specs.declared.check.triangle.Triangle.{Triangle}
use Rattle.halls.proofs.check.ScanLaws.{triangle_bytes, triangle_of-bytes}
use Rattle.halls.proofs.check.lists.ByteIndicesIndexList.triangle.Goals as goal

pub overflow_mul-first : goal.overflow_mul-first
overflow_mul-first g c = omega (arith, (triangle_bytes _ _ _ c.requires).1, c.ranges.self.0)

pub overflow_add-first : goal.overflow_add-first
overflow_add-first g c = omega (arith, (triangle_bytes _ _ _ c.requires).1, c.ranges.self.0)

pub overflow_add-first-2 : goal.overflow_add-first-2
overflow_add-first-2 g c = omega (arith, (triangle_bytes _ _ _ c.requires).1, c.ranges.self.0)

pub nth-requires : goal.nth-requires
nth-requires g c = omega (arith, (triangle_bytes _ _ _ c.requires).0)

pub nth-requires-2 : goal.nth-requires-2
nth-requires-2 g c = omega (arith, (triangle_bytes _ _ _ c.requires).0)

pub nth-requires-3 : goal.nth-requires-3
nth-requires-3 g c = omega (arith, (triangle_bytes _ _ _ c.requires).0)

pub returns : goal.returns
returns g c =
    let s = c.args.self.bytes.now in
    let w = g.W.StoredIndex.WIDTH in
    let first : 3 * c.args.i ≡ c.args.i * 3 = omega arith in
    let are : ◌≡◌ {A = Triangle} (record { a = c.nth.result; b = c.nth-2.result; c = c.nth-3.result }) (triangle_in (numbers w (length s / w) s) c.args.i) =
    rw (c.nth.ensures, c.nth-2.ensures, c.nth-3.ensures, triangle_of-bytes w _ s c.args.i c.requires, first) refl in
    are
