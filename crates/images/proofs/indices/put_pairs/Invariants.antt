-- The indices passed stand in the list, two more a turn.
use Prim.Native.Nat.{◌*◌}
use Rattle.images.proofs.NarrowLaws.{Narrowing}
use Rattle.images.proofs.indices.put_pairs.Given as goal

abbrev pub invariant-loop-i : goal.invariant-loop-i
invariant-loop-i l = Narrowing l.raw l.initial.out l.at (l.n * 2) l.out (l.i * 2)
