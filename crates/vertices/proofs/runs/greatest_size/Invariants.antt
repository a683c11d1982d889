-- `greatest_size`: each size passed is at most the greatest so far.
use Prim.Native.Nat.{ℕ, ◌+◌, ◌*◌, ◌%◌, ◌≤◌, ◌<◌}
use Rattle.sections.specs.Edit.{part}
use Rattle.sections.specs.Le.{le}
use Rattle.vertices.proofs.runs.greatest_size.Given as goal

abbrev pub invariant-loop-i : goal.invariant-loop-i
invariant-loop-i l = (j : ℕ) → j < l.i → le (part l.src ((l.first + j) * 4) 4) % 2147483648 ≤ l.greatest
