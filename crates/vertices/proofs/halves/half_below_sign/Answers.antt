-- `half_below_sign`: each answer is `encoded`, by the law of its case.
use mathlib.Core.Path.{sym}
use native.Mathlib.Omega.{arith}
use Rattle.vertices.proofs.HalfEncode.{encoded-nan, encoded-over}
use Rattle.vertices.proofs.halves.half_below_sign.Goals as goal

pub returns-then-rest-gt-INFINITY : goal.returns-then-rest-gt-INFINITY
returns-then-rest-gt-INFINITY c = sym (encoded-nan c.args.rest c.if-rest-gt-INFINITY.true)

pub returns-then-rest-ge-INFINITE : goal.returns-then-rest-ge-INFINITE
returns-then-rest-ge-INFINITE c = sym (encoded-over c.args.rest c.if-rest-ge-INFINITE.true (omega arith))
