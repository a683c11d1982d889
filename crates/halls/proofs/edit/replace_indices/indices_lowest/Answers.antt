-- The ranks are those of the checks, and 19 has the highest.
use native.Mathlib.Omega.{arith}
use Rattle.halls.proofs.edit.IndicesWritten.{lowest_judged}
use Rattle.halls.proofs.edit.replace_indices.indices_lowest.Goals as goal

pub returns : goal.returns
returns c = lowest_judged _ _ _ _ c.lent_indices_lowest-lowest.ensures c.size_lowest.ensures c.min.ensures (omega arith)
