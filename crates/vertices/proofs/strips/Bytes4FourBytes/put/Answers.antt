-- The four bytes take the place of those that stood there.
use mathlib.Core.Path.{◌∙◌}
use native.Mathlib.Omega.{arith}
use Rattle.vertices.proofs.RunLaws.{length_run, overwrite_part}
use Rattle.vertices.proofs.UnifiedBytes.{four_bytes}
use Rattle.vertices.proofs.strips.Bytes4FourBytes.put.Goals as goal

pub returns : goal.returns
returns c =
    let written = c.copy_from_slice.ensures.after ∙ four_bytes c.args.self (omega arith) (omega arith) (omega arith) (omega arith) in
    overwrite_part _ _ _ written (length_run 1 _ ∙ omega arith)
