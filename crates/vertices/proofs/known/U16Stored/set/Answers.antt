-- The number's bytes take the place of those that stood there.
use mathlib.Core.Path.{◌∙◌, sym}
use native.Mathlib.Omega.{arith}
use Rattle.sections.proofs.LeLaws.{length-bytes}
use Rattle.vertices.proofs.RunLaws.{bytes_two, overwrite_part}
use Rattle.vertices.proofs.known.U16Stored.set.Goals as goal

pub returns : goal.returns
returns c =
    let written = c.copy_from_slice.ensures.after ∙ c.to_le_bytes.ensures ∙ sym (bytes_two c.args.self) in
    overwrite_part _ _ _ written (length-bytes 2 _ ∙ omega arith)
