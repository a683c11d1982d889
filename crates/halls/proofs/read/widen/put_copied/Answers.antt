-- The bytes of four-byte numbers are those numbers' bytes.
use Rattle.std.proofs.Common.{arith, sym, ap, ◌∙◌, length, ◌*◌, ◌/◌, ◌≡◌}
use lib.Seq.{take_all}
use Rattle.sections.specs.Edit.{overwrite}
use Rattle.sections.proofs.EditLaws.{Edited-fits}
use Rattle.vertices.specs.Runs.{numbers, run}
use Rattle.vertices.proofs.RunLaws.{run-numbers}
use Rattle.halls.proofs.read.widen.put_copied.Goals as goal

pub returns : goal.returns
returns c =
    let raw = c.args.raw.now in
    let n = length raw / 4 in
    let same : run 4 (numbers 4 n raw) ≡ raw = run-numbers 4 n raw (λ j. (c.type_inv.raw j).fits) (omega (arith, c.requires.0)) ∙ take_all (n * 4) raw (omega (arith, c.requires.0)) in
    Edited-fits (length raw) c.copy_into.ensures (omega (arith, c.requires.1)) ∙ ap (overwrite c.args.out.now c.args.at) (sym same)
