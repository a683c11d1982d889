-- The mapping is put right behind the numbers.
use mathlib.Core.Path.{◌≡◌, refl, sym, ap, ◌∙◌}
use mathlib.Core.List.{List, ◌++◌}
use Prim.Native.Nat.{ℕ, ◌*◌, ◌/◌, ◌<◌}
use native.Mathlib.Omega.{arith}
use lib.ListN.{length, get_or}
use lib.Seq.{take_all}
use Rattle.sections.specs.Edit.{overwrite}
use Rattle.sections.specs.Le.{bytes}
use Rattle.vertices.specs.Runs.{numbers, run}
use Rattle.vertices.proofs.RunLaws.{run-numbers}
use Rattle.sections.proofs.EditLaws.{Edited-behind}
use Rattle.halls.specs.List.{record_bytes}
use Rattle.halls.proofs.format.RecordLaws.{model-parts}
use Rattle.halls.proofs.format.record.put_model.Goals as goal

even-run : (b : List ℕ) → ((i : ℕ) → get_or b i 0 < 256) → length b / 2 * 2 ≡ length b → run 2 (numbers 2 (length b / 2) b) ≡ b
even-run b low even = run-numbers 2 (length b / 2) b low (omega arith) ∙ take_all (length b / 2 * 2) b (omega arith)

pub returns : goal.returns
unfolding bytes
returns c =
    let mapping = c.args.mapping.now in
    Edited-behind _ _ _ 12 _ c.put_model_numbers.ensures refl refl c.copy_into.ensures (omega arith) ∙ ap (overwrite _ _) (model-parts _ _ _)
    ∙ ap (λ (l : List ℕ). overwrite c.args.out.now c.args.at (record_bytes 1 (bytes 4 c.args.model.binding ++ (bytes 2 c.args.model.mask ++ l))))
    (sym (even-run mapping (λ i. (c.type_inv.mapping i).fits) c.requires.2))
