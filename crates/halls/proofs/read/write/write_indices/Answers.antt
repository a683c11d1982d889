-- The record, or nothing.
use Rattle.std.proofs.Common.{arith, ap, sym, Option, ◌∙◌, length}
use Rattle.sections.specs.Edit.{overwrite}
use Rattle.sections.proofs.EditLaws.{overwrite-none}
use Rattle.halls.specs.List.{Indices, optional, indices_record}
use Rattle.halls.proofs.read.ViewLaws.{indices_record-length}
use Rattle.halls.proofs.read.write.write_indices.Goals as goal

pub put_indices-requires : goal.put_indices-requires
put_indices-requires c =
    let one = ap (λ (o : Option Indices). length (optional indices_record o)) c.in-Some.is in
    omega (arith, one, indices_record-length c.in-Some.indices, c.requires)

pub returns-in-Some : goal.returns-in-Some
returns-in-Some c =
    let one = ap (λ (o : Option Indices). length (optional indices_record o)) c.in-Some.is in (
      omega (arith, one, indices_record-length c.in-Some.indices, c.held-held.ensures.0),
      c.put_indices.ensures ∙ ap (λ (o : Option Indices). overwrite c.args.out.now c.args.at (optional indices_record o)) (sym c.in-Some.is),
    )

pub returns-in-None : goal.returns-in-None
returns-in-None c = (rw c.in-None.is (omega arith), rw c.in-None.is (sym (overwrite-none c.args.out.now c.args.at)))
