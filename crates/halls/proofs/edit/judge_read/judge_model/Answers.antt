-- Its geometries, with its record.
use Rattle.std.proofs.Common.{sym, subst, ◌∙◌}
use Rattle.halls.specs.Inner.Taking.{Fitting}
use Rattle.halls.proofs.edit.TakingLaws.{geometries-fit, model_taken_lem}
use Rattle.halls.proofs.edit.judge_read.judge_model.Goals as goal

pub judge_geometries-requires : goal.judge_geometries-requires
judge_geometries-requires c = rw c.geometries.ensures.those (geometries-fit _ c.requires)

pub with_record-requires : goal.with_record-requires
with_record-requires c = subst Fitting (sym (model_taken_lem _ (rw c.geometries.ensures.those at c.judge_geometries.ensures))) c.requires

pub returns : goal.returns
returns c = c.with_record.ensures ∙ model_taken_lem _ (rw c.geometries.ensures.those at c.judge_geometries.ensures)
