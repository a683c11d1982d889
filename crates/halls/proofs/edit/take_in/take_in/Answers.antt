-- A check that fails on the old hall refuses; else each refusal is the one that `take_in` proposes or the verdict on what it proposes; else the list of what was read is that hall's.
use Rattle.std.proofs.Common.{rules, Err, arith, ◌≡◌, sym, ap, ◌∙◌, min, List, ℕ}
use Rattle.sections.specs.Address.{Sections, sections_of}
use Rattle.halls.specs.Calls.{take_in, taken_model, all_of, proposed}
use Rattle.halls.specs.Inner.Measure.{whole_numbers}
use Rattle.halls.specs.Inner.Small.{Small}
use Rattle.halls.specs.Inner.Taking.{all_taken, model_taken}
use Rattle.halls.specs.Inner.View.{models_at}
use Rattle.halls.specs.Reading.{read, need}
use Rattle.halls.specs.Step.{state_in}
use Rattle.halls.proofs.check.ToldLaws.{told-fails, told-passed, verdict-passed, verdict-fails}
use Rattle.halls.proofs.edit.FittingLaws.{models_fit}
use Rattle.halls.proofs.edit.StepLaws.{Old, old, stays_refused, stays_barred, answered}
use Rattle.halls.proofs.edit.TakenLaws.{taken_refused, taken_is, taken-fails, taken-long, taken-short, taken-over}
use Rattle.halls.proofs.edit.TakenVerdict.{lowest_taken}
use Rattle.halls.proofs.edit.take_in.take_in.Goals.{In_ok-hall_check, In_ok-found, After-min}
use Rattle.halls.proofs.edit.take_in.take_in.Goals as goal

old_hall : (c : In_ok-hall_check) → Old c.args.hall.now c.args.n
old_hall c = old c.args.hall.now c.args.n (λ i. search rules) (verdict-passed _ (sym c.hall_check.ensures ∙ c.in_ok-hall_check.was))

-- what is proposed where the first pass refuses nothing
module _ (c : In_ok-found) where
  abbrev addresses : List ℕ
  addresses = whole_numbers 8 c.in_ok-found.found.pointers.now

  models_are : models_at (sections_of c.in_ok-found.found.limited.reader.now) addresses ≡ models_at (sections_of c.args.reader.now) addresses
  models_are = ap (λ (s : Sections). models_at s addresses) c.in_ok-found.ensures.sections_are

  made : proposed (take_in (sections_of c.args.reader.now) c.args.va) (state_in c.args.hall.now c.args.n) ≡ need 11 (all_of taken_model (models_at (sections_of c.args.reader.now) addresses)) read
  made = taken_is (sections_of c.args.reader.now) c.args.va (state_in c.args.hall.now c.args.n) _ c.in_ok-found.ensures

-- the lowest rank, of its parts and of the whole, and what was judged
module _ (c : After-min) where
  lowest_is : c.min.result ≡ lowest_taken c.judge_models-taken.result
  lowest_is = c.min.ensures ∙ ap (min c.judge_models-taken.result.lowest) c.limits_lowest.ensures

  judged : c.judge_models-taken.result ≡ all_taken model_taken (models_at (sections_of c.args.reader.now) (whole_numbers 8 c.in_ok-found.found.pointers.now))
  judged = rw (c.new.ensures, models_are (goal.at.After-min c).In_ok-found) at c.judge_models-taken.ensures

pub returns-in_err-hall_check : goal.returns-in_err-hall_check
returns-in_err-hall_check c =
    let answer : c.from_residual.result ≡ Err c.in_err-hall_check.field-0.0 = search rules in
    answered answer (stays_refused _ _ _ (verdict-fails _ (sym c.hall_check.ensures ∙ c.in_err-hall_check.was)))

pub returns-in_err-found : goal.returns-in_err-found
returns-in_err-found c =
    let a = c.args in
    let o = old_hall (goal.at.returns-in_err-found c).In_ok-hall_check in
    let e : c.from_residual-in_err-found.result ≡ Err c.in_err-found.field-0.0 = search rules in
    let r = taken_refused (sections_of a.reader.now) a.va (state_in a.hall.now a.n) _ c.in_err-found.ensures in
    answered (e ∙ ap Err r.needs) (stays_barred (take_in (sections_of a.reader.now) a.va) a.hall.now a.n o _ r.is)

pub judge_models-taken-requires : goal.judge_models-taken-requires
judge_models-taken-requires c =
    let k = (goal.at.judge_models-taken-requires c).In_ok-found in
    let found = c.in_ok-found.ensures in
    let small : Small (sections_of c.args.reader.now) = rw found.sections_are at c.in_ok-found.found.limited.small in
    rw (c.new.ensures, models_are k) (models_fit (sections_of c.args.reader.now) small _ (omega (arith, found.short)) found.few)

pub returns-in_err-verdict_of : goal.returns-in_err-verdict_of
returns-in_err-verdict_of c =
    let a = c.args in
    let at = goal.at.returns-in_err-verdict_of c in
    let k = at.In_ok-found in
    let told = told-fails c.verdict_of.ensures c.in_err-verdict_of.was in
    let answer : c.from_residual-in_err-verdict_of.result ≡ Err c.in_err-verdict_of.field-0.0 = search rules in
    answered (answer ∙ ap Err told.1)
    (taken-fails (sections_of a.reader.now) a.va a.hall.now a.n (old_hall at.In_ok-hall_check) (addresses k) (made k) _ (judged at.After-min) _ (lowest_is at.After-min) told.0)

pub returns-in_err-room : goal.returns-in_err-room
returns-in_err-room c =
    let a = c.args in
    let at = goal.at.returns-in_err-room c in
    let k = at.In_ok-found in
    let passed = told-passed c.verdict_of.ensures c.in_ok-verdict_of.was in
    let answer : c.from_residual-in_err-room.result ≡ Err c.in_err-room.field-0.0 = search rules in
    answered (answer ∙ ap Err c.in_err-room.ensures.1)
    (taken-short (sections_of a.reader.now) a.va a.hall.now a.n (old_hall at.In_ok-hall_check) (addresses k) (made k) _ (judged at.After-min) _ (lowest_is at.After-min) passed c.in_err-room.ensures.0)

pub put_hall-requires : goal.put_hall-requires
put_hall-requires c =
    let a = c.args in
    let at = goal.at.put_hall-requires c in
    let k = at.In_ok-found in
    let o = old_hall at.In_ok-hall_check in
    let passed = told-passed c.verdict_of.ensures c.in_ok-verdict_of.was in
    let long = taken-long (sections_of a.reader.now) a.va a.hall.now a.n o (addresses k) (made k) _ (judged at.After-min) _ (lowest_is at.After-min) passed in
    (o.within, rw (c.new-2.ensures, models_are k) (omega (arith, long, c.in_ok-room.ensures)))

pub returns : goal.returns
returns c =
    let a = c.args in
    let at = goal.at.returns c in
    let k = at.In_ok-found in
    let passed = told-passed c.verdict_of.ensures c.in_ok-verdict_of.was in
    taken-over (sections_of a.reader.now) a.va a.hall.now a.n (old_hall at.In_ok-hall_check) (addresses k) (made k) _ (judged at.After-min) _ (lowest_is at.After-min) passed
    c.in_ok-room.ensures (rw (c.new-2.ensures, models_are k) at c.put_hall.ensures)
