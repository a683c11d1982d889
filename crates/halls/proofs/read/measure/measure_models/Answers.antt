-- Each turn passes a null, refuses as the model does, or adds one model to what was read.
use Rattle.std.proofs.Common.{rules, Err, sym, ◌∙◌, ◌≡◌}
use Rattle.halls.proofs.read.MeasuringModels.{models-start, models-end, models_null, models_refused, models-one}
use Rattle.halls.proofs.read.measure.measure_models.Goals as goal

pub loop-pointer-init : goal.loop-pointer-init
loop-pointer-init c =
    let nothing : c.default-total.result ≡ record { «length» = 0; count = 0 } = search rules in
    rw (c.into_iter-pointer-iterator.ensures.into_iter_gives, nothing) (models-start _ _)

pub loop-pointer-preserved-then-pointer-eq0 : goal.loop-pointer-preserved-then-pointer-eq0
loop-pointer-preserved-then-pointer-eq0 c = models_null c.loop-pointer.invariant _ _ c.in-Some.ensures.steps c.if-pointer-eq0.true

pub returns-in_err-model : goal.returns-in_err-model
returns-in_err-model c =
    let e : c.from_residual.result ≡ Err c.in_err-model.field-0.0 = search rules in
    e ∙ models_refused c.loop-pointer.invariant _ _ c.in-Some.ensures.steps c.if-pointer-eq0.false _ c.in_err-model.ensures.value

pub loop-pointer-preserved : goal.loop-pointer-preserved
loop-pointer-preserved c =
    let v = c.in_ok-model.ensures in
    models-one c.loop-pointer.invariant _ _ c.in-Some.ensures.steps c.if-pointer-eq0.false c.in_ok-model.model v.value v.bound.0 v.bound.1

pub returns : goal.returns
returns c = sym (models-end c.loop-pointer.invariant c.in-None.ensures.steps.0)
