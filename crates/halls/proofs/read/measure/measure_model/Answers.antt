-- Refused by its block or its pointer list; else by its geometries and its record.
use Rattle.std.proofs.Common.{rules, Err, Some, Option, arith, refl, sym, ap, subst, ◌∙◌, ◌≡◌, List, ℕ, length}
use Rattle.sections.specs.Address.{resolved, sections_of}
use Rattle.halls.specs.Inner.Measure.{measured_geometries, measured_model, model_at, read_entries, whole_numbers, with_record}
use Rattle.halls.specs.Blocks.{model_block}
use Rattle.halls.specs.declared.read.entries.Entry.{Entry}
use Rattle.halls.specs.Inner.View.{ListsOf}
use Rattle.halls.proofs.read.Measuring.{entries_as_read}
use Rattle.halls.proofs.read.ReadingLaws.{bytes_found, bytes_absent}
use Rattle.halls.proofs.read.ModelLaws.{mapping-few, model-unresolved, model-no_list, model-measured}
use Rattle.halls.proofs.read.measure.measure_model.Goals.{After-measure_geometries}
use Rattle.halls.proofs.read.measure.measure_model.Goals as goal

-- the block resolved, with these lists
module _ (c : After-measure_geometries) where
  there : resolved (sections_of c.args.reader.now) c.args.pointer 0x30 ≡ Some c.in_ok-raw.raw.now
  there = bytes_found c.resolve.result _ c.resolve.ensures _ (sym c.ok_or.ensures.value ∙ c.in_ok-raw.was)

  lists : ListsOf (sections_of c.args.reader.now) (model_block c.in_ok-raw.raw.now) (Some c.in_ok-pointers.pointers.now) c.of-lists.result.mapping.now
  lists =
      let found = bytes_found c.of-lists.result.pointers _ refl _ (sym c.ok_or-2.ensures.value ∙ c.in_ok-pointers.was) in
      subst (λ (o : Option (List ℕ)). ListsOf (sections_of c.args.reader.now) (model_block c.in_ok-raw.raw.now) o c.of-lists.result.mapping.now) found c.of-lists.ensures

  measured : with_record (length c.of-lists.result.mapping.now) c.measure_geometries.result ≡ measured_model (model_at (sections_of c.args.reader.now) c.args.before c.args.pointer)
  measured =
      let s = (sections_of c.args.reader.now) in
      let read = ap (λ (es : List Entry). read_entries s c.args.before es) c.new.ensures
      ∙ entries_as_read s (whole_numbers 8 c.in_ok-pointers.pointers.now) c.args.before (whole_numbers 2 c.of-lists.result.mapping.now) in
      model-measured s c.args.before _ _ there _ _ lists (c.measure_geometries.ensures.value ∙ ap measured_geometries read)

pub returns-in_err-raw-clause-value : goal.returns-in_err-raw-clause-value
returns-in_err-raw-clause-value c =
    let e : c.from_residual.result ≡ Err c.in_err-raw.field-0.0 = search rules in
    let no = bytes_absent c.resolve.result _ c.resolve.ensures _ (sym c.ok_or.ensures.value ∙ c.in_err-raw.was) in
    e ∙ ap Err (no.1 ∙ c.by.ensures) ∙ ap measured_model (sym (model-unresolved _ c.args.before _ no.0))

pub returns-in_err-pointers-clause-value : goal.returns-in_err-pointers-clause-value
returns-in_err-pointers-clause-value c =
    let s = (sections_of c.args.reader.now) in
    let e : c.from_residual-in_err-pointers.result ≡ Err c.in_err-pointers.field-0.0 = search rules in
    let there = bytes_found c.resolve.result _ c.resolve.ensures _ (sym c.ok_or.ensures.value ∙ c.in_ok-raw.was) in
    let no = bytes_absent c.of-lists.result.pointers _ refl _ (sym c.ok_or-2.ensures.value ∙ c.in_err-pointers.was) in
    let lists = subst (λ (o : Option (List ℕ)). ListsOf s (model_block c.in_ok-raw.raw.now) o c.of-lists.result.mapping.now) no.0 c.of-lists.ensures in
    e ∙ ap Err (no.1 ∙ c.by-2.ensures) ∙ ap measured_model (sym (model-no_list s c.args.before _ _ there lists))

pub returns-in_err-inner-clause-value : goal.returns-in_err-inner-clause-value
returns-in_err-inner-clause-value c =
    let k = (goal.at.returns-in_err-inner-clause-value c).After-measure_geometries in
    let e : c.from_residual-in_err-inner.result ≡ Err c.in_err-inner.field-0.0 = search rules in
    e ∙ ap (with_record (length c.of-lists.result.mapping.now)) (sym c.in_err-inner.was) ∙ measured k

pub overflow_add-result-2 : goal.overflow_add-result-2
overflow_add-result-2 c = omega (arith, c.in_ok-inner.ensures.bound.0, c.in_ok-inner.ensures.bound.1, mapping-few _ _ _ _ c.of-lists.ensures)

pub returns-clause-value : goal.returns-clause-value
returns-clause-value c =
    let k = (goal.at.returns-clause-value c).After-measure_geometries in
    ap (with_record (length c.of-lists.result.mapping.now)) (sym c.in_ok-inner.was) ∙ measured k

pub returns-clause-bound : goal.returns-clause-bound
returns-clause-bound c = (omega (arith, c.in_ok-inner.ensures.bound.0, mapping-few _ _ _ _ c.of-lists.ensures), c.in_ok-inner.ensures.bound.1)
