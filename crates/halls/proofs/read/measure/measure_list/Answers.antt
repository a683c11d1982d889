-- Refused by check 1, by the pointer list or by the pass over its models; else measured.
use Rattle.std.proofs.Common.{rules, arith, refl, sym, ◌∙◌, ◌≡◌, Err, Some}
use Rattle.sections.proofs.AddressLaws.{limit-each}
use Rattle.sections.specs.Address.{sections_of}
use Rattle.halls.specs.Inner.Measure.{list_bytes}
use Rattle.halls.proofs.read.ListingLaws.{limit_exceeded, few_pointers, Listing-absent, Listing-refused, Listing-length}
use Rattle.halls.proofs.read.ReadingLaws.{bytes_found, bytes_absent}
use Rattle.halls.proofs.read.measure.measure_list.Goals.{In_ok-pointers}
use Rattle.halls.proofs.read.measure.measure_list.Goals as goal

-- the list of the header
there : (c : In_ok-pointers) → list_bytes (sections_of c.args.reader.now) 8 c.from-count.result c.header_at-header.result.pointer ≡ Some c.in_ok-pointers.pointers.now
there c = bytes_found c.list_bytes.result _ c.list_bytes.ensures _ (sym c.ok_or.ensures.value ∙ c.in_ok-pointers.was)

pub returns-then-not-within_limit : goal.returns-then-not-within_limit
returns-then-not-within_limit c = record { is = limit_exceeded (sections_of c.args.reader.now) c.args.va (sym c.within_limit.ensures ∙ c.if-not-within_limit.true) ∙ rw c.by.ensures; needs = rw c.by.ensures }

pub returns-in_err-pointers : goal.returns-in_err-pointers
returns-in_err-pointers c =
    let s = (sections_of c.args.reader.now) in
    let within = sym c.within_limit.ensures ∙ c.if-not-within_limit.false in
    let e : c.from_residual.result ≡ Err c.in_err-pointers.field-0.0 = search rules in
    let no = bytes_absent c.list_bytes.result _ c.list_bytes.ensures _ (sym c.ok_or.ensures.value ∙ c.in_err-pointers.was) in
    let is = Listing-absent s c.args.va within _ c.header_at-header.ensures _ (c.from-count.ensures ∙ c.len.ensures) no.0 in
    let by : c.in_err-pointers.field-0.0 ≡ record { check = 2; needed = 0 } = no.1 ∙ c.by-2.ensures in
    rw (e, by) (record { is = is; needs = refl })

pub measure_models-requires : goal.measure_models-requires
measure_models-requires c =
    let k = (goal.at.measure_models-requires c).In_ok-pointers in
    let within = sym c.within_limit.ensures ∙ c.if-not-within_limit.false in
    rw c.new.ensures (few_pointers (sections_of c.args.reader.now) c.args.va within _ c.header_at-header.ensures _ (c.from-count.ensures ∙ c.len.ensures) _ (there k) (omega (arith, c.len.type_inv, c.from-count.ensures)))

pub returns-in_err-measured : goal.returns-in_err-measured
returns-in_err-measured c =
    let k = (goal.at.returns-in_err-measured c).In_ok-pointers in
    let within = sym c.within_limit.ensures ∙ c.if-not-within_limit.false in
    let e : c.from_residual-in_err-measured.result ≡ Err c.in_err-measured.field-0.0 = search rules in
    rw e (Listing-refused (sections_of c.args.reader.now) c.args.va within _ c.header_at-header.ensures _ (c.from-count.ensures ∙ c.len.ensures) _ (there k) _ (rw c.new.ensures at c.in_err-measured.ensures))

pub invariant_of-limited : goal.invariant_of-limited
invariant_of-limited c = let each = limit-each (sections_of c.args.reader.now) (sym c.within_limit.ensures ∙ c.if-not-within_limit.false) in record { small = record { system = each.0; graphics = each.1 } }

pub returns : goal.returns
returns c =
    let k = (goal.at.returns c).In_ok-pointers in
    let within = sym c.within_limit.ensures ∙ c.if-not-within_limit.false in
    Listing-length (sections_of c.args.reader.now) c.args.va within _ c.header_at-header.ensures _ (c.from-count.ensures ∙ c.len.ensures) _ (there k) (omega (arith, c.len.type_inv, c.from-count.ensures)) _ (rw c.new.ensures at c.in_ok-measured.ensures) _ refl refl refl
