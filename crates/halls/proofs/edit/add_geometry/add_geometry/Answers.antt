-- A check of the hall refuses, or 21 where it has no model; then the given geometry and the limits decide. Else the entry, the record's length and the four records are put, which leaves the result's bytes.
use Rattle.std.specs.Prelude.{Some, Err, List}
use mathlib.Core.Path.{◌≡◌, refl, sym, ap, ◌∙◌}
use Prim.Native.Nat.{ℕ, ◌+◌, ◌*◌, ◌-◌, ◌/◌, ◌≤◌, min}
use native.Mathlib.Omega.{arith}
use borrow.Author.Rules.{rules}
use lib.ListN.{length, take, drop}
use native.Mathlib.Nat.{add-zero}
use Rattle.sections.specs.Le.{field}
use Rattle.halls.specs.Fronts.{entries_at}
use Rattle.halls.proofs.check.WalkLaws.{slice-rest}
use Rattle.halls.proofs.format.RecordLaws.{field-drop}
use Rattle.halls.specs.Calls.{Given, given_in}
use Rattle.halls.specs.Places.{model_place}
use Rattle.halls.specs.Inner.Order.{passed}
use Rattle.halls.specs.Inner.Walk.{limits_lowest}
use Rattle.halls.proofs.check.ToldLaws.{where-fails, or-refused, told-passed, told-fails}
use Rattle.halls.proofs.edit.AddedGeometry.{Room, size_room, no-model, added-judged, added-long, added-done, parts-small}
use Rattle.halls.proofs.edit.LastModel.{LastSought, last_sought, last_place}
use Rattle.halls.proofs.edit.StepLaws.{hall_in, stays_refused, answered}
use Rattle.halls.proofs.edit.add_geometry.add_geometry.Goals as goal
use Rattle.halls.proofs.edit.add_geometry.add_geometry.Goals.{In_ok-found, After-u32_le-size, After-min}

-- the old hall, as far as each is known
found : (c : In_ok-found) → LastSought c.args.hall.now c.args.n c.in_ok-found.found
found c = last_sought (λ i. search rules) c.first_of_last.ensures c.survey_first.ensures c.in_ok-found.was

pub returns-in_err-found : goal.returns-in_err-found
returns-in_err-found c =
    let answer : c.from_residual.result ≡ Err c.in_err-found.field-0.0 = search rules in
    answered answer (stays_refused _ _ _ (where-fails _ c.survey_first.ensures c.in_err-found.was))

pub returns-in_err-place : goal.returns-in_err-place
returns-in_err-place c =
    let k = (goal.at.returns-in_err-place c).In_ok-found in
    let answer : c.from_residual-in_err-place.result ≡ Err c.in_err-place.field-0.0 = search rules in
    let refusal = or-refused _ c.in_err-place.ensures.value in
    let none = rw refusal.0 at c.place_of.ensures in
    let empty : length (hall_in c.args.hall.now c.args.n) ≡ 0 = omega (arith, none, c.saturating_sub-last.ensures, (found k).near.models_are, (found k).counted.models, (found k).few) in
    answered (answer ∙ ap Err (refusal.1 ∙ c.by.ensures)) (no-model _ _ (found k).hall (given_in c.args.given) empty)

-- the same behind the last model's size, with its place, what is given, and that the size has room
whole : (c : After-u32_le-size) → LastSought c.args.hall.now c.args.n c.in_ok-found.found
whole c = last_sought (λ i. search rules) c.first_of_last.ensures c.survey_first.ensures c.in_ok-found.was

place : (c : After-u32_le-size) → model_place (hall_in c.args.hall.now c.args.n) (c.in_ok-found.found.summary.models - 1) ≡ Some c.in_ok-place.place
place c = last_place (whole c) c.saturating_sub-last.ensures c.place_of.ensures c.in_ok-place.ensures.ok_part

abbrev given : After-u32_le-size → Given
given c = given_in c.args.given

room : (c : After-u32_le-size) → Room c.args.hall.now c.args.n (whole c).hall (given c) c.in_ok-found.found.summary (whole c).counted c.in_ok-place.place (place c) c.u32_le-size.result c.u32_le-size.ensures
room c = size_room _ _ (whole c).hall (given c) _ (whole c).counted _ (place c) _ c.u32_le-size.ensures

-- as many as the mapping has entries
entries : (b : List ℕ) (place : ℕ) {size count : ℕ} → place + 4 ≤ length b → size ≡ field 4 b place → count ≡ entries_at (take (length b - place) (drop place b)) → count ≡ (size - 6) / 2
entries b place {size} h e f =
    let first : field 4 (drop place b) 0 ≡ size = field-drop 4 b place 0 (omega arith) ∙ rw add-zero (sym e) in
    f ∙ rw (slice-rest b place, first) refl

-- the lowest rank that fails, and how few things there are where none does
lowest : (c : After-min) → let a = c.args in
    c.min.result ≡ min c.given_lowest.result (limits_lowest c.in_ok-found.found.summary.models (c.in_ok-found.found.summary.geometries + 1) (c.in_ok-found.found.summary.units + c.added_units.result))
lowest c = c.min.ensures ∙ ap (min c.given_lowest.result) c.limits_lowest.ensures

small : (c : After-min) → passed ≤ c.min.result → let a = c.args in
    (a.given.count ≤ 65535) × (length a.given.content.now ≤ 67108864) × (length a.given.indices.now ≤ 33554432) × (a.n ≤ length a.hall.now)
small c =
    let whole : LastSought c.args.hall.now c.args.n c.in_ok-found.found = last_sought (λ i. search rules) c.first_of_last.ensures c.survey_first.ensures c.in_ok-found.was in
    let place = last_place whole c.saturating_sub-last.ensures c.place_of.ensures c.in_ok-place.ensures.ok_part in
    let given : Given = given_in c.args.given in
    λ h. let p = parts-small _ _ whole.hall given _ whole.counted _ place _ c.u32_le-size.ensures _ _ _ c.given_lowest.ensures (rw (entries _ _ (omega (arith, (size_room _ _ whole.hall given _ whole.counted _ place _ c.u32_le-size.ensures).entry-low, whole.hall.within)) c.u32_le-size.ensures c.entries_of-entries.ensures.0) at c.added_units.ensures) (lowest c) h in
    (p.0, p.1, p.2, whole.hall.within)

pub slice_bounds-entries_of-start : goal.slice_bounds-entries_of-start
slice_bounds-entries_of-start c =
    let sized = (goal.at.slice_bounds-entries_of-start c).After-u32_le-size in
    omega (arith, (room sized).entry-low, (whole sized).hall.within)

pub slice_bounds-entries_of-count : goal.slice_bounds-entries_of-count
slice_bounds-entries_of-count c =
    let sized = (goal.at.slice_bounds-entries_of-count c).After-u32_le-size in
    omega (arith, (room sized).entry-low, (whole sized).hall.within)

pub overflow_add-grown : goal.overflow_add-grown
overflow_add-grown c =
    let sized = (goal.at.overflow_add-grown c).After-u32_le-size in
    omega (arith, (room sized).few-geometries)

pub overflow_add-grown-2 : goal.overflow_add-grown-2
overflow_add-grown-2 c =
    let sized = (goal.at.overflow_add-grown-2 c).After-u32_le-size in
    omega (arith, (room sized).few-units, (rw (entries _ _ (omega (arith, (room sized).entry-low, (whole sized).hall.within)) c.u32_le-size.ensures c.entries_of-entries.ensures.0) at c.added_units.ensures))

pub returns-in_err-verdict_of : goal.returns-in_err-verdict_of
returns-in_err-verdict_of c =
    let sized = (goal.at.returns-in_err-verdict_of c).After-u32_le-size in
    let judged = (goal.at.returns-in_err-verdict_of c).After-min in
    let told = told-fails c.verdict_of.ensures c.in_err-verdict_of.was in
    let answer : c.from_residual-in_err-verdict_of.result ≡ Err c.in_err-verdict_of.field-0.0 = search rules in
    answered (answer ∙ ap Err told.1) (added-judged _ _ (whole sized).hall (given sized) _ (whole sized).counted _ (place sized) _ c.u32_le-size.ensures _ _ _ c.given_lowest.ensures (rw (entries _ _ (omega (arith, (room sized).entry-low, (whole sized).hall.within)) c.u32_le-size.ensures c.entries_of-entries.ensures.0) at c.added_units.ensures) (lowest judged) told.0)

pub overflow_add-needed : goal.overflow_add-needed
overflow_add-needed c =
    let judged = (goal.at.overflow_add-needed c).After-min in
    omega (arith, small judged (told-passed c.verdict_of.ensures c.in_ok-verdict_of.was))

pub overflow_add-needed-2 : goal.overflow_add-needed-2
overflow_add-needed-2 c =
    let judged = (goal.at.overflow_add-needed-2 c).After-min in
    omega (arith, small judged (told-passed c.verdict_of.ensures c.in_ok-verdict_of.was))

pub record_bytes-requires : goal.record_bytes-requires
record_bytes-requires c =
    let judged = (goal.at.record_bytes-requires c).After-min in
    omega (arith, small judged (told-passed c.verdict_of.ensures c.in_ok-verdict_of.was))

pub returns-in_err-room : goal.returns-in_err-room
returns-in_err-room c =
    let sized = (goal.at.returns-in_err-room c).After-u32_le-size in
    let judged = (goal.at.returns-in_err-room c).After-min in
    let answer : c.from_residual-in_err-room.result ≡ Err c.in_err-room.field-0.0 = search rules in
    let needed : c.args.n + 2 + c.record_bytes.result ≡ c.args.n + 67 + length c.args.given.content.now + 4 * length c.args.given.indices.now = omega arith in
    answered (answer ∙ ap Err (c.in_err-room.ensures.1 ∙ ap (λ (k : ℕ). record { check = 24; needed = k }) needed))
    (added-long _ _ (whole sized).hall (given sized) _ (whole sized).counted _ (place sized) _ c.u32_le-size.ensures _ _ _ c.given_lowest.ensures (rw (entries _ _ (omega (arith, (room sized).entry-low, (whole sized).hall.within)) c.u32_le-size.ensures c.entries_of-entries.ensures.0) at c.added_units.ensures) (lowest judged) (told-passed c.verdict_of.ensures c.in_ok-verdict_of.was) (omega (arith, c.in_err-room.ensures.0)))

pub overflow_add-place : goal.overflow_add-place
overflow_add-place c =
    let sized = (goal.at.overflow_add-place c).After-u32_le-size in
    let judged = (goal.at.overflow_add-place c).After-min in
    omega (arith, (room sized).entry-low, small judged (told-passed c.verdict_of.ensures c.in_ok-verdict_of.was))

pub overflow_add-place-2 : goal.overflow_add-place-2
overflow_add-place-2 c =
    let sized = (goal.at.overflow_add-place-2 c).After-u32_le-size in
    let judged = (goal.at.overflow_add-place-2 c).After-min in
    omega (arith, (room sized).entry-low, small judged (told-passed c.verdict_of.ensures c.in_ok-verdict_of.was))

pub insert_entry-requires : goal.insert_entry-requires
insert_entry-requires c =
    let sized = (goal.at.insert_entry-requires c).After-u32_le-size in
    let judged = (goal.at.insert_entry-requires c).After-min in
    omega (arith, (room sized).entry-low, small judged (told-passed c.verdict_of.ensures c.in_ok-verdict_of.was), c.in_ok-room.ensures)

pub overflow_add-size : goal.overflow_add-size
overflow_add-size c =
    let sized = (goal.at.overflow_add-size c).After-u32_le-size in
    omega (arith, (room sized).few_entries)

pub put_given-requires : goal.put_given-requires
put_given-requires c =
    let judged = (goal.at.put_given-requires c).After-min in
    omega (arith, small judged (told-passed c.verdict_of.ensures c.in_ok-verdict_of.was), c.in_ok-room.ensures)

pub returns : goal.returns
returns c =
    let sized = (goal.at.returns c).After-u32_le-size in
    let judged = (goal.at.returns c).After-min in
    let needed : c.args.n + 2 + c.record_bytes.result ≡ c.args.n + 67 + length c.args.given.content.now + 4 * length c.args.given.indices.now = omega arith in
    rw needed
    (added-done _ _ (whole sized).hall (given sized) _ (whole sized).counted _ (place sized) _ c.u32_le-size.ensures _ _ _ c.given_lowest.ensures (rw (entries _ _ (omega (arith, (room sized).entry-low, (whole sized).hall.within)) c.u32_le-size.ensures c.entries_of-entries.ensures.0) at c.added_units.ensures) (lowest judged) (told-passed c.verdict_of.ensures c.in_ok-verdict_of.was)
    (omega (arith, c.in_ok-room.ensures)) c.insert_entry.ensures c.put_u32_le.ensures c.put_given.ensures)
