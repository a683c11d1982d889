-- Refused by the first pass or for want of room; else the second pass writes what the first has counted.
use Rattle.std.proofs.Common.{rules, refl, sym, ap, ◌∙◌, ◌≡◌, length, Ok, Err}
use Rattle.sections.specs.Address.{Sections, sections_of}
use Rattle.halls.specs.Inner.Measure.{whole_numbers}
use Rattle.halls.specs.Inner.View.{models_at}
use Rattle.halls.specs.Listing.{hall_list}
use Rattle.halls.proofs.read.ListingLaws.{Shown, Listing-stopped, Listing-short, Listing-written, shown}
use Rattle.halls.proofs.read.list.hall_list.Goals.{After-from_residual, After-from_residual-in_err-room, In_ok-room}
use Rattle.halls.proofs.read.list.hall_list.Goals as goal

refused : (c : After-from_residual) → Shown (hall_list (sections_of c.args.reader.now) c.args.va (length c.args.list.now)) c.args.list.now c.from_residual.result c.args.list.now
refused c =
    let a = c.args in
    let passed : c.from_residual.result ≡ Err c.in_err-found.field-0.0 = search rules in
    let stopped = c.in_err-found.ensures in
    shown (hall_list (sections_of a.reader.now) a.va (length a.list.now)) _ a.list.now (Listing-stopped (sections_of a.reader.now) a.va (length a.list.now) _ stopped) (passed ∙ ap Err stopped.needs) refl

pub returns-in_err-found-clause-answer : goal.returns-in_err-found-clause-answer
returns-in_err-found-clause-answer c = (refused c).0

pub returns-in_err-found-clause-bytes : goal.returns-in_err-found-clause-bytes
returns-in_err-found-clause-bytes c = (refused c).1

short : (c : After-from_residual-in_err-room) → Shown (hall_list (sections_of c.args.reader.now) c.args.va (length c.args.list.now)) c.args.list.now c.from_residual-in_err-room.result c.args.list.now
short c =
    let a = c.args in
    let passed : c.from_residual-in_err-room.result ≡ Err c.in_err-room.field-0.0 = search rules in
    let is = Listing-short (sections_of a.reader.now) a.va (length a.list.now) _ c.in_ok-found.ensures c.in_err-room.ensures.0 in
    shown (hall_list (sections_of a.reader.now) a.va (length a.list.now)) _ a.list.now is (passed ∙ ap Err c.in_err-room.ensures.1) refl

pub returns-in_err-room-clause-answer : goal.returns-in_err-room-clause-answer
returns-in_err-room-clause-answer c = (short c).0

pub returns-in_err-room-clause-bytes : goal.returns-in_err-room-clause-bytes
returns-in_err-room-clause-bytes c = (short c).1

-- what the second pass writes is what was found
models_are : (c : In_ok-room) → models_at (sections_of c.in_ok-found.found.limited.reader.now) (whole_numbers 8 c.in_ok-found.found.pointers.now) ≡ models_at (sections_of c.args.reader.now) (whole_numbers 8 c.in_ok-found.found.pointers.now)
models_are c = ap (λ (s : Sections). models_at s (whole_numbers 8 c.in_ok-found.found.pointers.now)) c.in_ok-found.ensures.sections_are

written : (c : goal.After-slice_known-2-1) → Shown (hall_list (sections_of c.args.reader.now) c.args.va (length c.args.list.now)) c.args.list.now (Ok c.in_ok-found.found.«length») c.write_models.new.out
written c =
    let a = c.args in
    let k = (goal.at.returns-clause-answer c).In_ok-room in
    let is = Listing-written (sections_of a.reader.now) a.va (length a.list.now) _ c.in_ok-found.ensures c.in_ok-room.ensures in
    shown (hall_list (sections_of a.reader.now) a.va (length a.list.now)) _ a.list.now is (ap Ok (sym c.in_ok-found.ensures.long)) (rw (c.new.ensures, models_are k) at c.write_models.ensures.1)

pub returns-clause-answer : goal.returns-clause-answer
returns-clause-answer c = (written c).0

pub returns-clause-bytes : goal.returns-clause-bytes
returns-clause-bytes c = (written c).1
