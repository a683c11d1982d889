-- The records of the attributes, at most 16, are written where they fit.
use Rattle.std.proofs.Common.{rules, Ok, Err, ◌≡◌, ◌∙◌, sym, ◌*◌, length, arith}
use Rattle.halls.specs.List.{each}
use Rattle.exports.specs.Attributes.{attribute_bytes}
use Rattle.exports.proofs.AttributeRecords.{ok_before, accepted_few, records_length_lem}
use Rattle.exports.proofs.ToldLaws.{fitting-yes, fitting-no}
use Rattle.exports.proofs.attributes.write_attributes.Goals as goal
use Rattle.exports.proofs.attributes.write_attributes.Goals.{After-len-needed}

-- what was read, before its error became a refusal
read : (c : After-len-needed) → c.read_vertex_attributes.result ≡ Ok c.in_ok-attributes.attributes
read c = ok_before _ _ _ _ c.map_err.ensures.variant c.map_err.ensures.cases c.in_ok-attributes.was

-- what is needed is the length of the records
sized : (c : After-len-needed) → c.len-needed.result * 20 ≡ length (each attribute_bytes c.in_ok-attributes.attributes)
sized c = rw (records_length_lem c.in_ok-attributes.attributes, c.len-needed.ensures.value)

pub overflow_mul-needed : goal.overflow_mul-needed
overflow_mul-needed c =
    let v = c.args.vertices in
    omega (arith, c.len-needed.ensures.value, accepted_few v.«data».now v.stride v.count v.declaration c.args.index (sym (read c) ∙ c.read_vertex_attributes.ensures))

pub returns-in_err-room : goal.returns-in_err-room
returns-in_err-room c =
    let before = (goal.at.returns-in_err-room c).After-len-needed in
    let answer : c.from_residual-in_err-room.result ≡ Err c.in_err-room.field-0.0 = search rules in
    rw (← c.read_vertex_attributes.ensures, read before, answer, c.in_err-room.ensures.1) (fitting-no _ (omega (arith, sized before, c.in_err-room.ensures.0)) (sized before))

pub returns : goal.returns
returns c =
    let before = (goal.at.returns c).After-len-needed in
    rw (← c.read_vertex_attributes.ensures, read before) (fitting-yes _ (omega (arith, sized before, c.in_ok-room.ensures)) c.put_attributes.ensures (sized before))
