-- Each arm is an entry of the table; 0 and those from 6 on have none.
use Rattle.std.proofs.Common.{arith}
use Rattle.exports.proofs.ValueLaws.{passed_value_lem, passed-other}
use Rattle.exports.proofs.values.passed_value.Goals as goal

pub returns-in-1 : goal.returns-in-1
returns-in-1 c = rw (c.in-1.is, passed_value_lem)

pub returns-in-2 : goal.returns-in-2
returns-in-2 c = rw (c.in-2.is, passed_value_lem)

pub returns-in-3 : goal.returns-in-3
returns-in-3 c = rw (c.in-3.is, passed_value_lem)

pub returns-in-4 : goal.returns-in-4
returns-in-4 c = rw (c.in-4.is, passed_value_lem)

pub returns-in-5 : goal.returns-in-5
returns-in-5 c = rw (c.in-5.is, passed_value_lem) c.passed_bytes-bytes.ensures

pub returns-in_default : goal.returns-in_default
returns-in_default c = passed-other _ _ _ _ _ (λ h. omega arith)
