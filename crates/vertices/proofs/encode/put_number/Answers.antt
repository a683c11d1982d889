-- A byte is the number's low byte; no width, no write.
use Rattle.std.proofs.Common.{rules, sym}
use Rattle.sections.specs.Le.{bytes}
use Rattle.sections.proofs.EditLaws.{overwrite-none}
use Rattle.sections.proofs.LeLaws.{bytes_low}
use Rattle.vertices.proofs.encode.put_number.Goals as goal

pub returns-in-UByte4 : goal.returns-in-UByte4
returns-in-UByte4 c = search (rules, bytes_low)

pub returns-in-Nothing : goal.returns-in-Nothing
unfolding bytes
returns-in-Nothing c = search (rules, sym, overwrite-none)
