-- The three fields of the bytes that were found.
use Rattle.std.proofs.Common.{rules}
use Rattle.sections.specs.Lists.{header_at}
use Rattle.sections.proofs.reader.ResReader.read_pointer_list_header.Goals as goal

pub returns-in_err-raw : goal.returns-in_err-raw
unfolding header_at
returns-in_err-raw c = rw (← c.resolve.ensures) (search rules)

pub returns : goal.returns
unfolding header_at
returns c = rw (← c.resolve.ensures) (search rules)
