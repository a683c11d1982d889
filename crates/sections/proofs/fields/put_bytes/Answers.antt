-- Where the range test holds the bytes are put there.
use Rattle.std.proofs.Common.{rules}
use Rattle.sections.proofs.EditLaws.{Edited-yes, overwrite-slice}
use Rattle.sections.proofs.fields.put_bytes.Goals as goal

pub returns : goal.returns
returns g c = let a = c.args in Edited-yes (search rules) (rw c.copy_from_slice.ensures.after (overwrite-slice a.b.now a.off _ a.v (search rules)))
