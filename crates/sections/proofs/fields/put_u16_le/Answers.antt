-- The library's bytes of the number, put there.
use Rattle.std.proofs.Common.{◌≡◌, ◌∙◌}
use Rattle.sections.specs.Le.{bytes}
use Rattle.sections.proofs.LeLaws.{to_le-is}
use Rattle.sections.proofs.fields.put_u16_le.Goals as goal

pub returns : goal.returns
returns c =
    let e : c.to_le_bytes.result ≡ bytes 2 c.args.v = c.to_le_bytes.ensures ∙ to_le-is 2 c.args.v in
    rw e at c.put_bytes.ensures
