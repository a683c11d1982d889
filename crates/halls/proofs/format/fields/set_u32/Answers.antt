-- One piece of four bytes.
use Rattle.std.proofs.Common.{◌≡◌, ◌∙◌}
use Rattle.sections.specs.Le.{bytes}
use Rattle.sections.proofs.LeLaws.{to_le-is, length-bytes}
use Rattle.sections.proofs.EditLaws.{overwrite-slice}
use Rattle.halls.proofs.format.fields.set_u32.Goals as goal

pub returns : goal.returns
returns c =
    let e : c.to_le_bytes.result ≡ bytes 4 c.args.v = c.to_le_bytes.ensures ∙ to_le-is 4 c.args.v in
    rw (c.copy_from_slice.ensures.after, e) (overwrite-slice c.args.b.now c.args.off 4 (bytes 4 c.args.v) (length-bytes 4 c.args.v))
