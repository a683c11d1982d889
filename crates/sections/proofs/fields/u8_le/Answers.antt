-- An element that is there, or 0.
use Rattle.std.proofs.Common.{arith, sym, ◌∙◌}
use Rattle.sections.proofs.LeLaws.{field-byte}
use Rattle.sections.proofs.fields.u8_le.Goals as goal

pub returns : goal.returns
returns c = rw (c.unwrap_or.ensures, c.copied.ensures) (c.get.ensures.lookup.4 (omega arith) 0 ∙ sym (field-byte c.args.b.now c.args.off))
