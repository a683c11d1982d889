-- Each field is the definition's; behind the end of the bytes every field is 0.
use Rattle.std.proofs.Common.{◌+◌, ◌<◌, length, arith, rules}
use Rattle.sections.proofs.LeLaws.{field_out}
use Rattle.vertices.specs.Declaration.{declaration_at}
use Rattle.vertices.proofs.declaration.read_declaration.Goals as goal

pub returns-then-raw-off : goal.returns-then-raw-off
unfolding declaration_at
returns-then-raw-off c =
    let s = c.args.raw.now in
    let at = c.args.off in
    let h : length s < at = c.if-raw-off.true in
    rw (field_out 4 s at (omega arith), field_out 2 s (at + 4) (omega arith), field_out 1 s (at + 6) (omega arith), field_out 1 s (at + 7) (omega arith), field_out 8 s (at + 8) (omega arith)) (search rules)

pub returns : goal.returns
unfolding declaration_at
returns c = cc
