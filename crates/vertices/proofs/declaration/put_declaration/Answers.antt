-- Each put is right behind the one before it, so that together they are one edit.
use mathlib.Core.Path.{refl}
use Prim.Native.Nat.{◌+◌, ◌≤◌}
use native.Mathlib.Omega.{arith}
use lib.ListN.{length}
use Rattle.sections.specs.Le.{bytes}
use Rattle.sections.proofs.EditLaws.{Edited-behind, Edited-fits}
use Rattle.vertices.specs.Declaration.{declaration_bytes}
use Rattle.vertices.proofs.declaration.put_declaration.Goals as goal

pub returns : goal.returns
unfolding declaration_bytes bytes
returns c =
    let s = c.args.buf.now in
    let at = c.args.off in
    let fit : at + 16 ≤ length s = c.requires in
    let flags = Edited-fits 4 c.put_u32_le.ensures (omega arith) in
    let stride = Edited-behind s at _ 4 2 flags refl refl c.put_u16_le.ensures (omega arith) in
    let unknown = Edited-behind s at _ 6 1 stride refl refl c.put_u8_le.ensures (omega arith) in
    let count = Edited-behind s at _ 7 1 unknown refl refl c.put_u8_le-2.ensures (omega arith) in
    Edited-behind s at _ 8 8 count refl refl c.put_u64_le.ensures (omega arith)
