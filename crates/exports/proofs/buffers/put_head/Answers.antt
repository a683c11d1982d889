-- Each number is put right behind the one before it.
use mathlib.Core.Path.{refl, ap, ◌∙◌}
use mathlib.Core.List.{◌++◌}
use Prim.Native.Nat.{ℕ}
use native.Mathlib.Omega.{arith}
use Rattle.sections.specs.Edit.{overwrite}
use Rattle.sections.specs.Le.{bytes}
use Rattle.sections.proofs.EditLaws.{Edited-behind, Edited-fits}
use Rattle.exports.proofs.buffers.put_head.Goals as goal

pub returns : goal.returns
unfolding bytes
returns c =
    let number = c.number in
    let s = c.args.out.now in
    let b = c.args.buffer in
    let layout = Edited-fits 1 c.put_u8_le.ensures (omega arith) in
    let stride = Edited-behind s 0 _ 1 2 layout refl refl c.put_u16_le.ensures (omega arith) in
    let count = Edited-behind s 0 _ 3 4 stride refl refl c.put_u32_le.ensures (omega arith) in
    let pointer = Edited-behind s 0 _ 7 8 count refl refl c.put_u64_le.ensures (omega arith) in
    let info = Edited-behind s 0 _ 15 8 pointer refl refl c.put_u64_le-2.ensures (omega arith) in
    info ∙ ap (λ (n : ℕ). overwrite s 0 (bytes 1 n ++ bytes 2 b.vertex_stride ++ bytes 4 b.vertex_count ++ bytes 8 b.data_pointer ++ bytes 8 b.info_pointer)) number.ensures
