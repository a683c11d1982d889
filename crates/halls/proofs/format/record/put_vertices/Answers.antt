-- Each number is put right behind the one before it, and the vertices behind them.
use mathlib.Core.Path.{◌≡◌, refl, ap, ◌∙◌}
use mathlib.Core.List.{List, ◌++◌}
use Prim.Native.Nat.{ℕ, ◌+◌}
use native.Mathlib.Omega.{arith}
use lib.ListN.{length}
use Rattle.sections.specs.Edit.{overwrite}
use Rattle.sections.specs.Le.{bytes}
use Rattle.sections.proofs.EditLaws.{Edited-behind}
use Rattle.halls.specs.List.{record_bytes, vertices_record}
use Rattle.halls.proofs.format.record.put_vertices.Goals as goal

-- the parts that are put, one behind the other
parts : (layout stride count : ℕ) (content : List ℕ)
    → ((((bytes 4 (7 + length content) ++ bytes 2 4) ++ bytes 1 layout) ++ bytes 2 stride) ++ bytes 4 count) ++ content
    ≡ vertices_record (record { layout = layout; stride = stride; count = count; content = content })
unfolding vertices_record record_bytes bytes
parts layout stride count content =
    let body : List ℕ = bytes 1 layout ++ (bytes 2 stride ++ (bytes 4 count ++ content)) in
    let q : 7 + length content ≡ length body = omega arith in
    ap (λ n. bytes 4 n ++ (bytes 2 4 ++ body)) q

pub returns : goal.returns
unfolding bytes
returns c =
    let layout = Edited-behind _ _ _ 6 1 c.put_head.ensures refl refl (rw c.number.ensures at c.put_u8_le.ensures) (omega arith) in
    let stride = Edited-behind _ _ _ 7 2 layout refl refl c.put_u16_le.ensures (omega arith) in
    let count = Edited-behind _ _ _ 9 4 stride refl refl c.put_u32_le.ensures (omega arith) in
    let content = Edited-behind _ _ _ 13 _ count refl refl c.copy_into.ensures (omega arith) in
    content ∙ ap (overwrite _ _) (parts _ _ _ _)
