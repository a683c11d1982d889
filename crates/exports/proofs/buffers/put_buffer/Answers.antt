-- The place is put right behind the first 23 bytes, and the declaration behind it.
use mathlib.Core.Path.{refl}
use mathlib.Core.List.{◌++◌}
use native.Mathlib.Omega.{arith}
use Rattle.sections.specs.Le.{bytes}
use Rattle.sections.proofs.EditLaws.{overwrite-behind}
use Rattle.exports.specs.Buffers.{stored_bytes, head_bytes, place_bytes, buffer_bytes}
use Rattle.exports.proofs.buffers.put_buffer.Goals as goal

pub returns : goal.returns
unfolding buffer_bytes bytes
returns c =
    let s = c.args.out.now in
    let b = c.args.buffer in
    let room = c.requires in
    let place = overwrite-behind s 0 (head_bytes b) 23 (place_bytes b.«data») c.put_head.ensures refl c.put_place.ensures (omega (arith, room)) in
    overwrite-behind s 0 (head_bytes b ++ place_bytes b.«data») 32 (stored_bytes b.declaration) place refl c.put_stored.ensures (omega (arith, room))
