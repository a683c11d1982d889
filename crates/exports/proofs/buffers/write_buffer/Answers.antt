-- Where the bytes fit the buffer is written, else nothing.
use Rattle.std.specs.Prelude.{Err}
use borrow.Author.Rules.{rules}
use mathlib.Core.Path.{◌≡◌}
use native.Mathlib.Omega.{arith}
use Rattle.exports.specs.Buffers.{buffer_bytes}
use Rattle.exports.proofs.ToldLaws.{buffer_length_lem, fitting-yes, fitting-no}
use Rattle.exports.proofs.buffers.write_buffer.Goals as goal

pub returns-in_err-room : goal.returns-in_err-room
returns-in_err-room c =
    let b = c.args.buffer in
    let size = buffer_length_lem b in
    let stored = c.stored_length-needed.ensures.0 in
    let answer : c.from_residual.result ≡ Err c.in_err-room.field-0.0 = search rules in
    rw (answer, c.in_err-room.ensures.1) (fitting-no (buffer_bytes b) (omega (arith, size, stored, c.in_err-room.ensures.0)) (omega (arith, size, stored)))

pub put_buffer-requires : goal.put_buffer-requires
put_buffer-requires c = omega (arith, c.stored_length-needed.ensures.0, c.in_ok-room.ensures)

pub returns : goal.returns
returns c =
    let b = c.args.buffer in
    let size = buffer_length_lem b in
    let stored = c.stored_length-needed.ensures.0 in
    fitting-yes (buffer_bytes b) (omega (arith, size, stored, c.in_ok-room.ensures)) c.put_buffer.ensures (omega (arith, size, stored))
