-- The declaration's record where one is stored, and the vertices behind it, or nothing.
use mathlib.Core.Path.{sym, ap, subst, ◌∙◌}
use native.Mathlib.Omega.{arith}
use lib.ListN.{length}
use Rattle.sections.specs.Edit.{overwrite}
use Rattle.sections.proofs.EditLaws.{overwrite-none}
use Rattle.sections.specs.Address.{sections_of}
use Rattle.halls.specs.Reading.{vertices_of}
use Rattle.halls.specs.Inner.View.{BufferHeld, buffer_length, buffer_records}
use Rattle.halls.proofs.read.ViewLaws.{buffer_written}
use Rattle.halls.proofs.read.write.write_buffer.Goals as goal

pub put_vertices-requires : goal.put_vertices-requires
unfolding vertices_of
put_vertices-requires c =
    let told = c.in-Some.is in
    let h = subst (BufferHeld (sections_of c.args.limited.now.reader.now)) told c.requires.0 in
    let long = ap length c.vertices_at-content.ensures in
    let stored = c.write_stored-next.ensures.0 in
    (omega (arith, long, h.0, stored, ap buffer_length told, c.requires.1), omega (arith, long, h.1))

pub returns-in-Some : goal.returns-in-Some
unfolding vertices_of
returns-in-Some c =
    let s = (sections_of c.args.limited.now.reader.now) in
    let h = subst (BufferHeld s) c.in-Some.is c.requires.0 in
    let content = c.vertices_at-content.ensures in
    let stored = c.write_stored-next.ensures in
    let long = ap buffer_length c.in-Some.is in (
      omega (arith, long, stored.0, ap length content, h.0),
      buffer_written s c.in-Some.b c.args.out.now c.args.at _ _ stored.1 stored.0 content c.put_vertices.ensures (omega (arith, ap length content, h.0, long, c.requires.1))
          ∙ ap (λ x. overwrite c.args.out.now c.args.at (buffer_records s x)) (sym c.in-Some.is),
    )

pub returns-in-None : goal.returns-in-None
returns-in-None c = (rw c.in-None.is (omega arith), rw c.in-None.is (sym (overwrite-none c.args.out.now c.args.at)))
