-- The blocks so far have moved: the first ones where bytes move down, the last ones where they move up.
use Rattle.std.proofs.Common.{◌-◌, ◌*◌, ◌≤◌, ◌<◌, min}
use Rattle.sections.specs.Edit.{part}
use Rattle.sections.proofs.Runs.{Forward, Backward}
use Rattle.sections.proofs.edits.move_blocks.Given as goal

abbrev pub invariant-loop-turn : goal.invariant-loop-turn
invariant-loop-turn l =
    (l.to ≤ l.from → Forward l.initial.buf l.to (part l.initial.buf l.from l.n) l.buf (min (l.turn * 4096) l.n))
    × (l.from < l.to → Backward l.initial.buf l.to (part l.initial.buf l.from l.n) l.buf (min ((l.blocks - l.turn) * 4096) l.n))
