-- A turn moves one block more, which no turn before it wrote over.
use Rattle.std.proofs.Common.{arith, refl, ◌≡◌, ◌+◌, ◌-◌, ◌*◌, ◌≤◌, ⊎_elim, length, min}
use native.Mathlib.Nat.{eq-zero-or-pos}
use Rattle.sections.specs.Edit.{part}
use Rattle.sections.proofs.EditLaws.{part_length}
use Rattle.sections.proofs.Runs.{Forward-start, Forward-end, Backward-start, Backward-end, move_down_turn, move_up_turn}
use Rattle.sections.proofs.edits.move_blocks.Goals.{then-to-from, else-to-from}
use Rattle.sections.proofs.edits.move_blocks.Goals as goal

pub loop-turn-init : goal.loop-turn-init
loop-turn-init c =
    let a = c.args in
    let size : length (part a.buf.now a.from a.n) ≡ a.n = part_length _ _ _ c.requires.source in
    let none : min 0 a.n ≡ 0 = omega arith in
    let all : min ((c.div_ceil-blocks.result - 0) * 4096) a.n ≡ a.n = omega (arith, c.div_ceil-blocks.ensures) in
    let fits : a.to + length (part a.buf.now a.from a.n) ≤ length a.buf.now = rw size c.requires.target in
    (λ down. rw none (Forward-start _ _ _ fits), λ up. rw all (Backward-start _ _ _ _ size fits))

pub loop-turn-preserved : goal.loop-turn-preserved
loop-turn-preserved c =
    let a = c.args in
    let turn = c.loop-turn.turn in
    let at = c.if-to-from.block * 4096 in
    elim c.if-to-from.branch [
      | then-to-from w ↦ (
        λ down.
            let before : min (turn * 4096) a.n ≡ at = omega (arith, w.block-is, c.div_ceil-blocks.ensures, c.loop-turn-test.true) in
            let after : at + c.min.result ≡ min ((turn + 1) * 4096) a.n = omega (arith, w.block-is, c.min.ensures, c.div_ceil-blocks.ensures, c.loop-turn-test.true) in
            rw (c.move_block.ensures, ← after) (move_down_turn (rw before at (c.loop-turn.invariant.0 down)) down c.requires.source c.min.result (omega arith)),
        λ up. absurd (omega (arith, w.if-to-from.true)),
      )
      | else-to-from w ↦ (
        λ down. absurd (omega (arith, w.if-to-from.false)),
        λ up.
            let before : min ((c.div_ceil-blocks.result - turn) * 4096) a.n ≡ at + c.min.result = omega (arith, w.block-is, c.min.ensures, c.div_ceil-blocks.ensures, c.loop-turn-test.true) in
            let after : at ≡ min ((c.div_ceil-blocks.result - (turn + 1)) * 4096) a.n = omega (arith, w.block-is, c.div_ceil-blocks.ensures, c.loop-turn-test.true) in
            rw (c.move_block.ensures, ← after) (move_up_turn (rw before at (c.loop-turn.invariant.1 up)) (omega arith) (omega arith) at c.min.result refl),
      )
    ]

pub returns : goal.returns
returns c =
    let a = c.args in
    let size : length (part a.buf.now a.from a.n) ≡ a.n = part_length _ _ _ c.requires.source in
    ⊎_elim
    (λ z. Forward-end (c.loop-turn.invariant.0 (omega arith)) (omega (arith, size, c.div_ceil-blocks.ensures, c.loop-turn-test.false)))
    (λ p. Backward-end (c.loop-turn.invariant.1 (omega arith)) (omega (arith, c.div_ceil-blocks.ensures, c.loop-turn-test.false)))
    (eq-zero-or-pos (a.to - a.from))
