-- The list from the front on, and zeros behind it where the old one was longer.
use mathlib.Core.Path.{ap, ◌∙◌}
use native.Mathlib.Omega.{arith}
use mathlib.Core.List.{List}
use Prim.Native.Nat.{ℕ, ◌-◌}
use lib.ListN.{length, replicate}
use Rattle.sections.specs.Edit.{overwrite}
use Rattle.sections.proofs.EditLaws.{Edited-fits, overwrite-length}
use Rattle.halls.proofs.edit.RewrittenLaws.{rewritten-opened, rewritten-front}
use Rattle.halls.proofs.edit.take_in.put_hall.Goals as goal

pub returns-then-n-end : goal.returns-then-n-end
returns-then-n-end c =
    let put = c.write_taken_models-end.ensures in
    put.1 ∙ rewritten-opened c.args.hall.now c.args.n 0 _ (omega arith) c.requires.0 (omega (arith, put.0, c.if-n-end.true))

pub returns : goal.returns
returns c =
    let put = c.write_taken_models-end.ensures in
    let end : ℕ = c.write_taken_models-end.result in
    let one = ap length put.1 ∙ overwrite-length c.args.hall.now 0 _ (omega (arith, c.requires.1)) in
    Edited-fits _ c.zero.ensures (omega (arith, one, c.requires.0, c.if-n-end.false))
    ∙ ap (λ (x : List ℕ). overwrite x end (replicate (c.args.n - end) 0)) put.1 ∙ rewritten-front c.args.hall.now c.args.n _ _ put.0 (omega (arith, c.if-n-end.false)) c.requires.0
