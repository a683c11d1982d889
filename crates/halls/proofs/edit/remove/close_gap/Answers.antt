-- The move and the zeros make the first n bytes those that are left, and zeros behind them.
use Rattle.halls.proofs.edit.RewrittenLaws.{gap-closed}
use Rattle.halls.proofs.edit.remove.close_gap.Goals as goal

pub returns : goal.returns
returns c =
    let p = c.requires in
    gap-closed _ _ _ _ p.0 p.1 p.2 c.copy_within.ensures c.zero.ensures
