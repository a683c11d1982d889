-- The records of a whole geometry, or nothing.
use Rattle.std.proofs.Common.{arith, sym, ap, subst, ◌∙◌, length, List, ℕ}
use Rattle.halls.specs.Inner.Small.{Wrote}
use Rattle.halls.proofs.edit.TakenBytes.{full-bytes, lacking, wrote-none}
use Rattle.halls.proofs.edit.write_taken.write_taken_geometry.Goals as goal

pub write_whole-requires : goal.write_whole-requires
write_whole-requires c =
    let same = full-bytes c.args.geometry.now c.in-Some.whole (sym c.whole.ensures ∙ c.in-Some.is) in
    omega (arith, ap length same, c.requires)

pub returns-in-Some : goal.returns-in-Some
returns-in-Some c =
    let same = full-bytes c.args.geometry.now c.in-Some.whole (sym c.whole.ensures ∙ c.in-Some.is) in
    subst (λ (w : List ℕ). Wrote c.args.out.now c.args.at w c.write_whole.result c.write_whole.new.out) (sym same) c.write_whole.ensures

pub returns-in-None : goal.returns-in-None
returns-in-None c = wrote-none c.args.out.now c.args.at (lacking c.args.geometry.now (sym c.whole.ensures ∙ c.in-None.is))
