-- The view of the block shows what is read of it, and small sections hold it.
use Rattle.std.proofs.Common.{◌∙◌, sym, ap, subst}
use Rattle.sections.specs.Address.{sections_of}
use Rattle.halls.specs.Blocks.{geometry_block}
use Rattle.halls.specs.Inner.Taking.{geometry_shown}
use Rattle.halls.specs.Inner.View.{ViewHeld}
use Rattle.halls.proofs.read.ViewRecords.{ViewHeld_lem}
use Rattle.halls.proofs.edit.ShownLaws.{shown-is}
use Rattle.halls.proofs.read.stored.StoredGeometry.view.Goals as goal

pub invariant_of-result : goal.invariant_of-result
invariant_of-result c =
    let s = (sections_of c.self.inside.limited.reader.now) in
    subst (ViewHeld s) (sym c.geometry_view.ensures) (ViewHeld_lem s c.self.inside.limited.small c.self.inside.shader (geometry_block c.self.inside.raw.now))

pub returns : goal.returns
returns c =
    let s = (sections_of c.self.inside.limited.reader.now) in
    ap (geometry_shown s) c.geometry_view.ensures ∙ shown-is s c.self.inside.shader (geometry_block c.self.inside.raw.now) ∙ c.self.view_is
