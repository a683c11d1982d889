-- Absent where the stored size is no width, else the view of that width.
use Rattle.std.proofs.Common.{rules, Bool, true, false, Option, None, Some, ℕ, ◌≡◌, ◌∙◌, refl, sym, ap}
use Rattle.std.specs.Prelude.{cond, eqb}
use Rattle.std.specs.Option.{option_and_then}
use Rattle.sections.specs.Address.{Sections, sections_of}
use Rattle.halls.specs.Inner.View.{width_of, view_at, sized_view}
use Rattle.halls.specs.declared.read.view.IndexWidth.{IndexWidth}
use Rattle.halls.specs.declared.read.view.IndexWidth.TheVariants.{Two, Four}
use Rattle.halls.proofs.read.view.sized_view.Goals as goal

module _ (s : Sections) (count pointer : ℕ) where
  by_tests : (t u : Bool) → option_and_then (λ (w : IndexWidth). view_at s w count pointer) (cond t (Some Two) (cond u (Some Four) None)) ≡ cond t (view_at s Two count pointer) (cond u (view_at s Four count pointer) None)
  by_tests true u = refl
  by_tests false true = refl
  by_tests false false = refl

  by_width : (size : ℕ) {o : Option IndexWidth} → o ≡ width_of size → option_and_then (λ (w : IndexWidth). view_at s w count pointer) o ≡ sized_view s size count pointer
  unfolding sized_view
  by_width size e = ap (option_and_then (λ (w : IndexWidth). view_at s w count pointer)) e ∙ by_tests (eqb size 2) (eqb size 4)

pub returns-in_err-width : goal.returns-in_err-width
returns-in_err-width c =
    let none : c.from_residual.result ≡ None = search rules in
    none ∙ ap (option_and_then (λ (w : IndexWidth). view_at (sections_of c.args.reader.now) w c.args.count c.args.pointer)) (sym c.in_err-width.was) ∙ by_width (sections_of c.args.reader.now) c.args.count c.args.pointer c.args.size c.of.ensures

pub returns : goal.returns
returns c =
    c.view_at.ensures ∙ ap (option_and_then (λ (w : IndexWidth). view_at (sections_of c.args.reader.now) w c.args.count c.args.pointer)) (sym c.in_ok-width.was) ∙ by_width (sections_of c.args.reader.now) c.args.count c.args.pointer c.args.size c.of.ensures
