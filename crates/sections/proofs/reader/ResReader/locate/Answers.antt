-- Each return is one case of the definition, by the tests that led to it.
use mathlib.Core.Path.{sym}
use Rattle.sections.proofs.AddressLaws.{some_if, in_graphics, graphics-test, in_system, system-test, located-zero, located-graphics, located-system, located-nowhere}
use Rattle.sections.proofs.reader.ResReader.locate.Goals as goal

pub returns-then-va-eq0 : goal.returns-then-va-eq0
returns-then-va-eq0 c = sym (located-zero _ _ _ c.if-va-eq0.true)

pub returns-then-va-eq-GRAPHICS_BASE : goal.returns-then-va-eq-GRAPHICS_BASE
returns-then-va-eq-GRAPHICS_BASE c =
    rw (c.then_some.ensures, c.ends_inside.ensures, located-graphics _ _ _ c.if-va-eq0.false (in_graphics _ c.if-va-eq-GRAPHICS_BASE.true)) (some_if _ _)

pub returns-then-va-eq-SYSTEM_BASE : goal.returns-then-va-eq-SYSTEM_BASE
returns-then-va-eq-SYSTEM_BASE c =
    rw (
      c.then_some-then-va-eq-SYSTEM_BASE.ensures,
      c.ends_inside-then-va-eq-SYSTEM_BASE.ensures,
      located-system _ _ _ c.if-va-eq0.false (λ e. c.if-va-eq-GRAPHICS_BASE.false (graphics-test _ e)) (in_system _ c.if-va-eq-SYSTEM_BASE.true),
    )
    (some_if _ _)

pub returns : goal.returns
returns c =
    sym (
    located-nowhere _ _ _ c.if-va-eq0.false (λ e. c.if-va-eq-GRAPHICS_BASE.false (graphics-test _ e)) (λ e. c.if-va-eq-SYSTEM_BASE.false (system-test _ e)))
