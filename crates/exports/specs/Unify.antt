-- Unifying as an outcome: check 9, then check 10.
use Rattle.std.specs.Prelude.{cond, List, ℕ, length}
use Rattle.vertices.specs.Unified.{unified_run, vertices_inside}
use Rattle.vertices.specs.declared.declaration.VertexDeclaration.{VertexDeclaration}
use Rattle.vertices.specs.declared.unify.UnifyError.{UnifyError}
use Rattle.vertices.specs.declared.unify.UnifyError.TheVariants.{OutsideData, NeedsBytes}
use Rattle.halls.specs.declared.answer.Refusal.{Refusal}
use Rattle.halls.specs.Outcome.{Outcome, refusal}
use Rattle.exports.specs.Told.{fitting, run_refusal}

unfoldable pub unified_outcome : VertexDeclaration → List ℕ → ℕ → ℕ → ℕ → Outcome
unified_outcome d s stride count room = cond (vertices_inside d (length s) stride count) (fitting room (unified_run d s stride count)) (refusal 9 0)

-- an error as a refusal of its check
abbrev pub unify_refusal : UnifyError → Refusal
unify_refusal OutsideData = record { check = 9; needed = 0 }
unify_refusal (NeedsBytes e) = run_refusal e
