-- By the width of the indices; without items there are no triangles.
use Rattle.std.specs.Prelude.{Some}
use mathlib.Core.Path.{◌≡◌, ap, sym, ◌∙◌}
use mathlib.Core.List.{List}
use Prim.Native.Nat.{ℕ, suc, ◌*◌, ◌/◌, ◌≤◌}
use native.Mathlib.Nat.{mul-div_cancel}
use native.Mathlib.Omega.{arith}
use lib.ListN.{length, take}
use Rattle.vertices.specs.Runs.{numbers}
use Rattle.halls.specs.Checks.{triangles_of}
use Rattle.halls.specs.Every.{every}
use Rattle.halls.specs.Inner.Judging.{indices_lowest_of}
use Rattle.halls.specs.Inner.View.{HeldIn, index_bytes, indices_in}
use Rattle.halls.specs.List.{Indices}
use Rattle.halls.specs.declared.read.view.IndexItems.{IndexItems}
use Rattle.halls.specs.declared.read.view.IndexView.{IndexView}
use Rattle.vertices.proofs.RunLaws.{numbers-length}
use Rattle.halls.proofs.check.ScanLaws.{numbers-take}
use Rattle.halls.proofs.read.HeldLaws.{no_items, items_by, items_length_lem, held_by_lem, long_by}
use Rattle.halls.proofs.edit.judge_read.items_lowest.Goals as goal

-- the triangles' bytes are all of them, and the scan's indices the view's
module _ (v : IndexView) (raw : List ℕ) (i : IndexItems) (e : v.items ≡ Some i) (w : ℕ) (width : index_bytes i.width ≡ suc w) (triangles : ℕ) (h : HeldIn v raw) {x : Indices}
    (is : indices_in v raw ≡ x) (k : length x.items ≡ 3 * triangles) where
  counted : v.count ≡ 3 * triangles
  counted = sym (items_length_lem v raw ∙ held_by_lem v raw i e) ∙ ap (λ (y : Indices). length y.items) is ∙ k

  long : 3 * triangles * suc w ≡ length raw
  long = sym (long_by v raw i e h ∙ ap (λ (n : ℕ). v.count * n) width ∙ ap (λ (n : ℕ). n * suc w) counted)

  fit : 3 * triangles ≤ length (numbers (suc w) (length raw / suc w) raw)
  fit =
      let whole : length raw / suc w ≡ 3 * triangles = ap (λ (n : ℕ). n / suc w) (sym long) ∙ mul-div_cancel (3 * triangles) (omega arith) in
      omega (arith, whole, numbers-length (suc w) (length raw / suc w) raw)

  scanned : {r : ℕ} (limit : ℕ) → r ≡ indices_lowest_of limit (take (3 * triangles) (numbers (suc w) (length raw / suc w) raw)) → r ≡ indices_lowest_of limit x.items
  scanned limit q =
      let all : take (3 * triangles) (numbers (suc w) (length raw / suc w) raw) ≡ numbers (suc w) (3 * triangles) raw =
      numbers-take (suc w) (3 * triangles) (length raw / suc w) raw (omega (arith, fit, numbers-length (suc w) (length raw / suc w) raw)) in
      let seen : (indices_in v raw).items ≡ numbers (suc w) (3 * triangles) raw =
      items_by v raw i e ∙ ap (λ (n : ℕ). numbers n v.count raw) width ∙ ap (λ (n : ℕ). numbers (suc w) n raw) counted in
      q ∙ ap (indices_lowest_of limit) (all ∙ sym seen ∙ ap (λ (y : Indices). y.items) is)

pub triangles_lowest-requires : goal.triangles_lowest-requires
triangles_lowest-requires c = rw c.of.ensures (fit c.indices.inside.view c.indices.inside.bytes.now c.in-Some.items c.in-Some.is 1 (ap index_bytes c.in-Two.is) c.args.triangles c.indices.invariant c.indices.view_is c.requires)

pub returns-in-Two : goal.returns-in-Two
returns-in-Two c = scanned c.indices.inside.view c.indices.inside.bytes.now c.in-Some.items c.in-Some.is 1 (ap index_bytes c.in-Two.is) c.args.triangles c.indices.invariant c.indices.view_is c.requires _ (rw (c.from-limit.ensures, c.of.ensures) at c.triangles_lowest.ensures)

pub triangles_lowest-requires-in-Four : goal.triangles_lowest-requires-in-Four
triangles_lowest-requires-in-Four c = rw c.of-in-Four.ensures (fit c.indices.inside.view c.indices.inside.bytes.now c.in-Some.items c.in-Some.is 3 (ap index_bytes c.in-Four.is) c.args.triangles c.indices.invariant c.indices.view_is c.requires)

pub returns-in-Four : goal.returns-in-Four
returns-in-Four c = scanned c.indices.inside.view c.indices.inside.bytes.now c.in-Some.items c.in-Some.is 3 (ap index_bytes c.in-Four.is) c.args.triangles c.indices.invariant c.indices.view_is c.requires _ (rw (c.from-limit.ensures, c.of-in-Four.ensures) at c.triangles_lowest-in-Four.ensures)

pub returns-in_default : goal.returns-in_default
unfolding indices_lowest_of every triangles_of
returns-in_default c =
    let none = sym (ap (λ (y : Indices). y.items) c.indices.view_is) ∙ no_items c.indices.inside.view c.indices.inside.bytes.now c.in_default.is in
    rw none
