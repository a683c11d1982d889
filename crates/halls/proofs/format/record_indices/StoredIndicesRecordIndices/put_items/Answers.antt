-- Two bytes are widened, four are copied, and where there are no indices nothing is written.
use Rattle.std.proofs.Common.{arith, sym, ap, ◌∙◌, length, List, ℕ, ◌*◌, ◌/◌, ◌≡◌, Some}
use Rattle.sections.specs.Edit.{overwrite}
use Rattle.sections.proofs.EditLaws.{overwrite-none}
use Rattle.vertices.specs.Runs.{numbers, run}
use Rattle.halls.specs.List.{Indices}
use Rattle.halls.specs.Inner.Measure.{whole_numbers}
use Rattle.halls.specs.Inner.View.{HeldIn, index_bytes, indices_in}
use Rattle.halls.specs.declared.read.view.IndexItems.{IndexItems}
use Rattle.halls.specs.declared.read.view.IndexView.{IndexView}
use Rattle.halls.specs.declared.read.view.IndexWidth.{IndexWidth}
use Rattle.halls.proofs.read.HeldLaws.{no_items, items_by, held_by_lem, items_length_lem, long_by}
use Rattle.halls.proofs.format.record_indices.StoredIndicesRecordIndices.put_items.Goals as goal

-- the view has items of this width
module _ (v : IndexView) (raw : List ℕ) (i : IndexItems) (told : v.items ≡ Some i) {x : Indices} (is : indices_in v raw ≡ x) (h : HeldIn v raw) where
  long : {w : IndexWidth} → i.width ≡ w → length raw ≡ v.count * index_bytes w
  long e = long_by v raw i told h ∙ ap (λ (w : IndexWidth). v.count * index_bytes w) e

  many : length x.items ≡ v.count
  many = ap (λ (y : Indices). length y.items) (sym is) ∙ items_length_lem v raw ∙ held_by_lem v raw i told

  seen : {w : IndexWidth} → i.width ≡ w → length raw / index_bytes w ≡ v.count → whole_numbers (index_bytes w) raw ≡ x.items
  seen {w} e n = ap (λ (k : ℕ). numbers (index_bytes w) k raw) n ∙ ap (λ (w : IndexWidth). numbers (index_bytes w) v.count raw) (sym e) ∙ sym (items_by v raw i told) ∙ ap (λ (y : Indices). y.items) is

pub put_widened-requires : goal.put_widened-requires
put_widened-requires c =
    let v = c.self.inside.view in
    let raw = c.self.inside.bytes.now in
    let i = c.in-Some.items in
    omega (arith, long v raw i c.in-Some.is c.self.view_is c.self.invariant c.in-Two.is, many v raw i c.in-Some.is c.self.view_is c.self.invariant, c.requires)

pub returns-in-Two : goal.returns-in-Two
returns-in-Two c =
    let v = c.self.inside.view in
    let raw = c.self.inside.bytes.now in
    let i = c.in-Some.items in
    let same = seen v raw i c.in-Some.is c.self.view_is c.self.invariant c.in-Two.is (omega (arith, long v raw i c.in-Some.is c.self.view_is c.self.invariant c.in-Two.is)) in
    c.put_widened.ensures ∙ ap (λ (xs : List ℕ). overwrite c.args.out.now c.args.at (run 4 xs)) same

pub put_copied-requires : goal.put_copied-requires
put_copied-requires c =
    let v = c.self.inside.view in
    let raw = c.self.inside.bytes.now in
    let i = c.in-Some.items in
    let whole = long v raw i c.in-Some.is c.self.view_is c.self.invariant c.in-Four.is in
    (omega (arith, whole), omega (arith, whole, many v raw i c.in-Some.is c.self.view_is c.self.invariant, c.requires))

pub returns-in-Four : goal.returns-in-Four
returns-in-Four c =
    let v = c.self.inside.view in
    let raw = c.self.inside.bytes.now in
    let i = c.in-Some.items in
    let same = seen v raw i c.in-Some.is c.self.view_is c.self.invariant c.in-Four.is (omega (arith, long v raw i c.in-Some.is c.self.view_is c.self.invariant c.in-Four.is)) in
    c.put_copied.ensures ∙ ap (λ (xs : List ℕ). overwrite c.args.out.now c.args.at (run 4 xs)) same

pub returns-in_default : goal.returns-in_default
unfolding run
returns-in_default c =
    let none = sym (ap (λ (i : Indices). i.items) c.self.view_is) ∙ no_items c.self.inside.view c.self.inside.bytes.now c.in_default.is in
    rw none (sym (overwrite-none c.args.out.now c.args.at))
