-- A model's record and its geometries, from the bytes of its mapping.
use Rattle.std.specs.Prelude.{Option, Some}
use mathlib.Core.Path.{◌≡◌, sym, ap, ◌∙◌}
use mathlib.Core.List.{List, ◌++◌}
use Prim.Native.Nat.{ℕ, ◌+◌, ◌*◌, ◌/◌, ◌≤◌}
use native.Mathlib.Omega.{arith}
use lib.ListN.{length, length-append}
use Rattle.sections.specs.Address.{Sections, resolved}
use Rattle.sections.specs.Edit.{overwrite}
use Rattle.sections.specs.Le.{bytes}
use Rattle.sections.proofs.EditLaws.{overwrite-then}
use Rattle.sections.proofs.LeLaws.{length-bytes}
use Rattle.vertices.specs.Runs.{run}
use Rattle.vertices.proofs.RunLaws.{length_run, numbers-length}
use Rattle.halls.specs.Blocks.{ModelBlock, model_block}
use Rattle.halls.specs.List.{Model, record_bytes, model_record, write_geometries, write_model, write}
use Rattle.halls.specs.Reading.{or_empty}
use Rattle.halls.specs.Inner.Measure.{whole_numbers}
use Rattle.halls.specs.Inner.Small.{Wrote}
use Rattle.halls.specs.Inner.View.{ListsOf, geometries_at, model_of, model_in}
use Rattle.halls.proofs.read.EachLaws.{each-one}
use Rattle.halls.proofs.read.ModelLaws.{mapping-numbers, pointer-numbers}
use Rattle.halls.proofs.read.ViewLaws.{Record-length}

module _ (m : Model) (mapping : List ℕ) (is : whole_numbers 2 mapping ≡ m.mapping) (even : length mapping / 2 * 2 ≡ length mapping) where
  abbrev geometries : List ℕ
  geometries = write_geometries m.geometries

  abbrev head : ℕ → ℕ → List ℕ
  head binding mask = record_bytes 1 (bytes 4 binding ++ (bytes 2 mask ++ run 2 (whole_numbers 2 mapping)))

  head-length : (binding mask : ℕ) → length (head binding mask) ≡ 12 + length mapping
  head-length binding mask = simp (Record-length, length-append, length-bytes, length_run, numbers-length) (omega (arith, even))

  -- the parts, one behind the other
  parts : head m.binding m.mask ++ geometries ≡ write_model m
  unfolding write_model model_record
  parts = ap (λ (xs : List ℕ). record_bytes 1 (bytes 4 m.binding ++ (bytes 2 m.mask ++ run 2 xs)) ++ geometries) is

  -- how far they reach
  pub model-reach : length (write_model m) ≡ 12 + length mapping + length geometries
  model-reach = ap length (sym parts) ∙ length-append (head m.binding m.mask) geometries ∙ omega (arith, head-length m.binding m.mask)

  pub model-written : (out : List ℕ) (at : ℕ) {binding mask r : ℕ} {one t : List ℕ} → binding ≡ m.binding → mask ≡ m.mask → one ≡ overwrite out at (head binding mask)
      → Wrote one (at + (12 + length mapping)) geometries r t → at + length (write_model m) ≤ length out → Wrote out at (write_model m) r t
  model-written out at {mask = mask} e f w g fit = (
    omega (arith, model-reach, g.0),
    g.1 ∙ ap (λ (x : List ℕ). overwrite x (at + (12 + length mapping)) geometries) w
        ∙ ap (λ k. overwrite (overwrite out at (head k mask)) (at + (12 + length mapping)) geometries) e
        ∙ ap (λ k. overwrite (overwrite out at (head m.binding k)) (at + (12 + length mapping)) geometries) f
        ∙ overwrite-then out at (12 + length mapping) (head m.binding m.mask) geometries (head-length m.binding m.mask) (omega (arith, model-reach))
        ∙ ap (overwrite out at) parts,
  )

-- of a block, by its lists
pub model-parts : (s : Sections) (b : ModelBlock) (pointers : Option (List ℕ)) (mapping : List ℕ) → ListsOf s b pointers mapping
    → record_bytes 1 (bytes 4 b.binding ++ (bytes 2 b.mask ++ run 2 (whole_numbers 2 mapping))) ++ write_geometries (geometries_at s (whole_numbers 2 mapping) (whole_numbers 8 (or_empty pointers)))
    ≡ write_model (model_of s b)
unfolding write_model model_record model_of
model-parts s b pointers mapping l = rw (mapping-numbers s b pointers mapping l, pointer-numbers s b pointers mapping l)

-- the model behind a pointer
pub model_in_lem : (s : Sections) (pointer : ℕ) (raw : List ℕ) → resolved s pointer 0x30 ≡ Some raw → write_model (model_of s (model_block raw)) ≡ write (model_in s (resolved s pointer 0x30))
model_in_lem s pointer raw e = sym (each-one write_model (model_of s (model_block raw))) ∙ ap (λ (o : Option (List ℕ)). write (model_in s o)) (sym e)
