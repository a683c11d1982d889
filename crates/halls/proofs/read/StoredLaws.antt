-- The walks over what is behind the pointers of a list: where the first block resolves, where it does not, and at the end.
use Rattle.std.specs.Prelude.{Option, None, Some, unwrap_or}
use mathlib.Core.Path.{◌≡◌, refl, ap}
use mathlib.Core.List.{List, [], ◌∷◌}
use Prim.Native.Nat.{ℕ, suc, ◌≤◌}
use native.Mathlib.Omega.{arith}
use lib.ListN.{length, length-append}
use denote.Bor.{Bor}
use Rattle.std.specs.Option.{option_copied}
use Rattle.sections.specs.Address.{Sections, resolved}
use Rattle.halls.specs.Blocks.{ModelBlock, geometry_block, model_block}
use Rattle.halls.specs.Reading.{or_empty, rest, geometry_of}
use Rattle.halls.specs.Inner.Measure.{entries_of, whole_numbers}
use Rattle.halls.specs.Inner.View.{ListsOf, geometry_in, geometries_behind, model_of, models_at}
use Rattle.halls.specs.declared.read.entries.Entry.{Entry}
use Rattle.halls.proofs.read.ModelLaws.{mapping-numbers, pointer-numbers}

module _ (s : Sections) where
  pub geometries_end : {es : List Entry} → es ≡ [] → geometries_behind s es ≡ []
  unfolding geometries_behind
  geometries_end e = rw e

  module _ (e : Entry) (es : List Entry) {all : List Entry} (is : all ≡ e ∷ es) where
    pub geometries_found : {raw : List ℕ} → resolved s e.pointer 0x98 ≡ Some raw → geometries_behind s all ≡ geometry_of s e.shader (geometry_block raw) ∷ geometries_behind s es
    unfolding geometries_behind
    geometries_found there = rw (is, there)

    pub geometries_missed : resolved s e.pointer 0x98 ≡ None → geometries_behind s all ≡ geometries_behind s es
    unfolding geometries_behind
    geometries_missed none = rw (is, none)

  -- no more than entries
  one-geometry : (shader : ℕ) (o : Option (List ℕ)) → length (geometry_in s shader o) ≤ 1
  one-geometry shader None = omega arith
  one-geometry shader (Some b) = omega arith

  pub geometries_few : (es : List Entry) → length (geometries_behind s es) ≤ length es
  unfolding geometries_behind
  geometries_few [] = omega arith
  geometries_few (e ∷ es) = rw length-append (omega (arith, one-geometry e.shader (resolved s e.pointer 0x98), geometries_few es))

  pub entries-length : (mapping pointers : List ℕ) → length (entries_of mapping pointers) ≡ length pointers
  entries-length mapping [] = refl
  entries-length mapping (p ∷ ps) = ap suc (entries-length (rest mapping) ps)

  pub models_end : {ps : List ℕ} → ps ≡ [] → models_at s ps ≡ []
  unfolding models_at
  models_end e = rw e

  module _ (p : ℕ) (ps : List ℕ) {all : List ℕ} (is : all ≡ p ∷ ps) where
    pub models_found : {raw : List ℕ} → resolved s p 0x30 ≡ Some raw → models_at s all ≡ model_of s (model_block raw) ∷ models_at s ps
    unfolding models_at
    models_found there = rw (is, there)

    pub models_missed : resolved s p 0x30 ≡ None → models_at s all ≡ models_at s ps
    unfolding models_at
    models_missed none = rw (is, none)

  -- the bytes of a list, none where it does not resolve
  pub found_or_empty : (o : Option (Bor (List ℕ))) (none : Bor (List ℕ)) → none.now ≡ [] → (unwrap_or o none).now ≡ or_empty (option_copied o)
  found_or_empty None none e = e
  found_or_empty (Some b) none e = refl

  -- the geometries of a model are those behind its lists
  pub model_geometries : (b : ModelBlock) (pointers : Option (List ℕ)) (mapping : List ℕ) {found : List ℕ} → ListsOf s b pointers mapping → found ≡ or_empty pointers
      → geometries_behind s (entries_of (whole_numbers 2 mapping) (whole_numbers 8 found)) ≡ (model_of s b).geometries
  unfolding model_of
  model_geometries b pointers mapping l e =
      rw (e, mapping-numbers s b pointers mapping l, pointer-numbers s b pointers mapping l)
