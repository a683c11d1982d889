-- The sizes of a declaration's components, added up flag by flag.
use mathlib.Core.Path.{◌≡◌, refl}
use mathlib.Core.List.{List}
use Prim.Native.Nat.{ℕ, ◌+◌, ◌-◌, ◌/◌, ◌%◌, ◌≤◌, ◌<◌}
use native.Mathlib.Omega.{arith}
use Rattle.vertices.specs.Types.{component_type_of, size_of}
use Rattle.vertices.specs.Declaration.{components_from, sizes}
use Rattle.vertices.specs.declared.types.VertexComponent.{VertexComponent}
use Rattle.vertices.proofs.ComponentWalk.{Walking, walking_set, walking_clear, walking_end}
use Rattle.vertices.proofs.TypeLaws.{size-bound}

-- the sizes so far and those of the components that are left are all sizes; the next component would stand at their sum
pub record Summing (all index flags types total : ℕ) : Type 0 where
  pub left : List VertexComponent
  pub walking : Walking left index flags types total
  pub same : total + sizes left ≡ all

pub summing_start : (flags types : ℕ) → Summing (sizes (components_from 16 0 flags types 0)) 0 flags types 0
summing_start flags types = record {
  left = components_from 16 0 flags types 0;
  walking = record { same = refl; bound = omega arith; room = omega arith };
  same = omega arith;
}

module _ {all index flags types total : ℕ} (s : Summing all index flags types total) where
  pub summing_set : {next : ℕ} → index < 16 → flags % 2 ≡ 1 → next ≡ total + size_of (component_type_of (types % 16)) → Summing all (index + 1) (flags / 2) (types / 16) next
  unfolding sizes
  summing_set {next} low e n =
      let split = walking_set s.walking low e in
      record {
        left = components_from (16 - (index + 1)) (index + 1) (flags / 2) (types / 16) next;
        walking = record { same = refl; bound = omega arith; room = omega (arith, size-bound (component_type_of (types % 16)), s.walking.room) };
        same = let whole = rw split at s.same in rw n (omega (arith, whole));
      }

  pub Summing-clear : {next : ℕ} → index < 16 → (flags % 2 ≡ 1 → ⊥) → next ≡ total → Summing all (index + 1) (flags / 2) (types / 16) next
  Summing-clear low e n = record { left = s.left; walking = rw n (walking_clear s.walking low e); same = rw n s.same }

  pub Summing-end : 16 ≤ index → total ≡ all
  unfolding sizes
  Summing-end h = let none = walking_end s.walking (λ low. absurd (omega arith)) in omega (arith, rw none at s.same)
