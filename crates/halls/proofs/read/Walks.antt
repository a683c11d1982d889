-- The models and geometries behind the first i pointers of a list, by the bytes of the pointers.
use Rattle.std.specs.Prelude.{Option, None}
use mathlib.Core.Path.{◌≡◌, refl, sym, ap, ◌∙◌}
use mathlib.Core.List.{List, [], ◌++◌}
use Prim.Native.Nat.{ℕ, suc, ◌*◌, ◌/◌, ◌≤◌, ◌<◌}
use native.Mathlib.Omega.{arith}
use lib.ListN.{length, drop, get_or, drop_of_length-le}
use lib.Seq.{drop-cons}
use Rattle.sections.specs.Address.{Sections, resolved}
use Rattle.sections.specs.Le.{field}
use Rattle.vertices.specs.Runs.{numbers}
use Rattle.vertices.proofs.RunLaws.{numbers-length}
use Rattle.halls.specs.List.{Geometry, Model}
use Rattle.halls.specs.Inner.View.{geometry_in, geometries_behind, geometries_at, model_in, models_at}
use Rattle.halls.proofs.read.PointerLists.{first-drop, rest-drop, number-field}

module _ (s : Sections) (pointers : List ℕ) where
  abbrev addresses : List ℕ
  addresses = numbers 8 (length pointers / 8) pointers

  address-at : (i pointer : ℕ) → pointer ≡ field 8 pointers (i * 8) → get_or addresses i 0 ≡ pointer
  address-at i pointer e = number-field 8 (length pointers / 8) pointers i (omega arith) (omega arith) ∙ sym e

  abbrev pub models_left : ℕ → List Model
  models_left i = models_at s (drop i addresses)

  pub models-none : (i : ℕ) → length pointers / 8 ≤ i → models_left i ≡ []
  unfolding models_at
  models-none i h = let short : length addresses ≤ i = rw numbers-length h in rw (drop_of_length-le addresses short)

  pub models-next : (i pointer : ℕ) → i < length pointers / 8 → pointer ≡ field 8 pointers (i * 8) → models_left i ≡ model_in s (resolved s pointer 0x30) ++ models_left (suc i)
  unfolding models_at
  models-next i pointer more e = rw (drop-cons addresses i 0 (rw numbers-length more), address-at i pointer e)

  -- a pointer whose block does not resolve has none
  pub models-skip : (i pointer : ℕ) → i < length pointers / 8 → pointer ≡ field 8 pointers (i * 8) → resolved s pointer 0x30 ≡ None → models_left i ≡ models_left (suc i)
  models-skip i pointer more e none = models-next i pointer more e ∙ ap (λ (o : Option (List ℕ)). model_in s o ++ models_left (suc i)) none

  module _ (mapping : List ℕ) where
    abbrev shaders : List ℕ
    shaders = numbers 2 (length mapping / 2) mapping

    shader-at : (i shader : ℕ) → shader ≡ field 2 mapping (i * 2) → get_or shaders i 0 ≡ shader
    shader-at i shader e = number-field 2 (length mapping / 2) mapping i (omega arith) (omega arith) ∙ sym e

    abbrev pub geometries_left : ℕ → List Geometry
    geometries_left i = geometries_at s (drop i shaders) (drop i addresses)

    pub geometries-none : (i : ℕ) → length pointers / 8 ≤ i → geometries_left i ≡ []
    unfolding geometries_behind
    geometries-none i h = let short : length addresses ≤ i = rw numbers-length h in rw (drop_of_length-le addresses short)

    pub geometries-next : (i shader pointer : ℕ) → i < length pointers / 8 → shader ≡ field 2 mapping (i * 2) → pointer ≡ field 8 pointers (i * 8)
        → geometries_left i ≡ geometry_in s shader (resolved s pointer 0x98) ++ geometries_left (suc i)
    unfolding geometries_behind
    geometries-next i shader pointer more p q =
        rw (drop-cons addresses i 0 (rw numbers-length more), first-drop i shaders, rest-drop i shaders, shader-at i shader p, address-at i pointer q)

    pub geometries-skip : (i pointer : ℕ) → i < length pointers / 8 → pointer ≡ field 8 pointers (i * 8) → resolved s pointer 0x98 ≡ None → geometries_left i ≡ geometries_left (suc i)
    geometries-skip i pointer more q none =
        let shader : ℕ = field 2 mapping (i * 2) in
        geometries-next i shader pointer more refl q ∙ ap (λ (o : Option (List ℕ)). geometry_in s shader o ++ geometries_left (suc i)) none
