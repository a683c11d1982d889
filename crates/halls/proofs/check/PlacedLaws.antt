-- What is known where a geometry of a hall was looked for: the hall is sound and has it at those places, or a check of the hall refuses, or 21.
use Rattle.std.specs.Prelude.{Option, None, Some, is_some, Result, Ok, Err}
use Rattle.std.specs.Result.{result_ok}
use mathlib.Core.Path.{◌≡◌, refl, sym, ap, ◌∙◌}
use Prim.Native.Nat.{ℕ, ◌<◌}
use native.Mathlib.Omega.{arith}
use lib.ListN.{get_or}
use mathlib.Core.List.{List}
use Rattle.halls.specs.Calls.{Call, proposed, on_geometry}
use Rattle.halls.specs.Checks.{require, hall_verdict}
use Rattle.halls.specs.Hall.{Hall}
use Rattle.halls.specs.Inner.Walk.{behind, PlacedIn, PlacedFirst}
use Rattle.halls.specs.Places.{geometry_place, geometry_found}
use Rattle.halls.specs.Reading.{Reading}
use Rattle.halls.specs.State.{Geometry, Model}
use Rattle.halls.specs.Step.{state_in, Stepped}
use Rattle.halls.specs.Verdict.{Verdict, Sound, Fails}
use Rattle.halls.specs.declared.answer.Refusal.{Refusal}
use Rattle.halls.specs.declared.check.find.GeometryPlace.{GeometryPlace}
use Rattle.halls.specs.declared.check.find.PlacedGeometry.{PlacedGeometry}
use Rattle.halls.proofs.StateLaws.{SoundBytes, SoundBytes_lem}
use Rattle.halls.proofs.check.FoundLaws.{geometry_found-sound}
use Rattle.halls.proofs.check.SpotLaws.{Spot, spot, Found-there, not_there}
use Rattle.halls.proofs.check.ToldLaws.{where-sound, where-some, where-fails}
use Rattle.halls.proofs.edit.StepLaws.{hall_in, Old, old, stays_refused, stays_barred}

-- ---- a verdict, and then another

behind-sound : (v next : Verdict) → behind v next ≡ Sound → v ≡ Sound
behind-sound Sound next e = refl
behind-sound (Fails k) next e = e

abbrev there : Option GeometryPlace → Verdict
there o = require 21 (is_some o) Sound

-- the check that fails is the hall's, or 21
data Lacks (v : Verdict) (o : Option GeometryPlace) (check : ℕ) : Type 0 where
  of_hall : v ≡ Fails check → Lacks v o check
  of_geometry : v ≡ Sound → o ≡ None → check ≡ 21 → Lacks v o check

lacks : (v : Verdict) (o : Option GeometryPlace) {check : ℕ} → behind v (there o) ≡ Fails check → Lacks v o check
lacks Sound None e = of_geometry refl refl (sym cc)
lacks Sound (Some p) e = let z : ◌≡◌ {A = ℕ} 0 1 = cc in absurd (omega arith)
lacks (Fails k) o e = of_hall e

module _ (b : List ℕ) (n m g : ℕ) (below : (i : ℕ) → get_or b i 0 < 256) where
  -- ---- where it was found

  pub placed : {r : Result PlacedGeometry Refusal} {x : PlacedGeometry} → PlacedFirst b n m g r → r ≡ Ok x → PlacedIn (hall_in b n) m g x
  placed w e = (where-sound _ w e).1

  pub placed-old : {r : Result PlacedGeometry Refusal} {x : PlacedGeometry} → PlacedFirst b n m g r → r ≡ Ok x → Old b n
  placed-old w e = old b n below (behind-sound (hall_verdict b n) _ (where-sound _ w e).0)

  pub placed-spot : {r : Result PlacedGeometry Refusal} {x : PlacedGeometry} → PlacedFirst b n m g r → r ≡ Ok x → Spot b n m g x.places.geometry
  placed-spot {r} {x} w e = spot (placed-old w e) m g x.places.geometry (Found-there b n m g x.places (sym (placed w e).there))

  -- and the finder's answer
  sound_bytes : hall_verdict b n ≡ Sound → SoundBytes b n
  sound_bytes v = SoundBytes_lem b n below v

  pub placed_found : (r : Result PlacedGeometry Refusal) {x : PlacedGeometry} → PlacedFirst b n m g r → result_ok r ≡ Some x → Some x.places ≡ geometry_found b n m g
  placed_found r w e =
      let found = where-some _ r w e in
      let v = behind-sound (hall_verdict b n) _ found.0 in
      sym found.1.there ∙ sym (geometry_found-sound v (sound_bytes v) m g)

  -- ---- where it was not

  none-found : {check : ℕ} → Lacks (hall_verdict b n) (geometry_place (hall_in b n) m g) check → None ≡ geometry_found b n m g
  unfolding geometry_found
  none-found (of_hall v) = rw v
  none-found (of_geometry v o k) = sym o ∙ sym (geometry_found-sound v (sound_bytes v) m g)

  pub unplaced-found : (r : Result PlacedGeometry Refusal) → PlacedFirst b n m g r → result_ok r ≡ None → None ≡ geometry_found b n m g
  unplaced-found (Ok x) w h = let z : ◌≡◌ {A = ℕ} 0 1 = cc in absurd (omega arith)
  unplaced-found (Err e) w h = none-found (lacks (hall_verdict b n) (geometry_place (hall_in b n) m g) w.0)

  module _ (c : Call) (f : Model → Geometry → Reading Hall) (is : proposed c (state_in b n) ≡ on_geometry m g (state_in b n) f) {e : Refusal} (z : e.needed ≡ 0) where
    by-check : Lacks (hall_verdict b n) (geometry_place (hall_in b n) m g) e.check → Stepped c b n (Err e) b
    by-check (of_hall v) = stays_refused c b n (v, z)
    by-check (of_geometry v o k) =
        let refusal : e ≡ record { check = 21; needed = 0 } = rw (sym k, sym z) refl in
        let hall = old b n below v in
        let s = stays_barred c b n hall 21 (is ∙ not_there hall m g f (sym o)) in
        record { answer = ap {B = Result (ℕ) Refusal} Err refusal ∙ s.answer; bytes = s.bytes }

  -- a call on it stays as the old hall is
  pub stays_unplaced : (c : Call) (f : Model → Geometry → Reading Hall) → proposed c (state_in b n) ≡ on_geometry m g (state_in b n) f
      → {r : Result PlacedGeometry Refusal} {e : Refusal} → PlacedFirst b n m g r → r ≡ Err e → Stepped c b n (Err e) b
  stays_unplaced c f is w h =
      let fails = where-fails _ w h in
      by-check c f is fails.1 (lacks (hall_verdict b n) (geometry_place (hall_in b n) m g) fails.0)
