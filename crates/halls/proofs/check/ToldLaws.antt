-- What is known behind a `?`: the rank or the verdict of what was asked, at each of its two ends.
use Prim.{Unit, tt}
use Rattle.std.specs.Prelude.{Option, None, Some, Result, Ok, Err}
use Rattle.std.specs.Option.{ok_or}
use Rattle.std.specs.Result.{result_ok}
use Rattle.std.proofs.lemmas.Result.{MatchResult-at_ok, MatchResult-at_err}
use mathlib.Core.Path.{◌≡◌, refl, ap}
use native.Mathlib.Omega.{arith}
use Prim.Native.Nat.{ℕ, ◌≤◌, ◌<◌}
use Rattle.halls.specs.Inner.Order.{passed, check_of, Told}
use Rattle.halls.specs.Inner.Walk.{WhereSound}
use Rattle.halls.specs.Places.{where_sound}
use Rattle.halls.specs.Verdict.{Verdict, Sound, Fails, verdict_result}
use Rattle.halls.specs.declared.answer.Refusal.{Refusal}

-- of a rank
pub told-passed : {rank : ℕ} {r : Result (Unit {0}) Refusal} {x : Unit {0}} → Told rank r → r ≡ Ok x → passed ≤ rank
told-passed {rank} {r} {x} t e = MatchResult-at_ok (λ (y : Unit {0}). passed ≤ rank) (λ (y : Refusal). (rank < passed) × (y ≡ record { check = check_of rank; needed = 0 })) x e t

pub told-fails : {rank : ℕ} {r : Result (Unit {0}) Refusal} {e : Refusal} → Told rank r → r ≡ Err e → (rank < passed) × (e ≡ record { check = check_of rank; needed = 0 })
told-fails {rank} {r} {e} t h = MatchResult-at_err (λ (y : Unit {0}). passed ≤ rank) (λ (y : Refusal). (rank < passed) × (y ≡ record { check = check_of rank; needed = 0 })) e h t

-- of bytes whose checks come to a verdict
pub where-sound : {A : Type 0} {v : Verdict} (P : A → Type 0) {r : Result A Refusal} {x : A} → WhereSound v P r → r ≡ Ok x → (v ≡ Sound) × P x
where-sound {A} {v} P {r} {x} w e = MatchResult-at_ok (λ (y : A). (v ≡ Sound) × P y) (λ (y : Refusal). (v ≡ Fails y.check) × (y.needed ≡ 0)) x e w

pub where-fails : {A : Type 0} {v : Verdict} (P : A → Type 0) {r : Result A Refusal} {e : Refusal} → WhereSound v P r → r ≡ Err e → (v ≡ Fails e.check) × (e.needed ≡ 0)
where-fails {A} {v} P {r} {e} w h = MatchResult-at_err (λ (y : A). (v ≡ Sound) × P y) (λ (y : Refusal). (v ≡ Fails y.check) × (y.needed ≡ 0)) e h w

-- the same where only what is found is kept
some-ok : {A : Type 0} {x : A} (r : Result A Refusal) → result_ok r ≡ Some x → r ≡ Ok x
some-ok (Ok y) e = ap Ok cc
some-ok (Err y) e = let z : ◌≡◌ {A = ℕ} 0 1 = cc in absurd (omega arith)

pub where-some : {A : Type 0} {v : Verdict} (P : A → Type 0) (r : Result A Refusal) {x : A} → WhereSound v P r → result_ok r ≡ Some x → (v ≡ Sound) × P x
where-some P r w e = where-sound P w (some-ok r e)

pub where-none : {A B : Type 0} (v : Verdict) (P : A → Type 0) (r : Result A Refusal) (found : Option B) → WhereSound v P r → result_ok r ≡ None → None ≡ where_sound v found
where-none v P (Ok x) found w e = let z : ◌≡◌ {A = ℕ} 0 1 = cc in absurd (omega arith)
where-none v P (Err y) found w e = rw w.0

-- of an option with a refusal for none
pub or-refused : {A : Type 0} (o : Option A) {x e : Refusal} → ◌≡◌ {A = Result A Refusal} (Err x) (ok_or o e) → (o ≡ None) × (x ≡ e)
or-refused None h = (refl, cc)
or-refused (Some y) h = let z : ◌≡◌ {A = ℕ} 0 1 = cc in absurd (omega arith)

-- of a verdict that is told
pub verdict-passed : (v : Verdict) {x : Unit {0}} → verdict_result v ≡ Ok x → v ≡ Sound
verdict-passed Sound h = refl
verdict-passed (Fails check) {x} h = absurd (MatchResult-at_ok (λ (y : Unit {0}). ⊥) (λ (y : Refusal). Unit {0}) x h tt)

pub verdict-fails : (v : Verdict) {e : Refusal} → verdict_result v ≡ Err e → (v ≡ Fails e.check) × (e.needed ≡ 0)
verdict-fails Sound {e} h = absurd (MatchResult-at_err (λ (y : Unit {0}). Unit {0}) (λ (y : Refusal). ⊥) e h tt)
verdict-fails (Fails check) {e} h = MatchResult-at_err (λ (y : Unit {0}). Unit {0}) (λ (y : Refusal). (Fails check ≡ Fails y.check) × (y.needed ≡ 0)) e h (refl, refl)
