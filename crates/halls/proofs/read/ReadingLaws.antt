-- Readings put together, and what a measure tells of one.
use Rattle.std.specs.Prelude.{Option, None, Some, Result, Ok, Err}
use denote.Bor.{Bor}
use Rattle.std.specs.Option.{ok_or, option_copied}
use Rattle.std.specs.Result.{result_ok, result_err}
use Rattle.std.proofs.lemmas.Option.{same_Some}
use mathlib.Core.Path.{◌≡◌, refl, sym, ap, ◌∙◌}
use mathlib.Core.Bool.{Bool, true, false, cond}
use mathlib.Core.List.{List, [], ◌∷◌, ◌++◌, append_assoc}
use Prim.Native.Nat.{ℕ}
use native.Mathlib.Omega.{arith}
use lib.Dec.{eqb}
use Rattle.halls.specs.Reading.{Reading, refused, read, need, and_then}
use Rattle.halls.specs.Inner.Measure.{measured}
use Rattle.halls.specs.Inner.Measured.{RefusedAs}
use Rattle.halls.specs.declared.answer.Refusal.{Refusal}
use Rattle.halls.specs.declared.read.measure.Measured.{Measured}

pub need-then : {A B : Type 0} (check : ℕ) (o : Option (List ℕ)) (f : List ℕ → Reading A) (g : A → Reading B) → need check o (λ b. and_then (f b) g) ≡ and_then (need check o f) g
need-then check None f g = refl
need-then check (Some b) f g = refl

-- ---- what a reading that was not refused went through

abbrev value_or : {A : Type 0} → A → Reading A → A
value_or default (refused check) = default
value_or default (read x) = x

pub read-injective : {A : Type 0} {x y : A} → read x ≡ read y → x ≡ y
read-injective {x = x} e = ap (value_or x) e

pub not-read : {A : Type 0} {check : ℕ} {x : A} → refused check ≡ read x → ⊥
not-read e = let z : ◌≡◌ {A = ℕ} 0 1 = cc in absurd (omega arith)

pub record Needed {A B : Type 0} (o : Option A) (f : A → Reading B) (y : B) : Type 0 where
  pub found : A
  pub is : o ≡ Some found
  pub onward : f found ≡ read y

pub need-read : {A B : Type 0} (check : ℕ) (o : Option A) (f : A → Reading B) (y : B) → need check o f ≡ read y → Needed o f y
need-read check None f y e = absurd (not-read e)
need-read check (Some b) f y e = record { found = b; is = refl; onward = e }

pub record Joined {A B : Type 0} (r : Reading A) (f : A → Reading B) (y : B) : Type 0 where
  pub value : A
  pub is : r ≡ read value
  pub onward : f value ≡ read y

pub then-read : {A B : Type 0} (r : Reading A) (f : A → Reading B) (y : B) → and_then r f ≡ read y → Joined r f y
then-read (refused check) f y e = absurd (not-read e)
then-read (read x) f y e = record { value = x; is = refl; onward = e }

-- ---- what was read before a reading

unfoldable pub prepend : {A : Type 0} → List A → Reading (List A) → Reading (List A)
prepend done r = and_then r (λ xs. read (done ++ xs))

pub prepend-none : {A : Type 0} (r : Reading (List A)) → r ≡ prepend [] r
unfolding prepend
prepend-none (refused check) = refl
prepend-none (read xs) = refl

pub prepend-one : {A : Type 0} (done : List A) (x : A) (r : Reading (List A)) → prepend done (and_then r (λ xs. read (x ∷ xs))) ≡ prepend (done ++ (x ∷ [])) r
unfolding prepend
prepend-one done x (refused check) = refl
prepend-one done x (read xs) = ap read (sym (append_assoc done (x ∷ []) xs))

pub prepend-then : {A B : Type 0} (done : List B) (r : Reading A) (f : A → Reading (List B)) → prepend done (and_then r f) ≡ and_then r (λ x. prepend done (f x))
unfolding prepend
prepend-then done (refused check) f = refl
prepend-then done (read x) f = refl

-- ---- no refusal has the number 0

abbrev zero_refusal : {A : Type 0} → Reading A → Bool
zero_refusal (refused check) = eqb check 0
zero_refusal (read x) = false

pub record NotZero {A : Type 0} (r : Reading A) : Type 0 where
  pub is : zero_refusal r ≡ false

pub refused-NotZero : {A : Type 0} (check : ℕ) → eqb check 0 ≡ false → NotZero {A = A} (refused check)
refused-NotZero check e = record { is = e }

pub read-NotZero : {A : Type 0} {x : A} → NotZero (read x)
read-NotZero = record { is = refl }

pub cond-NotZero : {A : Type 0} (t : Bool) {x y : Reading A} → NotZero x → NotZero y → NotZero (cond t x y)
cond-NotZero true e f = e
cond-NotZero false e f = f

pub need-NotZero : {A : Type 0} (check : ℕ) (o : Option (List ℕ)) {f : List ℕ → Reading A} → eqb check 0 ≡ false → ((b : List ℕ) → NotZero (f b)) → NotZero (need check o f)
need-NotZero check None e g = refused-NotZero check e
need-NotZero check (Some b) e g = g b

pub then-NotZero : {A B : Type 0} {r : Reading A} {f : A → Reading B} → NotZero r → ((x : A) → NotZero (f x)) → NotZero (and_then r f)
then-NotZero {r = refused check} e g = refused-NotZero check e.is
then-NotZero {r = read x} e g = g x

-- ---- a measure tells whether something was read

pub record ReadAs {A : Type 0} (bytes_of count_of : A → ℕ) (r : Reading A) (v : Measured) : Type 0 where
  pub value : A
  pub is : r ≡ read value
  pub long : v.«length» ≡ bytes_of value
  pub many : v.count ≡ count_of value

abbrev pub measured_or_zero : Result Measured Refusal → Measured
measured_or_zero (Ok v) = v
measured_or_zero (Err e) = record { «length» = 0; count = 0 }

abbrev refusal_or_zero : Result Measured Refusal → Refusal
refusal_or_zero (Ok v) = record { check = 0; needed = 0 }
refusal_or_zero (Err e) = e

module _ {A : Type 0} (bytes_of count_of : A → ℕ) where
  pub read_as : (r : Reading A) (v : Measured) → Ok v ≡ measured bytes_of count_of r → ReadAs bytes_of count_of r v
  read_as (refused check) v e = let z : ◌≡◌ {A = ℕ} 0 1 = cc in absurd (omega arith)
  read_as (read x) v e =
      let m = ap measured_or_zero e in
      record { value = x; is = refl; long = ap (λ (m : Measured). m.«length») m; many = ap (λ (m : Measured). m.count) m }

  -- a refusal is passed on
  pub refused_as : {B : Type 0} (bytesOf' countOf' : B → ℕ) (r : Reading A) (e : Refusal) (f : A → Reading B) → Err e ≡ measured bytes_of count_of r → Err e ≡ measured bytesOf' countOf' (and_then r f)
  refused_as bytesOf' countOf' (refused check) e f q = q
  refused_as bytesOf' countOf' (read x) e f q = let z : ◌≡◌ {A = ℕ} 0 1 = cc in absurd (omega arith)

  -- the number of a refusal
  pub refusal_is : (r : Reading A) (e : Refusal) → Err e ≡ measured bytes_of count_of r → RefusedAs r e
  refusal_is (refused check) e q =
      let w = ap refusal_or_zero q in
      let c : e.check ≡ check = ap (λ (x : Refusal). x.check) w in
      record { is = ap refused (sym c); needs = w ∙ ap (λ (k : ℕ). record { check = k; needed = 0 }) (sym c) }
  refusal_is (read x) e q = let z : ◌≡◌ {A = ℕ} 0 1 = cc in absurd (omega arith)

-- ---- what is there, or a refusal

module _ {A E : Type 0} where
  pub ok_or_some : (o : Option A) (e : E) (x : A) → ok_or o e ≡ Ok x → o ≡ Some x
  ok_or_some None e x q = ap result_ok q
  ok_or_some (Some y) e x q = ap result_ok q

  pub ok_or_none : (o : Option A) (e x : E) → ok_or o e ≡ Err x → (o ≡ None) × (e ≡ x)
  ok_or_none None e x q = (refl, same_Some _ _ (ap result_err q))
  ok_or_none (Some y) e x q = let z : ◌≡◌ {A = ℕ} 0 1 = cc in absurd (omega arith)

-- the same of bytes
module _ {E : Type 0} (o : Option (Bor (List ℕ))) (e : E) {r : Option (List ℕ)} (is : option_copied o ≡ r) where
  pub bytes_found : (x : Bor (List ℕ)) → ok_or o e ≡ Ok x → r ≡ Some x.now
  bytes_found x q = sym is ∙ ap option_copied (ok_or_some o e x q)

  pub bytes_absent : (x : E) → ok_or o e ≡ Err x → (r ≡ None) × (x ≡ e)
  bytes_absent x q =
      let none = ok_or_none o e x q in
      (sym is ∙ ap option_copied none.0, sym none.1)
