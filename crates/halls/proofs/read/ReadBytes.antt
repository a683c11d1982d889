-- What resolves in sections of bytes is bytes. Said of what may be there, so that each step of reading passes it on.
use Rattle.std.specs.Prelude.{Option, None, Some, unwrap_or, option_map}
use Rattle.std.specs.Option.{option_and_then}
use mathlib.Core.Bool.{Bool, true, false, cond}
use mathlib.Core.List.{List}
use Prim.{Unit}
use Prim.Native.Nat.{ℕ}
use Rattle.sections.specs.Address.{Sections, located, part_of, range_of, resolved}
use Rattle.sections.specs.Edit.{part, fits}
use Rattle.sections.specs.declared.lookup.Located.{Located}
use Rattle.sections.specs.declared.lookup.Located.TheVariants.{System, Graphics}
use Rattle.sections.proofs.EditLaws.{part-below}
use Rattle.halls.proofs.format.BodyLaws.{AllBytes}

-- ---- what may be there has a property

abbrev pub IfThere : {A : Type 0} → (A → Type 0) → Option A → Type 0
IfThere P None = Unit {0}
IfThere P (Some x) = P x

pub there-map : {A B : Type 0} (P : A → Type 0) (Q : B → Type 0) (f : A → B) → ((x : A) → P x → Q (f x)) → (o : Option A) → IfThere P o
    → IfThere Q (option_map f o)
there-map P Q f h None w = tt
there-map P Q f h (Some x) w = h x w

pub there_then : {A B : Type 0} (Q : B → Type 0) (f : A → Option B) → ((x : A) → IfThere Q (f x)) → (o : Option A) → IfThere Q (option_and_then f o)
there_then Q f h None = tt
there_then Q f h (Some x) = h x

pub there_or : {A : Type 0} (P : A → Type 0) (o : Option A) (y : A) → IfThere P o → P y → P (unwrap_or o y)
there_or P None y v w = w
there_or P (Some x) y v w = v

pub there-cond : {A : Type 0} (P : A → Type 0) (t : Bool) (x y : Option A) → IfThere P x → IfThere P y → IfThere P (cond t x y)
there-cond P true x y v w = v
there-cond P false x y v w = w

-- ---- bytes

module _ (s : Sections) (system : AllBytes s.system) (graphics : AllBytes s.graphics) where
  part-there : (l : List ℕ) → AllBytes l → (at n : ℕ) → IfThere AllBytes (part_of l at n)
  unfolding part_of
  part-there l f at n = there-cond AllBytes (fits l at n) (Some (part l at n)) None (part-below l at n f) tt

  pub range_below : (place : Located) (n : ℕ) → IfThere AllBytes (range_of s place n)
  range_below (System at) n = part-there s.system system at n
  range_below (Graphics at) n = part-there s.graphics graphics at n

  pub resolved-below : (address n : ℕ) → IfThere AllBytes (resolved s address n)
  unfolding resolved
  resolved-below address n = there_then AllBytes (λ (place : Located). range_of s place n) (λ place. range_below place n) (located s address n)
