-- A record's kind, told by its number: what `==` says of it.
use Rattle.std.specs.Prelude.{Option, None, Some, MatchOption, ◌≢◌}
use Rattle.std.specs.Option.{option_eq}
use denote.Enum.Bare.{sameb, same_true, same_false}
use mathlib.Core.Path.{◌≡◌, refl, sym, ap, ◌∙◌}
use mathlib.Core.Bool.{true, false, cond}
use Prim.Native.Nat.{ℕ}
use native.Mathlib.Omega.{arith}
use borrow.Author.Rules.{rules}
use lib.Dec.{eqb}
use Rattle.halls.specs.Inner.Kinds.{kind_number}
use Rattle.halls.specs.contracts.format.kind.RecordKind.{the_type}
use Rattle.halls.specs.declared.format.kind.RecordKind.{RecordKind}
use Rattle.halls.specs.declared.format.kind.RecordKind.TheVariants.{Model, Geometry, Declaration, Vertices, Indices}

-- two kinds have two numbers
back : ℕ → RecordKind
back n = cond (eqb n 1) Model (cond (eqb n 2) Geometry (cond (eqb n 3) Declaration (cond (eqb n 4) Vertices Indices)))

back-is : (kind : RecordKind) → back (kind_number kind) ≡ kind
unfolding back
back-is Model = refl
back-is Geometry = refl
back-is Declaration = refl
back-is Vertices = refl
back-is Indices = refl

-- of a number, the kind that it tells
abbrev Told : ℕ → Option RecordKind → Type 0
Told n o = MatchOption o ((k : RecordKind) → kind_number k ≢ n) (λ k. kind_number k ≡ n)

module _ {n : ℕ} (kind : RecordKind) where
  pub is_kind : (o : Option RecordKind) → Told n o → option_eq (sameb the_type) o (Some kind) ≡ true → n ≡ kind_number kind
  is_kind None m e = let z : ◌≡◌ {A = ℕ} 0 1 = cc in absurd (omega arith)
  is_kind (Some k) m e = sym m ∙ ap kind_number (same_true the_type (search rules) k kind e)

  pub is-not_kind : (o : Option RecordKind) → Told n o → option_eq (sameb the_type) o (Some kind) ≡ false → n ≡ kind_number kind → ⊥
  is-not_kind None m e h = m kind (sym h)
  is-not_kind (Some k) m e h = same_false the_type k kind e (sym (back-is k) ∙ ap back (m ∙ h) ∙ back-is kind)
