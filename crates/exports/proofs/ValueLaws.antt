-- Values that C passes.
use Rattle.std.specs.Prelude.{Result}
use mathlib.Core.Path.{◌≡◌, refl, sym, ap, subst, ◌∙◌}
use mathlib.Core.List.{List}
use mathlib.Core.Bool.{Bool, true, false, cond, ◌&&◌}
use native.Mathlib.Omega.{arith}
use Prim.Native.Nat.{ℕ, zero, suc, ◌≤◌, ◌<◌}
use borrow.Author.Tests.{le-leb, lt-leb}
use Rattle.std.proofs.lemmas.Bool.{leb-true}
use lib.ListN.{get_or, get_or-eq_default}
use Rattle.vertices.specs.declared.attribute.VertexAttributeValue.{VertexAttributeValue}
use Rattle.vertices.specs.declared.attribute.VertexAttributeValue.TheVariants.{Bytes, Unsupported}
use Rattle.halls.specs.Calls.{set_attribute}
use Rattle.halls.specs.Step.{Stepped}
use Rattle.halls.specs.declared.answer.Refusal.{Refusal}
use Rattle.exports.specs.Editing.{ToldStep}
use Rattle.exports.specs.Passed.{passed_bytes, passed_value, shapes}
use Rattle.exports.specs.Told.{answer_number, answer_length}

-- an attribute set to the value v, which is the w that was meant: its step, told as a number and a length
pub value_told : {model geometry vertex semantic : ℕ} {v w : VertexAttributeValue} {b : List ℕ} {n : ℕ} {a : Result ℕ Refusal} {t : List ℕ} {r m : ℕ} → v ≡ w → Stepped (set_attribute model geometry vertex semantic v) b n a t → r ≡ answer_number a → m ≡ answer_length a
    → ToldStep (set_attribute model geometry vertex semantic w) b n r t m
value_told {model} {geometry} {vertex} {semantic} {v} {w} {b} {n} {a} {t} {r} {m} e s f g =
    subst (λ x. ToldStep (set_attribute model geometry vertex semantic x) b n r t m) e (record { number = f ∙ ap answer_number s.answer; buffer = s.bytes; size = g ∙ ap answer_length s.answer })

-- a value is its shape's entry of the table; 0 and those from 6 on have none
pub passed_value_lem : (shape x y z w : ℕ) → passed_value shape x y z w ≡ get_or (shapes x y z w) shape Unsupported
unfolding passed_value
passed_value_lem shape x y z w = refl

pub passed-other : (shape x y z w : ℕ) → (1 ≤ shape → 6 ≤ shape) → Unsupported ≡ passed_value shape x y z w
unfolding passed_value
passed-other zero x y z w h = refl
passed-other (suc shape) x y z w h = sym (get_or-eq_default (shapes x y z w) Unsupported (h (omega arith)))

-- four bytes, and numbers of which one is none
pub bytes-passed : (a b c d : ℕ) → a ≤ 255 → b ≤ 255 → c ≤ 255 → d ≤ 255 → Bytes (record { a = a; b = b; c = c; d = d }) ≡ passed_bytes a b c d
unfolding passed_bytes
bytes-passed a b c d e f g h = rw (le-leb a 255 e, le-leb b 255 f, le-leb c 255 g, le-leb d 255 h) refl

pub second_none : (a b c d : ℕ) → a ≤ 255 → 255 < b → Unsupported ≡ passed_bytes a b c d
unfolding passed_bytes
second_none a b c d e f = rw (le-leb a 255 e, lt-leb b 255 f) refl

none_of : (p q r s : Bool) (v : VertexAttributeValue) → (p ≡ true → q ≡ true → r ≡ true → s ≡ true → ⊥) → Unsupported ≡ cond (p && q && r && s) v Unsupported
none_of false q r s v h = refl
none_of true false r s v h = refl
none_of true true false s v h = refl
none_of true true true false v h = refl
none_of true true true true v h = absurd (h refl refl refl refl)

pub none-passed : (a b c d : ℕ) → (a ≤ 255 → b ≤ 255 → c ≤ 255 → d ≤ 255 → ⊥) → Unsupported ≡ passed_bytes a b c d
unfolding passed_bytes
none-passed a b c d h = none_of _ _ _ _ _ (λ p q r s. h (leb-true a 255 p) (leb-true b 255 q) (leb-true c 255 r) (leb-true d 255 s))
