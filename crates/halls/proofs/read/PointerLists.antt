-- The i-th of a list of numbers, as reading walks along it and as the code reads it.
use mathlib.Core.Path.{◌≡◌, refl, sym, ◌∙◌}
use mathlib.Core.Logic.{◌⊎◌, ⊎_elim}
use mathlib.Core.List.{List, [], ◌∷◌}
use Prim.Native.Nat.{ℕ, zero, suc, ◌+◌, ◌*◌, ◌≤◌, ◌<◌}
use Rattle.std.proofs.lemmas.Bool.{cases_lt}
use native.Mathlib.Nat.{suc-mul, mul-le-mul_right, le_trans}
use native.Mathlib.Omega.{arith}
use lib.ListN.{length, drop, get_or, get_or-eq_default}
use Rattle.sections.specs.Le.{field}
use Rattle.sections.proofs.LeLaws.{field_in, field_out}
use Rattle.vertices.specs.Runs.{numbers}
use Rattle.vertices.proofs.RunLaws.{numbers-get_or, numbers-length}
use Rattle.halls.specs.Reading.{first, rest}

pub below_or : (i n : ℕ) → (i < n) ⊎ (n ≤ i)
below_or i n = cases_lt i n

in-run : (i n k : ℕ) → i < n → i * k + k ≤ n * k
in-run i n k h = rw suc-mul at (mul-le-mul_right k h)

pub first-drop : (i : ℕ) (xs : List ℕ) → first (drop i xs) ≡ get_or xs i 0
first-drop zero [] = refl
first-drop zero (x ∷ xs) = refl
first-drop (suc i) [] = refl
first-drop (suc i) (x ∷ xs) = first-drop i xs

pub rest-drop : (i : ℕ) (xs : List ℕ) → rest (drop i xs) ≡ drop (suc i) xs
rest-drop zero [] = refl
rest-drop zero (x ∷ xs) = refl
rest-drop (suc i) [] = refl
rest-drop (suc i) (x ∷ xs) = rest-drop i xs

-- the i-th of the whole numbers of k bytes in s, 0 behind the last
pub number-field : (k n : ℕ) (s : List ℕ) (i : ℕ) → n * k ≤ length s → length s < n * k + k → get_or (numbers k n s) i 0 ≡ field k s (i * k)
number-field k n s i h l = ⊎_elim
    (λ (q : i < n). numbers-get_or k n i s q ∙ sym (field_in k s (i * k) (le_trans (in-run i n k q) h)))
    (λ (q : n ≤ i). get_or-eq_default (numbers k n s) 0 {n = i} (rw numbers-length q) ∙ sym (field_out k s (i * k) (omega (arith, mul-le-mul_right k q))))
    (below_or i n)
