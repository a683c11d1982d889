-- Runs: little-endian numbers of k bytes each, one after another, and a run converted number by number.
use Rattle.std.specs.Prelude.{◌≡◌, cond, List, [], ◌∷◌, ◌++◌, map, ℕ, zero, suc, ◌*◌, ◌/◌, length, take, drop}
use Rattle.sections.specs.Edit.{overwrite, fits}
use Rattle.sections.specs.Le.{le, bytes}
use Rattle.std.specs.Prelude.{Result, Ok, Err}
use Rattle.vertices.specs.declared.runs.NeedsBytes.{NeedsBytes}

-- the first n numbers of k bytes each in s
unfoldable pub numbers : ℕ → ℕ → List ℕ → List ℕ
numbers k zero s = []
numbers k (suc n) s = le (take k s) ∷ numbers k n (drop k s)

-- the bytes of the numbers xs, k each
unfoldable pub run : ℕ → List ℕ → List ℕ
run k [] = []
run k (x ∷ xs) = bytes k x ++ run k xs

-- the first n numbers of k bytes in s, each converted by f and written in m bytes
unfoldable pub converted : ℕ → ℕ → (ℕ → ℕ) → ℕ → List ℕ → List ℕ
unfolding numbers run
converted k m f n s = run m (map f (numbers k n s))

-- What the conversion of all whole numbers of s answers, r, and leaves of d, t: the bytes written from d's start on, or those needed where d is
-- too short, and then d is unchanged.
pub record Converted (k m : ℕ) (f : ℕ → ℕ) (s d : List ℕ) (r : Result ℕ NeedsBytes) (t : List ℕ) : Type 0 where
  pub answer : r ≡ cond (fits d 0 (length s / k * m)) (Ok (length s / k * m)) (Err (record { 0 = length s / k * m }))
  pub bytes : t ≡ cond (fits d 0 (length s / k * m)) (overwrite d 0 (converted k m f (length s / k) s)) d
