-- Numbers as little-endian bytes.
use Rattle.std.specs.Prelude.{cond, List, [], ◌∷◌, ℕ, zero, suc, ◌+◌, ◌*◌, ◌/◌, ◌%◌}
use Rattle.sections.specs.Edit.{part, fits}

-- the number that bytes say, the lowest first
unfoldable pub le : List ℕ → ℕ
le [] = 0
le (b ∷ bs) = b + 256 * le bs

-- the k lowest bytes of v, the lowest first
unfoldable pub bytes : ℕ → ℕ → List ℕ
bytes zero v = []
bytes (suc k) v = v % 256 ∷ bytes k (v / 256)

-- the number that the k bytes of s from `at` on say, 0 where they do not end inside s
unfoldable pub field : ℕ → List ℕ → ℕ → ℕ
field k s at = cond (fits s at k) (le (part s at k)) 0
