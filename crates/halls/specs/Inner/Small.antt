-- Two sections that check 1 passes. What is read of them is small.
use Rattle.std.specs.Prelude.{◌≡◌, List, ℕ, ◌+◌, ◌≤◌, length}
use Rattle.sections.specs.Address.{Sections}
use Rattle.sections.specs.Edit.{overwrite}

pub record Small (s : Sections) : Type 0 where
  pub system : length s.system ≤ 67108864
  pub graphics : length s.graphics ≤ 67108864

-- w written over the bytes of s from `at` on leaves t, and ends at r
abbrev pub Wrote : List ℕ → ℕ → List ℕ → ℕ → List ℕ → Type 0
Wrote s at w r t = (r ≡ at + length w) × (t ≡ overwrite s at w)
