-- Parts of a byte list, and the one edit that every writer is stated by.
use Rattle.std.specs.Prelude.{◌≡◌, Bool, cond, List, ◌++◌, ℕ, ◌+◌, length, take, drop, leb}

-- the n bytes of s from `at` on
unfoldable pub part : List ℕ → ℕ → ℕ → List ℕ
part s at n = take n (drop at s)

-- s with vs in the place of the bytes from `at` on
unfoldable pub overwrite : List ℕ → ℕ → List ℕ → List ℕ
overwrite s at vs = take at s ++ vs ++ drop (at + length vs) s

-- n bytes from `at` on end inside s
abbrev pub fits : List ℕ → ℕ → ℕ → Bool
fits s at n = leb (at + n) (length s)

-- What a total edit of s answers, r, and leaves, t: done where ok, else nothing changes.
pub record Edited (ok : Bool) (s : List ℕ) (at : ℕ) (vs : List ℕ) (r : Bool) (t : List ℕ) : Type 0 where
  pub answer : r ≡ ok
  pub bytes : t ≡ cond ok (overwrite s at vs) s
