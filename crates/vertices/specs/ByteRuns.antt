-- Runs of bytes converted to floats. Four bytes for each byte of a source may be more than 64 bits hold.
use Rattle.std.specs.Prelude.{◌≡◌, cond, List, ℕ, ◌*◌, ◌-◌, ◌^◌, min, length}
use Rattle.sections.specs.Edit.{overwrite, fits}
use Rattle.vertices.specs.Runs.{converted}
use Rattle.std.specs.Prelude.{Result, Ok, Err}
use Rattle.vertices.specs.declared.runs.NeedsBytes.{NeedsBytes}

-- What the conversion of all bytes of s answers, r, and leaves of d, t: the bytes written from d's start on, or those needed where d is too short,
-- and then d is unchanged. Where the bytes needed are above the greatest u64, that number stands for them.
pub record Widened (f : ℕ → ℕ) (s d : List ℕ) (r : Result ℕ NeedsBytes) (t : List ℕ) : Type 0 where
  pub answer : r ≡ cond (fits d 0 (length s * 4)) (Ok (length s * 4)) (Err (record { 0 = min (length s * 4) (2 ^ 64 - 1) }))
  pub bytes : t ≡ cond (fits d 0 (length s * 4)) (overwrite d 0 (converted 1 4 f (length s) s)) d
