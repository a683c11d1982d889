-- Bytes of runs: one of the source is a number of one byte, and one is stored as such a number.
use Rattle.std.specs.Prelude.{Result, Ok, Err}
use mathlib.Core.Path.{◌≡◌, ap}
use mathlib.Core.List.{List}
use Prim.Native.Nat.{ℕ, ◌+◌, ◌-◌, ◌*◌, ◌/◌, ◌^◌, ◌≤◌, ◌<◌, min}
use native.Mathlib.Nat.{mul-one}
use native.Mathlib.Omega.{arith}
use borrow.Author.Tests.{le-leb, lt-leb}
use lib.ListN.{length}
use Rattle.sections.specs.Edit.{overwrite}
use Rattle.sections.proofs.LeLaws.{le-one, one_store}
use Rattle.vertices.specs.ByteRuns.{Widened}
use Rattle.vertices.specs.Runs.{converted, Converted}
use Rattle.vertices.specs.declared.runs.NeedsBytes.{NeedsBytes}

pub ruleset byte_steps = (le-one, one_store)

-- ---- the answers of a conversion to floats

module _ {f : ℕ → ℕ} {s d : List ℕ} where
  -- the bytes fit
  pub Widened-yes : {t : List ℕ} → length s * 4 ≤ length d → t ≡ overwrite d 0 (converted 1 4 f (length s) s) → Widened f s d (Ok (length s * 4)) t
  Widened-yes h e =
      let ok = le-leb (0 + length s * 4) (length d) (omega arith) in
      record { answer = rw ok; bytes = rw ok e }

  -- d is too short
  pub Widened-no : {n : ℕ} → length d < length s * 4 → n ≡ min (length s * 4) (2 ^ 64 - 1) → Widened f s d (Err (record { 0 = n })) d
  Widened-no h e =
      let no = lt-leb (0 + length s * 4) (length d) (omega arith) in
      record { answer = rw no (ap {B = Result ℕ NeedsBytes} (λ (k : ℕ). Err (record { 0 = k })) e); bytes = rw no }

-- ---- the answers of a conversion to bytes

module _ {k : ℕ} {f : ℕ → ℕ} {s d : List ℕ} where
  -- the bytes fit
  pub narrowed_yes : {t : List ℕ} → length s / k ≤ length d → t ≡ overwrite d 0 (converted k 1 f (length s / k) s) → Converted k 1 f s d (Ok (length s / k)) t
  narrowed_yes h e =
      let ok = le-leb (0 + length s / k) (length d) (omega arith) in
      record { answer = rw (mul-one (length s / k), ok); bytes = rw (mul-one (length s / k), ok) e }

  -- d is too short
  pub narrowed_no : length d < length s / k → Converted k 1 f s d (Err (record { 0 = length s / k })) d
  narrowed_no h =
      let no = lt-leb (0 + length s / k) (length d) (omega arith) in
      record { answer = rw (mul-one (length s / k), no); bytes = rw (mul-one (length s / k), no) }
