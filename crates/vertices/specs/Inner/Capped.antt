-- Runs converted by any conversion: the bytes needed may be more than 64 bits hold.
use Rattle.std.specs.Prelude.{◌≡◌, cond, List, ℕ, ◌*◌, ◌/◌, ◌-◌, ◌^◌, leb, min, length, drop}
use Rattle.sections.specs.Edit.{overwrite, fits}
use Rattle.vertices.specs.Runs.{converted}
use Rattle.std.specs.Prelude.{Result, Ok, Err}
use Rattle.vertices.specs.declared.runs.NeedsBytes.{NeedsBytes}

-- What the conversion of all whole numbers of s answers, r, and leaves of d, t, as `Converted` and `Widened` say it: where the bytes needed are above the
-- greatest u64, that number stands for them.
pub record Capped (k m : ℕ) (f : ℕ → ℕ) (s d : List ℕ) (r : Result ℕ NeedsBytes) (t : List ℕ) : Type 0 where
  pub answer : r ≡ cond (fits d 0 (length s / k * m)) (Ok (length s / k * m)) (Err (record { 0 = min (length s / k * m) (2 ^ 64 - 1) }))
  pub bytes : t ≡ cond (fits d 0 (length s / k * m)) (overwrite d 0 (converted k m f (length s / k) s)) d

-- the bytes needed, where so many are at hand
abbrev pub fitting : ℕ → ℕ → Result ℕ NeedsBytes
fitting needed room = cond (leb needed room) (Ok needed) (Err (record { 0 = needed }))

-- the whole numbers of s, where d has room for m bytes for each, else the bytes needed
abbrev pub Room : ℕ → ℕ → List ℕ → List ℕ → Result ℕ NeedsBytes → Type 0
Room k m s d r = r ≡ cond (fits d 0 (length s / k * m)) (Ok (length s / k)) (Err (record { 0 = min (length s / k * m) (2 ^ 64 - 1) }))

-- f is what a conversion, told by its calls, makes of each number
abbrev pub Makes : {X Y : Type 0} → (X → Y → Type 0) → (X → ℕ) → (Y → ℕ) → (ℕ → ℕ) → Type 0
Makes {X} {Y} post source target f = (x : X) (y : Y) → post x y → target y ≡ f (source x)

-- d with n numbers of s, from the one with the index `first` on, each converted, to the place with its own index, is t
abbrev pub Placed : ℕ → ℕ → (ℕ → ℕ) → ℕ → ℕ → List ℕ → List ℕ → List ℕ → Type 0
Placed k m f first n s d t = t ≡ overwrite d (first * m) (converted k m f n (drop (first * k) s))
