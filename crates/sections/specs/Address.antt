-- Where an address points (document 01, "Sections").
use Rattle.std.specs.Prelude.{Option, None, Some, option_and_then}
use Rattle.std.specs.Prelude.{Bool, cond, ◌&&◌, List, ℕ, ◌-◌, ◌/◌, ◌%◌, ◌^◌, leb, eqb, length}
use Rattle.sections.specs.Edit.{part, fits}
use Rattle.sections.specs.declared.lookup.Located.{Located}
use Rattle.sections.specs.declared.lookup.Located.TheVariants.{System, Graphics}
use Rattle.sections.specs.declared.reader.ResReader.{ResReader}

pub record Sections : Type 0 where
  pub system : List ℕ
  pub graphics : List ℕ

abbrev pub sections : List ℕ → List ℕ → Sections
sections s g = record { system = s; graphics = g }

-- the bytes of the two slices that a reader holds
abbrev pub sections_of : ResReader → Sections
sections_of r = sections r.system.now r.graphics.now

-- check 1: both have at most 67,108,864 bytes
unfoldable pub within_limit : Sections → Bool
within_limit s = leb (length s.system) 67108864 && leb (length s.graphics) 67108864

-- bit k of x
abbrev pub bit : ℕ → ℕ → ℕ
bit k x = x / 2 ^ k % 2

-- bits j and k of x are both set
unfoldable pub both_set : ℕ → ℕ → ℕ → Bool
both_set j k x = eqb (bit j x) 1 && eqb (bit k x) 1

-- a range that starts at an offset, if it ends inside a section
abbrev pub within : (ℕ → Located) → List ℕ → ℕ → ℕ → Option Located
within place s at n = cond (fits s at n) (Some (place at)) None

-- where the n bytes behind an address lie
unfoldable pub located : Sections → ℕ → ℕ → Option Located
located s va n =
    cond (eqb va 0) None
    (cond (both_set 30 29 va) (within Graphics s.graphics (va - 0x60000000) n)
    (cond (both_set 30 28 va) (within System s.system (va - 0x50000000) n)
    None))

-- the n bytes of s from an offset on, if they end inside s
unfoldable pub part_of : List ℕ → ℕ → ℕ → Option (List ℕ)
part_of s at n = cond (fits s at n) (Some (part s at n)) None

-- the n bytes of a place
abbrev pub range_of : Sections → Located → ℕ → Option (List ℕ)
range_of s (System at) n = part_of s.system at n
range_of s (Graphics at) n = part_of s.graphics at n

-- the n bytes behind an address
unfoldable pub resolved : Sections → ℕ → ℕ → Option (List ℕ)
resolved s va n = option_and_then (λ (place : Located). range_of s place n) (located s va n)
