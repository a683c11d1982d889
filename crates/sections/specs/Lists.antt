-- Lists behind a pointer (document 01, "Sections" and "Halls": the LOD header).
use Rattle.std.specs.Prelude.{cond, List, ℕ, ◌*◌, eqb, Option, None, Some, option_map, Result, Ok, Err}
use Rattle.std.specs.Option.{option_map_or}
use Rattle.sections.specs.Le.{field}
use Rattle.sections.specs.Address.{Sections, located, resolved}
use Rattle.sections.specs.declared.lookup.Located.{Located}
use Rattle.sections.specs.declared.lists.Unresolved.{Unresolved}
use Rattle.sections.specs.declared.lists.PointerListHeader.{PointerListHeader}

-- count elements of width bytes behind va: none of an empty list, else where their bytes are
unfoldable pub located_list : Sections → ℕ → ℕ → ℕ → Result (Option Located) Unresolved
located_list s va count width =
    cond (eqb count 0) (Ok None) (cond (eqb va 0) (Ok None) (option_map_or (λ (place : Located). Ok (Some place)) (located s va (count * width)) (Err (record {}))))

-- the fields of a header's 16 bytes
abbrev pub header_of : List ℕ → PointerListHeader
header_of b = record { pointer = field 8 b 0; count = field 2 b 8; capacity = field 2 b 10 }

-- the header behind an address
unfoldable pub header_at : Sections → ℕ → Option PointerListHeader
header_at s va = option_map header_of (resolved s va 16)

-- the count, or the capacity where the count is 0
abbrev pub header_length : PointerListHeader → ℕ
header_length h = cond (eqb h.count 0) h.capacity h.count
