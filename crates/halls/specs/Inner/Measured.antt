-- A list as checks 1 to 6 leave it: refused, or the pointers to its models and how long their records are. Private contracts speak of this.
use Rattle.std.specs.Prelude.{Option, unwrap_or}
use Rattle.std.specs.Prelude.{cond, ◌≡◌, List, ℕ, ◌^◌, ◌<◌, ◌≤◌, length}
use Rattle.sections.specs.Address.{Sections, within_limit, sections_of}
use Rattle.sections.specs.Lists.{header_at}
use Rattle.sections.specs.declared.lists.PointerListHeader.{PointerListHeader}
use Rattle.halls.specs.List.{Model, write}
use Rattle.halls.specs.Inner.Measure.{whole_numbers, geometries_in}
use Rattle.halls.specs.Inner.View.{models_at}
use Rattle.halls.specs.Reading.{Reading, refused, read, read_list}
use Rattle.halls.specs.declared.answer.Refusal.{Refusal}
use Rattle.halls.specs.declared.read.measure.MeasuredList.{MeasuredList}

-- ---- the header at an address; where it does not resolve, that of an empty list

abbrev pub or_empty_list : Option PointerListHeader → PointerListHeader
or_empty_list h = unwrap_or h (record { pointer = 0; count = 0; capacity = 0 })

abbrev pub header_or_empty : Sections → ℕ → PointerListHeader
header_or_empty s va = or_empty_list (header_at s va)

-- ---- the list behind it

-- check 1, then what reading says
unfoldable pub list_read : Sections → ℕ → Reading (List Model)
list_read s va = cond (within_limit s) (read_list s va) (refused 1)

-- a refusal, and what it says
pub record RefusedAs {A : Type 0} (r : Reading A) (e : Refusal) : Type 0 where
  pub is : r ≡ refused e.check
  pub needs : e ≡ record { check = e.check; needed = 0 }

-- these are the models that are read
pub record ListMeasured (s : Sections) (va : ℕ) (list : MeasuredList) : Type 0 where
  pub sections_are : (sections_of list.limited.reader.now) ≡ s
  pub is : list_read s va ≡ read (models_at s (whole_numbers 8 list.pointers.now))
  pub long : length (write (models_at s (whole_numbers 8 list.pointers.now))) ≡ list.«length»
  pub few : geometries_in (models_at s (whole_numbers 8 list.pointers.now)) ≤ 16384
  pub short : length (whole_numbers 8 list.pointers.now) < 2 ^ 17
