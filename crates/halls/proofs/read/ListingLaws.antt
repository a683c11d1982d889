-- What the list behind a LOD header comes to, check by check, and what the hall list call makes of it.
use Rattle.std.specs.Prelude.{Option, None, Some, option_map, Result, Ok, Err}
use Rattle.std.proofs.lemmas.Option.{none-some, same_Some}
use mathlib.Core.Path.{◌≡◌, refl, sym, ap, ◌∙◌}
use mathlib.Core.Bool.{Bool, true, false, cond}
use mathlib.Core.List.{List}
use Prim.Native.Nat.{ℕ, ◌/◌, ◌^◌, ◌≤◌, ◌<◌}
use native.Mathlib.Omega.{arith}
use borrow.Author.Tests.{le-leb, lt-leb}
use lib.ListN.{length}
use Rattle.sections.specs.Address.{Sections, resolved, within_limit, sections_of}
use Rattle.sections.specs.Lists.{header_length, header_of, header_at}
use Rattle.sections.specs.declared.lists.PointerListHeader.{PointerListHeader}
use Rattle.halls.specs.List.{Model, write}
use Rattle.halls.specs.Listing.{fitted, hall_list}
use Rattle.halls.specs.Inner.Measure.{list_bytes, whole_numbers, measured_models, geometries_in}
use Rattle.halls.specs.Inner.Measured.{RefusedAs, ListMeasured, or_empty_list, header_or_empty, list_read}
use Rattle.halls.specs.Outcome.{Outcome, refusal, written, answer_of, after}
use Rattle.halls.specs.Reading.{Reading, refused, read, need, or_empty, list_at, read_models, read_header, read_list}
use Rattle.halls.specs.Inner.View.{models_at}
use Rattle.halls.specs.declared.answer.Refusal.{Refusal}
use Rattle.halls.specs.declared.read.measure.Measured.{Measured}
use Rattle.halls.specs.declared.read.measure.MeasuredList.{MeasuredList}
use Rattle.vertices.proofs.RunLaws.{numbers-length}
use Rattle.halls.proofs.read.ListBytes.{list_short, list_absent, list_found}
use Rattle.halls.proofs.read.ReadingLaws.{read_as, refusal_is}
use Rattle.halls.proofs.read.ReadFew.{read-few}
use Rattle.halls.proofs.read.SecondPass.{models-read}

-- ---- the list behind a header

-- a header that does not resolve reads as that of an empty list
header_read : (s : Sections) (o : Option (List ℕ)) → read_header s o
    ≡ need 2 (list_at s 8 (header_length (or_empty_list (option_map header_of o))) (or_empty_list (option_map header_of o)).pointer) (read_models s 0)
unfolding list_at read_models
header_read s None = refl
header_read s (Some b) = refl

-- one that resolves, by its own count and pointer
header_injective : {h k : PointerListHeader} → Some h ≡ Some k → h ≡ k
header_injective {h} {k} e = same_Some h k e

by_header : (s : Sections) (o : Option (List ℕ)) (h : PointerListHeader) → option_map header_of o ≡ Some h → read_header s o ≡ need 2 (list_at s 8 (header_length h) h.pointer) (read_models s 0)
by_header s None h e = absurd (none-some h e)
by_header s (Some b) h e = ap (λ (k : PointerListHeader). need 2 (list_at s 8 (header_length k) k.pointer) (read_models s 0)) (header_injective e)

module _ (s : Sections) (va : ℕ) where
  -- check 1
  pub limit_exceeded : within_limit s ≡ false → list_read s va ≡ refused 1
  unfolding list_read
  limit_exceeded e = rw e

  module _ (within : within_limit s ≡ true) (h : PointerListHeader) (is : h ≡ header_or_empty s va) (count : ℕ) (counted : count ≡ header_length h) where
    pub header_found : list_read s va ≡ need 2 (list_at s 8 count h.pointer) (read_models s 0)
    unfolding list_read read_list header_at
    header_found =
        rw within
        (header_read s (resolved s va 16)
        ∙ ap (λ (k : PointerListHeader). need 2 (list_at s 8 (header_length k) k.pointer) (read_models s 0)) (sym is)
        ∙ ap (λ (k : ℕ). need 2 (list_at s 8 k h.pointer) (read_models s 0)) (sym counted))

    -- check 2
    pub Listing-absent : list_bytes s 8 count h.pointer ≡ None → list_read s va ≡ refused 2
    Listing-absent e = header_found ∙ list_absent s 8 count h.pointer (omega arith) (omega arith) 2 (read_models s 0) e

    module _ (pointers : List ℕ) (there : list_bytes s 8 count h.pointer ≡ Some pointers) where
      abbrev reading : Reading (List Model)
      reading = read_models s 0 (whole_numbers 8 pointers)

      as_read : list_read s va ≡ reading
      as_read = header_found ∙ list_found s 8 count h.pointer (omega arith) (omega arith) 2 (read_models s 0) pointers there

      pub few_pointers : count ≤ 65535 → length (whole_numbers 8 pointers) < 2 ^ 17
      few_pointers small =
          let few = list_short s 8 count h.pointer (omega (arith, small)) (omega arith) in
          omega (arith, few, ap (λ (o : Option (List ℕ)). length (or_empty o)) there, numbers-length 8 (length pointers / 8) pointers)

      -- checks 3 to 6
      pub Listing-refused : (e : Refusal) → Err e ≡ measured_models reading → RefusedAs (list_read s va) e
      Listing-refused e same =
          let no = refusal_is (λ (ms : List Model). length (write ms)) geometries_in reading e same in
          record { is = as_read ∙ no.is; needs = no.needs }

      -- the second pass writes as many bytes as the first has counted
      pub Listing-length : count ≤ 65535 → (v : Measured) → Ok v ≡ measured_models reading → (list : MeasuredList) → (sections_of list.limited.reader.now) ≡ s → list.pointers.now ≡ pointers
          → list.«length» ≡ v.«length» → ListMeasured s va list
      Listing-length small v same list from are long =
          let got = read_as (λ (ms : List Model). length (write ms)) geometries_in reading v same in
          let models : models_at s (whole_numbers 8 list.pointers.now) ≡ got.value = ap (λ (b : List ℕ). models_at s (whole_numbers 8 b)) are ∙ models-read s (whole_numbers 8 pointers) 0 got.value got.is in
          record {
            sections_are = from;
            is = as_read ∙ got.is ∙ ap read (sym models);
            long = ap (λ (ms : List Model). length (write ms)) models ∙ sym got.long ∙ sym long;
            few = rw are (read-few s (whole_numbers 8 pointers) got.value got.is);
            short = rw are (few_pointers small);
          }

-- ---- the hall list call

-- an outcome by its answer and by the bytes afterwards
abbrev pub Shown : Outcome → List ℕ → Result ℕ Refusal → List ℕ → Type 0
Shown x d r t = (r ≡ answer_of x) × (t ≡ after x d)

pub shown : (x o : Outcome) (d : List ℕ) {r : Result ℕ Refusal} {t : List ℕ} → x ≡ o → r ≡ answer_of o → t ≡ after o d → Shown x d r t
shown x o d e p q = (p ∙ ap answer_of (sym e), q ∙ ap (λ (y : Outcome). after y d) (sym e))

module _ (s : Sections) (va room : ℕ) where
  by_limit : (within : Bool) (r : Reading (List Model)) → cond within (fitted room r) (refusal 1 0) ≡ fitted room (cond within r (refused 1))
  by_limit false r = refl
  by_limit true r = refl

  pub outcome : hall_list s va room ≡ fitted room (list_read s va)
  unfolding hall_list list_read
  outcome = by_limit (within_limit s) (read_list s va)

  -- checks 1 to 6
  pub Listing-stopped : (e : Refusal) → RefusedAs (list_read s va) e → hall_list s va room ≡ refusal e.check 0
  Listing-stopped e stopped = outcome ∙ ap (fitted room) stopped.is

  module _ (list : MeasuredList) (l : ListMeasured s va list) where
    -- check 7
    pub Listing-short : room < list.«length» → hall_list s va room ≡ refusal 7 list.«length»
    Listing-short small =
        let short = lt-leb (length (write (models_at s (whole_numbers 8 list.pointers.now)))) room (omega (arith, l.long)) in
        outcome ∙ ap (fitted room) l.is ∙ rw short (ap (refusal 7) l.long)

    pub Listing-written : list.«length» ≤ room → hall_list s va room ≡ written (write (models_at s (whole_numbers 8 list.pointers.now)))
    Listing-written large =
        let fits = le-leb (length (write (models_at s (whole_numbers 8 list.pointers.now)))) room (omega (arith, l.long)) in
        outcome ∙ ap (fitted room) l.is ∙ rw fits
