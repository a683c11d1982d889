-- Where the records of some bytes lie. Private contracts speak of this; `SeekLaws` and `TriangleLaws` tie it to the records.
use Rattle.std.specs.Prelude.{◌≡◌, List, [], ◌∷◌, ℕ, ◌+◌, ◌≤◌, length, drop}
use Rattle.sections.specs.Le.{field}
use Rattle.halls.specs.Records.{Record, records}
use Rattle.halls.specs.declared.format.walk.RecordSpan.{RecordSpan}

-- a whole record begins at this place
pub record Spans (s : List ℕ) (at : ℕ) (r : RecordSpan) : Type 0 where
  pub kind-is : r.kind ≡ field 2 s (at + 4)
  pub at-is : r.at ≡ at
  pub start-is : r.start ≡ at + 6
  pub end-is : r.end ≡ at + 6 + field 4 s at
  pub inside : r.end ≤ length s

-- where records lie of which the first begins at this place
unfoldable pub spans_from : ℕ → List Record → List RecordSpan
spans_from at [] = []
spans_from at (r ∷ rs) = record { kind = r.kind; at = at; start = at + 6; end = at + 6 + length r.body } ∷ spans_from (at + 6 + length r.body) rs

-- the whole records from this place on
abbrev pub spans_at : List ℕ → ℕ → List RecordSpan
spans_at s at = spans_from at (records (drop at s))
