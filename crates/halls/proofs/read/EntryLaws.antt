-- Pointers and shader ids, taken from the bytes one by one.
use Rattle.std.specs.Prelude.{min}
use mathlib.Core.Path.{◌≡◌, sym, ap, ◌∙◌}
use mathlib.Core.List.{List, [], ◌∷◌}
use Prim.Native.Nat.{ℕ, suc, ◌-◌, ◌/◌, ◌≤◌, ◌<◌}
use native.Mathlib.Omega.{arith}
use mathlib.Core.Logic.{⊎_elim}
use lib.ListN.{length, take, drop, drop_of_length-le}
use Rattle.std.proofs.lemmas.List.{length-drop}
use lib.Seq.{take-nil, take_all}
use Rattle.sections.specs.Le.{field}
use Rattle.sections.specs.Edit.{part}
use Rattle.sections.proofs.LeLaws.{field_in, field_out}
use Rattle.vertices.specs.Runs.{numbers}
use Rattle.halls.specs.Reading.{first, rest}
use Rattle.halls.specs.Inner.Measure.{entries_of, whole_numbers}
use Rattle.halls.proofs.read.PointerLists.{below_or}

-- the slice behind the first k bytes
behind : (k : ℕ) (s : List ℕ) → take (length s - k) (drop k s) ≡ drop k s
behind k s = take_all (length s - k) (drop k s) (rw length-drop (omega arith))

next-is : (k n : ℕ) (s : List ℕ) → k ≤ length s → numbers k (suc n) s ≡ field k s 0 ∷ numbers k n (drop k s)
unfolding numbers part
next-is k n s h = rw (field_in k s 0 (omega arith))

pub pointers_none : (s : List ℕ) → length s < 8 → whole_numbers 8 s ≡ []
unfolding numbers
pointers_none s h = let e : length s / 8 ≡ 0 = omega arith in rw e

pub pointers_next : (s : List ℕ) → 8 ≤ length s → whole_numbers 8 s ≡ field 8 s 0 ∷ whole_numbers 8 (drop 8 s)
pointers_next s h =
    let e : length s / 8 ≡ suc (length (drop 8 s) / 8) = rw length-drop (omega arith) in
    ap (λ n. numbers 8 n s) e ∙ next-is 8 (length (drop 8 s) / 8) s h

-- ---- the mapping, to its end and behind it

module _ (m : List ℕ) where
  abbrev pub left : List ℕ
  left = take (length m - min (length m) 2) (drop (min (length m) 2) m)

  pub record Shaders : Type 0 where
    pub shader : first (whole_numbers 2 m) ≡ field 2 m 0
    pub others : rest (whole_numbers 2 m) ≡ whole_numbers 2 left

  some-left : 2 ≤ length m → Shaders
  some-left h =
      let e : length m / 2 ≡ suc (length (drop 2 m) / 2) = rw length-drop (omega arith) in
      let least : min (length m) 2 ≡ 2 = omega arith in
      let is : whole_numbers 2 m ≡ field 2 m 0 ∷ whole_numbers 2 (drop 2 m) = ap (λ n. numbers 2 n m) e ∙ next-is 2 (length (drop 2 m) / 2) m h in
      record { shader = ap first is; others = ap rest is ∙ ap (whole_numbers 2) (sym (behind 2 m)) ∙ ap (λ n. whole_numbers 2 (take (length m - n) (drop n m))) (sym least) }

  none-left : length m < 2 → Shaders
  unfolding numbers
  none-left h =
      let e : length m / 2 ≡ 0 = omega arith in
      let least : min (length m) 2 ≡ length m = omega arith in
      let is : whole_numbers 2 m ≡ [] = rw e in
      let gone : whole_numbers 2 left ≡ [] = ap (λ n. whole_numbers 2 (take (length m - n) (drop n m))) least ∙ ap (λ (b : List ℕ). whole_numbers 2 (take (length m - length m) b)) (drop_of_length-le m (omega arith)) ∙ ap (whole_numbers 2) (take-nil (length m - length m)) in
      record { shader = ap first is ∙ sym (field_out 2 m 0 h); others = ap rest is ∙ sym gone }

  shaders-next : Shaders
  shaders-next = ⊎_elim none-left some-left (below_or (length m) 2)

  pub entries_next : {shader n : ℕ} → shader ≡ field 2 m 0 → n ≡ min (length m) 2 → (p : ℕ) (ps : List ℕ)
      → entries_of (whole_numbers 2 m) (p ∷ ps) ≡ record { shader = shader; pointer = p } ∷ entries_of (whole_numbers 2 (take (length m - n) (drop n m))) ps
  entries_next e q p ps = rw (e, q, shaders-next.shader, shaders-next.others)
