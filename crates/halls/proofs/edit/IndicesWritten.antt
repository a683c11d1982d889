-- New indices of a geometry: their record, and the list's bytes with them.
use mathlib.Core.Path.{◌≡◌, refl, sym, ap, ◌∙◌}
use mathlib.Core.Bool.{Bool, true, false, cond, ◌&&◌}
use mathlib.Core.List.{List, ◌++◌, append_assoc}
use Prim.Native.Nat.{ℕ, ◌+◌, ◌*◌, ◌-◌, ◌/◌, ◌%◌, ◌≤◌, ◌<◌, min, max}
use native.Mathlib.Omega.{arith}
use borrow.Author.Tests.{eq-eqb, ne_eqb, le-leb, lt-leb}
use lib.Dec.{eqb, leb, ltb}
use lib.ListN.{length, take, drop, length-append, length-drop, take-append-drop}
use lib.Seq.{take-take, take_at, take-append-le, drop_at, drop-append-le, length-take-le}
use Rattle.sections.specs.Edit.{part, overwrite, fits, Edited}
use Rattle.sections.specs.Le.{bytes}
use Rattle.sections.proofs.EditLaws.{Edited-fits, overwrite-length, overwrite-then}
use Rattle.sections.proofs.LeLaws.{length-bytes}
use Rattle.vertices.specs.Runs.{run}
use Rattle.halls.specs.Checks.{triangles_of, has_three_vertices, require}
use Rattle.halls.specs.Every.{every}
use Rattle.halls.specs.List.{indices_body, indices_record, record_bytes}
use Rattle.halls.specs.Inner.Judging.{indices_lowest_of, lent_lowest}
use Rattle.halls.specs.Inner.Order.{passed, too_large, failing, verdict_of}
use Rattle.halls.specs.Inner.NewIndices.{indices_verdict, indices_of, with_new_indices}
use Rattle.halls.specs.Step.{rewritten}
use Rattle.halls.specs.Inner.Walk.{units, size_lowest}
use Rattle.halls.specs.Verdict.{Verdict}
use Rattle.halls.specs.Verdict.{Sound}
use Rattle.halls.proofs.format.BodyLaws.{indices_body-length}
use Rattle.halls.proofs.edit.RewrittenLaws.{rewritten-length, rewritten-over}
use Rattle.halls.proofs.read.ViewLaws.{Record-length}

-- ---- the tail moved

module _ (b : List ℕ) (n from to : ℕ) where
  pub moved_down : to ≤ from → from ≤ n → rewritten b n (take to (take n b) ++ drop from (take n b)) ≡ rewritten b n (take to b ++ drop from (take n b))
  moved_down h k =
      let l : to ≤ n = omega arith in
      ap (λ (x : List ℕ). rewritten b n (x ++ drop from (take n b))) (take-take to n b l)

  tail_is : from ≤ n → n ≤ length b → part b from (n - from) ≡ drop from (take n b)
  unfolding part
  tail_is h k =
      let l : length (take n b) ≡ n = length-take-le n b k in
      let m : length (drop from (take n b)) ≡ n - from = length-drop from (take n b) ∙ omega arith in
      let f : from ≤ length (take n b) = omega arith in
      let parts : drop from b ≡ drop from (take n b) ++ drop n b = ap (drop from) (sym (take-append-drop n b)) ∙ drop-append-le from (take n b) (drop n b) f in
      ap (take (n - from)) parts ∙ take_at (drop from (take n b)) (drop n b) (n - from) m

  pub moved_up : from < to → from ≤ n → n ≤ length b → to + (n - from) ≤ length b → {r : Bool} {t : List ℕ}
      → Edited (fits b from (n - from) && fits b to (n - from)) b to (part b from (n - from)) r t
      → t ≡ rewritten b n (take to b ++ drop from (take n b))
  unfolding rewritten overwrite
  moved_up g h k room {r} {t} e =
      let D : List ℕ = drop from (take n b) in
      let l : length (take n b) ≡ n = length-take-le n b k in
      let m : length D ≡ n - from = length-drop from (take n b) ∙ omega arith in
      let there : from + (n - from) ≤ length b = omega arith in
      let first : t ≡ overwrite b to (part b from (n - from)) = rw (le-leb (from + (n - from)) (length b) there, le-leb (to + (n - from)) (length b) room) at e.bytes in
      let head : length (take to b) ≡ to = length-take-le to b (omega arith) in
      let long : length (take to b ++ D) ≡ to + length D = length-append (take to b) D ∙ omega arith in
      let none : n - (to + length D) ≡ 0 = omega arith in
      let most : max n (to + length D) ≡ to + length D = omega arith in
      let both : overwrite b to D ≡ rewritten b n (take to b ++ D) = rw (long, none, most) (simp append_assoc) in
      first ∙ ap (overwrite b to) (tail_is h k) ∙ both

-- ---- the record

pub record_is : (xs : List ℕ) → ((bytes 4 (4 + 4 * length xs) ++ bytes 2 5) ++ bytes 4 (length xs)) ++ run 4 xs ≡ indices_record (indices_of xs)
unfolding indices_record record_bytes
record_is xs = ap (λ (n : ℕ). ((bytes 4 n ++ bytes 2 5) ++ bytes 4 (length xs)) ++ run 4 xs) (sym (indices_body-length (indices_of xs))) ∙ simp append_assoc

pub new-record-length : (xs : List ℕ) → length (indices_record (indices_of xs)) ≡ 10 + 4 * length xs
unfolding indices_record
new-record-length xs = Record-length 5 (indices_body (indices_of xs)) ∙ omega (arith, indices_body-length (indices_of xs))

-- ---- all of it

module _ (b : List ℕ) (n at start held : ℕ) (xs : List ℕ) (front : at + 20 ≤ start) (inside : start + 10 + 4 * held ≤ n) (within : n ≤ length b)
    (room : n - 4 * held + 4 * length xs ≤ length b) where
  abbrev from : ℕ
  from = start + 10 + 4 * held

  abbrev to : ℕ
  to = start + 10 + 4 * length xs

  abbrev new : List ℕ
  new = indices_record (indices_of xs)

  abbrev moved : List ℕ
  moved = take to b ++ drop from (take n b)

  abbrev put : List ℕ
  put = take start (take n b) ++ (new ++ drop from (take n b))

  to-length : length (take to b) ≡ to
  to-length = length-take-le to b (omega arith)

  tail-length : length (drop from (take n b)) ≡ n - from
  tail-length = let l : length (take n b) ≡ n = length-take-le n b within in length-drop from (take n b) ∙ omega arith

  moved_length : length moved ≡ to + (n - from)
  moved_length = length-append (take to b) (drop from (take n b)) ∙ omega (arith, to-length, tail-length)

  put-length : length put ≡ to + (n - from)
  put-length =
      let l : length (take n b) ≡ n = length-take-le n b within in
      let k : length (take start (take n b)) ≡ start = length-take-le start (take n b) (omega arith) in
      rw (length-append (take start (take n b)), length-append new) (omega (arith, tail-length, new-record-length xs))

  put-over : overwrite moved start new ≡ put
  unfolding overwrite
  put-over =
      let l : start ≤ length (take to b) = omega (arith, to-length) in
      let m : start ≤ to = omega arith in
      let k : start ≤ n = omega arith in
      let e : start + length new ≡ to = omega (arith, new-record-length xs) in
      rw (take-append-le start (take to b) (drop from (take n b)), take-take start to b, ← (take-take start n b), e, drop_at (take to b) (drop from (take n b)) to to-length) (simp append_assoc)

  pub all-written : {c d : ℕ} {t u v z : List ℕ} {r r₂ : Bool} → c ≡ length xs → d ≡ length xs / 3 → t ≡ rewritten b n moved → u ≡ overwrite t start new
      → Edited (fits u (at + 8) 4) u (at + 8) (bytes 4 c) r v → Edited (fits v (at + 12) 4) v (at + 12) (bytes 4 d) r₂ z
      → z ≡ rewritten b n (with_new_indices (take n b) at start from xs)
  unfolding with_new_indices
  all-written {c} {d} {t} {u} {v} {z} p q e f g k =
      let first : u ≡ rewritten b n put =
      f ∙ ap (λ (l : List ℕ). overwrite l start new) e ∙ rewritten-over b n moved start new (omega (arith, moved_length, new-record-length xs)) ∙ ap (rewritten b n) put-over in
      let long : length u ≡ length b = ap length first ∙ rewritten-length b n put within (omega (arith, put-length)) in
      let four : length (bytes 4 c) ≡ 4 = length-bytes 4 c in
      let more : length (bytes 4 d) ≡ 4 = length-bytes 4 d in
      let eight : length (bytes 4 c ++ bytes 4 d) ≡ 8 = length-append (bytes 4 c) (bytes 4 d) ∙ omega arith in
      let one : v ≡ overwrite u (at + 8) (bytes 4 c) = Edited-fits 4 g (omega arith) in
      let same : length v ≡ length u = ap length one ∙ overwrite-length u (at + 8) (bytes 4 c) (omega arith) in
      let two : z ≡ overwrite v (at + 12) (bytes 4 d) = Edited-fits 4 k (omega arith) in
      let place : at + 12 ≡ at + 8 + 4 = omega arith in
      two ∙ ap (λ (i : ℕ). overwrite v i (bytes 4 d)) place ∙ ap (λ (l : List ℕ). overwrite l (at + 8 + 4) (bytes 4 d)) one
      ∙ overwrite-then u (at + 8) 4 (bytes 4 c) (bytes 4 d) four (omega arith) ∙ ap (λ (l : List ℕ). overwrite l (at + 8) (bytes 4 c ++ bytes 4 d)) first
      ∙ rewritten-over b n put (at + 8) (bytes 4 c ++ bytes 4 d) (omega (arith, put-length)) ∙ rw (p, q)

-- ---- the checks of new indices

by_ranks : (even some range three image : Bool)
    → verdict_of (min (cond (even && some) (cond range (cond three passed 27) 18) 17) (failing too_large image)) ≡ require 17 (even && some) (require 18 range (require 27 three (require 19 image Sound)))
by_ranks true true true true true = refl
by_ranks true true true true false = refl
by_ranks true true true false true = refl
by_ranks true true true false false = refl
by_ranks true true false three true = refl
by_ranks true true false three false = refl
by_ranks true false range three true = refl
by_ranks true false range three false = refl
by_ranks false some range three true = refl
by_ranks false some range three false = refl

pub lowest_judged : (xs : List ℕ) (count models parts : ℕ) {t u low more : ℕ} → t ≡ lent_lowest count xs → u ≡ size_lowest models more → low ≡ min t u → more ≡ parts
    → verdict_of low ≡ indices_verdict xs count models parts
unfolding indices_verdict indices_lowest_of
lowest_judged xs count models parts a b c d =
    rw (c, a, b, d)
    (by_ranks (eqb (length xs % 3) 0) (leb 3 (length xs)) (every (λ (i : ℕ). ltb i count) xs) (every has_three_vertices (triangles_of xs)) (leb (1 + units (8 * models) + parts) 4194304))

-- check by check

scan_fails : (range three : Bool) (next : Verdict) → (cond range (cond three passed 27) 18 ≡ passed → ⊥) → verdict_of (cond range (cond three passed 27) 18) ≡ require 18 range (require 27 three next)
scan_fails true true next h = absurd (h refl)
scan_fails true false next h = refl
scan_fails false three next h = refl

scan_passes : (range three : Bool) → cond range (cond three passed 27) 18 ≡ passed → (range ≡ true) × (three ≡ true)
scan_passes true true e = (refl, refl)
scan_passes true false e = absurd (omega (arith, e))
scan_passes false three e = absurd (omega (arith, e))

module _ (xs : List ℕ) (count models parts : ℕ) where
  pub lowest_uneven : (length xs % 3 ≡ 0 → ⊥) → verdict_of 17 ≡ indices_verdict xs count models parts
  unfolding indices_verdict
  lowest_uneven h = rw (ne_eqb (length xs % 3) 0 h)

  module _ (even : length xs % 3 ≡ 0) where
    pub lowest_few : length xs < 3 → verdict_of 17 ≡ indices_verdict xs count models parts
    unfolding indices_verdict
    lowest_few h = rw (eq-eqb (length xs % 3) 0 even, lt-leb 3 (length xs) h)

    module _ (some : 3 ≤ length xs) {t : ℕ} (e : t ≡ indices_lowest_of count xs) where
      pub lowest_scanned : (t ≡ passed → ⊥) → verdict_of t ≡ indices_verdict xs count models parts
      unfolding indices_verdict indices_lowest_of
      lowest_scanned h =
          rw (eq-eqb (length xs % 3) 0 even, le-leb 3 (length xs) some)
          (ap verdict_of e ∙ scan_fails (every (λ (i : ℕ). ltb i count) xs) (every has_three_vertices (triangles_of xs)) _ (λ z. h (e ∙ z)))

      module _ (z : t ≡ passed) where
        pub lowest_long : 4194304 < 1 + units (8 * models) + parts → verdict_of too_large ≡ indices_verdict xs count models parts
        unfolding indices_verdict indices_lowest_of
        lowest_long h =
            let pass = scan_passes (every (λ (i : ℕ). ltb i count) xs) (every has_three_vertices (triangles_of xs)) (sym e ∙ z) in
            rw (eq-eqb (length xs % 3) 0 even, le-leb 3 (length xs) some, pass.0, pass.1, lt-leb (1 + units (8 * models) + parts) 4194304 h)

        pub lowest-none : 1 + units (8 * models) + parts ≤ 4194304 → verdict_of passed ≡ indices_verdict xs count models parts
        unfolding indices_verdict indices_lowest_of
        lowest-none h =
            let pass = scan_passes (every (λ (i : ℕ). ltb i count) xs) (every has_three_vertices (triangles_of xs)) (sym e ∙ z) in
            rw (eq-eqb (length xs % 3) 0 even, le-leb 3 (length xs) some, pass.0, pass.1, le-leb (1 + units (8 * models) + parts) 4194304 h)
