-- Laws of `part` and `overwrite`, for every crate above.
use mathlib.Core.Path.{◌≡◌, sym, ap, ◌∙◌}
use mathlib.Core.Bool.{Bool, true, false, cond}
use mathlib.Core.Logic.{◌⊎◌, inl, inr}
use mathlib.Core.List.{List, [], ◌∷◌, ◌++◌, append_assoc, append-nil}
use Prim.Native.Nat.{ℕ, zero, suc, ◌+◌, ◌-◌, ◌≤◌, ◌<◌}
use denote.Ref.{Bor}
use Rattle.std.specs.Prelude.{Option, Some, None, MatchOption, option_map}
use Rattle.std.specs.Array.{IsFirstChunk}
use native.Mathlib.Nat.{add_assoc, add-zero, zero-add}
use native.Mathlib.Numerals.{add-one}
use native.Mathlib.Omega.{arith}
use borrow.Author.Tests.{le-leb, lt-leb}
use lib.Dec.{lit<}
use borrow.Rule.Slice.PartMut.{put_mid}
use lib.ListN.{length, take, drop, get_or, set, length-append, length-take, length-drop, take-append-drop, drop_of_length-le}
use lib.Seq.{length-take-le, append_snoc, take-nil, take-add, take-take, take_all, take_at, take-append-le, drop_at, drop-cons, drop-drop, drop-append-add, get_or-take, get_or-drop, set_split}
use Rattle.sections.specs.Edit.{part, overwrite, fits, Edited}

-- ---- parts

drop-take : (i n : ℕ) (s : List ℕ) → drop i (take n s) ≡ take (n - i) (drop i s)
drop-take zero n s = let e : n - 0 ≡ n = omega arith in rw e
drop-take (suc i) zero s = let e : 0 - suc i ≡ 0 = omega arith in rw e
drop-take (suc i) (suc n) [] = sym (take-nil (suc n - suc i))
drop-take (suc i) (suc n) (x ∷ s) = let e : suc n - suc i ≡ n - i = omega arith in rw e (drop-take i n s)

module _ (s : List ℕ) where
  pub part_length : (at n : ℕ) → at + n ≤ length s → length (part s at n) ≡ n
  unfolding part
  part_length at n h = simp (length-take, length-drop) (omega arith)

  pub part-get_or : (at n i : ℕ) → i < n → get_or (part s at n) i 0 ≡ get_or s (at + i) 0
  unfolding part
  part-get_or at n i h = rw (get_or-take, get_or-drop)

  -- one element
  pub part-one : (i : ℕ) → i < length s → part s i 1 ≡ get_or s i 0 ∷ []
  unfolding part
  part-one i h = rw (drop-cons s i 0)

  -- a part is its first n and then its next m
  pub part-add : (at n m : ℕ) → part s at (n + m) ≡ part s at n ++ part s (at + n) m
  unfolding part
  part-add at n m = rw (take-add n m (drop at s), drop-drop n at s)

  -- a part of a part
  pub part-part : (at n i k : ℕ) → i + k ≤ n → part (part s at n) i k ≡ part s (at + i) k
  unfolding part
  part-part at n i k h =
      let m : k ≤ n - i = omega arith in
      rw (drop-take i n (drop at s), take-take k (n - i) (drop i (drop at s)), drop-drop i at s)

-- the first n of what the library's `get` finds behind `at`
pub chunk-found : (s : List ℕ) (at n : ℕ) (rest : List ℕ) (r : Option (Bor (List ℕ))) → at ≤ length s → rest ≡ take (length s - at) (drop at s)
    → MatchOption r (length rest < n) (λ y. IsFirstChunk rest y.now n) → option_map (λ (y : Bor (List ℕ)). y.now) r ≡ cond (fits s at n) (Some (part s at n)) None
unfolding part
chunk-found s at n rest None h e m =
    let l : length rest ≡ length s - at = ap length e ∙ length-take-le (length s - at) (drop at s) (rw length-drop (omega arith)) in
    rw (lt-leb (at + n) (length s) (omega (arith, l, m, h)))
chunk-found s at n rest (Some y) h e m =
    let l : length rest ≡ length s - at = ap length e ∙ length-take-le (length s - at) (drop at s) (rw length-drop (omega arith)) in
    let all : rest ≡ drop at s = e ∙ take_all (length s - at) (drop at s) (rw length-drop (omega arith)) in
    rw (le-leb (at + n) (length s) (omega (arith, l, m.enough, h))) (ap Some (m.same ∙ rw all))

-- the n behind `at`, as the library's `get` finds them in what is behind it
pub range-whole : (s : List ℕ) (at n : ℕ) (rest : List ℕ) (r : Option (Bor (List ℕ))) → at ≤ length s → rest ≡ take (length s - at) (drop at s)
    → MatchOption r ((n < 0) ⊎ (length rest < n)) (λ y. (0 ≤ n) × (n ≤ length rest) × (y.now ≡ take (n - 0) rest) × (length y.now + 0 ≡ n))
    → option_map (λ (y : Bor (List ℕ)). y.now) r ≡ cond (fits s at n) (Some (part s at n)) None
unfolding part
range-whole s at n rest None h e m =
    let l : length rest ≡ length s - at = ap length e ∙ length-take-le (length s - at) (drop at s) (rw length-drop (omega arith)) in
    let short : length s < at + n = elim m [ inl z ↦ absurd (omega (arith, z)) | inr b ↦ omega (arith, l, b, h) ] in
    rw (lt-leb (at + n) (length s) short)
range-whole s at n rest (Some y) h e m =
    let l : length rest ≡ length s - at = ap length e ∙ length-take-le (length s - at) (drop at s) (rw length-drop (omega arith)) in
    let all : rest ≡ drop at s = e ∙ take_all (length s - at) (drop at s) (rw length-drop (omega arith)) in
    let whole : n - 0 ≡ n = omega arith in
    rw (le-leb (at + n) (length s) (omega (arith, l, m.1, h))) (ap Some (m.2 ∙ rw (whole, all)))

-- the first elements of bytes are bytes, and so is each part
pub take_below : (n : ℕ) (l : List ℕ) → ((i : ℕ) → get_or l i 0 < 256) → (i : ℕ) → get_or (take n l) i 0 < 256
take_below zero l f i = lit< tt
take_below (suc n) [] f i = lit< tt
take_below (suc n) (x ∷ l) f zero = f 0
take_below (suc n) (x ∷ l) f (suc i) = take_below n l (λ j. f (suc j)) i

pub part-below : (s : List ℕ) (at n : ℕ) → ((i : ℕ) → get_or s i 0 < 256) → (i : ℕ) → get_or (part s at n) i 0 < 256
unfolding part
part-below s at n f i = take_below n (drop at s) (λ j. rw (get_or-drop at s j 0) (f (at + j))) i

-- ---- overwriting

-- with nothing
pub overwrite-none : (s : List ℕ) (at : ℕ) → overwrite s at [] ≡ s
unfolding overwrite
overwrite-none s at = simp (add-zero, append-nil, take-append-drop)

-- the whole list
pub overwrite-all : (s vs : List ℕ) → length vs ≡ length s → overwrite s 0 vs ≡ vs
unfolding overwrite
overwrite-all s vs e =
    let h : length s ≤ 0 + length vs = omega arith in
    rw (drop_of_length-le s h) (append-nil vs)

-- one store
pub overwrite-one : (s : List ℕ) (i x : ℕ) → i < length s → set s i x ≡ overwrite s i (x ∷ [])
unfolding overwrite
overwrite-one s i x h = rw (add-one, append_snoc) (set_split s i x h)

module _ (s : List ℕ) (at : ℕ) (vs : List ℕ) (fit : at + length vs ≤ length s) where
  head-length : length (take at s ++ vs) ≡ at + length vs
  head-length = simp (length-append, length-take) (omega arith)

  pub overwrite-length : length (overwrite s at vs) ≡ length s
  unfolding overwrite
  overwrite-length = simp (length-append, length-take, length-drop) (omega arith)

  -- what was put there
  pub part_same : (n : ℕ) → length vs ≡ n → part (overwrite s at vs) at n ≡ vs
  unfolding overwrite part
  part_same n e =
      let t : length (take at s) ≡ at = length-take-le at s (omega arith) in
      rw (append_assoc (take at s), drop_at (take at s) _ at, take_at vs _ n e)

  -- a part that ends before it
  pub part-before : (j k : ℕ) → j + k ≤ at → part (overwrite s at vs) j k ≡ part s j k
  unfolding overwrite part
  part-before j k h =
      let t : length (take at s) ≡ at = length-take-le at s (omega arith) in
      let e : part (overwrite s at vs) 0 at ≡ part s 0 at = rw (append_assoc (take at s), take_at (take at s) _ at) in
      ap (λ (i : ℕ). part (overwrite s at vs) i k) (sym (zero-add j)) ∙ sym (part-part (overwrite s at vs) 0 at j k h)
      ∙ ap (λ (x : List ℕ). part x j k) e ∙ part-part s 0 at j k h ∙ ap (λ (i : ℕ). part s i k) (zero-add j)

  -- a part that starts after it
  pub part-after : (j k : ℕ) → at + length vs ≤ j → part (overwrite s at vs) j k ≡ part s j k
  unfolding overwrite part
  part-after j k h =
      let m : ℕ = j - (at + length vs) in
      let e : j ≡ at + length vs + m = omega arith in
      let f : j ≡ length (take at s ++ vs) + m = rw head-length e in
      ap (take k) (ap (λ (i : ℕ). drop i (overwrite s at vs)) f ∙ drop-append-add (take at s ++ vs) _ m ∙ drop-drop m (at + length vs) s ∙ ap (λ (i : ℕ). drop i s) (sym e))

-- a write to a part of a slice, as by `copy_from_slice` or `fill`
pub overwrite-slice : (s : List ℕ) (at n : ℕ) (vs : List ℕ) → length vs ≡ n → put_mid at (at + n - at) s vs ≡ overwrite s at vs
unfolding overwrite
overwrite-slice s at n vs e =
    let k : at + n - at ≡ length vs = omega arith in
    rw (k, drop-drop (length vs) at s) (sym (append_assoc (take at s) vs _))

-- bytes, and then bytes behind them
pub overwrite-then : (s : List ℕ) (at n : ℕ) (xs ys : List ℕ) → length xs ≡ n → at + n + length ys ≤ length s
    → overwrite (overwrite s at xs) (at + n) ys ≡ overwrite s at (xs ++ ys)
unfolding overwrite
overwrite-then s at n xs ys e h =
    let t : length (take at s ++ xs) ≡ at + n = simp (length-append, length-take, e) (omega arith) in
    let d : drop (at + n + length ys) (take at s ++ xs ++ drop (at + length xs) s) ≡ drop (at + length (xs ++ ys)) s =
    rw (← t, drop-append-add, drop-drop, length-append, add_assoc) in
    rw (take_at (take at s ++ xs) _ (at + n), d, append_assoc (take at s) xs ys)

-- bytes, and then bytes in front of them
pub overwrite-ahead : (s : List ℕ) (at n : ℕ) (xs ys : List ℕ) → length xs ≡ n → at + n + length ys ≤ length s
    → overwrite (overwrite s (at + n) ys) at xs ≡ overwrite s at (xs ++ ys)
unfolding overwrite
overwrite-ahead s at n xs ys e h =
    let T : List ℕ = take (at + n) s in
    let a : at ≤ length T = simp length-take (omega arith) in
    let b : at ≤ at + n = omega arith in
    let l : length T ≡ at + length xs = simp (length-take, e) (omega arith) in
    let m : at + length (xs ++ ys) ≡ at + n + length ys = simp (length-append, e) (omega arith) in
    rw (append_assoc T ys, drop_at T _ (at + length xs), m, take-append-le at T, take-take, append_assoc (take at s) xs, append_assoc (take at s) (xs ++ ys), append_assoc xs)

-- ---- total edits

-- refused: nothing changes
pub Edited-no : {ok : Bool} {s : List ℕ} {at : ℕ} {vs : List ℕ} → ok ≡ false → Edited ok s at vs false s
Edited-no e = record { answer = sym e; bytes = rw e }

-- done
pub Edited-yes : {ok : Bool} {s : List ℕ} {at : ℕ} {vs t : List ℕ} → ok ≡ true → t ≡ overwrite s at vs → Edited ok s at vs true t
Edited-yes e h = record { answer = sym e; bytes = rw e h }

-- what an edit that fits leaves
pub Edited-fits : {s : List ℕ} {at : ℕ} (n : ℕ) {vs : List ℕ} {r : Bool} {t : List ℕ} → Edited (fits s at n) s at vs r t → at + n ≤ length s → t ≡ overwrite s at vs
Edited-fits {s} {at} n e h = rw (le-leb (at + n) (length s) h) at e.bytes

-- ---- one edit right behind another is one edit with it

-- for lists that are known by equations
pub overwrite-behind : (s : List ℕ) (at : ℕ) (xs : List ℕ) (n : ℕ) (ys : List ℕ) {t u : List ℕ} → t ≡ overwrite s at xs → length xs ≡ n → u ≡ overwrite t (at + n) ys → at + n + length ys ≤ length s
    → u ≡ overwrite s at (xs ++ ys)
overwrite-behind s at xs n ys e l f h = f ∙ ap (λ (x : List ℕ). overwrite x (at + n) ys) e ∙ overwrite-then s at n xs ys l h

-- for a total edit of k bytes
pub Edited-behind : (s : List ℕ) (at : ℕ) (xs : List ℕ) (n k : ℕ) {t u ys : List ℕ} {r : Bool} → t ≡ overwrite s at xs → length xs ≡ n → length ys ≡ k
    → Edited (fits t (at + n) k) t (at + n) ys r u → at + (n + k) ≤ length s → u ≡ overwrite s at (xs ++ ys)
Edited-behind s at xs n k {t} {u} {ys} e lx ly ed h =
    let same : length t ≡ length s = ap length e ∙ overwrite-length s at xs (omega arith) in
    overwrite-behind s at xs n ys e lx (Edited-fits k ed (omega arith)) (omega arith)
