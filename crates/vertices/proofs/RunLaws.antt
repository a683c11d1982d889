-- Laws of runs, for every width k.
use mathlib.Core.Path.{◌≡◌, refl, sym, ap, ◌∙◌}
use mathlib.Core.List.{List, [], ◌∷◌, ◌++◌, map, append_assoc, append-nil, map-append}
use Prim.Native.Nat.{ℕ, zero, suc, ◌+◌, ◌*◌, ◌/◌, ◌%◌, ◌^◌, ◌≤◌, ◌<◌}
use native.Mathlib.Nat.{add_comm, mul-le-mul_right, suc-add, suc-mul, zero-add, zero-mul}
use native.Mathlib.Omega.{arith}
use lib.ListN.{length, take, drop, get_or, length-append, length-drop, length-map}
use lib.Seq.{drop_at, drop-drop, get_or-drop, length-take-le, take-add, take_all, take_at}
use Rattle.std.proofs.lemmas.Slice.{put_mid-paste}
use borrow.Rule.Slice.PartMut.{put_mid}
use Rattle.sections.specs.Edit.{part, overwrite}
use Rattle.sections.specs.Le.{le, bytes, field}
use Rattle.sections.proofs.EditLaws.{part-part, take_below}
use Rattle.sections.proofs.LeLaws.{bytes_le, field_in, le-add, le_bytes, le-one, length-bytes}
use Rattle.vertices.specs.Runs.{numbers, run, converted}

-- ---- bytes of numbers

module _ (k : ℕ) where
  -- a run's length
  pub length_run : (xs : List ℕ) → length (run k xs) ≡ length xs * k
  unfolding run
  length_run [] = sym (zero-mul k)
  length_run (x ∷ xs) = rw (length-append, length-bytes, length_run xs, suc-mul) (add_comm k (length xs * k))

  -- two runs one after the other
  pub run-append : (xs ys : List ℕ) → run k (xs ++ ys) ≡ run k xs ++ run k ys
  unfolding run
  run-append [] ys = refl
  run-append (x ∷ xs) ys = rw (run-append xs ys, append_assoc)

  -- a run of one number
  pub run-one : (x : ℕ) → run k (x ∷ []) ≡ bytes k x
  unfolding run
  run-one x = append-nil (bytes k x)

  -- ---- numbers of bytes

  -- as many numbers as asked for
  pub numbers-length : (n : ℕ) (s : List ℕ) → length (numbers k n s) ≡ n
  unfolding numbers
  numbers-length zero s = refl
  numbers-length (suc n) s = ap suc (numbers-length n (drop k s))

  -- the first n, and then m more
  pub numbers-add : (n m : ℕ) (s : List ℕ) → numbers k (n + m) s ≡ numbers k n s ++ numbers k m (drop (n * k) s)
  unfolding numbers
  numbers-add zero m s = rw (zero-add, zero-mul)
  numbers-add (suc n) m s = rw (suc-add, numbers-add n m (drop k s), drop-drop (n * k) k s, suc-mul, add_comm (n * k) k)

  -- the i-th number, as a part of the bytes
  pub numbers-get_or : (n i : ℕ) (s : List ℕ) → i < n → get_or (numbers k n s) i 0 ≡ le (part s (i * k) k)
  unfolding numbers part
  numbers-get_or zero i s h = elim h [ ]
  numbers-get_or (suc n) zero s h = rw zero-mul
  numbers-get_or (suc n) (suc i) s h = numbers-get_or n i (drop k s) (omega arith) ∙ rw (drop-drop (i * k) k s, suc-mul, add_comm (i * k) k)

  -- the i-th number of a part is a field of the whole
  pub numbers-at : (n i : ℕ) (s : List ℕ) (at : ℕ) → i < n → at + n * k ≤ length s → get_or (numbers k n (part s at (n * k))) i 0 ≡ field k s (at + i * k)
  numbers-at n i s at h l =
      let m : suc i * k ≤ n * k = mul-le-mul_right k h in
      let e : i * k + k ≤ n * k = rw suc-mul at m in
      numbers-get_or n i (part s at (n * k)) h ∙ ap le (part-part s at (n * k) (i * k) k e) ∙ sym (field_in k s (at + i * k) (omega arith))

  -- ---- inverse both ways

  -- numbers that fit come back from their bytes
  pub numbers-run : (xs : List ℕ) → ((i : ℕ) → get_or xs i 0 < 256 ^ k) → numbers k (length xs) (run k xs) ≡ xs
  unfolding numbers run
  numbers-run [] f = refl
  numbers-run (x ∷ xs) f =
      let n : length (bytes k x) ≡ k = length-bytes k x in
      rw (take_at (bytes k x) (run k xs) k n, drop_at (bytes k x) (run k xs) k n, le_bytes k x (f 0), numbers-run xs (λ i. f (suc i)))

  -- bytes come back from their numbers
  pub run-numbers : (n : ℕ) (s : List ℕ) → ((i : ℕ) → get_or s i 0 < 256) → n * k ≤ length s → run k (numbers k n s) ≡ take (n * k) s
  unfolding numbers run
  run-numbers zero s f h = rw zero-mul
  run-numbers (suc n) s f h =
      let h' : n * k + k ≤ length s = rw suc-mul at h in
      let l : length (take k s) ≡ k = length-take-le k s (omega arith) in
      let b : bytes k (le (take k s)) ≡ take k s = rw l at (bytes_le (take k s) (take_below k s f)) in
      let r : n * k ≤ length (drop k s) = rw length-drop (omega arith) in
      rw (suc-mul, add_comm (n * k) k, take-add k (n * k) s, b, run-numbers n (drop k s) (λ i. rw get_or-drop (f (k + i))) r)

  -- and as many where each is converted
  pub mapped-length : (f : ℕ → ℕ) (n : ℕ) (s : List ℕ) → length (map f (numbers k n s)) ≡ n
  mapped-length f n s = rw (length-map, numbers-length)

-- ---- a run converted

module _ (k m : ℕ) (f : ℕ → ℕ) where
  -- its length
  pub converted-length : (n : ℕ) (s : List ℕ) → length (converted k m f n s) ≡ n * m
  unfolding converted
  converted-length n s = rw (length_run, mapped-length)

  -- the first i, and then j more
  pub converted-add : (i j : ℕ) (s : List ℕ) → converted k m f (i + j) s ≡ converted k m f i s ++ converted k m f j (drop (i * k) s)
  unfolding converted
  converted-add i j s = rw (numbers-add, map-append, run-append)

  -- one number
  pub converted-one : (s : List ℕ) (at : ℕ) → converted k m f 1 (drop at s) ≡ bytes m (f (le (part s at k)))
  unfolding converted numbers part
  converted-one s at = run-one m (f (le (take k (drop at s))))

-- ---- bytes read one by one

-- the number of two bytes
pub le_two : (s : List ℕ) (at : ℕ) → at + 2 ≤ length s → le (part s at 2) ≡ get_or s at 0 + 256 * get_or s (at + 1) 0
le_two s at h = omega (arith, le-add 1 1 s at (omega arith), le-one s at (omega arith), le-one s (at + 1) (omega arith))

-- the number of four bytes
pub le_four : (s : List ℕ) (at : ℕ) → at + 4 ≤ length s → le (part s at 4) ≡ get_or s at 0 + 256 * get_or s (at + 1) 0 + 65536 * get_or s (at + 2) 0 + 16777216 * get_or s (at + 3) 0
le_four s at h =
    let last : get_or s (at + 2 + 1) 0 ≡ get_or s (at + 3) 0 = ap (λ (i : ℕ). get_or s i 0) (omega arith) in
    omega (
      arith,
      le-add 2 2 s at (omega arith),
      le-add 1 1 s at (omega arith),
      le-add 1 1 s (at + 2) (omega arith),
      le-one s at (omega arith),
      le-one s (at + 1) (omega arith),
      le-one s (at + 2) (omega arith),
      le-one s (at + 2 + 1) (omega arith),
    )

-- ---- bytes written at once

-- a part of s replaced by as many bytes
pub overwrite_part : (at n : ℕ) (s : List ℕ) {ys vs : List ℕ} → ys ≡ vs → length vs ≡ n → put_mid at n s ys ≡ overwrite s at vs
unfolding overwrite
overwrite_part at n s {ys} {vs} e l = rw l (put_mid-paste at n s ys vs n e refl (sym l) ∙ ap (λ (xs : List ℕ). take at s ++ xs ++ drop (at + n) s) (take_all n vs (omega arith)))

-- a number's two bytes
pub bytes_two : (v : ℕ) → bytes 2 v ≡ v % 256 ∷ v / 256 % 256 ∷ []
unfolding bytes
bytes_two v = refl

-- a number's four bytes
pub bytes_four : (v : ℕ) → bytes 4 v ≡ v % 256 ∷ v / 256 % 256 ∷ v / 65536 % 256 ∷ v / 16777216 % 256 ∷ []
unfolding bytes
bytes_four v =
    let third : v / 256 / 256 ≡ v / 65536 = omega arith in
    let fourth : v / 65536 / 256 ≡ v / 16777216 = omega arith in
    rw (third, fourth)
