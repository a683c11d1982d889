-- Laws of little-endian numbers, over the width.
use mathlib.Core.Path.{◌≡◌, refl, sym, ap, ◌∙◌}
use mathlib.Core.Bool.{Bool, true, false, cond}
use mathlib.Core.List.{List, [], ◌∷◌, ◌++◌}
use Prim.Native.Nat.{ℕ, zero, suc, ◌+◌, ◌*◌, ◌/◌, ◌%◌, ◌^◌, ◌≤◌, ◌<◌}
use Rattle.std.specs.Int.{bytes_low_first}
use Rattle.std.specs.Prelude.{Option, Some, None, MatchOption}
use native.Mathlib.Nat.{mul_assoc, pow-suc, pow-succ', pow-zero, div-div-eq-div-mul, zero-add, suc-add, div-one, one-le-pow}
use native.Mathlib.Omega.{arith}
use Rattle.std.proofs.Common.{inl, inr}
use Rattle.std.proofs.lemmas.Bool.{cases_lt}
use Rattle.std.proofs.lemmas.List.{get_or_past}
use borrow.Author.Tests.{le-leb, lt-leb, leb-true}
use lib.Arith.{mod-mul, digits_mod, digits_div}
use lib.Dec.{lit<}
use lib.ListN.{length, get_or, set}
use Rattle.sections.specs.Edit.{part, overwrite, fits}
use Rattle.sections.specs.Le.{le, bytes, field}
use Rattle.sections.proofs.EditLaws.{part_length, part-add, part-one, part-below, part_same, overwrite-one, overwrite-length, overwrite-then}

-- ---- bytes to a number

-- two runs of bytes
pub le-append : (a b : List ℕ) → le (a ++ b) ≡ le a + 256 ^ length a * le b
unfolding le
le-append [] b = omega arith
le-append (x ∷ a) b = rw (le-append a b, pow-succ', mul_assoc) (omega arith)

-- n bytes and m more
pub le-add : (n m : ℕ) (s : List ℕ) (at : ℕ) → at + n ≤ length s → le (part s at (n + m)) ≡ le (part s at n) + 256 ^ n * le (part s (at + n) m)
le-add n m s at h = rw (part-add s at n m, le-append, part_length s at n h)

-- one byte
pub le-one : (s : List ℕ) (at : ℕ) → at < length s → le (part s at 1) ≡ get_or s at 0
unfolding le
le-one s at h = rw (part-one s at h) (omega arith)

-- k bytes say a number below 256 ^ k
pub le-bound : (s : List ℕ) → ((i : ℕ) → get_or s i 0 < 256) → le s < 256 ^ length s
unfolding le
le-bound [] f = lit< tt
le-bound (b ∷ s) f =
    let h : le s < 256 ^ length s = le-bound s (λ i. f (suc i)) in
    rw pow-succ' (omega (arith, f 0))

-- ---- a number to bytes

pub length-bytes : (k v : ℕ) → length (bytes k v) ≡ k
unfolding bytes
length-bytes zero v = refl
length-bytes (suc k) v = ap suc (length-bytes k (v / 256))

-- n bytes, and m of what is above them
pub bytes-add : (n m v : ℕ) → bytes (n + m) v ≡ bytes n v ++ bytes m (v / 256 ^ n)
unfolding bytes
bytes-add zero m v = rw (zero-add, pow-zero, div-one)
bytes-add (suc n) m v = rw (suc-add, pow-succ', ← div-div-eq-div-mul) (ap (λ (l : List ℕ). v % 256 ∷ l) (bytes-add n m (v / 256)))

-- only the low n bytes of v count
pub bytes_low : (n v : ℕ) → bytes n (v % 256 ^ n) ≡ bytes n v
unfolding bytes
bytes_low zero v = refl
bytes_low (suc n) v =
    let p : zero < 256 ^ n = one-le-pow n 256 (lit< tt) in
    let r : v % 256 < 256 = omega arith in
    rw (pow-suc, mod-mul v {m = 256 ^ n} {c = 256} p (lit< tt), digits_mod _ r, digits_div _ r, bytes_low n (v / 256))

-- each of them is a byte
pub bytes-bound : (k v i : ℕ) → get_or (bytes k v) i 0 < 256
unfolding bytes
bytes-bound zero v i = lit< tt
bytes-bound (suc k) v zero = omega arith
bytes-bound (suc k) v (suc i) = bytes-bound k (v / 256) i

-- ---- inverse both ways

pub le_bytes : (k v : ℕ) → v < 256 ^ k → le (bytes k v) ≡ v
unfolding le bytes
le_bytes zero v h = omega arith
le_bytes (suc k) v h =
    let h' : v < 256 * 256 ^ k = rw pow-succ' at h in
    rw (le_bytes k (v / 256) (omega arith)) (omega arith)

pub bytes_le : (s : List ℕ) → ((i : ℕ) → get_or s i 0 < 256) → bytes (length s) (le s) ≡ s
unfolding le bytes
bytes_le [] f = refl
bytes_le (b ∷ s) f =
    let h : b < 256 = f 0 in
    let r : (b + 256 * le s) % 256 ≡ b = omega arith in
    let q : (b + 256 * le s) / 256 ≡ le s = omega arith in
    rw (r, q, bytes_le s (λ i. f (suc i)))

-- ---- fields

module _ (k : ℕ) (s : List ℕ) (at : ℕ) where
  pub field_in : at + k ≤ length s → field k s at ≡ le (part s at k)
  unfolding field
  field_in h = rw (le-leb (at + k) (length s) h)

  pub field_out : length s < at + k → field k s at ≡ 0
  unfolding field
  field_out h = rw (lt-leb (at + k) (length s) h)

-- a field that was written reads back
pub field_put : (k : ℕ) (s : List ℕ) (at v : ℕ) → v < 256 ^ k → at + k ≤ length s → field k (overwrite s at (bytes k v)) at ≡ v
field_put k s at v h l =
    let n : length (bytes k v) ≡ k = length-bytes k v in
    let fit : at + length (bytes k v) ≤ length s = omega arith in
    let whole : at + k ≤ length (overwrite s at (bytes k v)) = rw (overwrite-length s at (bytes k v) fit) l in
    rw (field_in k (overwrite s at (bytes k v)) at whole, part_same s at (bytes k v) fit k n) (le_bytes k v h)

-- the bytes of a field are those that it was read from
pub field-bytes : (k : ℕ) (s : List ℕ) (at : ℕ) → ((i : ℕ) → get_or s i 0 < 256) → at + k ≤ length s → bytes k (field k s at) ≡ part s at k
field-bytes k s at f h =
    rw (field_in k s at h) (ap (λ (n : ℕ). bytes n (le (part s at k))) (sym (part_length s at k h)) ∙ bytes_le (part s at k) (part-below s at k f))

-- a field of bytes fits its width
pub field_bound : (k : ℕ) (s : List ℕ) (at : ℕ) → ((i : ℕ) → get_or s i 0 < 256) → field k s at < 256 ^ k
unfolding field
field_bound k s at f = whether (fits s at k) refl
  where
    whether : (b : Bool) → fits s at k ≡ b → cond b (le (part s at k)) 0 < 256 ^ k
    whether true e = rw (part_length s at k (leb-true (at + k) (length s) e)) at (le-bound (part s at k) (part-below s at k f))
    whether false e = one-le-pow k 256 (lit< tt)

-- a byte is a field of width 1
pub field-one : (s : List ℕ) (at : ℕ) → at < length s → field 1 s at ≡ get_or s at 0
field-one s at h = field_in 1 s at (omega arith) ∙ le-one s at h

-- one that does not fit is 0, as an element that is not there
pub field-byte : (s : List ℕ) (at : ℕ) → field 1 s at ≡ get_or s at 0
field-byte s at = elim (cases_lt at (length s)) [ inl h ↦ field-one s at h | inr h ↦ field_out 1 s at (omega arith) ∙ sym (get_or_past s at 0 h) ]

-- one store
pub one_store : (s : List ℕ) (at v : ℕ) → at < length s → v < 256 → set s at v ≡ overwrite s at (bytes 1 v)
unfolding bytes
one_store s at v h l =
    let e : v % 256 ≡ v = omega arith in
    rw e (overwrite-one s at v h)

-- two stores
pub two_stores : (s : List ℕ) (at v : ℕ) → at + 2 ≤ length s → v < 65536 → set (set s at (v % 256)) (at + 1) (v / 256) ≡ overwrite s at (bytes 2 v)
unfolding bytes
two_stores s at v h l =
    let low : at < length s = omega arith in
    let high : at + 1 < length (overwrite s at (v % 256 ∷ [])) = rw (overwrite-length s at (v % 256 ∷ []) (omega arith)) (omega arith) in
    let e : v / 256 % 256 ≡ v / 256 = omega arith in
    rw (overwrite-one s at (v % 256) low, overwrite-one (overwrite s at (v % 256 ∷ [])) (at + 1) (v / 256) high, e) (overwrite-then s at 1 (v % 256 ∷ []) (v / 256 ∷ []) refl (omega arith))

-- the low n bytes of v, and m bytes of what is above them behind those, are n + m bytes of v
pub overwrite-bytes : (n m : ℕ) (s : List ℕ) (at v : ℕ) → at + (n + m) ≤ length s
    → overwrite (overwrite s at (bytes n (v % 256 ^ n))) (at + n) (bytes m (v / 256 ^ n)) ≡ overwrite s at (bytes (n + m) v)
overwrite-bytes n m s at v h =
    rw (overwrite-then s at n (bytes n (v % 256 ^ n)) (bytes m (v / 256 ^ n)) (length-bytes n _) (rw length-bytes (omega arith)), bytes_low, bytes-add)

-- ---- the library's words on bytes

-- the k bytes of a number from byte i on
pub low_first-is : (i k v : ℕ) → bytes_low_first i k v ≡ bytes k (v / 256 ^ i)
unfolding bytes
low_first-is i zero v = refl
low_first-is zero (suc k) v = rw (pow-zero, div-one) (ap (λ (l : List ℕ). v % 256 ∷ l) (low_first-is 1 k v ∙ ap (bytes k) (ap (λ (n : ℕ). v / n) refl)))
low_first-is (suc i) (suc k) v =
    let e : v / 256 ^ suc (suc i) ≡ v / 256 ^ suc i / 256 = rw (pow-suc, ← div-div-eq-div-mul) refl in
    ap (λ (l : List ℕ). v / 256 ^ suc i % 256 ∷ l) (low_first-is (suc (suc i)) k v ∙ ap (bytes k) e)

pub to_le-is : (k v : ℕ) → bytes_low_first 0 k v ≡ bytes k v
to_le-is k v = low_first-is 0 k v ∙ ap (bytes k) (rw (pow-zero) (div-one v))

-- the number that bytes were made of is what they say
pub le-from : (k v : ℕ) (bs : List ℕ) → v < 256 ^ k → bytes_low_first 0 k v ≡ bs → v ≡ le bs
le-from k v bs h e = sym (le_bytes k v h) ∙ ap le (sym (to_le-is k v) ∙ e)

-- a reader that takes the k bytes, where they end inside s, for the number that they say, and else 0
pub field_by : (k : ℕ) (s : List ℕ) (at r : ℕ) (o : Option (List ℕ)) (P : List ℕ → Type 0) → o ≡ cond (fits s at k) (Some (part s at k)) None → MatchOption o (r ≡ 0) P
    → (at + k ≤ length s → P (part s at k) → r ≡ le (part s at k)) → r ≡ field k s at
unfolding field
field_by k s at r o P e m f = whether (fits s at k) refl (rw e at m)
  where
    whether : (t : Bool) → fits s at k ≡ t → MatchOption (cond t (Some (part s at k)) None) (r ≡ 0) P → r ≡ cond t (le (part s at k)) 0
    whether true e m = f (leb-true (at + k) (length s) e) m
    whether false e m = m
