-- A scan of triangles for checks 18 and 27: what the counts of a block say, and how blocks come together. The laws are over the list of indices,
-- however wide these are stored.
use mathlib.Core.Path.{◌≡◌, refl, sym, ap, subst, ◌∙◌}
use mathlib.Core.Bool.{Bool, true, false, cond, ◌&&◌, not}
use mathlib.Core.List.{List, [], ◌∷◌, ◌++◌}
use Prim.Native.Nat.{ℕ, zero, suc, ◌+◌, ◌*◌, ◌-◌, ◌/◌, ◌≤◌, min}
use native.Mathlib.Nat.{add-zero, div-le_self, div-mul-le_self, mul-le-mul_right, le_trans}
use native.Mathlib.Numerals.{add-one}
use native.Mathlib.Omega.{arith}
use borrow.Author.Tests.{eq-eqb, eqb-true, ne_eqb}
use lib.Dec.{T, eqb, ltb}
use lib.ListN.{length, take, drop, length-append, length-drop}
use lib.Seq.{drop-drop, drop-cons, take-add, take_at, length-take-le}
use Rattle.sections.specs.Edit.{part}
use Rattle.sections.specs.Le.{le}
use Rattle.vertices.specs.Runs.{numbers}
use Rattle.vertices.proofs.RunLaws.{numbers-length, numbers-add, numbers-get_or}
use Rattle.halls.specs.Checks.{triangles_of, has_three_vertices}
use Rattle.halls.specs.Every.{every}
use Rattle.halls.specs.Inner.Order.{passed}
use Rattle.halls.specs.Inner.Judging.{indices_lowest_of}
use Rattle.halls.specs.Inner.Counting.{lent_triangle_at, triangle_in, one, indices_below, equal_pairs, counted_lowest}
use Rattle.halls.specs.declared.check.triangle.Triangle.{Triangle}
use Rattle.halls.proofs.EveryLaws.{and_true, and_false, every_append}

-- a triangle's indices, and the triangles of whole ones one behind the other
abbrev pub indices_of : Triangle → List ℕ
indices_of t = t.a ∷ t.b ∷ t.c ∷ []

triangles-append : (n : ℕ) (xs ys : List ℕ) → length xs ≡ 3 * n → triangles_of (xs ++ ys) ≡ triangles_of xs ++ triangles_of ys
unfolding triangles_of
triangles-append zero [] ys e = refl
triangles-append zero (a ∷ xs) ys e = absurd (omega arith)
triangles-append (suc n) [] ys e = absurd (omega arith)
triangles-append (suc n) (a ∷ []) ys e = absurd (omega arith)
triangles-append (suc n) (a ∷ b ∷ []) ys e = absurd (omega arith)
triangles-append (suc n) (a ∷ b ∷ c ∷ xs) ys e = ap (λ (l : List Triangle). record { a = a; b = b; c = c } ∷ l) (triangles-append n xs ys (omega arith))

abbrev in_range : ℕ → List ℕ → Bool
in_range limit xs = every (λ (i : ℕ). ltb i limit) xs

abbrev distinct : List ℕ → Bool
distinct xs = every has_three_vertices (triangles_of xs)

distinct_append : (n : ℕ) (xs ys : List ℕ) → length xs ≡ 3 * n → distinct (xs ++ ys) ≡ (distinct xs && distinct ys)
distinct_append n xs ys e = ap (every has_three_vertices) (triangles-append n xs ys e) ∙ every_append has_three_vertices (triangles_of xs) (triangles_of ys)

-- ---- a block, counted

-- one more that is tested, on both sides
all-so_far : (count n : ℕ) (ok : Bool) → count ≤ n → eqb (count + one ok) (n + 1) ≡ (eqb count n && ok)
all-so_far count n true h = on (eqb count n) refl
  where
    on : (t : Bool) → eqb count n ≡ t → eqb (count + 1) (n + 1) ≡ (t && true)
    on true e = eq-eqb (count + 1) (n + 1) (omega (arith, eqb-true count n e))
    on false e = ne_eqb (count + 1) (n + 1) (λ z. absurd (subst T (sym (eq-eqb count n (omega arith)) ∙ e) tt))
all-so_far count n false h = ne_eqb (count + 0) (n + 1) (λ z. omega arith) ∙ sym (and_false (eqb count n))

none_so_far : (count : ℕ) (ok : Bool) → eqb (count + one ok) 0 ≡ (eqb count 0 && not ok)
none_so_far count true = ne_eqb (count + 1) 0 (λ z. omega arith) ∙ sym (and_false (eqb count 0))
none_so_far count false = ap (λ (n : ℕ). eqb n 0) (add-zero count) ∙ sym (and_true (eqb count 0))

three : (e p q r : Bool) → (((e && p) && q) && r) ≡ (e && (p && (q && (r && true))))
three true true true r = sym (and_true r)
three true true false r = refl
three true false q r = refl
three false p q r = refl

three_not : (e p q r : Bool) → (((e && p) && q) && r) ≡ (e && ((p && (q && r)) && true))
three_not true true true r = sym (and_true r)
three_not true true false r = refl
three_not true false q r = refl
three_not false p q r = refl

one-few : (ok : Bool) → one ok ≤ 1
one-few true = omega arith
one-few false = omega arith

pub record Counted (limit : ℕ) (xs : List ℕ) (inside pairs i : ℕ) : Type 0 where
  pub long : length xs ≡ 3 * i
  pub few : inside ≤ 3 * i
  pub fewer : pairs ≤ 3 * i
  pub range : eqb inside (3 * i) ≡ in_range limit xs
  pub three : eqb pairs 0 ≡ distinct xs

pub counted_start : (limit : ℕ) (xs : List ℕ) → xs ≡ [] → Counted limit xs 0 0 0
unfolding every triangles_of
counted_start limit xs e = rw e (record { long = refl; few = omega arith; fewer = omega arith; range = refl; three = refl })

module _ {limit : ℕ} {xs : List ℕ} {inside pairs i : ℕ} (k : Counted limit xs inside pairs i) (t : Triangle) where
  abbrev p : Bool
  p = ltb t.a limit

  abbrev q : Bool
  q = ltb t.b limit

  abbrev r : Bool
  r = ltb t.c limit

  range_more : eqb (inside + indices_below limit t) (3 * (i + 1)) ≡ in_range limit (xs ++ indices_of t)
  unfolding every
  range_more =
      let a = one-few p in
      let b = one-few q in
      let here : inside + indices_below limit t ≡ inside + one p + one q + one r = omega arith in
      let there : 3 * (i + 1) ≡ 3 * i + 1 + 1 + 1 = omega arith in
      rw (here, there, every_append (λ (x : ℕ). ltb x limit) xs (indices_of t))
      (all-so_far (inside + one p + one q) (3 * i + 1 + 1) r (omega (arith, a, b, k.few))
      ∙ rw (all-so_far (inside + one p) (3 * i + 1) q (omega (arith, a, k.few)), all-so_far inside (3 * i) p k.few, k.range)
      (three (in_range limit xs) p q r))

  three_more : eqb (pairs + equal_pairs t) 0 ≡ distinct (xs ++ indices_of t)
  unfolding every triangles_of has_three_vertices
  three_more =
      let ab = eqb t.a t.b in
      let bc = eqb t.b t.c in
      let ac = eqb t.a t.c in
      let here : pairs + equal_pairs t ≡ pairs + one ab + one bc + one ac = omega arith in
      rw (here, distinct_append i xs (indices_of t) k.long)
      (none_so_far (pairs + one ab + one bc) ac ∙ rw (none_so_far (pairs + one ab) bc, none_so_far pairs ab, k.three) (three_not (distinct xs) (not ab) (not bc) (not ac)))

  pub Counted-turn : {ys : List ℕ} {more same : ℕ} → ys ≡ xs ++ indices_of t → more ≡ inside + indices_below limit t → same ≡ pairs + equal_pairs t → Counted limit ys more same (i + 1)
  Counted-turn e m s =
      let a = one-few p in
      let b = one-few q in
      let c = one-few r in
      let d = one-few (eqb t.a t.b) in
      let f = one-few (eqb t.b t.c) in
      let g = one-few (eqb t.a t.c) in
      rw (e, m, s) (record {
        long = length-append xs (indices_of t) ∙ omega (arith, k.long);
        few = omega (arith, a, b, c, k.few);
        fewer = omega (arith, d, f, g, k.fewer);
        range = range_more;
        three = three_more;
      })

pub Counted-end : {limit : ℕ} {xs : List ℕ} {inside pairs i : ℕ} → Counted limit xs inside pairs i → counted_lowest inside pairs i ≡ indices_lowest_of limit xs
unfolding indices_lowest_of
Counted-end k = rw (k.range, k.three)

-- ---- blocks, one behind the other

by_both : (a b c d : Bool) → cond (a && c) (cond (b && d) passed 27) 18 ≡ min (cond a (cond b passed 27) 18) (cond c (cond d passed 27) 18)
by_both true true true true = refl
by_both true true true false = refl
by_both true true false d = refl
by_both true false true true = refl
by_both true false true false = refl
by_both true false false d = refl
by_both false b true true = refl
by_both false b true false = refl
by_both false b false d = refl

lowest-append : (limit n : ℕ) (xs ys : List ℕ) → length xs ≡ 3 * n → indices_lowest_of limit (xs ++ ys) ≡ min (indices_lowest_of limit xs) (indices_lowest_of limit ys)
unfolding indices_lowest_of
lowest-append limit n xs ys e = rw (every_append (λ (i : ℕ). ltb i limit) xs ys, distinct_append n xs ys e) (by_both (in_range limit xs) (distinct xs) (in_range limit ys) (distinct ys))

-- nothing is lower than 18
range-first : (a b : Bool) → 18 ≤ cond a (cond b passed 27) 18
range-first true true = omega arith
range-first true false = omega arith
range-first false b = omega arith

pub record Scanned (limit : ℕ) (xs : List ℕ) (lowest i : ℕ) : Type 0 where
  pub long : length xs ≡ 3 * i
  pub is : lowest ≡ indices_lowest_of limit xs

pub Scanned-start : (limit : ℕ) (xs : List ℕ) → xs ≡ [] → Scanned limit xs passed 0
unfolding indices_lowest_of every triangles_of
Scanned-start limit xs e = rw e (record { long = refl; is = refl })

module _ {limit : ℕ} {xs : List ℕ} {lowest i : ℕ} (k : Scanned limit xs lowest i) where
  pub Scanned-turn : {zs : List ℕ} {next : ℕ} (n : ℕ) (ys : List ℕ) → zs ≡ xs ++ ys → length ys ≡ 3 * n → next ≡ min lowest (indices_lowest_of limit ys) → Scanned limit zs next (i + n)
  Scanned-turn n ys e l m = record {
    long = ap length e ∙ length-append xs ys ∙ omega (arith, l, k.long);
    is = m ∙ ap (λ (x : ℕ). min x (indices_lowest_of limit ys)) k.is ∙ sym (lowest-append limit i xs ys k.long) ∙ ap (indices_lowest_of limit) (sym e);
  }

  -- an index out of range decides, whatever follows
  pub Scanned-fails : {zs : List ℕ} (ys : List ℕ) → zs ≡ xs ++ ys → lowest ≡ 18 → 18 ≡ indices_lowest_of limit zs
  unfolding indices_lowest_of
  Scanned-fails ys e h =
      let low : 18 ≤ indices_lowest_of limit ys = range-first (in_range limit ys) (distinct ys) in
      let lowest-18 : indices_lowest_of limit xs ≡ 18 = sym k.is ∙ h in
      sym (ap (indices_lowest_of limit) e ∙ lowest-append limit i xs ys k.long ∙ omega (arith, low, lowest-18))

-- ---- triangles in a list of indices

module _ (xs : List ℕ) where
  -- n triangles behind i of them
  pub triangles-add : (i n : ℕ) → take (3 * (i + n)) xs ≡ take (3 * i) xs ++ take (3 * n) (drop (3 * i) xs)
  triangles-add i n =
      let both : 3 * (i + n) ≡ 3 * i + 3 * n = omega arith in
      ap (λ (m : ℕ). take m xs) both ∙ take-add (3 * i) (3 * n) xs

  pub triangles-length : (i n : ℕ) → 3 * (i + n) ≤ length xs → length (take (3 * n) (drop (3 * i) xs)) ≡ 3 * n
  triangles-length i n h = length-take-le (3 * n) (drop (3 * i) xs) (simp length-drop (omega arith))

  -- all of them, behind i
  pub triangles-all : (i count : ℕ) → i ≤ count → take (3 * count) xs ≡ take (3 * i) xs ++ take (3 * (count - i)) (drop (3 * i) xs)
  triangles-all i count h =
      let both : count ≡ i + (count - i) = omega arith in
      ap (λ (m : ℕ). take (3 * m) xs) both ∙ triangles-add i (count - i)

  -- and so of a place that is told the other way round
  pub lent_add : (i n : ℕ) → take (3 * (i + n)) xs ≡ take (3 * i) xs ++ take (3 * n) (drop (i * 3) xs)
  lent_add i n =
      let other : 3 * i ≡ i * 3 = omega arith in
      triangles-add i n ∙ ap (λ (m : ℕ). take (3 * i) xs ++ take (3 * n) (drop m xs)) other

  pub lent_length : (i n : ℕ) → 3 * (i + n) ≤ length xs → length (take (3 * n) (drop (i * 3) xs)) ≡ 3 * n
  lent_length i n h = length-take-le (3 * n) (drop (i * 3) xs) (simp length-drop (omega arith))

  lent_triangle : (at : ℕ) → at + 3 ≤ length xs → take 3 (drop at xs) ≡ indices_of (lent_triangle_at xs at)
  lent_triangle at h =
      let third : at + 2 ≡ suc (suc at) = omega arith in
      rw (add-one at, third, drop-cons xs at 0 (omega arith), drop-cons xs (suc at) 0 (omega arith), drop-cons xs (suc (suc at)) 0 (omega arith)) refl

  -- one more of them, from the triangle `first` on
  pub triangles-next : (first i : ℕ) {t : Triangle} → first ≤ i → 3 * i + 3 ≤ length xs → t ≡ triangle_in xs i
      → take (3 * (i + 1 - first)) (drop (3 * first) xs) ≡ take (3 * (i - first)) (drop (3 * first) xs) ++ indices_of t
  triangles-next first i f h e =
      let ys : List ℕ = drop (3 * first) xs in
      let both : 3 * first + 3 * (i - first) ≡ 3 * i = omega arith in
      let more : 3 * (i + 1 - first) ≡ 3 * (i - first) + 3 = omega arith in
      ap (λ (m : ℕ). take m ys) more ∙ take-add (3 * (i - first)) 3 ys
      ∙ ap (λ (l : List ℕ). take (3 * (i - first)) ys ++ take 3 l) (drop-drop (3 * (i - first)) (3 * first) xs ∙ ap (λ (m : ℕ). drop m xs) both)
      ∙ ap (λ (l : List ℕ). take (3 * (i - first)) ys ++ l) (lent_triangle (3 * i) h ∙ ap indices_of (sym e))

-- the i-th triangle of the numbers that fill some bytes, so wide each
module _ (width n : ℕ) (s : List ℕ) (i : ℕ) (h : 3 * i + 3 ≤ length (numbers width n s)) where
  pub triangle-fits : 3 * i + 3 ≤ n
  triangle-fits = omega (arith, h, numbers-length width n s)

  pub triangle_of-bytes : triangle_in (numbers width n s) i ≡ record { a = le (part s (3 * i * width) width); b = le (part s ((3 * i + 1) * width) width); c = le (part s ((3 * i + 2) * width) width) }
  triangle_of-bytes =
      rw (numbers-get_or width n (3 * i) s (omega (arith, triangle-fits)), numbers-get_or width n (3 * i + 1) s (omega (arith, triangle-fits)), numbers-get_or width n (3 * i + 2) s (omega (arith, triangle-fits))) refl

-- where they are as many as the bytes have, its bytes lie inside
pub triangle_bytes : (width i : ℕ) (s : List ℕ) → 3 * i + 3 ≤ length (numbers width (length s / width) s) → ((3 * i + 3) * width ≤ length s) × (3 * i + 3 ≤ length s)
triangle_bytes width i s h =
    let fits = triangle-fits width _ s i h in
    (le_trans (mul-le-mul_right width fits) (div-mul-le_self (length s) width), le_trans fits (div-le_self (length s) width))

-- the first of them
pub numbers-take : (width m n : ℕ) (s : List ℕ) → m ≤ n → take m (numbers width n s) ≡ numbers width m s
numbers-take width m n s h =
    let both : n ≡ m + (n - m) = omega arith in
    ap (λ (k : ℕ). take m (numbers width k s)) both ∙ ap (take m) (numbers-add width m (n - m) s)
    ∙ take_at (numbers width m s) (numbers width (n - m) (drop (m * width) s)) m (numbers-length width m s)
