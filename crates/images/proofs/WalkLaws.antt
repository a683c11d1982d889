-- A walk over k items of a list, each passed by its own length: what is left, and what those passed come to.
use mathlib.Core.Path.{◌≡◌, refl, sym, ap, ◌∙◌}
use mathlib.Core.List.{List, [], ◌∷◌}
use Prim.Native.Nat.{ℕ, zero, suc, ◌+◌, ◌-◌, ◌≤◌, ◌<◌}
use native.Mathlib.Omega.{arith}
use lib.ListN.{length, take, drop, length-drop}
use lib.Seq.{drop-drop}
use Rattle.halls.specs.Every.{sum_of}
use Rattle.halls.proofs.WalkLaws.{slice-rest}
use Rattle.images.specs.Fronts.{items_from, items_length}
use Rattle.images.specs.declared.parts.Measured.{Measured}

-- ---- one item more

module _ {A : Type 0} (front : List ℕ → A) (len : List ℕ → ℕ) where
  pub items-step : (k : ℕ) (s : List ℕ) → 0 < k → items_from front len k s ≡ front s ∷ items_from front len (k - 1) (drop (len s) s)
  unfolding items_from
  items-step zero s h = absurd (omega arith)
  items-step (suc k) s h = let e : suc k - 1 ≡ k = omega arith in rw e

  pub items-none : (k : ℕ) (s : List ℕ) → k ≤ 0 → items_from front len k s ≡ []
  unfolding items_from
  items-none zero s h = refl
  items-none (suc k) s h = absurd (omega arith)

  pub items_count : (k : ℕ) (s : List ℕ) → length (items_from front len k s) ≡ k
  unfolding items_from
  items_count zero s = refl
  items_count (suc k) s = ap suc (items_count k (drop (len s) s))

pub length-step : (len : List ℕ → ℕ) (k : ℕ) (s : List ℕ) → 0 < k → items_length len k s ≡ len s + items_length len (k - 1) (drop (len s) s)
unfolding items_length
length-step len zero s h = absurd (omega arith)
length-step len (suc k) s h = let e : suc k - 1 ≡ k = omega arith in rw e

pub length_none : (len : List ℕ → ℕ) (k : ℕ) (s : List ℕ) → k ≤ 0 → items_length len k s ≡ 0
unfolding items_length
length_none len zero s h = refl
length_none len (suc k) s h = absurd (omega arith)

-- ---- as the code measures an item, in what is left of a list

pub record MeasuredAt {A : Type 0} (front : List ℕ → A) (len : List ℕ → ℕ) (size : A → ℕ) (s : List ℕ) (m : Measured) : Type 0 where
  pub length-is : m.«length» ≡ len s
  pub size_is : m.size ≡ size (front s)

MeasuredAt_lem : {A : Type 0} (front : List ℕ → A) (len : List ℕ → ℕ) (size : A → ℕ) (s : List ℕ) (place : ℕ) {m : Measured}
    → m ≡ record { «length» = len (take (length s - place) (drop place s)); size = size (front (take (length s - place) (drop place s))) } → MeasuredAt front len size (drop place s) m
MeasuredAt_lem front len size s place {m} e =
    let e' : m ≡ record { «length» = len (drop place s); size = size (front (drop place s)) } = rw (slice-rest s place) at e in
    record { length-is = ap (λ (x : Measured). x.«length») e'; size_is = ap (λ (x : Measured). x.size) e' }

-- ---- the walk

-- `left` of k items are left, from `place` on; those passed have led from `first` to `next`
pub record Walking {A : Type 0} (front : List ℕ → A) (len : List ℕ → ℕ) (size : A → ℕ) (s : List ℕ) (k first left place next : ℕ) : Type 0 where
  pub within : items_length len k s ≤ length s
  pub few : left ≤ k
  pub lengths : place + items_length len left (drop place s) ≡ items_length len k s
  pub sizes : next + sum_of size (items_from front len left (drop place s)) ≡ first + sum_of size (items_from front len k s)

pub walk_start : {A : Type 0} (front : List ℕ → A) (len : List ℕ → ℕ) (size : A → ℕ) (s : List ℕ) (k first : ℕ) → items_length len k s ≤ length s
    → Walking front len size s k first k 0 first
walk_start front len size s k first h = record { within = h; few = omega arith; lengths = omega arith; sizes = refl }

module _ {A : Type 0} {front : List ℕ → A} {len : List ℕ → ℕ} {size : A → ℕ} {s : List ℕ} {k first left place next : ℕ} (w : Walking front len size s k first left place next) where
  pub walk_place : place ≤ length s
  walk_place = omega (arith, w.within, w.lengths)

  pub walk-measured : {m : Measured} → m ≡ record { «length» = len (take (length s - place) (drop place s)); size = size (front (take (length s - place) (drop place s))) } → MeasuredAt front len size (drop place s) m
  walk-measured e = MeasuredAt_lem front len size s place e

  module _ (more : 0 < left) where
    length-here : items_length len left (drop place s) ≡ len (drop place s) + items_length len (left - 1) (drop (len (drop place s)) (drop place s))
    length-here = length-step len left (drop place s) more

    -- the next item is whole
    pub walk-fits : place + len (drop place s) ≤ length s
    walk-fits = omega (arith, w.within, w.lengths, length-here)

    walk-whole : len (drop place s) ≤ length (drop place s)
    walk-whole = rw (length-drop place s) (omega (arith, walk-fits))

    pub walk-rest : len (take (length s - place) (drop place s)) ≤ length (take (length s - place) (drop place s))
    walk-rest = rw (slice-rest s place) walk-whole

    size-here : sum_of size (items_from front len left (drop place s)) ≡ size (front (drop place s)) + sum_of size (items_from front len (left - 1) (drop (len (drop place s)) (drop place s)))
    unfolding sum_of
    size-here = ap (sum_of size) (items-step front len left (drop place s) more)

    -- and has its part of the sizes
    pub walk-size : next + size (front (drop place s)) ≤ first + sum_of size (items_from front len k s)
    walk-size = omega (arith, w.sizes, size-here)

    pub walk_turn : (l z : ℕ) → l ≡ len (drop place s) → z ≡ size (front (drop place s)) → Walking front len size s k first (left - 1) (place + l) (next + z)
    walk_turn l z e f =
        let behind : drop (len (drop place s)) (drop place s) ≡ drop (place + l) s = ap (λ (i : ℕ). drop i (drop place s)) (sym e) ∙ drop-drop l place s in
        let lengths : items_length len left (drop place s) ≡ l + items_length len (left - 1) (drop (place + l) s) = length-here ∙ rw (behind, ← e) in
        let sizes : sum_of size (items_from front len left (drop place s)) ≡ z + sum_of size (items_from front len (left - 1) (drop (place + l) s)) = size-here ∙ rw (behind, ← f) in
        record { within = w.within; few = omega (arith, w.few); lengths = omega (arith, w.lengths); sizes = omega (arith, w.sizes) }

    -- the items that are left, behind the next one
    pub walk-left : (l : ℕ) → l ≡ len (drop place s) → items_from front len left (drop place s) ≡ front (drop place s) ∷ items_from front len (left - 1) (drop (place + l) s)
    walk-left l e =
        let behind : drop (len (drop place s)) (drop place s) ≡ drop (place + l) s = ap (λ (i : ℕ). drop i (drop place s)) (sym e) ∙ drop-drop l place s in
        items-step front len left (drop place s) more ∙ rw behind

  -- none is left
  module _ (none : left ≤ 0) where
    pub walk-length : place ≡ items_length len k s
    walk-length = omega (arith, w.lengths, length_none len left (drop place s) none)

    pub walk-total : next ≡ first + sum_of size (items_from front len k s)
    unfolding sum_of
    walk-total =
        let e : sum_of size (items_from front len left (drop place s)) ≡ 0 = ap (sum_of size) (items-none front len left (drop place s) none) in
        omega (arith, w.sizes)

pub walk-passed : {A : Type 0} {front : List ℕ → A} {len : List ℕ → ℕ} {size : A → ℕ} {s : List ℕ} {k first left place next : ℕ} → Walking front len size s k first left place next → left ≤ 0
    → next - first ≡ sum_of size (items_from front len k s)
walk-passed w none = omega (arith, walk-total w none)
