-- Laws of encoding: how many bytes, how numbers join, and what is read again.
use mathlib.Core.Path.{◌≡◌, refl, sym, ap, subst, ◌∙◌}
use mathlib.Core.Bool.{Bool, true, false, cond}
use mathlib.Core.List.{List, [], ◌∷◌, ◌++◌, append-nil, map, map-append}
use Prim.Native.Nat.{ℕ, zero, suc, ◌+◌, ◌*◌, ◌^◌, ◌≤◌, ◌<◌}
use native.Mathlib.Nat.{add-mul, add-zero, mul-le-mul_right, one-le-pow}
use native.Mathlib.Numerals.{add-one}
use native.Mathlib.Omega.{arith}
use borrow.Author.Tests.{eqb-true}
use lib.Dec.{T, eqb, lit<}
use lib.ListN.{length, get_or, take, length-map}
use lib.Seq.{length-take-le, take-suc}
use Rattle.sections.specs.Edit.{overwrite}
use Rattle.sections.specs.Le.{bytes, field}
use Rattle.sections.proofs.EditLaws.{overwrite-behind, overwrite-length, overwrite-none, part_same}
use Rattle.sections.proofs.LeLaws.{length-bytes}
use Rattle.vertices.specs.Types.{size_of}
use Rattle.vertices.specs.Runs.{numbers, run}
use Rattle.vertices.specs.Attribute.{bits, value_at}
use Rattle.vertices.specs.Encode.{shape_of, shape_for, has_shape, numbers_of, width_of, stored_as, encoded_bytes, loaded_as, each_number, stored, number_width, InWidth}
use Rattle.vertices.specs.declared.types.VertexComponentType.{VertexComponentType}
use Rattle.vertices.specs.declared.types.VertexComponentType.TheVariants.{Nothing, Half2, Float, Half4, FloatUnknown, Float2, Float3, Float4, UByte4, Colour, Rgba8Snorm, Unknown}
use Rattle.vertices.specs.declared.attribute.VertexAttributeValue.{VertexAttributeValue}
use Rattle.vertices.specs.declared.attribute.VertexAttributeValue.TheVariants.{One, Two, Three, Four, Bytes, Unsupported}
use Rattle.vertices.proofs.HalfLaws.{f32-fits}
use Rattle.vertices.proofs.NormalisedFits.{f32_to_snorm8-fits}
use Rattle.vertices.proofs.RunLaws.{length_run, run-append, run-one, numbers-at, numbers-run}

-- ---- how many bytes

-- the numbers of a value of a shape
shape_count : ℕ → ℕ
shape_count n = cond (eqb n 5) 4 (cond (eqb n 6) 0 n)

numbers-count : (v : VertexAttributeValue) → length (numbers_of v) ≡ shape_count (shape_of v)
unfolding shape_count
numbers-count (One f) = refl
numbers-count (Two v) = refl
numbers-count (Three v) = refl
numbers-count (Four v) = refl
numbers-count (Bytes b) = refl
numbers-count Unsupported = refl

size-count : (t : VertexComponentType) → shape_count (shape_for t) * width_of t ≡ size_of t
unfolding shape_count
size-count Nothing = refl
size-count Half2 = refl
size-count Float = refl
size-count Half4 = refl
size-count FloatUnknown = refl
size-count Float2 = refl
size-count Float3 = refl
size-count Float4 = refl
size-count UByte4 = refl
size-count Colour = refl
size-count Rgba8Snorm = refl
size-count (Unknown n) = refl

module _ (t : VertexComponentType) (v : VertexAttributeValue) (shape : has_shape t v ≡ true) where
  -- the numbers of a value of the type's shape fill the type's size
  pub shape_size : length (numbers_of v) * width_of t ≡ size_of t
  shape_size = rw (numbers-count v, ← eqb-true (shape_for t) (shape_of v) shape) (size-count t)

  -- a value of the type's shape is encoded in the type's size
  pub encoded-length : length (encoded_bytes t v) ≡ size_of t
  unfolding encoded_bytes
  encoded-length = rw (length_run, length-map) shape_size

-- ---- how numbers join

-- a run, and then a run right behind it
pub runs_join : (k : ℕ) (s : List ℕ) (at n : ℕ) (xs ys : List ℕ) {t u : List ℕ} → length xs ≡ n → t ≡ overwrite s at (run k xs) → u ≡ overwrite t (at + n * k) (run k ys)
    → at + (n * k + length ys * k) ≤ length s → u ≡ overwrite s at (run k (xs ++ ys))
runs_join k s at n xs ys e f g h =
    let l : length (run k xs) ≡ n * k = length_run k xs ∙ ap (λ (m : ℕ). m * k) e in
    let m : at + n * k + length (run k ys) ≤ length s = rw length_run (omega arith) in
    overwrite-behind s at (run k xs) (n * k) (run k ys) f l g m ∙ ap (overwrite s at) (sym (run-append k xs ys))

-- two numbers, one behind the other
pub two_join : (k : ℕ) (s : List ℕ) (at x y : ℕ) {t u : List ℕ} → t ≡ overwrite s at (bytes k x) → u ≡ overwrite t (at + k) (bytes k y) → at + 2 * k ≤ length s → u ≡ overwrite s at (run k (x ∷ y ∷ []))
unfolding run
two_join k s at x y f g h =
    let m : at + k + length (bytes k y) ≤ length s = rw length-bytes (omega arith) in
    rw append-nil (overwrite-behind s at (bytes k x) k (bytes k y) f (length-bytes k x) g m)

-- s with the first i of the numbers xs written from `off` on, each k bytes, b
pub record Encoding (k : ℕ) (f : ℕ → ℕ) (xs s : List ℕ) (off : ℕ) (b : List ℕ) (i : ℕ) : Type 0 where
  pub is : b ≡ overwrite s off (run k (map f (take i xs)))
  pub same : length b ≡ length s

module _ {k : ℕ} {f : ℕ → ℕ} {xs s : List ℕ} {off : ℕ} (room : off + length xs * k ≤ length s) where
  -- before the first
  pub encoding_start : Encoding k f xs s off s 0
  unfolding run
  encoding_start = record { is = sym (overwrite-none s off); same = refl }

  module _ {b : List ℕ} {i : ℕ} (e : Encoding k f xs s off b i) where
    -- there is room for the next
    encoding_room : i < length xs → off + i * k + k ≤ length b
    encoding_room h =
        let m : (i + 1) * k ≤ length xs * k = mul-le-mul_right k (omega arith) in
        let n : (i + 1) * k ≡ i * k + k = rw add-mul (omega arith) in
        omega (arith, e.same)

    -- one more
    pub encoding_turn : {x : ℕ} {t : List ℕ} → i < length xs → x ≡ get_or xs i 0 → t ≡ overwrite b (off + i * k) (bytes k (f x)) → Encoding k f xs s off t (i + 1)
    encoding_turn {x} {t} h g u =
        let m : (i + 1) * k ≤ length xs * k = mul-le-mul_right k (omega arith) in
        let p : (i + 1) * k ≡ i * k + k = rw add-mul (omega arith) in
        let joined : map f (take (i + 1) xs) ≡ map f (take i xs) ++ f x ∷ [] = rw (add-one, take-suc xs i 0 h, ← g, map-append) in
        let size : length (map f (take i xs)) ≡ i = rw length-map (length-take-le i xs (omega arith)) in
        let put : t ≡ overwrite b (off + i * k) (run k (f x ∷ [])) = rw run-one u in
        let is : t ≡ overwrite s off (run k (map f (take i xs) ++ f x ∷ [])) = runs_join k s off i (map f (take i xs)) (f x ∷ []) size e.is put (omega arith) in
        record { is = rw joined is; same = ap length u ∙ overwrite-length b (off + i * k) (bytes k (f x)) (rw length-bytes (encoding_room h)) ∙ e.same }

-- ---- what is written

module _ (t : VertexComponentType) {v v' : VertexAttributeValue} (e : v ≡ v') where
  -- there is room for each number of a value that has the type's shape
  pub shape_room : (at n : ℕ) → has_shape t v ≡ true → at + size_of t ≤ n → at + length (numbers_of v') * width_of t ≤ n
  shape_room at n shape h = rw (← e, shape_size t v shape) h

  -- its numbers one behind the other are its encoding
  pub value_written : (s : List ℕ) (at : ℕ) {u : List ℕ} → u ≡ overwrite s at (run (width_of t) (map (stored_as t) (numbers_of v'))) → u ≡ overwrite s at (encoded_bytes t v)
  unfolding encoded_bytes
  value_written s at h = rw e h

-- no number, no change
pub nothing_written : (k : ℕ) (s : List ℕ) (at : ℕ) → s ≡ overwrite s at (run k [])
unfolding run
nothing_written k s at = sym (overwrite-none s at)

-- ---- what is read again

map_below : (f : ℕ → ℕ) (a b : ℕ) → 0 < b → ((x : ℕ) → x < a → f x < b) → (xs : List ℕ) → ((i : ℕ) → get_or xs i 0 < a) → (i : ℕ) → get_or (map f xs) i 0 < b
map_below f a b z h [] g i = z
map_below f a b z h (x ∷ xs) g zero = h x (g 0)
map_below f a b z h (x ∷ xs) g (suc i) = map_below f a b z h xs (λ j. g (suc j)) i

get_or-map-in : (f : ℕ → ℕ) (xs : List ℕ) (i : ℕ) → i < length xs → get_or (map f xs) i 0 ≡ f (get_or xs i 0)
get_or-map-in f [] i h = absurd (omega arith)
get_or-map-in f (x ∷ xs) zero h = refl
get_or-map-in f (x ∷ xs) (suc i) h = get_or-map-in f xs i (omega arith)

-- the i-th number of a run that was written
pub run-read : (k : ℕ) (s : List ℕ) (at : ℕ) (xs : List ℕ) → ((i : ℕ) → get_or xs i 0 < 256 ^ k) → at + length xs * k ≤ length s
    → (i : ℕ) → i < length xs → field k (overwrite s at (run k xs)) (at + i * k) ≡ get_or xs i 0
run-read k s at xs w h i l =
    let n : length (run k xs) ≡ length xs * k = length_run k xs in
    let fit : at + length (run k xs) ≤ length s = omega arith in
    let same : length (overwrite s at (run k xs)) ≡ length s = overwrite-length s at (run k xs) fit in
    sym (numbers-at k (length xs) i (overwrite s at (run k xs)) at l (omega arith))
    ∙ ap (λ (p : List ℕ). get_or (numbers k (length xs) p) i 0) (part_same s at (run k xs) fit (length xs * k) n) ∙ ap (λ (p : List ℕ). get_or p i 0) (numbers-run k xs w)

-- the bytes of each number of a value of a shape
shape_width : ℕ → ℕ
shape_width n = cond (eqb n 5) 1 4

shape_width_lem : (v : VertexAttributeValue) → number_width v ≡ shape_width (shape_of v)
unfolding shape_width
shape_width_lem (One f) = refl
shape_width_lem (Two v) = refl
shape_width_lem (Three v) = refl
shape_width_lem (Four v) = refl
shape_width_lem (Bytes b) = refl
shape_width_lem Unsupported = refl

-- a number as a type stores it fits its width
stored-fits : (t : VertexComponentType) → 0 < width_of t → (n : ℕ) → n < 256 ^ shape_width (shape_for t) → stored_as t n < 256 ^ width_of t
unfolding shape_width
stored-fits Nothing p n h = absurd (omega arith)
stored-fits Half2 p n h = f32-fits n h
stored-fits Float p n h = h
stored-fits Half4 p n h = f32-fits n h
stored-fits FloatUnknown p n h = absurd (omega arith)
stored-fits Float2 p n h = h
stored-fits Float3 p n h = h
stored-fits Float4 p n h = h
stored-fits UByte4 p n h = h
stored-fits Colour p n h = h
stored-fits Rgba8Snorm p n h = f32_to_snorm8-fits n
stored-fits (Unknown m) p n h = absurd (omega arith)

-- the value of a shape that has these numbers
built : ℕ → (ℕ → ℕ) → VertexAttributeValue
built zero g = Unsupported
built (suc zero) g = One (bits (g 0))
built (suc (suc zero)) g = Two (record { x = bits (g 0); y = bits (g 1) })
built (suc (suc (suc zero))) g = Three (record { x = bits (g 0); y = bits (g 1); z = bits (g 2) })
built (suc (suc (suc (suc zero)))) g = Four (record { x = bits (g 0); y = bits (g 1); z = bits (g 2); w = bits (g 3) })
built (suc (suc (suc (suc (suc zero))))) g = Bytes (record { a = g 0; b = g 1; c = g 2; d = g 3 })
built (suc (suc (suc (suc (suc (suc n)))))) g = Unsupported

built_same : (n : ℕ) (g h : ℕ → ℕ) → ((i : ℕ) → i < shape_count n → g i ≡ h i) → built n g ≡ built n h
unfolding built shape_count
built_same zero g h e = refl
built_same (suc zero) g h e = cc (e 0 (lit< tt))
built_same (suc (suc zero)) g h e = cc (e 0 (lit< tt), e 1 (lit< tt))
built_same (suc (suc (suc zero))) g h e = cc (e 0 (lit< tt), e 1 (lit< tt), e 2 (lit< tt))
built_same (suc (suc (suc (suc zero)))) g h e = cc (e 0 (lit< tt), e 1 (lit< tt), e 2 (lit< tt), e 3 (lit< tt))
built_same (suc (suc (suc (suc (suc zero))))) g h e = cc (e 0 (lit< tt), e 1 (lit< tt), e 2 (lit< tt), e 3 (lit< tt))
built_same (suc (suc (suc (suc (suc (suc n)))))) g h e = refl

each-built : (f : ℕ → ℕ) (v : VertexAttributeValue) → each_number f v ≡ built (shape_of v) (λ i. f (get_or (numbers_of v) i 0))
unfolding built
each-built f (One a) = refl
each-built f (Two v) = refl
each-built f (Three v) = refl
each-built f (Four v) = refl
each-built f (Bytes b) = refl
each-built f Unsupported = refl

value_built : (t : VertexComponentType) (s : List ℕ) (at : ℕ) → value_at t s at ≡ built (shape_for t) (λ i. loaded_as t (field (width_of t) s (at + i * width_of t)))
unfolding built
value_built Nothing s at = refl
value_built Half2 s at = rw (add-zero at)
value_built Float s at = rw (add-zero at)
value_built Half4 s at = rw (add-zero at)
value_built FloatUnknown s at = refl
value_built Float2 s at = rw (add-zero at)
value_built Float3 s at = rw (add-zero at)
value_built Float4 s at = rw (add-zero at)
value_built UByte4 s at = rw (add-zero at)
value_built Colour s at = rw (add-zero at)
value_built Rgba8Snorm s at = rw (add-zero at)
value_built (Unknown n) s at = refl

-- a type that some value has the shape of has bytes
Shaped-width : (t : VertexComponentType) (v : VertexAttributeValue) → shape_for t ≡ shape_of v → 0 < width_of t
Shaped-width t v e = some t (rw (← e) at (positive v))
  where
    positive : (v : VertexAttributeValue) → 0 < shape_of v
    positive (One f) = lit< tt
    positive (Two v) = lit< tt
    positive (Three v) = lit< tt
    positive (Four v) = lit< tt
    positive (Bytes b) = lit< tt
    positive Unsupported = lit< tt

    some : (t : VertexComponentType) → 0 < shape_for t → 0 < width_of t
    some Nothing h = absurd (omega arith)
    some Half2 h = lit< tt
    some Float h = lit< tt
    some Half4 h = lit< tt
    some FloatUnknown h = absurd (omega arith)
    some Float2 h = lit< tt
    some Float3 h = lit< tt
    some Float4 h = lit< tt
    some UByte4 h = lit< tt
    some Colour h = lit< tt
    some Rgba8Snorm h = lit< tt
    some (Unknown n) h = absurd (omega arith)

-- a value that was encoded is read again as the type stores it
pub encoded-read : (t : VertexComponentType) (v : VertexAttributeValue) (s : List ℕ) (at : ℕ) → has_shape t v ≡ true → InWidth v → at + size_of t ≤ length s
    → value_at t (overwrite s at (encoded_bytes t v)) at ≡ stored t v
unfolding encoded_bytes
encoded-read t v s at shape w h =
    let e : shape_for t ≡ shape_of v = eqb-true (shape_for t) (shape_of v) shape in
    let positive : 0 < width_of t = Shaped-width t v e in
    let ns : List ℕ = map (stored_as t) (numbers_of v) in
    let count : length ns ≡ length (numbers_of v) = length-map (numbers_of v) (stored_as t) in
    let fit : at + length ns * width_of t ≤ length s = rw (count, shape_size t v shape) h in
    let inside : (i : ℕ) → get_or (numbers_of v) i 0 < 256 ^ shape_width (shape_for t) = rw (e, ← shape_width_lem v) w in
    let below : (i : ℕ) → get_or ns i 0 < 256 ^ width_of t = map_below (stored_as t) (256 ^ shape_width (shape_for t)) (256 ^ width_of t) (one-le-pow (width_of t) 256 (lit< tt)) (stored-fits t positive) (numbers_of v) inside in
    value_built t (overwrite s at (run (width_of t) ns)) at
    ∙ ap (λ (n : ℕ). built n (λ i. loaded_as t (field (width_of t) (overwrite s at (run (width_of t) ns)) (at + i * width_of t)))) e
    ∙ built_same (shape_of v) (λ i. loaded_as t (field (width_of t) (overwrite s at (run (width_of t) ns)) (at + i * width_of t))) (λ i. loaded_as t (stored_as t (get_or (numbers_of v) i 0)))
    (λ i l.
    let j : i < length (numbers_of v) = rw (numbers-count v) l in
    let m : i < length ns = rw count j in
    ap (loaded_as t) (run-read (width_of t) s at ns below fit i m ∙ get_or-map-in (stored_as t) (numbers_of v) i j))
    ∙ sym (each-built (λ n. loaded_as t (stored_as t n)) v)

-- ---- bit for bit

-- the float types and the bytes store a number as it is
abbrev pub keeps : VertexComponentType → Bool
keeps Nothing = false
keeps Half2 = false
keeps Float = true
keeps Half4 = false
keeps FloatUnknown = false
keeps Float2 = true
keeps Float3 = true
keeps Float4 = true
keeps UByte4 = true
keeps Colour = true
keeps Rgba8Snorm = false
keeps (Unknown n) = false

number-kept : (t : VertexComponentType) → keeps t ≡ true → (n : ℕ) → loaded_as t (stored_as t n) ≡ n
number-kept Nothing h n = refl
number-kept Half2 h n = absurd (subst T (sym h) tt)
number-kept Float h n = refl
number-kept Half4 h n = absurd (subst T (sym h) tt)
number-kept FloatUnknown h n = refl
number-kept Float2 h n = refl
number-kept Float3 h n = refl
number-kept Float4 h n = refl
number-kept UByte4 h n = refl
number-kept Colour h n = refl
number-kept Rgba8Snorm h n = absurd (subst T (sym h) tt)
number-kept (Unknown m) h n = refl

each-kept : (f : ℕ → ℕ) → ((n : ℕ) → f n ≡ n) → (v : VertexAttributeValue) → each_number f v ≡ v
each-kept f h (One a) = rw (h a.bits)
each-kept f h (Two v) = rw (h v.x.bits, h v.y.bits)
each-kept f h (Three v) = rw (h v.x.bits, h v.y.bits, h v.z.bits)
each-kept f h (Four v) = rw (h v.x.bits, h v.y.bits, h v.z.bits, h v.w.bits)
each-kept f h (Bytes b) = rw (h b.a, h b.b, h b.c, h b.d)
each-kept f h Unsupported = refl

-- a value that was encoded as floats or bytes is read again bit for bit
pub encoded-kept : (t : VertexComponentType) (v : VertexAttributeValue) (s : List ℕ) (at : ℕ) → keeps t ≡ true → has_shape t v ≡ true → InWidth v → at + size_of t ≤ length s
    → value_at t (overwrite s at (encoded_bytes t v)) at ≡ v
encoded-kept t v s at k shape w h = encoded-read t v s at shape w h ∙ each-kept (λ n. loaded_as t (stored_as t n)) (number-kept t k) v
