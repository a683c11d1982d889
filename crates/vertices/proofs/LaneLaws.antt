-- Laws of lanes: the 21 words of a unified vertex are what its lanes give, and a lane reads inside the data where its component ends inside.
use mathlib.Core.Path.{◌≡◌, refl, sym, ap, ◌∙◌}
use mathlib.Core.Bool.{Bool, true, false, cond}
use mathlib.Core.List.{List, [], ◌∷◌, ◌++◌, append_assoc, append-nil}
use Prim.Native.Nat.{ℕ, zero, suc, ◌+◌, ◌-◌, ◌*◌, ◌/◌, ◌%◌, ◌≤◌, ◌<◌}
use native.Mathlib.Nat.{add_assoc, add-suc, add-zero}
use native.Mathlib.Omega.{arith}
use borrow.Author.Tests.{ltb-true}
use lib.Dec.{eqb, ltb, lit<}
use lib.ListN.{get_or, length, take, drop, length-drop, take-append-drop}
use lib.Seq.{take-add, take_all}
use Rattle.sections.specs.Edit.{part, overwrite}
use Rattle.sections.specs.Le.{bytes}
use Rattle.vertices.specs.Types.{size_of, count_of}
use Rattle.vertices.specs.Runs.{run}
use Rattle.vertices.specs.Attribute.{value_at, as_vec2, as_vec3, as_vec4, as_rgba8, white, bits}
use Rattle.vertices.specs.Unified.{as_indices, no_indices, holds_indices, zero_vec4, bytes4_bytes, unified_bytes, run_of}
use Rattle.vertices.specs.Inner.Plan.{planned, planned_vertex, Inside, Ends, Readable}
use Rattle.vertices.specs.Inner.Lanes.{lane_bytes, Reads, element_lane, missing_word, place_lane, rgba8_lane, vector_lane, colour_lane, index_lane, default_word, front_lane, back_lane, lane_of, words_of, word_at}
use Rattle.vertices.specs.declared.values.Vec4.{Vec4}
use Rattle.vertices.specs.declared.types.VertexComponent.{VertexComponent}
use Rattle.vertices.specs.declared.types.VertexComponentType.{VertexComponentType}
use Rattle.vertices.specs.declared.types.VertexComponentType.TheVariants.{Nothing, Half2, Float, Half4, FloatUnknown, Float2, Float3, Float4, UByte4, Colour, Rgba8Snorm, Unknown}
use Rattle.std.specs.Prelude.{Option, Some, None}
use Rattle.vertices.specs.declared.lane.Lane.{Lane}
use Rattle.vertices.specs.declared.lane.Lane.TheVariants.{Constant}
use Rattle.vertices.specs.declared.unify.UnifiedPlan.{UnifiedPlan}
use Rattle.vertices.proofs.AttributeLaws.{two_of_four, three_of_four}
use Rattle.vertices.proofs.UnifiedBytes.{length-run_of}

-- ---- what a normal has where a vertex has none, by the place in it: the search does not split three places

normal_at : (j k : ℕ) → k < 3 → j ≡ k + 3 → get_or (0 ∷ 0 ∷ 0x3F800000 ∷ []) k 0 ≡ default_word j
normal_at j zero h e = rw e refl
normal_at j (suc zero) h e = rw e refl
normal_at j (suc (suc zero)) h e = rw e refl
normal_at j (suc (suc (suc k))) h e = absurd (omega arith)

pub normal_default : (j : ℕ) → 3 ≤ j → j < 6 → get_or (0 ∷ 0 ∷ 0x3F800000 ∷ []) (j - 3) 0 ≡ default_word j
normal_default j low high = normal_at j (j - 3) (omega arith) (omega arith)

-- ---- the words of a field

module _ (s : List ℕ) (base : ℕ) where
  -- the four words that a vector v should have, and those that a lane for each place gives
  pub record Words (lane : ℕ → Lane) (v : Vec4) : Type 0 where
    pub x : lane_bytes (lane 0) s base ≡ bytes 4 v.x.bits
    pub y : lane_bytes (lane 1) s base ≡ bytes 4 v.y.bits
    pub z : lane_bytes (lane 2) s base ≡ bytes 4 v.z.bits
    pub w : lane_bytes (lane 3) s base ≡ bytes 4 v.w.bits

  place_words : (t : VertexComponentType) (at : ℕ) → Words (λ k. place_lane t at k) (as_vec4 (value_at t s (base + at)))
  unfolding lane_bytes
  place_words Nothing at = record { x = refl; y = refl; z = refl; w = refl }
  place_words Half2 at = record { x = simp add-zero; y = simp add_assoc; z = refl; w = refl }
  place_words Float at = record { x = simp add-zero; y = refl; z = refl; w = refl }
  place_words Half4 at = record { x = simp add-zero; y = simp add_assoc; z = simp add_assoc; w = simp add_assoc }
  place_words FloatUnknown at = record { x = refl; y = refl; z = refl; w = refl }
  place_words Float2 at = record { x = simp add-zero; y = simp add_assoc; z = refl; w = refl }
  place_words Float3 at = record { x = simp add-zero; y = simp add_assoc; z = simp add_assoc; w = refl }
  place_words Float4 at = record { x = simp add-zero; y = simp add_assoc; z = simp add_assoc; w = simp add_assoc }
  place_words UByte4 at = record { x = simp add-zero; y = simp add_assoc; z = simp add_assoc; w = simp add_assoc }
  place_words Colour at = record { x = simp add-zero; y = simp add_assoc; z = simp add_assoc; w = simp add_assoc }
  place_words Rgba8Snorm at = record { x = simp add-zero; y = simp add_assoc; z = simp add_assoc; w = simp add_assoc }
  place_words (Unknown n) at = record { x = refl; y = refl; z = refl; w = refl }

  -- a field that is a vector, with the defaults d
  vector_words : (found : Option VertexComponent) (d : ℕ → ℕ)
      → Words (λ k. vector_lane found k (d k)) (planned (λ t v. as_vec4 v) (record { x = bits (d 0); y = bits (d 1); z = bits (d 2); w = bits (d 3) }) s base found)
  unfolding vector_lane planned lane_bytes
  vector_words None d = record { x = refl; y = refl; z = refl; w = refl }
  vector_words (Some c) d = place_words c.component_type c.offset

  -- a vector of two or three
  planned-two : (found : Option VertexComponent) (d : Vec4) → planned (λ t v. as_vec2 v) (record { x = d.x; y = d.y }) s base found
      ≡ record { x = (planned (λ t v. as_vec4 v) d s base found).x; y = (planned (λ t v. as_vec4 v) d s base found).y }
  unfolding planned
  planned-two None d = refl
  planned-two (Some c) d = two_of_four (value_at c.component_type s (base + c.offset))

  planned-three : (found : Option VertexComponent) (d : Vec4) → planned (λ t v. as_vec3 v) (record { x = d.x; y = d.y; z = d.z }) s base found
      ≡ record { x = (planned (λ t v. as_vec4 v) d s base found).x; y = (planned (λ t v. as_vec4 v) d s base found).y; z = (planned (λ t v. as_vec4 v) d s base found).z }
  unfolding planned
  planned-three None d = refl
  planned-three (Some c) d = three_of_four (value_at c.component_type s (base + c.offset))

  -- a field that is a colour
  rgba8_word : (t : VertexComponentType) (at : ℕ) → lane_bytes (rgba8_lane t at) s base ≡ bytes4_bytes (as_rgba8 t (value_at t s (base + at)))
  unfolding lane_bytes run bytes
  rgba8_word Nothing at = refl
  rgba8_word Half2 at = refl
  rgba8_word Float at = refl
  rgba8_word Half4 at = refl
  rgba8_word FloatUnknown at = refl
  rgba8_word Float2 at = refl
  rgba8_word Float3 at = refl
  rgba8_word Float4 at = refl
  rgba8_word UByte4 at = refl
  rgba8_word Colour at = refl
  rgba8_word Rgba8Snorm at = refl
  rgba8_word (Unknown n) at = refl

  colour_word : (found : Option VertexComponent) → lane_bytes (colour_lane found) s base ≡ bytes4_bytes (planned as_rgba8 white s base found)
  unfolding colour_lane planned lane_bytes run bytes
  colour_word None = refl
  colour_word (Some c) = rgba8_word c.component_type c.offset

  -- and one that is indices
  index_word : (found : Option VertexComponent) → lane_bytes (index_lane found) s base ≡ bytes4_bytes (planned as_indices no_indices s base found)
  unfolding index_lane planned lane_bytes run bytes
  index_word None = refl
  index_word (Some c) = whether (holds_indices c.component_type)
    where
      whether : (b : Bool) → lane_bytes (cond b (rgba8_lane c.component_type c.offset) (Constant 0)) s base ≡ bytes4_bytes (cond b (as_rgba8 c.component_type (value_at c.component_type s (base + c.offset))) no_indices)
      whether true = rgba8_word c.component_type c.offset
      whether false = refl

  -- ---- the words of a vertex

  -- in field order: the 84 bytes are the 21 words
  pub vertex_words : (p : UnifiedPlan) → unified_bytes (planned_vertex p s base) ≡ words_of (λ j. lane_bytes (lane_of p j) s base) 21
  unfolding unified_bytes planned_vertex words_of front_lane back_lane lane_of run
  vertex_words p =
      let position = vector_words p.position (λ k. 0) in
      let normal = vector_words p.normal (λ k. cond (eqb k 2) 0x3F800000 0) in
      let texcoord0 = vector_words p.texcoord0 (λ k. 0) in
      let texcoord1 = vector_words p.texcoord1 (λ k. 0) in
      let tangent = vector_words p.tangent (λ k. default_word (k + 12)) in
      let weights = vector_words p.blend_weights (λ k. 0) in
      rw (
        planned-three p.position zero_vec4,
        planned-three p.normal (record { x = bits 0; y = bits 0; z = bits 0x3F800000; w = bits 0 }),
        planned-two p.texcoord0 zero_vec4,
        planned-two p.texcoord1 zero_vec4,
        position.x,
        position.y,
        position.z,
        normal.x,
        normal.y,
        normal.z,
        colour_word p.color0,
        colour_word p.color1,
        texcoord0.x,
        texcoord0.y,
        texcoord1.x,
        texcoord1.y,
        tangent.x,
        tangent.y,
        tangent.z,
        tangent.w,
        weights.x,
        weights.y,
        weights.z,
        weights.w,
        index_word p.blend_indices,
      ) (simp (append_assoc, append-nil))

-- ---- the words of all vertices

-- rows that agree
words_same : (v w : ℕ → List ℕ) (n : ℕ) → ((j : ℕ) → j < n → v j ≡ w j) → words_of v n ≡ words_of w n
unfolding words_of
words_same v w zero e = refl
words_same v w (suc n) e = rw (words_same v w n (λ j h. e j (omega arith)), e n (omega arith))

-- n words, and m more
Words-add : (w : ℕ → List ℕ) (n m : ℕ) → words_of w (n + m) ≡ words_of w n ++ words_of (λ j. w (n + j)) m
unfolding words_of
Words-add w n zero = rw (add-zero, append-nil)
Words-add w n (suc m) = rw (add-suc, Words-add w n m, append_assoc)

module _ (p : UnifiedPlan) (s : List ℕ) (stride : ℕ) where
  -- the word j of the vertex i
  pub word_is : (q i j : ℕ) → q ≡ 21 * i + j → j < 21 → word_at p s stride q ≡ lane_bytes (lane_of p j) s (i * stride)
  unfolding word_at
  word_is q i j e h =
      let word : q % 21 ≡ j = omega arith in
      let vertex : q / 21 ≡ i = omega arith in
      rw (word, vertex)

  -- all vertices are all words
  run-words : (n : ℕ) → run_of (λ (i : ℕ). planned_vertex p s (i * stride)) n ≡ words_of (word_at p s stride) (21 * n)
  unfolding run_of words_of
  run-words zero = refl
  run-words (suc n) =
      let more : 21 * suc n ≡ 21 * n + 21 = omega arith in
      rw (more, Words-add (word_at p s stride) (21 * n) 21, run-words n, vertex_words s (n * stride) p)
      (ap (λ (x : List ℕ). words_of (word_at p s stride) (21 * n) ++ x) (words_same _ _ 21 (λ j h. sym (word_is (21 * n + j) n j refl h))))

  -- ---- bytes that are right word by word

  taken-words : (w : ℕ → List ℕ) (t : List ℕ) (n : ℕ) → ((q : ℕ) → q < n → part t (4 * q) 4 ≡ w q) → take (4 * n) t ≡ words_of w n
  unfolding words_of part
  taken-words w t zero f = refl
  taken-words w t (suc n) f =
      let more : 4 * suc n ≡ 4 * n + 4 = omega arith in
      rw (more, take-add (4 * n) 4 t, taken-words w t n (λ q h. f q (omega arith)), f n (omega arith))

  -- b with all words of all vertices right, and what stands behind them as it was
  pub all_words : (n : ℕ) (b t : List ℕ) → 84 * n ≤ length b → length t ≡ length b → ((q : ℕ) → q < 21 * n → part t (4 * q) 4 ≡ word_at p s stride q)
      → ((at k : ℕ) → 84 * n ≤ at → part t at k ≡ part b at k) → t ≡ overwrite b 0 (run_of (λ (i : ℕ). planned_vertex p s (i * stride)) n)
  unfolding overwrite part
  all_words n b t room same right rest =
      let vertices : List ℕ = run_of (λ (i : ℕ). planned_vertex p s (i * stride)) n in
      let words : 84 * n ≡ 4 * (21 * n) = omega arith in
      let front : take (84 * n) t ≡ vertices = ap (λ (k : ℕ). take k t) words ∙ taken-words (word_at p s stride) t (21 * n) right ∙ sym (run-words n) in
      let size : 0 + length vertices ≡ 84 * n = omega (arith, length-run_of (λ (i : ℕ). planned_vertex p s (i * stride)) n) in
      let behind : (x : List ℕ) → length x ≡ length b → take (length b) (drop (84 * n) x) ≡ drop (84 * n) x = λ x e. take_all (length b) (drop (84 * n) x) (rw length-drop (omega arith)) in
      let back : drop (84 * n) t ≡ drop (84 * n) b = sym (behind t same) ∙ rest (84 * n) (length b) (omega arith) ∙ behind b refl in
      rw size (sym (take-append-drop (84 * n) t) ∙ cc (front, back))

-- ---- reading inside the data

module _ (base n : ℕ) where
  -- as a record, so that the lane can be left out
  record Inner (lane : Lane) : Type 0 where
    is : Reads lane base n

  either : (b : Bool) {x y : Lane} → Inner x → Inner y → Inner (cond b x y)
  either true f g = f
  either false f g = g

  -- a value of a component
  element_reads : (t : VertexComponentType) (at k : ℕ) → k < count_of t → (0 < size_of t → base + at + size_of t ≤ n) → Reads (element_lane t at k) base n
  element_reads Nothing at k h f = tt
  element_reads Half2 at k h f = omega (arith, f (omega arith))
  element_reads Float at k h f = omega (arith, f (omega arith))
  element_reads Half4 at k h f = omega (arith, f (omega arith))
  element_reads FloatUnknown at k h f = tt
  element_reads Float2 at k h f = omega (arith, f (omega arith))
  element_reads Float3 at k h f = omega (arith, f (omega arith))
  element_reads Float4 at k h f = omega (arith, f (omega arith))
  element_reads UByte4 at k h f = omega (arith, f (omega arith))
  element_reads Colour at k h f = omega (arith, f (omega arith))
  element_reads Rgba8Snorm at k h f = omega (arith, f (omega arith))
  element_reads (Unknown m) at k h f = tt

  place_reads : (t : VertexComponentType) (at k : ℕ) → (0 < size_of t → base + at + size_of t ≤ n) → Reads (place_lane t at k) base n
  place_reads t at k f = whether (ltb k (count_of t)) refl
    where
      whether : (b : Bool) → ltb k (count_of t) ≡ b → Reads (cond b (element_lane t at k) (Constant (missing_word (count_of t) k))) base n
      whether true e = element_reads t at k (ltb-true k (count_of t) e) f
      whether false e = tt

  -- a colour
  rgba8_reads : (t : VertexComponentType) (at : ℕ) → (0 < size_of t → base + at + size_of t ≤ n) → Reads (rgba8_lane t at) base n
  rgba8_reads Nothing at f = tt
  rgba8_reads Half2 at f = tt
  rgba8_reads Float at f = tt
  rgba8_reads Half4 at f = f (lit< tt)
  rgba8_reads FloatUnknown at f = tt
  rgba8_reads Float2 at f = tt
  rgba8_reads Float3 at f = tt
  rgba8_reads Float4 at f = f (lit< tt)
  rgba8_reads UByte4 at f = f (lit< tt)
  rgba8_reads Colour at f = f (lit< tt)
  rgba8_reads Rgba8Snorm at f = f (lit< tt)
  rgba8_reads (Unknown m) at f = tt

  -- a component that ends inside ends there by its type's size
  ends_of : {c : VertexComponent} → Inside c base n → 0 < size_of c.component_type → base + c.offset + size_of c.component_type ≤ n
  ends_of i h = omega (arith, i.size, i.ends (omega (arith, i.size)))

  vector_reads : (found : Option VertexComponent) (k default : ℕ) → Ends found base n → Inner (vector_lane found k default)
  unfolding vector_lane
  vector_reads None k default i = record { is = tt }
  vector_reads (Some c) k default i = record { is = place_reads c.component_type c.offset k (ends_of i) }

  colour_reads : (found : Option VertexComponent) → Ends found base n → Inner (colour_lane found)
  unfolding colour_lane
  colour_reads None i = record { is = tt }
  colour_reads (Some c) i = record { is = rgba8_reads c.component_type c.offset (ends_of i) }

  Indices-read : (found : Option VertexComponent) → Ends found base n → Inner (index_lane found)
  unfolding index_lane
  Indices-read None i = record { is = tt }
  Indices-read (Some c) i = either (holds_indices c.component_type) (record { is = rgba8_reads c.component_type c.offset (ends_of i) }) (record { is = tt })

  -- each lane of a plan
  pub lane_reads : (p : UnifiedPlan) (j : ℕ) → Readable p base n → Reads (lane_of p j) base n
  unfolding front_lane back_lane lane_of
  lane_reads p j r =
      let front =
      either (ltb j 3) (vector_reads p.position j 0 r.position)
      (either (ltb j 6) (vector_reads p.normal (j - 3) (default_word j) r.normal)
      (either (ltb j 7) (colour_reads p.color0 r.color0)
      (colour_reads p.color1 r.color1))) in
      let back =
      either (ltb j 10) (vector_reads p.texcoord0 (j - 8) 0 r.texcoord0)
      (either (ltb j 12) (vector_reads p.texcoord1 (j - 10) 0 r.texcoord1)
      (either (ltb j 16) (vector_reads p.tangent (j - 12) (default_word j) r.tangent)
      (either (ltb j 20) (vector_reads p.blend_weights (j - 16) 0 r.blend_weights)
      (Indices-read p.blend_indices r.blend_indices)))) in
      (either (ltb j 8) front back).is
