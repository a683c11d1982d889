-- Unified vertices word by word: a unified vertex is 21 words of 4 bytes, and each has one source, its lane, in every vertex.
use Rattle.std.specs.Prelude.{◌≡◌, cond, List, [], ◌++◌, ℕ, zero, suc, ◌+◌, ◌-◌, ◌*◌, ◌/◌, ◌%◌, ◌≤◌, ◌<◌, eqb, ltb, length}
use Rattle.sections.specs.Edit.{part}
use Rattle.sections.specs.Le.{bytes, field}
use Rattle.vertices.specs.Half.{f16_to_f32}
use Rattle.vertices.specs.Normalised.{snorm8_to_f32, unorm8_to_f32}
use Rattle.vertices.specs.Types.{size_of, count_of}
use Rattle.vertices.specs.Attribute.{bytes_at, value_at, as_rgba8}
use Rattle.vertices.specs.Unified.{bytes4_bytes, holds_indices}
use Rattle.vertices.specs.Inner.Plan.{Readable}
use Rattle.vertices.specs.declared.types.VertexComponentType.{VertexComponentType}
use Rattle.vertices.specs.declared.types.VertexComponentType.TheVariants.{Nothing, Half2, Float, Half4, FloatUnknown, Float2, Float3, Float4, UByte4, Colour, Rgba8Snorm, Unknown}
use Rattle.std.specs.Prelude.{Option, Some, None}
use Rattle.vertices.specs.declared.types.VertexComponent.{VertexComponent}
use Rattle.vertices.specs.declared.lane.Lane.{Lane}
use Rattle.vertices.specs.declared.lane.Lane.TheVariants.{Constant, Word, Half, Snorm, Unorm, Raw, Rgba8}
use Rattle.vertices.specs.declared.strips.Strip.{Strip}
use Rattle.vertices.specs.declared.unify.UnifiedPlan.{UnifiedPlan}

-- ---- one lane

-- the four bytes that a lane gives of the vertex at `base`
unfoldable pub lane_bytes : Lane → List ℕ → ℕ → List ℕ
lane_bytes (Constant word) s base = bytes 4 word
lane_bytes (Word off) s base = bytes 4 (field 4 s (base + off))
lane_bytes (Half off) s base = bytes 4 (f16_to_f32 (field 2 s (base + off)))
lane_bytes (Snorm off) s base = bytes 4 (snorm8_to_f32 (field 1 s (base + off)))
lane_bytes (Unorm off) s base = bytes 4 (unorm8_to_f32 (field 1 s (base + off)))
lane_bytes (Raw off) s base = bytes4_bytes (bytes_at s (base + off))
lane_bytes (Rgba8 t off) s base = bytes4_bytes (as_rgba8 t (value_at t s (base + off)))

-- what it reads of the vertex at `base` ends inside n bytes
abbrev pub Reads : Lane → ℕ → ℕ → Type 0
Reads (Constant word) base n = Unit
Reads (Word off) base n = base + off + 4 ≤ n
Reads (Half off) base n = base + off + 2 ≤ n
Reads (Snorm off) base n = base + off + 1 ≤ n
Reads (Unorm off) base n = base + off + 1 ≤ n
Reads (Raw off) base n = base + off + 4 ≤ n
Reads (Rgba8 t off) base n = base + off + size_of t ≤ n

-- ---- the lane of each word

-- one of a component's values, which begin at `at` in the vertex, as a float
abbrev pub element_lane : VertexComponentType → ℕ → ℕ → Lane
element_lane Nothing at k = Constant 0
element_lane Half2 at k = Half (at + 2 * k)
element_lane Float at k = Word (at + 4 * k)
element_lane Half4 at k = Half (at + 2 * k)
element_lane FloatUnknown at k = Constant 0
element_lane Float2 at k = Word (at + 4 * k)
element_lane Float3 at k = Word (at + 4 * k)
element_lane Float4 at k = Word (at + 4 * k)
element_lane UByte4 at k = Unorm (at + k)
element_lane Colour at k = Unorm (at + k)
element_lane Rgba8Snorm at k = Snorm (at + k)
element_lane (Unknown n) at k = Constant 0

-- what stands behind n values at the place k of a vector: 1.0 as w, else 0; and 0 where there are no values
abbrev pub missing_word : ℕ → ℕ → ℕ
missing_word n k = cond (eqb n 0) 0 (cond (eqb k 3) 0x3F800000 0)

-- the place k of a component seen as a vector
abbrev pub place_lane : VertexComponentType → ℕ → ℕ → Lane
place_lane t at k = cond (ltb k (count_of t)) (element_lane t at k) (Constant (missing_word (count_of t) k))

-- a component seen as a colour
abbrev pub rgba8_lane : VertexComponentType → ℕ → Lane
rgba8_lane Nothing at = Constant 0xFFFFFFFF
rgba8_lane Half2 at = Constant 0xFFFFFFFF
rgba8_lane Float at = Constant 0xFFFFFFFF
rgba8_lane Half4 at = Rgba8 Half4 at
rgba8_lane FloatUnknown at = Constant 0xFFFFFFFF
rgba8_lane Float2 at = Constant 0xFFFFFFFF
rgba8_lane Float3 at = Constant 0xFFFFFFFF
rgba8_lane Float4 at = Rgba8 Float4 at
rgba8_lane UByte4 at = Raw at
rgba8_lane Colour at = Raw at
rgba8_lane Rgba8Snorm at = Rgba8 Rgba8Snorm at
rgba8_lane (Unknown n) at = Constant 0xFFFFFFFF

-- of a field: a place of a vector, a colour, indices; or the default
unfoldable pub vector_lane : Option VertexComponent → ℕ → ℕ → Lane
vector_lane None k default = Constant default
vector_lane (Some c) k default = place_lane c.component_type c.offset k

unfoldable pub colour_lane : Option VertexComponent → Lane
colour_lane None = Constant 0xFFFFFFFF
colour_lane (Some c) = rgba8_lane c.component_type c.offset

unfoldable pub index_lane : Option VertexComponent → Lane
index_lane None = Constant 0
index_lane (Some c) = cond (holds_indices c.component_type) (rgba8_lane c.component_type c.offset) (Constant 0)

-- the default of a word: 1.0 in a normal's z and a tangent's x and w
abbrev pub default_word : ℕ → ℕ
default_word j = cond (eqb j 5) 0x3F800000 (cond (eqb j 12) 0x3F800000 (cond (eqb j 15) 0x3F800000 0))

-- the lane of the word j of a unified vertex, in field order: position, normal and colours
unfoldable pub front_lane : UnifiedPlan → ℕ → Lane
front_lane p j =
    cond (ltb j 3) (vector_lane p.position j 0)
    (cond (ltb j 6) (vector_lane p.normal (j - 3) (default_word j))
    (cond (ltb j 7) (colour_lane p.color0)
    (colour_lane p.color1)))

-- texture coordinates, tangent and blending
unfoldable pub back_lane : UnifiedPlan → ℕ → Lane
back_lane p j =
    cond (ltb j 10) (vector_lane p.texcoord0 (j - 8) 0)
    (cond (ltb j 12) (vector_lane p.texcoord1 (j - 10) 0)
    (cond (ltb j 16) (vector_lane p.tangent (j - 12) (default_word j))
    (cond (ltb j 20) (vector_lane p.blend_weights (j - 16) 0)
    (index_lane p.blend_indices))))

unfoldable pub lane_of : UnifiedPlan → ℕ → Lane
lane_of p j = cond (ltb j 8) (front_lane p j) (back_lane p j)

-- ---- words one after another

-- the words 0 to n - 1 of a row
unfoldable pub words_of : (ℕ → List ℕ) → ℕ → List ℕ
words_of word zero = []
words_of word (suc n) = words_of word n ++ word n

-- the word q of all unified vertices: of the vertex q / 21 its word q % 21
unfoldable pub word_at : UnifiedPlan → List ℕ → ℕ → ℕ → List ℕ
word_at p s stride q = lane_bytes (lane_of p (q % 21)) s (q / 21 * stride)

-- ---- one strip: what a loop over it needs, and what it leaves

-- the strip lies in out
pub record StripFits (strip : Strip) (out : List ℕ) : Type 0 where
  pub word : strip.word < 21
  pub order : strip.block.first ≤ strip.block.end
  pub short : strip.block.end < 4294967296
  pub room : 84 * strip.block.end ≤ length out

-- each of its words is `word` already, where this is not the first block
abbrev pub Prefilled : ℕ → Strip → List ℕ → Type 0
Prefilled word strip out = 0 < strip.block.first → (i : ℕ) → strip.block.first ≤ i → i < strip.block.end → part out (i * 84 + 4 * strip.word) 4 ≡ bytes 4 word

-- besides, what its lane reads lies in s, and a constant stands already
pub record LaneReady (lane : Lane) (stride : ℕ) (strip : Strip) (s out : List ℕ) : Type 0 where
  pub fits : StripFits strip out
  pub reads : (i : ℕ) → i < strip.block.end → Reads lane (i * stride) (length s)
  pub prefilled : (word : ℕ) → lane ≡ Constant word → Prefilled word strip out

-- b with the word j of the vertices from `first` to `end`, each what g gives, is t: another word, and one that was so already, is as it was, and so is
-- what stands behind
pub record WordsWritten (g : ℕ → List ℕ) (first end j : ℕ) (b t : List ℕ) : Type 0 where
  pub same : length t ≡ length b
  pub here : (i : ℕ) → first ≤ i → i < end → part t (i * 84 + 4 * j) 4 ≡ g i
  pub kept : (q : ℕ) (word : List ℕ) → ((i : ℕ) → q ≡ 21 * i + j → word ≡ g i) → part b (4 * q) 4 ≡ word → part t (4 * q) 4 ≡ word
  pub rest : (at n : ℕ) → 84 * end ≤ at → part t at n ≡ part b at n

-- b with a strip of a lane is t
abbrev pub LaneWritten : Lane → ℕ → List ℕ → Strip → List ℕ → List ℕ → Type 0
LaneWritten lane stride s strip b t = WordsWritten (λ (i : ℕ). lane_bytes lane s (i * stride)) strip.block.first strip.block.end strip.word b t

-- ---- a block of vertices, lane by lane

-- what the lanes need to write the vertices from `first` to `end`
pub record BlockReady (p : UnifiedPlan) (stride first end : ℕ) (s out : List ℕ) : Type 0 where
  pub order : first ≤ end
  pub short : end < 4294967296
  pub room : 84 * end ≤ length out
  pub reads : (i : ℕ) → i < end → Readable p (i * stride) (length s)
  pub prefilled : (j word : ℕ) → j < 21 → lane_of p j ≡ Constant word → Prefilled word (record { block = record { first = first; end = end }; word = j }) out

-- b with the first j words of the vertices from `first` to `end` is t: a word of b that was right is so still, and what stands behind is as it was
pub record BlockWritten (p : UnifiedPlan) (s : List ℕ) (stride first end j : ℕ) (b t : List ℕ) : Type 0 where
  pub same : length t ≡ length b
  pub done : (i k : ℕ) → first ≤ i → i < end → k < j → part t (i * 84 + 4 * k) 4 ≡ word_at p s stride (21 * i + k)
  pub kept : (q : ℕ) → part b (4 * q) 4 ≡ word_at p s stride q → part t (4 * q) 4 ≡ word_at p s stride q
  pub rest : (at n : ℕ) → 84 * end ≤ at → part t at n ≡ part b at n

-- b with the vertices from `first` to `end` begun as copies of those from 0 on is t; the first block begins as it is
pub record BlockBegun (first end : ℕ) (b t : List ℕ) : Type 0 where
  pub same : length t ≡ length b
  pub before : (q : ℕ) → q < 21 * first → part t (4 * q) 4 ≡ part b (4 * q) 4
  pub copied : 0 < first → (k j : ℕ) → first + k < end → j < 21 → part t ((first + k) * 84 + 4 * j) 4 ≡ part b (4 * (21 * k + j)) 4
  pub rest : (at n : ℕ) → 84 * end ≤ at → part t at n ≡ part b at n
