-- Laws of the located vertex buffer.
use Rattle.std.specs.Prelude.{Option, None, Some, option_map}
use Rattle.std.specs.Option.{option_or, option_and_then}
use Rattle.std.proofs.lemmas.Option.{same_Some}
use mathlib.Core.Path.{◌≡◌, refl, subst, ap}
use mathlib.Core.Logic.{⊎_elim}
use mathlib.Core.Bool.{Bool, true, false, cond}
use mathlib.Core.List.{List}
use Prim.Native.Nat.{ℕ, ◌*◌, ◌<◌}
use native.Mathlib.Nat.{eq-zero-or-pos}
use native.Mathlib.Omega.{arith}
use borrow.Author.Tests.{eqb-false}
use lib.Dec.{eqb}
use Rattle.sections.specs.Le.{field}
use Rattle.sections.specs.Address.{Sections, located, range_of, resolved}
use Rattle.sections.proofs.AddressLaws.{HasBytes, FindsBytes, located-zero, located-found}
use Rattle.sections.specs.declared.lookup.Located.{Located}
use Rattle.vertices.specs.Declaration.{declaration_at}
use Rattle.vertices.specs.Buffer.{vertex_data, stored_declaration, found_at, legacy_at, plain_at, block_buffer, in_block, vertex_buffer_at}
use Rattle.vertices.specs.declared.declaration.VertexDeclaration.{VertexDeclaration}
use Rattle.vertices.specs.declared.buffer.VertexBufferLayout.{VertexBufferLayout}
use Rattle.vertices.specs.declared.buffer.VertexBufferLayout.TheVariants.{Legacy, LegacyData2, Gen9, GeometryInline}
use Rattle.vertices.specs.declared.buffer.VertexBuffer.{VertexBuffer}

-- ---- behind the pointer 0 no declaration is stored, so a layout without an info pointer is one whose info pointer is 0

zero-resolved : (s : Sections) (n : ℕ) → resolved s 0 n ≡ None
unfolding resolved
zero-resolved s n = ap (option_and_then (λ (place : Located). range_of s place n)) (located-zero s 0 n refl)

none_stored : (s : Sections) → stored_declaration s 0 ≡ None
unfolding stored_declaration
none_stored s = ap (option_map (λ b. declaration_at b 0)) (zero-resolved s 16)

pub plain_legacy : (s : Sections) (layout : VertexBufferLayout) (pointer count stride : ℕ) → legacy_at s layout pointer count stride 0 ≡ plain_at s layout pointer count stride
unfolding legacy_at plain_at
plain_legacy s layout pointer count stride = ap (λ (d : Option VertexDeclaration). found_at layout stride count pointer 0 d (vertex_data s pointer count stride)) (none_stored s)

-- ---- a buffer that was found has its data

pub record FoundData (s : Sections) (b : VertexBuffer) : Type 0 where
  pub some-count : 0 < b.vertex_count
  pub some-stride : 0 < b.vertex_stride
  pub bytes : HasBytes s b.«data» (b.vertex_count * b.vertex_stride)

positive : (n : ℕ) → (n ≡ 0 → ⊥) → 0 < n
positive n h = ⊎_elim (λ e. absurd (h e)) (λ p. p) (eq-zero-or-pos n)

-- as found by an attempt
abbrev Attempt : Sections → ℕ → ℕ → Option Located → Type 0
Attempt s count stride o = (place : Located) → o ≡ Some place → (0 < count) × (0 < stride) × HasBytes s place (count * stride)

none_attempt : (s : Sections) (count stride : ℕ) → Attempt s count stride None
none_attempt s count stride place e = let z : ◌≡◌ {A = ℕ} 0 1 = cc in absurd (omega arith)

Attempt-tests : (s : Sections) (count stride : ℕ) (o : Option Located) → FindsBytes s (count * stride) o → (t u v : Bool) → eqb count 0 ≡ u → eqb stride 0 ≡ v
    → Attempt s count stride (cond t None (cond u None (cond v None o)))
Attempt-tests s count stride o h true u v p q = none_attempt s count stride
Attempt-tests s count stride o h false true v p q = none_attempt s count stride
Attempt-tests s count stride o h false false true p q = none_attempt s count stride
Attempt-tests s count stride o h false false false p q = λ place e. (positive count (eqb-false count 0 p), positive stride (eqb-false stride 0 q), h place e)

vertex_data-found : (s : Sections) (pointer count stride : ℕ) → Attempt s count stride (vertex_data s pointer count stride)
unfolding vertex_data
vertex_data-found s pointer count stride =
    Attempt-tests s count stride (located s pointer (count * stride)) (located-found s pointer (count * stride)) (eqb pointer 0) (eqb count 0) (eqb stride 0) refl refl

found_at-data : (s : Sections) (layout : VertexBufferLayout) (stride count pointer info : ℕ) (d : Option VertexDeclaration) (o : Option Located) (b : VertexBuffer)
    → Attempt s count stride o → found_at layout stride count pointer info d o ≡ Some b → FoundData s b
found_at-data s layout stride count pointer info d None b h e = let z : ◌≡◌ {A = ℕ} 0 1 = cc in absurd (omega arith)
found_at-data s layout stride count pointer info d (Some place) b h e =
    let w = h place refl in
    subst (λ (x : VertexBuffer). FoundData s x) (same_Some _ b e) (record { some-count = w.0; some-stride = w.1; bytes = w.2 })

legacy-data : (s : Sections) (layout : VertexBufferLayout) (pointer count stride info : ℕ) (b : VertexBuffer) → legacy_at s layout pointer count stride info ≡ Some b → FoundData s b
unfolding legacy_at
legacy-data s layout pointer count stride info b e =
    found_at-data s layout stride count pointer info (stored_declaration s info) (vertex_data s pointer count stride) b (vertex_data-found s pointer count stride) e

plain-data : (s : Sections) (layout : VertexBufferLayout) (pointer count stride : ℕ) (b : VertexBuffer) → plain_at s layout pointer count stride ≡ Some b → FoundData s b
unfolding plain_at
plain-data s layout pointer count stride b e =
    found_at-data s layout stride count pointer 0 None (vertex_data s pointer count stride) b (vertex_data-found s pointer count stride) e

either_found : (P : VertexBuffer → Type 0) (x y : Option VertexBuffer) → ((b : VertexBuffer) → x ≡ Some b → P b) → ((b : VertexBuffer) → y ≡ Some b → P b) → (b : VertexBuffer) → option_or x y ≡ Some b → P b
either_found P None y f g b e = g b e
either_found P (Some a) y f g b e = f b e

module _ (s : Sections) (b : List ℕ) where
  abbrev legacy : Option VertexBuffer
  legacy = legacy_at s Legacy (field 8 b 0x10) (field 4 b 0x18) (field 2 b 0x08) (field 8 b 0x30)

  abbrev second : Option VertexBuffer
  second = legacy_at s LegacyData2 (field 8 b 0x20) (field 4 b 0x18) (field 2 b 0x08) (field 8 b 0x30)

  abbrev gen9 : Option VertexBuffer
  gen9 = plain_at s Gen9 (field 8 b 0x18) (field 4 b 0x08) (field 2 b 0x0C)

-- ---- the order of attempts

-- the first, where it finds something
pub or_found : (x y : Option VertexBuffer) (b : VertexBuffer) → x ≡ Some b → Some b ≡ option_or x y
or_found x y b e = rw e

module _ (s : Sections) (b : List ℕ) where
  pub Block-legacy : (v : VertexBuffer) → legacy s b ≡ Some v → Some v ≡ block_buffer s b
  unfolding block_buffer
  Block-legacy v h = rw h

  pub Block-second : (v : VertexBuffer) → legacy s b ≡ None → second s b ≡ Some v → Some v ≡ block_buffer s b
  unfolding block_buffer
  Block-second v miss h = rw (miss, h)

  pub Block-gen9 : legacy s b ≡ None → second s b ≡ None → gen9 s b ≡ block_buffer s b
  unfolding block_buffer
  Block-gen9 miss miss2 = rw (miss, miss2)

-- block or inline
module _ (s : Sections) (va pointer count stride : ℕ) where
  abbrev inline : Option VertexBuffer
  inline = plain_at s GeometryInline pointer count stride

  pub buffer_no_block : resolved s va 0x80 ≡ None → inline ≡ vertex_buffer_at s va pointer count stride
  unfolding vertex_buffer_at
  buffer_no_block e = rw e

  pub buffer_block : (b : List ℕ) (v : VertexBuffer) → resolved s va 0x80 ≡ Some b → block_buffer s b ≡ Some v → Some v ≡ vertex_buffer_at s va pointer count stride
  unfolding vertex_buffer_at
  buffer_block b v e h = rw (e, h)

-- ---- what an attempt found

Block-data : (s : Sections) (raw : List ℕ) (b : VertexBuffer) → block_buffer s raw ≡ Some b → FoundData s b
unfolding block_buffer
Block-data s raw b e =
    either_found (FoundData s) (legacy s raw) (option_or (second s raw) (gen9 s raw)) (λ x. legacy-data s Legacy _ _ _ _ x)
    (either_found (FoundData s) (second s raw) (gen9 s raw) (λ x. legacy-data s LegacyData2 _ _ _ _ x) (λ x. plain-data s Gen9 _ _ _ x)) b e

in_block-data : (s : Sections) (o : Option (List ℕ)) (b : VertexBuffer) → in_block s o ≡ Some b → FoundData s b
in_block-data s None b e = let z : ◌≡◌ {A = ℕ} 0 1 = cc in absurd (omega arith)
in_block-data s (Some raw) b e = Block-data s raw b e

-- its count and stride are not 0, and all its bytes are there
pub buffer_data : (s : Sections) (va pointer count stride : ℕ) (b : VertexBuffer) → vertex_buffer_at s va pointer count stride ≡ Some b → FoundData s b
unfolding vertex_buffer_at
buffer_data s va pointer count stride b e =
    either_found (FoundData s) (in_block s (resolved s va 0x80)) (inline s va pointer count stride) (in_block-data s (resolved s va 0x80)) (λ x. plain-data s GeometryInline _ _ _ x) b e
