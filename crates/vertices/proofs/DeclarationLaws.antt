-- The 16 bytes of a declaration, written and read back, read and written back; the widths of its numbers; its id.
use mathlib.Core.Path.{◌≡◌, refl, sym, ap, ◌∙◌}
use mathlib.Core.Bool.{Bool, true, false, cond}
use mathlib.Core.List.{List}
use Prim.Native.Nat.{ℕ, zero, suc, ◌+◌, ◌*◌, ◌-◌, ◌/◌, ◌%◌, ◌^◌, ◌≤◌, ◌<◌}
use native.Mathlib.Nat.{add-zero, pow-succ'}
use native.Mathlib.Omega.{arith}
use lib.Dec.{lit<}
use lib.ListN.{length, get_or}
use Rattle.sections.specs.Edit.{part, overwrite}
use Rattle.sections.specs.Le.{le, bytes, field}
use Rattle.sections.proofs.EditLaws.{overwrite-all, overwrite-length, part-add, part-part, part_same}
use Rattle.sections.proofs.LeLaws.{field_bound, field-bytes, field_in, le_bytes}
use Rattle.vertices.specs.Declaration.{declaration_at, declaration_bytes, id_from, InWidth, odd, position_only}
use Rattle.vertices.specs.declared.declaration.VertexDeclaration.{VertexDeclaration}

-- ---- writing

-- a declaration is 16 bytes
pub declaration_length_lem : (d : VertexDeclaration) → length (declaration_bytes d) ≡ 16
unfolding declaration_bytes bytes
declaration_length_lem d = refl

-- ---- reading back

-- what the k bytes from i on of 16 bytes that were written say
read-piece : (s : List ℕ) (at : ℕ) (w : List ℕ) → length w ≡ 16 → at + 16 ≤ length s → (k i : ℕ) → i + k ≤ 16 → (v : ℕ) → v < 256 ^ k → part w i k ≡ bytes k v
    → field k (overwrite s at w) (at + i) ≡ v
read-piece s at w l h k i hi v hv e =
    let fit : at + length w ≤ length s = omega arith in
    let same : length (overwrite s at w) ≡ length s = overwrite-length s at w fit in
    field_in k (overwrite s at w) (at + i) (omega arith)
    ∙ ap le (sym (part-part (overwrite s at w) at 16 i k hi) ∙ ap (λ (x : List ℕ). part x i k) (part_same s at w fit 16 l) ∙ e) ∙ le_bytes k v hv

-- a declaration that was written reads back
pub declaration-read-back : (s : List ℕ) (at : ℕ) (d : VertexDeclaration) → InWidth d → at + 16 ≤ length s → declaration_at (overwrite s at (declaration_bytes d)) at ≡ d
unfolding declaration_at declaration_bytes part bytes
declaration-read-back s at d w h =
    let read : (k i : ℕ) → i + k ≤ 16 → (v : ℕ) → v < 256 ^ k → part (declaration_bytes d) i k ≡ bytes k v → field k (overwrite s at (declaration_bytes d)) (at + i) ≡ v =
    read-piece s at (declaration_bytes d) (declaration_length_lem d) h in
    let f : field 4 (overwrite s at (declaration_bytes d)) at ≡ d.flags = rw add-zero at (read 4 0 (omega arith) d.flags w.flags refl) in
    rw (f, read 2 4 (omega arith) d.stride w.stride refl, read 1 6 (omega arith) d.unknown_6h w.unknown refl, read 1 7 (omega arith) d.count w.count refl, read 8 8 (omega arith) d.types w.types refl)

-- a declaration's own bytes read as it
pub declaration_inverse : (d : VertexDeclaration) → InWidth d → declaration_at (declaration_bytes d) 0 ≡ d
declaration_inverse d w =
    let l : length (declaration_bytes d) ≡ 16 = declaration_length_lem d in
    rw (overwrite-all (declaration_bytes d) (declaration_bytes d) refl) at (declaration-read-back (declaration_bytes d) 0 d w (omega arith))

-- ---- writing what was read

-- the bytes of a declaration that was read are those that it was read from
pub declaration_written_back : (s : List ℕ) (at : ℕ) → ((i : ℕ) → get_or s i 0 < 256) → at + 16 ≤ length s → declaration_bytes (declaration_at s at) ≡ part s at 16
unfolding declaration_at declaration_bytes
declaration_written_back s at f h =
    let b : (k i : ℕ) → i + k ≤ 16 → bytes k (field k s (at + i)) ≡ part s (at + i) k = λ k i l. field-bytes k s (at + i) f (omega arith) in
    rw (field-bytes 4 s at f (omega arith), b 2 4 (omega arith), b 1 6 (omega arith), b 1 7 (omega arith), b 8 8 (omega arith), ← part-add s at 4 2, ← part-add s at 6 1, ← part-add s at 7 1, ← part-add s at 8 8)

-- ---- widths

-- the numbers of a declaration that was read from bytes fit their widths
pub declaration_in-width : (s : List ℕ) (at : ℕ) → ((i : ℕ) → get_or s i 0 < 256) → InWidth (declaration_at s at)
unfolding declaration_at
declaration_in-width s at f = record {
  flags = field_bound 4 s at f;
  stride = field_bound 2 s (at + 4) f;
  unknown = field_bound 1 s (at + 6) f;
  count = field_bound 1 s (at + 7) f;
  types = field_bound 8 s (at + 8) f;
}

-- and so do those of a position alone
pub position-InWidth : (stride : ℕ) → stride < 256 ^ 2 → InWidth (position_only stride)
position-InWidth stride h = record { flags = lit< tt; stride = h; unknown = lit< tt; count = lit< tt; types = lit< tt }

-- ---- the id

-- of k flags: the lowest, and 16 times that of the others
pub id_next : (k flags types : ℕ) → 0 < k → id_from k flags types ≡ cond (odd flags) (types % 16) 0 + 16 * id_from (k - 1) (flags / 2) (types / 16)
unfolding id_from
id_next k flags types h =
    let n : k ≡ suc (k - 1) = omega arith in
    ap (λ (m : ℕ). id_from m flags types) n

digit_small : (b : Bool) (x : ℕ) → cond b x 0 ≤ x
digit_small true x = omega arith
digit_small false x = omega arith

-- an id is at most the types
pub id_bound : (k flags types : ℕ) → id_from k flags types ≤ types
unfolding id_from
id_bound zero flags types = omega arith
id_bound (suc k) flags types = omega (arith, id_bound k (flags / 2) (types / 16), digit_small (odd flags) (types % 16))

digit_below : (b : Bool) (n : ℕ) → cond b (n % 16) 0 < 16
digit_below true n = omega arith
digit_below false n = omega arith

-- and of k flags it has a digit for each
pub id_below : (k flags types : ℕ) → id_from k flags types < 16 ^ k
unfolding id_from
id_below zero flags types = omega arith
id_below (suc k) flags types = let more = pow-succ' 16 k in omega (arith, id_below k (flags / 2) (types / 16), digit_below (odd flags) types)
