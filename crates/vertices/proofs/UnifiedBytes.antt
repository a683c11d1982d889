-- A unified vertex written out: its length, that of all vertices, and four bytes stored one by one.
use mathlib.Core.Path.{◌≡◌, refl, ap, ◌∙◌}
use mathlib.Core.List.{List, [], ◌∷◌, ◌++◌}
use Prim.Native.Nat.{ℕ, zero, suc, ◌+◌, ◌*◌, ◌%◌, ◌≤◌, ◌<◌}
use native.Mathlib.Nat.{mul_comm, suc-mul}
use native.Mathlib.Omega.{arith}
use lib.ListN.{length, set, length-append}
use Rattle.sections.specs.Edit.{overwrite}
use Rattle.sections.specs.Le.{bytes}
use Rattle.sections.proofs.EditLaws.{overwrite-behind, overwrite-length}
use Rattle.sections.proofs.LeLaws.{length-bytes, one_store}
use Rattle.vertices.specs.Runs.{run}
use Rattle.vertices.specs.Unified.{bytes4_bytes, unified_bytes, run_of, unified_run}
use Rattle.vertices.specs.declared.values.Bytes4.{Bytes4}
use Rattle.vertices.specs.declared.declaration.VertexDeclaration.{VertexDeclaration}
use Rattle.vertices.specs.declared.unify.UnifiedVertex.{UnifiedVertex}

-- ---- lengths

-- a unified vertex is 84 bytes
pub Unified-length : (v : UnifiedVertex) → length (unified_bytes v) ≡ 84
unfolding unified_bytes run bytes
Unified-length v = refl

-- n of them
pub length-run_of : (vertex : ℕ → UnifiedVertex) (n : ℕ) → length (run_of vertex n) ≡ n * 84
unfolding run_of
length-run_of vertex zero = refl
length-run_of vertex (suc n) = rw (length-append, length-run_of vertex n, Unified-length, suc-mul)

-- all vertices of a buffer are 84 × count bytes
pub length-unified_run : (d : VertexDeclaration) (s : List ℕ) (stride count : ℕ) → length (unified_run d s stride count) ≡ 84 * count
unfolding unified_run
length-unified_run d s stride count = length-run_of _ count ∙ mul_comm count 84

-- ---- stores

-- four bytes, as they are written
pub four_bytes : (v : Bytes4) → v.a < 256 → v.b < 256 → v.c < 256 → v.d < 256 → v.a ∷ v.b ∷ v.c ∷ v.d ∷ [] ≡ bytes4_bytes v
unfolding run bytes
four_bytes v a b c d =
    let p : v.a % 256 ≡ v.a = omega arith in
    let q : v.b % 256 ≡ v.b = omega arith in
    let r : v.c % 256 ≡ v.c = omega arith in
    let t : v.d % 256 ≡ v.d = omega arith in
    rw (p, q, r, t)

-- four bytes
pub four_stores : (s : List ℕ) (at : ℕ) (v : Bytes4) → at + 4 ≤ length s → v.a < 256 → v.b < 256 → v.c < 256 → v.d < 256
    → set (set (set (set s at v.a) (at + 1) v.b) (at + 2) v.c) (at + 3) v.d ≡ overwrite s at (bytes4_bytes v)
unfolding run bytes
four_stores s at v h a b c d =
    let first = one_store s at v.a (omega arith) a in
    let second = store-behind s at (bytes 1 v.a) 1 v.b first refl (omega arith) b in
    let third = store-behind s at (bytes 1 v.a ++ bytes 1 v.b) 2 v.c second refl (omega arith) c in
    store-behind s at (bytes 1 v.a ++ bytes 1 v.b ++ bytes 1 v.c) 3 v.d third refl (omega arith) d
  where
    store-behind : (s : List ℕ) (at : ℕ) (xs : List ℕ) (n x : ℕ) {t : List ℕ} → t ≡ overwrite s at xs → length xs ≡ n → at + n < length s → x < 256 → set t (at + n) x ≡ overwrite s at (xs ++ bytes 1 x)
    store-behind s at xs n x {t} e l h b =
        let one : length (bytes 1 x) ≡ 1 = length-bytes 1 x in
        let same : length t ≡ length s = ap length e ∙ overwrite-length s at xs (omega arith) in
        overwrite-behind s at xs n (bytes 1 x) e l (one_store t (at + n) x (omega arith) b) (omega arith)
