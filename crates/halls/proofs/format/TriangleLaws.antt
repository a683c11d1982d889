-- Triangles counted record by record: the loop over a list's bytes, and the bytes that models are written in.
use Rattle.std.specs.Prelude.{Option, None, Some}
use mathlib.Core.Path.{◌≡◌, refl, sym, ap, ◌∙◌}
use mathlib.Core.Bool.{Bool, true, false, cond}
use mathlib.Core.List.{List, [], ◌∷◌, ◌++◌, append_assoc}
use Prim.Native.Nat.{ℕ, zero, suc, ◌+◌, ◌*◌, ◌-◌, ◌/◌, ◌^◌, ◌≤◌, ◌<◌, min}
use native.Mathlib.Omega.{arith}
use borrow.Author.Tests.{ne_eqb}
use lib.Dec.{eqb}
use lib.ListN.{length, take, drop, length-append}
use Rattle.sections.specs.Le.{bytes, field}
use Rattle.sections.proofs.LeLaws.{length-bytes}
use Rattle.vertices.specs.Declaration.{declaration_bytes}
use Rattle.vertices.specs.Runs.{run}
use Rattle.vertices.specs.declared.declaration.VertexDeclaration.{VertexDeclaration}
use Rattle.vertices.proofs.RunLaws.{length_run}
use Rattle.halls.specs.Every.{Each}
use Rattle.halls.specs.List.{Vertices, Indices, Geometry, Model, each, record_bytes, optional, model_record, geometry_record, declaration_record, vertices_record, indices_record, write_geometry, write_geometries, write_model, write}
use Rattle.halls.specs.Inner.Spans.{spans_at}
use Rattle.halls.specs.declared.format.walk.RecordSpan.{RecordSpan}
use Rattle.halls.specs.Records.{Record, body_length, records}
use Rattle.halls.specs.Triangles.{held_by, triangles_of, triangles_of_all, triangles, stored_count, held_count, added, awaits, triangles_from, triangles_in, Short, FittingGeometry, Fitting}
use Rattle.halls.proofs.format.RecordLaws.{field-behind, records-stop, records-written}
use Rattle.halls.proofs.format.SpanLaws.{split-none, records-none, records-one, First, first_span}
use Rattle.halls.proofs.read.ViewLaws.{Record-length, declaration_record-length}

-- ---- a record, by its kind

module _ (b : Bool) (kind : ℕ) (body : List ℕ) where
  abbrev r : Record
  r = record { kind = kind; body = body }

  pub added-geometry : kind ≡ 2 → added b r ≡ stored_count body / 3
  unfolding added
  added-geometry e = rw e

  pub added-indices : kind ≡ 5 → added b r ≡ cond b (held_count body / 3) 0
  unfolding added
  added-indices e = rw e

  pub added-awaited : kind ≡ 5 → b ≡ true → added b r ≡ held_count body / 3
  added-awaited e f = added-indices e ∙ rw f

  pub added-stored : kind ≡ 5 → b ≡ false → added b r ≡ 0
  added-stored e f = added-indices e ∙ rw f

  pub added-other : (kind ≡ 2 → ⊥) → (kind ≡ 5 → ⊥) → added b r ≡ 0
  unfolding added
  added-other f g = rw (ne_eqb kind 2 f, ne_eqb kind 5 g)

  pub awaits-geometry : kind ≡ 2 → awaits b r ≡ eqb (stored_count body) 0
  unfolding awaits
  awaits-geometry e = rw e

  pub awaits-indices : kind ≡ 5 → awaits b r ≡ false
  unfolding awaits
  awaits-indices e = rw e

  pub awaits-other : (kind ≡ 2 → ⊥) → (kind ≡ 5 → ⊥) → awaits b r ≡ b
  unfolding awaits
  awaits-other f g = rw (ne_eqb kind 2 f, ne_eqb kind 5 g)

-- ---- the loop

abbrev greatest : ℕ
greatest = 2 ^ 64 - 1

-- of s the records before those that are left are counted
pub record Counting (s : List ℕ) (rest : List RecordSpan) (awaited : Bool) (total : ℕ) : Type 0 where
  pub at : ℕ
  pub low : at ≤ length s
  pub rest-is : spans_at s at ≡ rest
  pub sum : ℕ
  pub total-is : total ≡ min sum greatest
  pub whole : triangles_in (records s) ≡ sum + triangles_from awaited (records (drop at s))

pub Counting-start : (s : List ℕ) {rest : List RecordSpan} → rest ≡ spans_at s 0 → Counting s rest false 0
unfolding triangles_in
Counting-start s e = record { at = 0; low = omega arith; rest-is = sym e; sum = 0; total-is = refl; whole = omega arith }

module _ {s : List ℕ} {rest : List RecordSpan} {awaited : Bool} {total : ℕ} (w : Counting s rest awaited total) where
  -- no record is left
  counted_all : records (drop w.at s) ≡ [] → total ≡ min (triangles_in (records s)) greatest
  unfolding triangles_from
  counted_all none = let whole : triangles_in (records s) ≡ w.sum = omega (arith, rw none at w.whole) in rw whole w.total-is

  pub Counting-end : rest ≡ [] → total ≡ min (triangles_in (records s)) greatest
  Counting-end e = counted_all (split-none w.at (records (drop w.at s)) (w.rest-is ∙ e))

  Counted-all : length (drop w.at s) < 6 + body_length (drop w.at s) → total ≡ min (triangles_in (records s)) greatest
  Counted-all h = counted_all (records-stop (drop w.at s) h)

  -- its body is cut
  pub Counting-broken : {n : ℕ} → w.at + 6 ≤ length s → n ≡ field 4 s w.at → length s < w.at + 6 + n → total ≡ min (triangles_in (records s)) greatest
  Counting-broken h e l = counted_all (records-none s w.at w.low (omega (arith, e)))

  module _ {found : RecordSpan} {others : List RecordSpan} (e : rest ≡ found ∷ others) where
    first : First s w.at found others
    first = first_span s w.at w.low (w.rest-is ∙ e)

    -- its body is inside
    pub Counting-inside : (found.start ≤ found.end) × (found.end ≤ length s)
    Counting-inside = let q = first.whole in (omega (arith, q.start-is, q.end-is), q.inside)

    -- one record more
    pub Counting-turn : {more next : ℕ} {behind : Bool} → more ≡ added awaited (record { kind = found.kind; body = take (found.end - found.start) (drop found.start s) })
        → behind ≡ awaits awaited (record { kind = found.kind; body = take (found.end - found.start) (drop found.start s) })
        → next ≡ min (total + more) greatest → Counting s others behind next
    unfolding triangles_from
    Counting-turn {more} {next} {behind} m a t =
        let all : triangles_from awaited (records (drop w.at s)) ≡ more + triangles_from behind (records (drop found.end s)) = rw (records-one s w.at w.low first.whole, m, a) in
        record { at = found.end; low = first.whole.inside; rest-is = first.behind; sum = w.sum + more; total-is = omega (arith, t, w.total-is); whole = omega (arith, all, w.whole) }

-- ---- what models are written in

-- however the records begin to be counted, they are n
abbrev Counts : List ℕ → ℕ → Type 0
Counts s n = (b : Bool) → triangles_from b (records s) ≡ n

module _ (kind : ℕ) (body : List ℕ) (short : Short (record_bytes kind body)) (low : kind < 2 ^ 16) (rest : List ℕ) (b : Bool) where
  written : triangles_from b (records (record_bytes kind body ++ rest))
      ≡ added b (record { kind = kind; body = body }) + triangles_from (awaits b (record { kind = kind; body = body })) (records rest)
  unfolding triangles_from
  written = rw (records-written kind body rest (omega (arith, Record-length kind body)) low)

  -- a record of another kind
  passed : (kind ≡ 2 → ⊥) → (kind ≡ 5 → ⊥) → triangles_from b (records (record_bytes kind body ++ rest)) ≡ triangles_from b (records rest)
  passed f g = written ∙ rw (added-other b kind body f g, awaits-other b kind body f g) (omega arith)

declaration-passed : (o : Option VertexDeclaration) (rest : List ℕ) (b : Bool) → triangles_from b (records (optional declaration_record o ++ rest)) ≡ triangles_from b (records rest)
unfolding declaration_record
declaration-passed None rest b = refl
declaration-passed (Some d) rest b = passed 3 (declaration_bytes d) (omega (arith, declaration_record-length d)) (omega arith) rest b (λ e. omega arith) (λ e. omega arith)

Vertices-passed : (o : Option Vertices) → Short (optional vertices_record o) → (rest : List ℕ) (b : Bool)
    → triangles_from b (records (optional vertices_record o ++ rest)) ≡ triangles_from b (records rest)
unfolding vertices_record
Vertices-passed None h rest b = refl
Vertices-passed (Some v) h rest b =
    passed 4 (bytes 1 v.layout ++ (bytes 2 v.stride ++ (bytes 4 v.count ++ v.content))) h (omega arith) rest b (λ e. omega arith) (λ e. omega arith)

Indices-counted : (o : Option Indices) → Short (optional indices_record o) → (rest : List ℕ) (n : ℕ) → Counts rest n
    → (b : Bool) → triangles_from b (records (optional indices_record o ++ rest)) ≡ cond b (held_by o) 0 / 3 + n
unfolding indices_record
Indices-counted None h rest n f true = f true ∙ omega arith
Indices-counted None h rest n f false = f false ∙ omega arith
Indices-counted (Some i) h rest n f b =
    let body : List ℕ = bytes 4 i.count ++ run 4 i.items in
    let l : length body ≡ 4 + length i.items * 4 = simp (length-append, length-bytes, length_run) in
    let held : held_count body ≡ length i.items = omega arith in
    let third : (d : Bool) → cond d (held_count body / 3) 0 ≡ cond d (held_by (Some i)) 0 / 3 = λ d. elim d as (λ (v : Bool). cond v (held_count body / 3) 0 ≡ cond v (held_by (Some i)) 0 / 3) [ true ↦ rw held | false ↦ omega arith ] in
    written 5 body h (omega arith) rest b ∙ rw (added-indices b 5 body refl, awaits-indices b 5 body refl, f false, third b)

-- a count that is stored, or else the indices held
stored-or-held : (c h : ℕ) → c / 3 + cond (eqb c 0) h 0 / 3 ≡ cond (eqb c 0) h c / 3
stored-or-held zero h = omega arith
stored-or-held (suc c) h = rw (ne_eqb (suc c) 0 (λ e. omega arith)) (omega arith)

geometry-counted : (g : Geometry) → FittingGeometry g → (rest : List ℕ) (n : ℕ) → Counts rest n → Counts (write_geometry g ++ rest) (triangles_of g + n)
unfolding write_geometry geometry_record triangles_of
geometry-counted g fit rest n f b =
    let more : List ℕ = bytes 4 g.triangle_count ++ (bytes 2 g.vertex_count ++ bytes 2 g.stride) in
    let body : List ℕ = bytes 2 g.shader ++ (bytes 4 g.index_count ++ more) in
    let l : length body ≡ 14 = simp (length-append, length-bytes) in
    let stored : stored_count body ≡ g.index_count = field-behind (bytes 2 g.shader) more 4 g.index_count 2 (length-bytes 2 g.shader) (omega (arith, fit.index_count)) in
    let indices : List ℕ = optional indices_record g.indices ++ rest in
    let vertices : List ℕ = optional vertices_record g.vertices ++ indices in
    let awaited : Bool = eqb g.index_count 0 in
    let join : write_geometry g ++ rest ≡ record_bytes 2 body ++ (optional declaration_record g.declaration ++ vertices) = simp append_assoc in
    let head = written 2 body (omega (arith, Record-length 2 body)) (omega arith) (optional declaration_record g.declaration ++ vertices) b in
    let tail = declaration-passed g.declaration vertices awaited ∙ Vertices-passed g.vertices fit.vertices indices awaited ∙ Indices-counted g.indices fit.indices rest n f awaited in
    ap (λ (s : List ℕ). triangles_from b (records s)) join ∙ head
    ∙ rw (added-geometry b 2 body refl, awaits-geometry b 2 body refl, stored, tail) (omega (arith, stored-or-held g.index_count (held_by g.indices)))

geometries-counted : (gs : List Geometry) → Each FittingGeometry gs → (rest : List ℕ) (n : ℕ) → Counts rest n → Counts (write_geometries gs ++ rest) (triangles_of_all gs + n)
unfolding each triangles_of_all Each
geometries-counted [] fit rest n f b = f b ∙ omega arith
geometries-counted (g ∷ gs) fit rest n f b =
    ap (λ (s : List ℕ). triangles_from b (records s)) (append_assoc (write_geometry g) (write_geometries gs) rest)
    ∙ geometry-counted g fit.0 (write_geometries gs ++ rest) (triangles_of_all gs + n) (geometries-counted gs fit.1 rest n f) b
    ∙ omega arith

models_counted : (ms : List Model) → Fitting ms → Counts (write ms) (triangles ms)
unfolding each write_model model_record triangles triangles_from Each
models_counted [] fit b = rw (records-stop [] (omega arith))
models_counted (m ∷ ms) fit b =
    let behind : List ℕ = write_geometries m.geometries ++ write ms in
    ap (λ (s : List ℕ). triangles_from b (records s)) (append_assoc (model_record m) (write_geometries m.geometries) (write ms))
    ∙ passed 1 (bytes 4 m.binding ++ (bytes 2 m.mask ++ run 2 m.mapping)) fit.0.short (omega arith) behind b (λ e. omega arith) (λ e. omega arith)
    ∙ geometries-counted m.geometries fit.0.geometries (write ms) (triangles ms) (models_counted ms fit.1) b

-- the bytes of a list say as many triangles as its models
pub triangles-written : (ms : List Model) → Fitting ms → triangles_in (records (write ms)) ≡ triangles ms
unfolding triangles_in
triangles-written ms fit = models_counted ms fit false
