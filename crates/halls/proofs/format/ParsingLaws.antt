-- Parsing turned round: the records and bytes of the hall that was read are those that it was read from, and a hall that was written is read.
use Rattle.std.specs.Prelude.{None, Some}
use mathlib.Core.Path.{◌≡◌, refl, sym, ap, ◌∙◌, subst}
use mathlib.Core.Bool.{Bool, true, false, cond, ◌&&◌, ◌||◌}
use mathlib.Core.List.{List, [], ◌∷◌, ◌++◌}
use Prim.Native.Nat.{ℕ, ◌*◌}
use native.Mathlib.Omega.{arith}
use borrow.Author.Tests.{eq-eqb, eqb-true}
use lib.Dec.{T, eqb}
use lib.ListN.{length}
use Rattle.sections.specs.Le.{field}
use Rattle.sections.proofs.AddressLaws.{both_true}
use Rattle.vertices.specs.Declaration.{declaration_bytes}
use Rattle.vertices.proofs.DeclarationLaws.{declaration_length_lem}
use Rattle.halls.specs.List.{Vertices, model_body, geometry_body, vertices_body, indices_body}
use Rattle.halls.specs.Every.{every, Each}
use Rattle.halls.specs.Hall.{FullGeometry, FullModel, Hall, FullGeometryInWidth, HallInWidth, listed_geometry, listed_model, hall_bytes}
use Rattle.halls.specs.Inner.HallRecords.{of_kind, geometries_records, hall_records}
use Rattle.halls.specs.Parsing.{records_length, whole, follows, may_end, ordered, due_length, exact, body_at, geometries_in, models_in, structured, parse}
use Rattle.halls.specs.Records.{Record, records}
use Rattle.halls.specs.Checks.{vertex_bytes_exact, every_geometry}
use Rattle.halls.proofs.format.BodyLaws.{AllBytes, Proper, model-read-back, model_body-length, geometry-read-back, geometry_body-length, vertices_body-length, Vertices-read-back, indices_body-length, model-written_back, geometry-written_back, declaration_back, VerticesWritten-back, Indices-written_back, ModelInWidth_lem, GeometryInWidth_lem, geometry-vertex-bytes}
use Rattle.halls.proofs.EveryLaws.{every-each, each_both}
use Rattle.halls.proofs.format.RecordBytes.{Held, records_bytes, records-held, whole-written_back, hall_bytes_lem, hall-length, hall_records_lem}

-- ---- records in order

-- records that are bytes and exact in length
abbrev ProperRecord : Record → Type 0
ProperRecord r = Proper r.kind r.body

Proper-records : (rs : List Record) → Each Held rs → every exact rs ≡ true → Each ProperRecord rs
unfolding exact
Proper-records rs w e =
    each_both (λ r held due. record { below = held.below; short = held.short; long = eqb-true (length r.body) (due_length r.kind r.body) due }) rs w (every-each exact rs e)

-- what some records say, written as records again, where those of `front` are passed over
record Said (front rs : List Record) : Type 0 where
  same : front ++ (geometries_records (geometries_in rs) ++ hall_records (models_in rs)) ≡ rs
  geometries_in-width : Each FullGeometryInWidth (geometries_in rs)
  models_in-width : HallInWidth (models_in rs)
  geometries-exact : every vertex_bytes_exact (geometries_in rs) ≡ true
  models-exact : every_geometry vertex_bytes_exact (models_in rs) ≡ true

-- behind a record of kind 4, of kind 3 and of kind 2
record BehindFour (rs : List Record) : Type 0 where
  said : Said (of_kind 5 (body_at 0 rs) ∷ []) rs
  five : Proper 5 (body_at 0 rs)

record BehindThree (rs : List Record) : Type 0 where
  said : Said (of_kind 4 (body_at 0 rs) ∷ of_kind 5 (body_at 1 rs) ∷ []) rs
  four : Proper 4 (body_at 0 rs)
  five : Proper 5 (body_at 1 rs)

record BehindTwo (rs : List Record) : Type 0 where
  said : Said (of_kind 3 (body_at 0 rs) ∷ of_kind 4 (body_at 1 rs) ∷ of_kind 5 (body_at 2 rs) ∷ []) rs
  three : Proper 3 (body_at 0 rs)
  four : Proper 4 (body_at 1 rs)
  five : Proper 5 (body_at 2 rs)

-- by the kind of the record before them
record InOrder (rs : List Record) : Type 0 where
  opened : ordered 1 rs ≡ true → Said [] rs
  two : ordered 2 rs ≡ true → BehindTwo rs
  three : ordered 3 rs ≡ true → BehindThree rs
  four : ordered 4 rs ≡ true → BehindFour rs

-- behind kind 5 the same may stand as behind kind 1
ordered-five : (rs : List Record) → ordered 5 rs ≡ ordered 1 rs
unfolding ordered follows may_end
ordered-five [] = refl
ordered-five (r ∷ rs) = refl

-- kinds 3 to 5 begin neither a model nor a geometry
passed_over : (kind : ℕ) (body : List ℕ) (front rs : List Record) → eqb kind 1 ≡ false → eqb kind 2 ≡ false → Said front rs → Said (of_kind kind body ∷ front) (of_kind kind body ∷ rs)
unfolding geometries_in models_in
passed_over kind body front rs e f said =
    let g : geometries_in (of_kind kind body ∷ rs) ≡ geometries_in rs = rw (e, f) in
    let m : models_in (of_kind kind body ∷ rs) ≡ models_in rs = rw e in
    record {
      same = rw (g, m) (ap (λ (l : List Record). of_kind kind body ∷ l) said.same);
      geometries_in-width = rw g said.geometries_in-width;
      models_in-width = rw m said.models_in-width;
      geometries-exact = rw g said.geometries-exact;
      models-exact = rw m said.models-exact;
    }

module _ (body : List ℕ) (rs : List Record) (w : InOrder rs) where
  Said-one : Proper 1 body → ordered 1 rs ≡ true → Said [] (of_kind 1 body ∷ rs)
  unfolding geometries_in models_in geometries_records hall_records Each every
  Said-one p o =
      let said : Said [] rs = w.opened o in
      record {
        same = rw (model-written_back p (geometries_in rs), said.same);
        geometries_in-width = tt;
        models_in-width = (ModelInWidth_lem p (geometries_in rs) said.geometries_in-width, said.models_in-width);
        geometries-exact = refl;
        models-exact = rw (said.geometries-exact, said.models-exact);
      }

  Said-two : Proper 2 body → ordered 2 rs ≡ true → Said [] (of_kind 2 body ∷ rs)
  unfolding geometries_in models_in geometries_records hall_records Each every
  Said-two p o =
      let b = w.two o in
      record {
        same =
            rw (geometry-written_back p (body_at 0 rs) (body_at 1 rs) (body_at 2 rs), declaration_back b.three, VerticesWritten-back b.four, Indices-written_back b.five)
            (ap (λ (l : List Record). of_kind 2 body ∷ l) b.said.same);
        geometries_in-width = (GeometryInWidth_lem p b.three b.four b.five, b.said.geometries_in-width);
        models_in-width = b.said.models_in-width;
        geometries-exact = rw (geometry-vertex-bytes p b.three b.four b.five) b.said.geometries-exact;
        models-exact = b.said.models-exact;
      }

  BehindTwo_lem : Proper 3 body → ordered 3 rs ≡ true → BehindTwo (of_kind 3 body ∷ rs)
  BehindTwo_lem p o = let b = w.three o in record { said = passed_over 3 body _ rs refl refl b.said; three = p; four = b.four; five = b.five }

  BehindThree_lem : Proper 4 body → ordered 4 rs ≡ true → BehindThree (of_kind 4 body ∷ rs)
  BehindThree_lem p o = let b = w.four o in record { said = passed_over 4 body _ rs refl refl b.said; four = p; five = b.five }

  BehindFour_lem : Proper 5 body → ordered 5 rs ≡ true → BehindFour (of_kind 5 body ∷ rs)
  BehindFour_lem p o = record { said = passed_over 5 body _ rs refl refl (w.opened (sym (ordered-five rs) ∙ o)); five = p }

-- a record of a kind that is known
module _ (rs : List Record) (P : List Record → Type 0) where
  of_kind_lem : (kind : ℕ) → ((body : List ℕ) → Proper kind body → ordered kind rs ≡ true → P (of_kind kind body ∷ rs))
      → (r : Record) → r.kind ≡ kind → ProperRecord r → ordered r.kind rs ≡ true → P (r ∷ rs)
  of_kind_lem kind f r e =
      subst (λ (k : ℕ). Proper k r.body → ordered k rs ≡ true → P (of_kind k r.body ∷ rs)) (sym e) (f r.body)

Said-none : Said [] []
unfolding geometries_in models_in geometries_records hall_records Each every
Said-none = record { same = refl; geometries_in-width = tt; models_in-width = tt; geometries-exact = refl; models-exact = refl }

-- a model or a geometry begins
Said-first : (r : Record) (rs : List Record) → InOrder rs → ProperRecord r → (t u : Bool) → eqb r.kind 1 ≡ t → eqb r.kind 2 ≡ u → ((t || u) && ordered r.kind rs) ≡ true
    → Said [] (r ∷ rs)
Said-first r rs w p true u e f o = of_kind_lem rs (Said []) 1 (λ body. Said-one body rs w) r (eqb-true r.kind 1 e) p o
Said-first r rs w p false true e f o = of_kind_lem rs (Said []) 2 (λ body. Said-two body rs w) r (eqb-true r.kind 2 f) p o
Said-first r rs w p false false e f o = absurd (subst T (sym o) tt)

in_order : (rs : List Record) → Each ProperRecord rs → InOrder rs
unfolding ordered may_end follows Each
in_order [] w = record {
  opened = λ e. Said-none;
  two = λ e. absurd (subst T (sym e) tt);
  three = λ e. absurd (subst T (sym e) tt);
  four = λ e. absurd (subst T (sym e) tt);
}
in_order (r ∷ rs) w =
    let o : InOrder rs = in_order rs w.1 in
    record {
      opened = Said-first r rs o w.0 (eqb r.kind 1) (eqb r.kind 2) refl refl;
      two = λ e.
          let b = both_true (eqb r.kind 3) (ordered r.kind rs) e in
          of_kind_lem rs BehindTwo 3 (λ body. BehindTwo_lem body rs o) r (eqb-true r.kind 3 b.0) w.0 b.1;
      three = λ e.
          let b = both_true (eqb r.kind 4) (ordered r.kind rs) e in
          of_kind_lem rs BehindThree 4 (λ body. BehindThree_lem body rs o) r (eqb-true r.kind 4 b.0) w.0 b.1;
      four = λ e.
          let b = both_true (eqb r.kind 5) (ordered r.kind rs) e in
          of_kind_lem rs BehindFour 5 (λ body. BehindFour_lem body rs o) r (eqb-true r.kind 5 b.0) w.0 b.1;
    }

-- at the start only a model may begin
starts : (rs : List Record) → ordered 0 rs ≡ true → (ordered 1 rs ≡ true) × (geometries_in rs ≡ [])
unfolding ordered follows may_end geometries_in
starts [] e = (refl, refl)
starts (r ∷ rs) e = let b = both_true (eqb r.kind 1) (ordered r.kind rs) e in rw b.0 (b.1, refl)

-- ---- bytes that are structured

-- what the bytes of a list say, and that it is written as them
pub record ReadHall (s : List ℕ) (h : Hall) : Type 0 where
  pub is : h ≡ models_in (records s)
  pub same-records : hall_records h ≡ records s
  pub same_bytes : hall_bytes h ≡ s
  pub InWidth_lem : HallInWidth h
  pub exact_bytes : every_geometry vertex_bytes_exact h ≡ true

module _ (s : List ℕ) (f : AllBytes s) where
  pub structured-hall : structured s ≡ true → ReadHall s (models_in (records s))
  unfolding structured geometries_records
  structured-hall e =
      let rs : List Record = records s in
      let all = both_true (whole s) (ordered 0 rs && every exact rs) e in
      let both = both_true (ordered 0 rs) (every exact rs) all.1 in
      let start = starts rs both.0 in
      let said : Said [] rs = (in_order rs (Proper-records rs (records-held s f) both.1)).opened start.0 in
      let same : hall_records (models_in rs) ≡ rs = rw start.1 at said.same in
      record {
        is = refl;
        same-records = same;
        same_bytes = hall_bytes_lem (models_in rs) ∙ ap records_bytes same ∙ whole-written_back s f all.0;
        InWidth_lem = said.models_in-width;
        exact_bytes = said.models-exact;
      }

  pub records-parsed : structured s ≡ true → hall_records (models_in (records s)) ≡ records s
  records-parsed e = (structured-hall e).same-records

  by_structure : (t : Bool) (h : Hall) → structured s ≡ t → cond t (Some (models_in (records s))) None ≡ Some h → ReadHall s h
  by_structure true h e p =
      let i : models_in (records s) ≡ h = cc in
      subst (ReadHall s) i (structured-hall e)
  by_structure false h e p = let z : ◌≡◌ {A = ℕ} 0 1 = cc in absurd (omega arith)

  pub hall-parsed : (h : Hall) → parse s ≡ Some h → ReadHall s h
  unfolding parse
  hall-parsed h e = by_structure (structured s) h refl e

  pub bytes-parsed : (h : Hall) → parse s ≡ Some h → hall_bytes h ≡ s
  bytes-parsed h e = (hall-parsed h e).same_bytes

-- ---- a hall that was written

geometries-ordered : (gs : List FullGeometry) (rs : List Record) → ordered 1 rs ≡ true → ordered 1 (geometries_records gs ++ rs) ≡ true
unfolding ordered follows geometries_records
geometries-ordered [] rs e = e
geometries-ordered (g ∷ gs) rs e = ordered-five (geometries_records gs ++ rs) ∙ geometries-ordered gs rs e

models-ordered : (h : Hall) → ordered 1 (hall_records h) ≡ true
unfolding ordered follows may_end hall_records
models-ordered [] = refl
models-ordered (m ∷ ms) = geometries-ordered m.geometries (hall_records ms) (models-ordered ms)

hall-ordered : (h : Hall) → ordered 0 (hall_records h) ≡ true
unfolding ordered follows may_end hall_records
hall-ordered [] = refl
hall-ordered (m ∷ ms) = geometries-ordered m.geometries (hall_records ms) (models-ordered ms)

-- its records say it

no-geometries : (h : Hall) → geometries_in (hall_records h) ≡ []
unfolding geometries_in hall_records
no-geometries [] = refl
no-geometries (m ∷ ms) = refl

geometries-read : (gs : List FullGeometry) → Each FullGeometryInWidth gs → (rs : List Record) → geometries_in rs ≡ [] → geometries_in (geometries_records gs ++ rs) ≡ gs
unfolding geometries_in geometries_records Each
geometries-read [] w rs e = e
geometries-read (g ∷ gs) w rs e = rw (geometry-read-back g w.0, geometries-read gs w.1 rs e)

geometries-passed : (gs : List FullGeometry) (rs : List Record) → models_in (geometries_records gs ++ rs) ≡ models_in rs
unfolding models_in geometries_records
geometries-passed [] rs = refl
geometries-passed (g ∷ gs) rs = geometries-passed gs rs

pub hall-read : (h : Hall) → HallInWidth h → models_in (hall_records h) ≡ h
unfolding models_in hall_records Each
hall-read [] w = refl
hall-read (m ∷ ms) w =
    rw (geometries-read m.geometries w.0.geometries (hall_records ms) (no-geometries ms), geometries-passed m.geometries (hall_records ms), hall-read ms w.1, model-read-back m w.0)

-- and they are exact in length

is-exact : (kind : ℕ) (body : List ℕ) → length body ≡ due_length kind body → exact (of_kind kind body) ≡ true
unfolding exact
is-exact kind body e = eq-eqb (length body) (due_length kind body) e

model-exact : (m : FullModel) → exact (of_kind 1 (model_body (listed_model m))) ≡ true
unfolding due_length
model-exact m = is-exact 1 (model_body (listed_model m)) (omega (arith, model_body-length m))

geometry-exact : (g : FullGeometry) → exact (of_kind 2 (geometry_body (listed_geometry g))) ≡ true
unfolding due_length
geometry-exact g = is-exact 2 (geometry_body (listed_geometry g)) (geometry_body-length g)

declaration-exact : (g : FullGeometry) → exact (of_kind 3 (declaration_bytes g.declaration)) ≡ true
unfolding due_length
declaration-exact g = is-exact 3 (declaration_bytes g.declaration) (declaration_length_lem g.declaration)

Vertices-exact : (g : FullGeometry) → FullGeometryInWidth g → vertex_bytes_exact g ≡ true → exact (of_kind 4 (vertices_body g.vertices)) ≡ true
unfolding due_length vertex_bytes_exact
Vertices-exact g w e =
    let v : Vertices = g.vertices in
    let b : List ℕ = vertices_body v in
    let read = Vertices-read-back v w.layout w.vertices_stride w.vertices_count in
    let count : field 4 b 3 ≡ v.count = ap (λ (x : Vertices). x.count) read in
    let stride : field 2 b 1 ≡ v.stride = ap (λ (x : Vertices). x.stride) read in
    let l : length v.content ≡ v.count * v.stride = eqb-true (length v.content) (v.count * v.stride) e in
    is-exact 4 b (vertices_body-length v ∙ rw (count, stride, l))

Indices-exact : (g : FullGeometry) → exact (of_kind 5 (indices_body g.indices)) ≡ true
unfolding due_length
Indices-exact g = is-exact 5 (indices_body g.indices) (omega (arith, indices_body-length g.indices))

geometries_records-exact : (gs : List FullGeometry) → Each FullGeometryInWidth gs → every vertex_bytes_exact gs ≡ true → (rs : List Record) → every exact rs ≡ true
    → every exact (geometries_records gs ++ rs) ≡ true
unfolding every Each geometries_records
geometries_records-exact [] w e rs o = o
geometries_records-exact (g ∷ gs) w e rs o =
    let b = both_true (vertex_bytes_exact g) (every vertex_bytes_exact gs) e in
    rw (geometry-exact g, declaration-exact g, Vertices-exact g w.0 b.0, Indices-exact g) (geometries_records-exact gs w.1 b.1 rs o)

hall_records-exact : (h : Hall) → HallInWidth h → every_geometry vertex_bytes_exact h ≡ true → every exact (hall_records h) ≡ true
unfolding every Each hall_records
hall_records-exact [] w e = refl
hall_records-exact (m ∷ ms) w e =
    let b = both_true (every vertex_bytes_exact m.geometries) (every_geometry vertex_bytes_exact ms) e in
    rw (model-exact m) (geometries_records-exact m.geometries w.0.geometries b.0 (hall_records ms) (hall_records-exact ms w.1 b.1))

pub structured-written : (h : Hall) → HallInWidth h → every_geometry vertex_bytes_exact h ≡ true → structured (hall_bytes h) ≡ true
unfolding structured whole
structured-written h w e =
    rw (hall_records_lem h w, eq-eqb (records_length (hall_records h)) (length (hall_bytes h)) (hall-length h), hall-ordered h, hall_records-exact h w e)

pub parse-written : (h : Hall) → HallInWidth h → every_geometry vertex_bytes_exact h ≡ true → parse (hall_bytes h) ≡ Some h
unfolding parse
parse-written h w e = rw (structured-written h w e) (ap Some (ap models_in (hall_records_lem h w) ∙ hall-read h w))
