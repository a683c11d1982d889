-- A geometry cut out of a hall's bytes: a hall's bytes in the parts that stay and the two that go, and what the edits of the buffer make of them.
use mathlib.Core.Path.{◌≡◌, sym, ap, ◌∙◌}
use mathlib.Core.List.{List, ◌∷◌, ◌++◌, map, map-append, append_assoc}
use Prim.Native.Nat.{ℕ, ◌+◌, ◌*◌, ◌-◌, ◌^◌, ◌≤◌, ◌<◌}
use native.Mathlib.Omega.{arith}
use lib.ListN.{length, take, drop, length-append, length-drop}
use lib.Seq.{take_at, drop_at, drop-append-le, drop-append-add}
use Rattle.sections.specs.Edit.{part, overwrite}
use Rattle.sections.specs.Le.{bytes, field}
use Rattle.sections.proofs.LeLaws.{length-bytes, le_bytes, field_in}
use Rattle.vertices.specs.Runs.{run}
use Rattle.vertices.proofs.RunLaws.{run-append}
use Rattle.halls.specs.Hall.{FullGeometry, FullModel, Hall, listed_geometry, listed_model, hall_bytes}
use Rattle.halls.specs.List.{each, record_bytes, model_record, write_geometry, write_geometries, write_model}
use Rattle.halls.proofs.format.BodyLaws.{model_body-length}
use Rattle.halls.proofs.read.EachLaws.{each_append}
use Rattle.halls.proofs.edit.SoundEdits.{hall_bytes-append}

-- ---- a number between other bytes, read and put over

pub number-between : (p r : List ℕ) (k v at : ℕ) → length p ≡ at → v < 256 ^ k → field k (p ++ (bytes k v ++ r)) at ≡ v
unfolding part
number-between p r k v at e low =
    let long : at + k ≤ length (p ++ (bytes k v ++ r)) = simp (length-append, length-bytes) (omega arith) in
    field_in k (p ++ (bytes k v ++ r)) at long ∙ rw (drop_at p (bytes k v ++ r) at e, take_at (bytes k v) r k (length-bytes k v)) (le_bytes k v low)

pub over-between : (a q q' r : List ℕ) (at : ℕ) → length a ≡ at → length q ≡ length q' → overwrite (a ++ (q ++ r)) at q' ≡ a ++ (q' ++ r)
unfolding overwrite
over-between a q q' r at e f =
    rw (take_at a (q ++ r) at e, ← e, drop-append-add a (q ++ r) (length q'), drop_at q r (length q') f) (append_assoc a q' r)

-- ---- two gaps closed at once: x and g go, and m moves down between them

module _ (p x m g c others : List ℕ) (entry at end n : ℕ)
    (ep : length p ≡ entry) (ex : length x ≡ 2) (em : entry + 2 + length m ≡ at) (eg : at + length g ≡ end) (ec : end + length c ≡ n) where
  abbrev all : List ℕ
  all = p ++ (x ++ (m ++ (g ++ (c ++ others))))

  pub moved-part : part all (entry + 2) (at - (entry + 2)) ≡ m
  unfolding part
  moved-part =
      let front : length (p ++ x) ≡ entry + 2 = rw (length-append p x, ep, ex) in
      let long : length m ≡ at - (entry + 2) = omega arith in
      ap (λ (l : List ℕ). take (at - (entry + 2)) (drop (entry + 2) l)) (sym (append_assoc p x (m ++ (g ++ (c ++ others)))))
      ∙ rw (drop_at (p ++ x) (m ++ (g ++ (c ++ others))) (entry + 2) front) (take_at m (g ++ (c ++ others)) (at - (entry + 2)) long)

  -- the bytes left between
  abbrev left : List ℕ
  left = drop (length m) (x ++ (m ++ g))

  shifted : overwrite all entry m ≡ ((p ++ m) ++ (left ++ c)) ++ others
  unfolding overwrite
  shifted =
      let joined : x ++ (m ++ (g ++ (c ++ others))) ≡ (x ++ (m ++ g)) ++ (c ++ others) = simp append_assoc in
      let short : length m ≤ length (x ++ (m ++ g)) = simp length-append (omega arith) in
      let behind : drop (entry + length m) all ≡ left ++ (c ++ others) =
      rw (← ep, drop-append-add p (x ++ (m ++ (g ++ (c ++ others)))) (length m), joined) (drop-append-le (length m) (x ++ (m ++ g)) (c ++ others) short) in
      rw (take_at p (x ++ (m ++ (g ++ (c ++ others)))) entry ep, behind) (simp append_assoc)

  left-long : length left ≡ 2 + length g
  left-long = length-drop (length m) (x ++ (m ++ g)) ∙ simp length-append (omega arith)

  front_long : length (p ++ m) ≡ at - 2
  front_long = rw (length-append p m, ep) (omega arith)

  shifted_long : length ((p ++ m) ++ (left ++ c)) ≡ n
  shifted_long = rw (length-append (p ++ m) (left ++ c), front_long, length-append left c, left-long) (omega arith)

  pub cut_others : drop n (overwrite all entry m) ≡ others
  cut_others = ap (drop n) shifted ∙ drop_at ((p ++ m) ++ (left ++ c)) others n shifted_long

  pub cut_parts : take (at - 2) (take n (overwrite all entry m)) ++ drop end (take n (overwrite all entry m)) ≡ p ++ (m ++ c)
  cut_parts =
      let v : List ℕ = (p ++ m) ++ (left ++ c) in
      let first : take n (overwrite all entry m) ≡ v = ap (take n) shifted ∙ take_at v others n shifted_long in
      let long : length ((p ++ m) ++ left) ≡ end = rw (length-append (p ++ m) left, front_long, left-long) (omega arith) in
      let behind : drop end v ≡ c = ap (drop end) (sym (append_assoc (p ++ m) left c)) ∙ drop_at ((p ++ m) ++ left) c end long in
      ap (λ (l : List ℕ). take (at - 2) l ++ drop end l) first ∙ rw (behind, take_at (p ++ m) (left ++ c) (at - 2) front_long) (append_assoc p m c)

-- ---- a hall's bytes in such parts

abbrev pub geometries_bytes : List FullGeometry → List ℕ
geometries_bytes gs = write_geometries (map listed_geometry gs)

-- of a model's record: kind, binding, mask and the first entries of the mapping
abbrev pub record_front : FullModel → List ℕ → List ℕ
record_front x entries = bytes 2 1 ++ (bytes 4 x.binding ++ (bytes 2 x.mask ++ run 2 entries))

model-parts : (x : FullModel)
    → write_model (listed_model x) ≡ bytes 4 (6 + 2 * length x.mapping) ++ (bytes 2 1 ++ (bytes 4 x.binding ++ (bytes 2 x.mask ++ (run 2 x.mapping ++ geometries_bytes x.geometries))))
unfolding write_model model_record record_bytes
model-parts x = rw (model_body-length x) (simp append_assoc)

hall-parts : (t d : Hall) (x : FullModel) → hall_bytes (t ++ (x ∷ d)) ≡ hall_bytes t ++ (write_model (listed_model x) ++ hall_bytes d)
unfolding hall_bytes each
hall-parts t d x = hall_bytes-append t (x ∷ d)

module _ (t d : Hall) (x : FullModel) (sl sr : List ℕ) (l r : List FullGeometry) where
  pub whole_parts : (s : ℕ) (y : FullGeometry) → x.mapping ≡ sl ++ (s ∷ sr) → x.geometries ≡ l ++ (y ∷ r)
      → hall_bytes (t ++ (x ∷ d)) ≡ hall_bytes t ++ (bytes 4 (6 + 2 * length x.mapping) ++ (record_front x sl ++ (bytes 2 s ++ ((run 2 sr ++ geometries_bytes l) ++ (write_geometry (listed_geometry y) ++ (geometries_bytes r ++ hall_bytes d))))))
  unfolding run each
  whole_parts s y e f =
      let entries : run 2 x.mapping ≡ run 2 sl ++ (bytes 2 s ++ run 2 sr) = ap (run 2) e ∙ run-append 2 sl (s ∷ sr) in
      let geometries : geometries_bytes x.geometries ≡ geometries_bytes l ++ (write_geometry (listed_geometry y) ++ geometries_bytes r) =
      ap geometries_bytes f ∙ ap write_geometries (map-append listed_geometry l (y ∷ r)) ∙ each_append write_geometry (map listed_geometry l) (map listed_geometry (y ∷ r)) in
      hall-parts t d x ∙ rw (model-parts x, entries, geometries) (simp append_assoc)

  pub less-parts : x.mapping ≡ sl ++ sr → x.geometries ≡ l ++ r
      → hall_bytes (t ++ (x ∷ d)) ≡ hall_bytes t ++ (bytes 4 (6 + 2 * length x.mapping) ++ (record_front x sl ++ ((run 2 sr ++ geometries_bytes l) ++ (geometries_bytes r ++ hall_bytes d))))
  less-parts e f =
      let entries : run 2 x.mapping ≡ run 2 sl ++ run 2 sr = ap (run 2) e ∙ run-append 2 sl sr in
      let geometries : geometries_bytes x.geometries ≡ geometries_bytes l ++ geometries_bytes r =
      ap geometries_bytes f ∙ ap write_geometries (map-append listed_geometry l r) ∙ each_append write_geometry (map listed_geometry l) (map listed_geometry r) in
      hall-parts t d x ∙ rw (model-parts x, entries, geometries) (simp append_assoc)
