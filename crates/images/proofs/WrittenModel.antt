-- A model of the list: its sizes, and its parts of the image written one behind the other.
use mathlib.Core.Path.{◌≡◌, refl, sym, ap, ◌∙◌}
use mathlib.Core.List.{List, ◌++◌}
use Prim.Native.Nat.{ℕ, ◌+◌, ◌*◌, ◌-◌, ◌≤◌, ◌<◌}
use native.Mathlib.Omega.{arith}
use lib.ListN.{length, take, drop, get_or, length-drop}
use Rattle.sections.specs.Edit.{part, overwrite}
use Rattle.sections.specs.Le.{field}
use Rattle.sections.proofs.EditLaws.{part_length}
use Rattle.vertices.specs.Runs.{numbers, run}
use Rattle.vertices.proofs.RunLaws.{numbers-length, run-numbers}
use Rattle.halls.specs.Blocks.{ModelBlock}
use Rattle.halls.specs.Fronts.{entries_at, front_geometry}
use Rattle.halls.specs.ImageSize.{padded, geometry_size, model_size}
use Rattle.halls.specs.Parsing.{mapping_count}
use Rattle.halls.proofs.BodyLaws.{drop-below}
use Rattle.halls.proofs.JudgingLaws.{field-part, numbers-part}
use Rattle.halls.proofs.WalkLaws.{slice-rest}
use Rattle.images.specs.Fronts.{geometry_length, geometries_from, geometries_length, geometries_size, behind_record, front_model, model_length, model_numbers, image_limit, Room, with_items}
use Rattle.images.specs.Image.{pointer_to, filled, addresses, laid, model_block_bytes, model_block_of, geometry_image, model_image}
use Rattle.images.specs.declared.parts.Measured.{Measured}
use Rattle.images.proofs.BlockLaws.{model_block-length}
use Rattle.images.proofs.LengthLaws.{filled-length, model_image-length}
use Rattle.images.proofs.PartLaws.{overwrite-before, writing_start, Writing-turn, Writing-last}
use Rattle.images.proofs.SizeLaws.{pointers-length}
use Rattle.images.proofs.WalkLaws.{items_count}

module _ (s : List ℕ) where
  model-geometries : (front_model s).geometries ≡ geometries_from (entries_at s) (behind_record s)
  unfolding front_model
  model-geometries = refl

  pub geometries-count : length (front_model s).geometries ≡ entries_at s
  unfolding front_model
  geometries-count = items_count front_geometry geometry_length (entries_at s) (behind_record s)

  module _ (h : model_length s ≤ length s) where
    abbrev e : ℕ
    e = entries_at s

    abbrev body : List ℕ
    body = part s 6 (6 + 2 * e)

    whole-model : 12 + 2 * e + geometries_length e (behind_record s) ≤ length s
    unfolding model_length
    whole-model = h

    body_length_lem : length body ≡ 6 + 2 * e
    body_length_lem = part_length s 6 (6 + 2 * e) (omega (arith, whole-model))

    mapping-is : (front_model s).mapping ≡ numbers 2 e (drop 12 s)
    unfolding front_model
    mapping-is =
        let n : mapping_count body ≡ e = omega (arith, body_length_lem) in
        rw n (numbers-part 2 e s 6 (6 + 2 * e) 6 (omega arith))

    mapping-length : length (front_model s).mapping ≡ e
    mapping-length = ap length mapping-is ∙ numbers-length 2 e (drop 12 s)

    mapping-run : ((i : ℕ) → get_or s i 0 < 256) → run 2 (front_model s).mapping ≡ part s 12 (2 * e)
    unfolding part
    mapping-run below =
        let twice : e * 2 ≡ 2 * e = omega arith in
        let l : length (drop 12 s) ≡ length s - 12 = length-drop 12 s in
        ap (run 2) mapping-is ∙ run-numbers 2 e (drop 12 s) (drop-below 12 s below) (omega (arith, whole-model)) ∙ ap (λ (n : ℕ). take n (drop 12 s)) twice

    pub model_size_lem : model_size (front_model s) ≡ 0x30 + padded (8 * e) + padded (2 * e) + geometries_size e (behind_record s)
    unfolding model_size
    model_size_lem =
        rw (geometries-count, mapping-length, model-geometries) (omega arith)

    -- as the code finds them, with n entries
    module _ (n : ℕ) (q : n ≡ entries_at s) where
      pub Record-fits : 12 + 2 * n ≤ length s
      Record-fits = omega (arith, whole-model)

      abbrev rest : List ℕ
      rest = take (length s - (12 + 2 * n)) (drop (12 + 2 * n) s)

      rest-is : rest ≡ behind_record s
      rest-is = slice-rest s (12 + 2 * n) ∙ rw q

      pub inner-fits : geometries_length n rest ≤ length rest
      inner-fits = rw (rest-is, q) (rw (length-drop (12 + 2 * entries_at s) s) (omega (arith, whole-model)))

      inner-length : geometries_length n rest ≡ geometries_length (entries_at s) (behind_record s)
      inner-length = rw (rest-is, q)

      sizes : model_size (front_model s) ≡ 0x30 + padded (8 * n) + padded (2 * n) + geometries_size n rest
      sizes = model_size_lem ∙ rw (rest-is, q)

      module _ {inner : Measured} (m : inner ≡ record { «length» = geometries_length n rest; size = geometries_size n rest }) where
        pub model_length-is : 12 + 2 * n + inner.«length» ≡ model_length s
        unfolding model_length
        model_length-is = omega (arith, ap (λ (x : Measured). x.«length») m, inner-length)

        pub model_size-is : (x y : ℕ) → x ≡ padded (8 * n) → y ≡ padded (2 * n) → 0x30 + x + y + inner.size ≡ model_size (front_model s)
        model_size-is x y a b = omega (arith, ap (λ (x : Measured). x.size) m, sizes)

        -- with the geometries at their place in the image
        pub model-measured : (at x y : ℕ) → x ≡ padded (8 * n) → y ≡ padded (2 * n)
            → ◌≡◌ {A = Measured} (record { «length» = 12 + 2 * n + inner.«length»; size = at + 0x30 + x + y - at + inner.size }) (record { «length» = model_length s; size = model_size (front_model s) })
        model-measured at x y a b =
            let e : at + 0x30 + x + y - at + inner.size ≡ model_size (front_model s) = omega (arith, model_size-is x y a b) in
            rw (model_length-is, e)

      -- ---- in the image, from `at` on

      module _ (at : ℕ) (out : List ℕ) (room : Room at (model_size (front_model s)) out) where
        pub ModelFits_lem : at + (0x30 + padded (8 * n) + padded (2 * n) + geometries_size n rest) ≤ length out
        ModelFits_lem = rw (← sizes) room.fits

        pub model-low : at + (0x30 + padded (8 * n) + padded (2 * n) + geometries_size n rest) ≤ image_limit
        model-low = rw (← sizes) room.low

      module _ (at x y : ℕ) (a : x ≡ padded (8 * n)) (b : y ≡ padded (2 * n)) where
        abbrev mapping : ℕ
        mapping = at + 0x30 + x

        abbrev geometries : ℕ
        geometries = mapping + y

        parts : List ℕ
        parts =
            model_block_bytes (model_numbers at n mapping s)
            ++ (filled (run 8 (addresses geometry_size geometries (geometries_from n rest))) ++ (filled (part s 12 (2 * n)) ++ laid geometry_size geometry_image geometries (geometries_from n rest)))

        Block-is : model_block_of at (front_model s) ≡ model_numbers at n mapping s
        unfolding model_block_of front_model
        Block-is =
            let fit : 6 + (6 + 2 * e) ≤ length s = omega (arith, whole-model) in
            let binding : field 4 body 0 ≡ field 4 s 6 = field-part 4 s 6 (6 + 2 * e) 0 (omega arith) fit in
            let mask : field 2 body 4 ≡ field 2 s 10 = field-part 2 s 6 (6 + 2 * e) 4 (omega arith) fit in
            let made : ℕ → ℕ → ℕ → ℕ → ModelBlock = λ i j k l. record { geometries = pointer_to i (at + 0x30); count = i; mapping = pointer_to j (at + 0x30 + padded (8 * i)); binding = k; mask = l } in
            ap (λ (i : ℕ). made i (length (front_model s).mapping) (field 4 body 0) (field 2 body 4)) geometries-count
            ∙ ap (λ (j : ℕ). made e j (field 4 body 0) (field 2 body 4)) mapping-length
            ∙ ap (λ (k : ℕ). made e e k (field 2 body 4)) binding
            ∙ ap (made e e (field 4 s 6)) mask
            ∙ rw (a, q)

        parts_are : ((i : ℕ) → get_or s i 0 < 256) → model_image at (front_model s) ≡ parts
        unfolding model_image parts
        parts_are below =
            let r : run 2 (front_model s).mapping ≡ part s 12 (2 * e) = mapping-run below in
            rw (Block-is, geometries-count, mapping-length, r, model-geometries, a, b, rest-is, q)

        pub model-written : ((i : ℕ) → get_or s i 0 < 256) → (d : List ℕ) → Room at (model_size (front_model s)) d → {t u v : List ℕ}
            → t ≡ overwrite d at (model_block_bytes (model_numbers at n mapping s))
            → u ≡ overwrite t mapping (filled (take (12 + 2 * n - 12) (drop 12 s)))
            → v ≡ with_items geometry_size geometry_image u (at + 0x30) geometries (geometries_from n rest)
            → v ≡ overwrite d at (model_image at (front_model s))
        unfolding parts part
        model-written below d room {t} {u} e1 e2 e3 =
            let all = parts_are below in
            let size : length parts ≡ model_size (front_model s) = ap length (sym all) ∙ model_image-length at (front_model s) in
            let same : 12 + 2 * n - 12 ≡ 2 * n = omega arith in
            let block : List ℕ = model_block_bytes (model_numbers at n mapping s) in
            let pointers : List ℕ = filled (run 8 (addresses geometry_size geometries (geometries_from n rest))) in
            let entries : List ℕ = filled (part s 12 (2 * n)) in
            let last : List ℕ = laid geometry_size geometry_image geometries (geometries_from n rest) in
            let pointers-long : length pointers ≡ x = filled-length (run 8 (addresses geometry_size geometries (geometries_from n rest))) ∙ rw (pointers-length geometry_size geometries (geometries_from n rest), items_count front_geometry geometry_length n rest) (sym a) in
            let entries-long : length entries ≡ y = filled-length (part s 12 (2 * n)) ∙ rw (part_length s 12 (2 * n) (omega (arith, whole-model))) (sym b) in
            let w1 = Writing-turn (writing_start d at parts (omega (arith, room.fits))) block (pointers ++ (entries ++ last)) 0x30 refl (model_block-length (model_numbers at n mapping s)) e1 in
            let w2 = Writing-turn w1 pointers (entries ++ last) x refl pointers-long refl in
            let w3 = Writing-turn w2 entries last y refl entries-long refl in
            -- the pointers go in behind the mapping, and lie before it
            let fit : mapping + length entries ≤ length t = omega (arith, w1.same, room.fits, sizes, ModelFits_lem at d room) in
            let swapped : overwrite u (at + 0x30) pointers ≡ overwrite (overwrite t (at + 0x30) pointers) mapping entries =
            ap (λ (z : List ℕ). overwrite z (at + 0x30) pointers) (rw same at e2) ∙ overwrite-before t mapping entries (at + 0x30) pointers (omega arith) fit in
            Writing-last w3 (e3 ∙ ap (λ (z : List ℕ). overwrite z geometries last) swapped) ∙ ap (overwrite d at) (sym all)
