-- The loop over the model pointers: what was read so far, and what is left to read.
use mathlib.Core.Path.{◌≡◌, refl, sym, ap, ◌∙◌}
use mathlib.Core.List.{List, [], ◌∷◌, ◌++◌, append-nil}
use Prim.Native.Nat.{ℕ, ◌+◌, ◌*◌, ◌^◌, ◌≤◌}
use native.Mathlib.Omega.{arith}
use borrow.Author.Tests.{eq-eqb, ne_eqb}
use lib.Dec.{eqb}
use lib.ListN.{length, length-append}
use Rattle.sections.specs.Address.{Sections, resolved}
use Rattle.halls.specs.List.{Model, each, write_model, write}
use Rattle.halls.specs.Blocks.{ModelBlock, model_block}
use Rattle.halls.specs.Reading.{Reading, read, and_then, list_at, mapping_of, read_model, read_models}
use Rattle.halls.specs.Inner.Measure.{model_at, measured_model, measured_models, geometries_in}
use Rattle.std.specs.Prelude.{Ok, Err}
use Rattle.halls.specs.declared.answer.Refusal.{Refusal}
use Rattle.halls.specs.declared.read.measure.Measured.{Measured}
use Rattle.halls.proofs.read.EachLaws.{each_snoc}
use Rattle.halls.proofs.read.ModelLaws.{geometries-NotZero}
use Rattle.halls.proofs.read.ReadingLaws.{NotZero, read-NotZero, cond-NotZero, need-NotZero, then-NotZero, need-then, prepend, prepend-none, prepend-one, prepend-then, read_as, refused_as}

-- ---- lists of models

geometries-snoc : (ms : List Model) (m : Model) → geometries_in (ms ++ (m ∷ [])) ≡ geometries_in ms + length m.geometries
geometries-snoc [] m = omega arith
geometries-snoc (h ∷ ms) m = rw (geometries-snoc ms m) (omega arith)

-- no refusal has the number 0
Block-NotZero : (s : Sections) (before : ℕ) (b : ModelBlock) → NotZero (read_model s before b)
unfolding read_model
Block-NotZero s before b =
    need-NotZero 4 (list_at s 8 b.count b.geometries) refl (λ ps. then-NotZero (geometries-NotZero s before (mapping_of s b) ps) (λ gs. read-NotZero))

model-NotZero : (s : Sections) (before pointer : ℕ) → NotZero (model_at s before pointer)
unfolding model_at
model-NotZero s before pointer = need-NotZero 3 (resolved s pointer 0x30) refl (λ b. Block-NotZero s before (model_block b))

pub models-NotZero : (s : Sections) (before : ℕ) (ps : List ℕ) → NotZero (read_models s before ps)
unfolding read_models
models-NotZero s before [] = read-NotZero
models-NotZero s before (p ∷ ps) =
    cond-NotZero (eqb p 0) (models-NotZero s before ps)
    (need-NotZero 3 (resolved s p 0x30) refl (λ b. then-NotZero (Block-NotZero s before (model_block b)) (λ m.
    then-NotZero (models-NotZero s (before + length m.geometries) ps) (λ ms. read-NotZero))))

pub record MeasuringModels (s : Sections) (all left : List ℕ) (total count : ℕ) : Type 0 where
  pub done : List Model
  pub total-is : total ≡ length (write done)
  pub count_is : count ≡ geometries_in done
  pub bound : total + length left * 2 ^ 20 ≤ count * 2 ^ 49 + length all * 2 ^ 20
  pub few : count ≤ 16384
  pub whole : read_models s 0 all ≡ prepend done (read_models s count left)

pub models-start : (s : Sections) (all : List ℕ) → MeasuringModels s all all 0 0
unfolding each
models-start s all = record { done = []; total-is = refl; count_is = refl; bound = omega arith; few = omega arith; whole = prepend-none (read_models s 0 all) }

module _ {s : Sections} {all left : List ℕ} {total count : ℕ} (m : MeasuringModels s all left total count) where
  pub models-end : left ≡ [] → measured_models (read_models s 0 all) ≡ Ok (record { «length» = total; count = count })
  unfolding read_models prepend
  models-end none =
      let ended : read_models s 0 all ≡ read m.done = m.whole ∙ rw none (ap read (append-nil m.done)) in
      ap measured_models ended ∙ rw (← m.total-is, ← m.count_is)

  module _ (pointer : ℕ) (others : List ℕ) (next : left ≡ pointer ∷ others) where
    shorter : length left ≡ 1 + length others
    shorter = ap length next ∙ omega arith

    -- what another model may come to
    pub models_room : total + 2 ^ 20 ≤ count * 2 ^ 49 + length all * 2 ^ 20
    models_room = omega (arith, m.bound, shorter)

    pub models_null : pointer ≡ 0 → MeasuringModels s all others total count
    unfolding read_models
    models_null z = record {
      done = m.done;
      total-is = m.total-is;
      count_is = m.count_is;
      bound = omega (arith, m.bound, shorter);
      few = m.few;
      whole = m.whole ∙ ap (prepend m.done) (rw (next, eq-eqb pointer 0 z));
    }

    module _ (set : pointer ≡ 0 → ⊥) where
      abbrev model_bytes : Model → ℕ
      model_bytes x = length (write_model x)

      abbrev model_count : Model → ℕ
      model_count x = length x.geometries

      abbrev onward : Model → Reading (List Model)
      onward x = and_then (read_models s (count + length x.geometries) others) (λ ms. read (x ∷ ms))

      step : read_models s count left ≡ and_then (model_at s count pointer) onward
      unfolding read_models model_at
      step = rw (next, ne_eqb pointer 0 set) (need-then 3 (resolved s pointer 0x30) (λ b. read_model s count (model_block b)) onward)

      pub models_refused : (e : Refusal) → Err e ≡ measured_model (model_at s count pointer) → Err e ≡ measured_models (read_models s 0 all)
      models_refused e same =
          refused_as model_bytes model_count (λ (ms : List Model). length (write ms)) geometries_in (model_at s count pointer) e (λ x. prepend m.done (onward x)) same
          ∙ ap measured_models (sym (prepend-then m.done (model_at s count pointer) onward) ∙ ap (prepend m.done) (sym step) ∙ sym m.whole)

      pub models-one : (v : Measured) → Ok v ≡ measured_model (model_at s count pointer) → v.«length» ≤ v.count * 2 ^ 49 + 2 ^ 20 → count + v.count ≤ 16384
          → MeasuringModels s all others (total + v.«length») (count + v.count)
      models-one v same small room =
          let a = read_as model_bytes model_count (model_at s count pointer) v same in
          let x : Model = a.value in
          let onto : ℕ → Reading (List Model) = λ k. prepend (m.done ++ (x ∷ [])) (read_models s k others) in
          record {
            done = m.done ++ (x ∷ []);
            total-is = rw (each_snoc write_model m.done x, length-append) (omega (arith, m.total-is, a.long));
            count_is = rw (geometries-snoc m.done x) (omega (arith, m.count_is, a.many));
            bound = omega (arith, m.bound, shorter);
            few = room;
            whole =
                m.whole ∙ ap (prepend m.done) (step ∙ ap (λ (r : Reading Model). and_then r onward) a.is)
                ∙ prepend-one m.done x (read_models s (count + length x.geometries) others)
                ∙ ap (λ k. onto (count + k)) (sym a.many);
          }
