-- Loops over one lane: what stands in out after each turn, for every kind of lane.
use mathlib.Core.Path.{◌≡◌, sym, ap, ◌∙◌}
use mathlib.Core.List.{List}
use mathlib.Core.Logic.{⊎_elim}
use Prim.Native.Nat.{ℕ, ◌+◌, ◌-◌, ◌*◌, ◌≤◌, ◌<◌}
use native.Mathlib.Nat.{eq-zero-or-pos}
use native.Mathlib.Omega.{arith}
use lib.ListN.{length}
use Rattle.sections.specs.Edit.{part, overwrite}
use Rattle.sections.proofs.EditLaws.{overwrite-length, part_same, part-before, part-after}
use Rattle.sections.proofs.LeLaws.{length-bytes}
use Rattle.vertices.specs.Inner.Lanes.{lane_bytes, WordsWritten}
use Rattle.vertices.specs.declared.lane.Lane.{Lane}
use Rattle.vertices.specs.declared.lane.Lane.TheVariants.{Constant, Word, Half, Snorm, Unorm, Raw, Rgba8}
use Rattle.vertices.proofs.RunLaws.{length_run}

-- every lane gives four bytes
pub lane_bytes-length : (lane : Lane) (s : List ℕ) (base : ℕ) → length (lane_bytes lane s base) ≡ 4
unfolding lane_bytes
lane_bytes-length (Constant word) s base = length-bytes 4 _
lane_bytes-length (Word off) s base = length-bytes 4 _
lane_bytes-length (Half off) s base = length-bytes 4 _
lane_bytes-length (Snorm off) s base = length-bytes 4 _
lane_bytes-length (Unorm off) s base = length-bytes 4 _
lane_bytes-length (Raw off) s base = length_run 1 _
lane_bytes-length (Rgba8 t off) s base = length_run 1 _

module _ {g : ℕ → List ℕ} {first i j : ℕ} {b t : List ℕ} (c : WordsWritten g first i j b t) (low : j < 21) where
  -- one vertex more
  pub Words-turn : {v u : List ℕ} → v ≡ g i → length v ≡ 4 → i * 84 + 4 * j + 4 ≤ length b → u ≡ overwrite t (i * 84 + 4 * j) v → WordsWritten g first (i + 1) j b u
  Words-turn {v} {u} e l h f =
      let at : ℕ = i * 84 + 4 * j in
      let fit : at + length v ≤ length t = omega (arith, c.same) in
      let written : part u at 4 ≡ g i = rw f (part_same t at v fit 4 l ∙ e) in
      let before : (p n : ℕ) → p + n ≤ at → part u p n ≡ part t p n = λ p n h. rw f (part-before t at v fit p n h) in
      let after : (p n : ℕ) → at + 4 ≤ p → part u p n ≡ part t p n = λ p n h. rw f (part-after t at v fit p n (omega arith)) in
      record {
        same = ap length f ∙ overwrite-length t at v fit ∙ c.same;
        here = λ k low high. ⊎_elim
            (λ z. let q : k ≡ i = omega arith in rw q written)
            (λ p. before (k * 84 + 4 * j) 4 (omega arith) ∙ c.here k low (omega arith))
            (eq-zero-or-pos (i - k));
        kept = λ q word at-lane stands. ⊎_elim
            (λ z. ⊎_elim
            (λ y. let same : q ≡ 21 * i + j = omega arith in
            let place : 4 * q ≡ at = omega arith in
            rw place (written ∙ sym (at-lane i same)))
            (λ p. after (4 * q) 4 (omega arith) ∙ c.kept q word at-lane stands)
            (eq-zero-or-pos (q - (21 * i + j))))
            (λ p. before (4 * q) 4 (omega arith) ∙ c.kept q word at-lane stands)
            (eq-zero-or-pos (21 * i + j - q));
        rest = λ p n h. after p n (omega arith) ∙ c.rest p n (omega arith);
      }
