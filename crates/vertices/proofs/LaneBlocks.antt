-- Blocks of vertices: lane after lane, block after block, each begun as a copy of the first.
use mathlib.Core.Path.{◌≡◌, refl, sym, ap, ◌∙◌}
use mathlib.Core.Bool.{Bool, ◌&&◌}
use mathlib.Core.List.{List}
use mathlib.Core.Logic.{⊎_elim}
use Prim.Native.Nat.{ℕ, ◌+◌, ◌-◌, ◌*◌, ◌/◌, ◌%◌, ◌≤◌, ◌<◌}
use native.Mathlib.Nat.{eq-zero-or-pos}
use native.Mathlib.Omega.{arith}
use borrow.Author.Tests.{le-leb}
use lib.ListN.{length}
use Rattle.sections.specs.Edit.{part, overwrite, fits, Edited}
use Rattle.sections.specs.Le.{bytes}
use Rattle.sections.proofs.EditLaws.{overwrite-length, part_length, part-part, part_same, part-before, part-after}
use Rattle.vertices.specs.Unified.{run_of}
use Rattle.vertices.specs.Inner.Plan.{planned_vertex, Readable}
use Rattle.vertices.specs.Inner.Lanes.{lane_bytes, lane_of, word_at, LaneReady, LaneWritten, BlockReady, BlockWritten, BlockBegun}
use Rattle.vertices.specs.declared.unify.UnifiedPlan.{UnifiedPlan}
use Rattle.vertices.proofs.LaneLaws.{word_is, all_words, lane_reads}

-- ---- lane after lane

module _ {p : UnifiedPlan} {s : List ℕ} {stride first end j : ℕ} {b t : List ℕ} (c : BlockWritten p s stride first end j b t) where
  -- one lane more
  pub Block-turn : j < 21 → {u : List ℕ} → LaneWritten (lane_of p j) stride s (record { block = record { first = first; end = end }; word = j }) t u → BlockWritten p s stride first end (j + 1) b u
  Block-turn low l =
      let kept : (q : ℕ) → part t (4 * q) 4 ≡ word_at p s stride q → part _ (4 * q) 4 ≡ word_at p s stride q =
      λ q h. l.kept q (word_at p s stride q) (λ i e. word_is p s stride q i j e low) h in
      record {
        same = l.same ∙ c.same;
        done = λ i k h m o. ⊎_elim
            (λ z. let e : k ≡ j = omega arith in rw e (l.here i h m ∙ sym (word_is p s stride (21 * i + j) i j refl low)))
            (λ (y : 0 < j - k). let place : i * 84 + 4 * k ≡ 4 * (21 * i + k) = omega arith in
            rw place (kept (21 * i + k) (rw place at (c.done i k h m (omega arith)))))
            (eq-zero-or-pos (j - k));
        kept = λ q h. kept q (c.kept q h);
        rest = λ at n h. l.rest at n h ∙ c.rest at n h;
      }

  -- what the next lane needs: a constant that stood in b stands still
  pub LaneReady_lem : j < 21 → BlockReady p stride first end s b → LaneReady (lane_of p j) stride (record { block = record { first = first; end = end }; word = j }) s t
  unfolding lane_bytes
  LaneReady_lem low k = record {
    fits = record { word = low; order = k.order; short = k.short; room = omega (arith, k.room, c.same) };
    reads = λ i h. lane_reads (i * stride) (length s) p j (k.reads i h);
    prefilled = λ word e later i h m.
        let at : i * 84 + 4 * j ≡ 4 * (21 * i + j) = omega arith in
        let is : word_at p s stride (21 * i + j) ≡ bytes 4 word = word_is p s stride (21 * i + j) i j refl low ∙ rw e in
        rw at (c.kept (21 * i + j) (rw at at (k.prefilled j word low e later i h m) ∙ sym is) ∙ is);
  }

-- ---- block after block

-- a later one as a copy of vertices before it
pub begun_copy : {first end : ℕ} {b t : List ℕ} {r : Bool} → first ≤ end → end - first ≤ first → 84 * end ≤ length b
    → Edited (fits b 0 ((end - first) * 84) && fits b (first * 84) ((end - first) * 84)) b (first * 84) (part b 0 ((end - first) * 84)) r t → BlockBegun first end b t
begun_copy {first} {end} {b} {t} order short room edited =
    let at : ℕ = first * 84 in
    let n : ℕ = (end - first) * 84 in
    let f : t ≡ overwrite b at (part b 0 n) = rw (le-leb (0 + n) (length b) (omega arith), le-leb (at + n) (length b) (omega arith)) at edited.bytes in
    let copy : List ℕ = part b 0 n in
    let size : length copy ≡ n = part_length b 0 n (omega arith) in
    let fit : at + length copy ≤ length b = omega arith in
    record {
      same = ap length f ∙ overwrite-length b at copy fit;
      before = λ q h. rw f (part-before b at copy fit (4 * q) 4 (omega arith));
      copied = λ _ k j h m.
          let to : (first + k) * 84 + 4 * j ≡ at + (k * 84 + 4 * j) = omega arith in
          let from : 0 + (k * 84 + 4 * j) ≡ 4 * (21 * k + j) = omega arith in
          rw to (sym (part-part t at n (k * 84 + 4 * j) 4 (omega arith)) ∙ ap (λ (x : List ℕ). part x (k * 84 + 4 * j) 4) (rw f (part_same b at copy fit n size))
          ∙ part-part b 0 n (k * 84 + 4 * j) 4 (omega arith) ∙ rw from);
      rest = λ p m h. rw f (part-after b at copy fit p m (omega arith));
    }

-- b with the vertices below i written, t; a block is 48 vertices but for the last
pub record VerticesWritten (p : UnifiedPlan) (s : List ℕ) (stride count : ℕ) (b : List ℕ) (i : ℕ) (t : List ℕ) : Type 0 where
  pub low : i ≤ count
  pub blocks : 0 < i → i < count → 48 ≤ i
  pub same : length t ≡ length b
  pub right : (q : ℕ) → q < 21 * i → part t (4 * q) 4 ≡ word_at p s stride q
  pub rest : (at n : ℕ) → 84 * count ≤ at → part t at n ≡ part b at n

module _ {p : UnifiedPlan} {s : List ℕ} {stride count : ℕ} {b : List ℕ} {i : ℕ} {t : List ℕ} (c : VerticesWritten p s stride count b i t) where
  -- all
  pub Vertices-end : i ≡ count → 84 * count ≤ length b → t ≡ overwrite b 0 (run_of (λ (k : ℕ). planned_vertex p s (k * stride)) count)
  Vertices-end e room = all_words p s stride count b t room c.same (λ q h. c.right q (omega arith)) c.rest

  module _ {end : ℕ} {u : List ℕ} (g : BlockBegun i end t u) where
    -- what a block begun so needs: its constants are those of vertices before it
    pub BlockReady_lem : i ≤ end → end ≤ count → end - i ≤ 48 → count < 4294967296 → 84 * count ≤ length b → ((k : ℕ) → k < count → Readable p (k * stride) (length s))
        → BlockReady p stride i end s u
    unfolding lane_bytes
    BlockReady_lem order last short few room reads = record {
      order = order;
      short = omega arith;
      room = omega (arith, g.same, c.same);
      reads = λ k h. reads k (omega arith);
      prefilled = λ j word low e later k h m.
          let from : i + (k - i) ≡ k = omega arith in
          let is : word_at p s stride (21 * (k - i) + j) ≡ bytes 4 word = word_is p s stride (21 * (k - i) + j) (k - i) j refl low ∙ rw e in
          let there : 21 * (k - i) + j < 21 * i = omega (arith, c.blocks later (omega arith)) in
          ap (λ (x : ℕ). part u (x * 84 + 4 * j) 4) (sym from) ∙ g.copied later (k - i) j (omega arith) low ∙ c.right (21 * (k - i) + j) there ∙ is;
    }

    -- one block more
    pub Vertices-turn : {x : List ℕ} → BlockWritten p s stride i end 21 u x → end ≤ count → (end < count → 48 ≤ end) → VerticesWritten p s stride count b end x
    Vertices-turn {x} k last whole = record {
      low = last;
      blocks = λ h l. whole l;
      same = k.same ∙ g.same ∙ c.same;
      right = λ q h. ⊎_elim
          (λ z.
          let v : ℕ = q / 21 in
          let j : ℕ = q % 21 in
          let at : 4 * q ≡ v * 84 + 4 * j = omega arith in
          let is : 21 * v + j ≡ q = omega arith in
          rw at (k.done v j (omega arith) (omega arith) (omega arith)) ∙ ap (word_at p s stride) is)
          (λ (y : 0 < 21 * i - q). k.kept q (g.before q (omega arith) ∙ c.right q (omega arith)))
          (eq-zero-or-pos (21 * i - q));
      rest = λ at n h. k.rest at n (omega arith) ∙ g.rest at n (omega arith) ∙ c.rest at n h;
    }
