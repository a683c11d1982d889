-- Loops that write n numbers of m bytes each to d, from the place of the number with the index `first` on: what stands there after i of them.
use mathlib.Core.Path.{◌≡◌, refl, sym, ap, ◌∙◌}
use mathlib.Core.List.{List, [], ◌++◌}
use Prim.Native.Nat.{ℕ, ◌+◌, ◌-◌, ◌*◌, ◌≤◌}
use native.Mathlib.Nat.{add-mul, mul-le-mul_right, zero-add, zero-mul}
use native.Mathlib.Omega.{arith}
use lib.ListN.{length, drop}
use lib.Seq.{drop-drop}
use Rattle.sections.specs.Edit.{part, overwrite}
use Rattle.sections.specs.Le.{le, bytes}
use Rattle.sections.proofs.EditLaws.{overwrite-length, overwrite-none, overwrite-then}
use Rattle.vertices.specs.Runs.{numbers, run, converted}
use Rattle.vertices.proofs.RunLaws.{converted-add, converted-length, converted-one}

-- d with the first i of n numbers written, b, where w gives the bytes of so many numbers
pub record Writing (m : ℕ) (w : ℕ → List ℕ) (d : List ℕ) (first n : ℕ) (b : List ℕ) (i : ℕ) : Type 0 where
  pub room : (first + n) * m ≤ length d
  pub low : i ≤ n
  pub same : length b ≡ length d
  pub is : b ≡ overwrite d (first * m) (w i)

module _ {m : ℕ} {w : ℕ → List ℕ} {d : List ℕ} {first n : ℕ} where
  -- before the first number
  pub writing_start : w 0 ≡ [] → (first + n) * m ≤ length d → Writing m w d first n d 0
  writing_start e h = record { room = h; low = omega arith; same = refl; is = rw e (sym (overwrite-none d (first * m))) }

  -- j numbers more
  pub Writing-turn : {b : List ℕ} {i : ℕ} → Writing m w d first n b i → (j : ℕ) (more : List ℕ) {t : List ℕ} → i + j ≤ n → length (w i) ≡ i * m → length more ≡ j * m
      → w (i + j) ≡ w i ++ more → t ≡ overwrite b ((first + i) * m) more → Writing m w d first n t (i + j)
  Writing-turn {b} {i} c j more h l l' a e =
      let p : (first + i) * m ≡ first * m + i * m = add-mul first i m in
      let q : (i + j) * m ≡ i * m + j * m = add-mul i j m in
      let r : (first + n) * m ≡ first * m + n * m = add-mul first n m in
      let o : (i + j) * m ≤ n * m = mul-le-mul_right m h in
      record {
        room = c.room;
        low = h;
        same = ap length e ∙ overwrite-length b ((first + i) * m) more (omega (arith, c.room, c.same)) ∙ c.same;
        is =
            e ∙ ap (λ (x : ℕ). overwrite b x more) p ∙ ap (λ (x : List ℕ). overwrite x (first * m + i * m) more) c.is
            ∙ overwrite-then d (first * m) (i * m) (w i) more l (omega (arith, c.room)) ∙ ap (overwrite d (first * m)) (sym a);
      }

  -- after the last
  pub Writing-end : {b : List ℕ} {i : ℕ} → Writing m w d first n b i → i ≡ n → b ≡ overwrite d (first * m) (w n)
  Writing-end c e = c.is ∙ ap (λ (x : ℕ). overwrite d (first * m) (w x)) e

-- ---- the numbers of s converted, each to the place with its own index

pub record Converting (k m : ℕ) (f : ℕ → ℕ) (s d : List ℕ) (first n : ℕ) (b : List ℕ) (i : ℕ) : Type 0 where
  pub writing : Writing m (λ j. converted k m f j (drop (first * k) s)) d first n b i

-- before the first number
pub Converting-start : {k m : ℕ} {f : ℕ → ℕ} {s d : List ℕ} {first n : ℕ} → (first + n) * m ≤ length d → Converting k m f s d first n d 0
unfolding converted run numbers
Converting-start h = record { writing = writing_start refl h }

module _ {k m : ℕ} {f : ℕ → ℕ} {s d : List ℕ} {first n : ℕ} {b : List ℕ} {i : ℕ} (c : Converting k m f s d first n b i) where
  -- j numbers more
  pub Converting-turn : (j : ℕ) {t : List ℕ} → i + j ≤ n → t ≡ overwrite b ((first + i) * m) (converted k m f j (drop ((first + i) * k) s))
      → Converting k m f s d first n t (i + j)
  Converting-turn j h e =
      let from : List ℕ = drop (first * k) s in
      let source : drop (i * k) from ≡ drop ((first + i) * k) s = drop-drop (i * k) (first * k) s ∙ ap (λ (x : ℕ). drop x s) (sym (add-mul first i k)) in
      let more : List ℕ = converted k m f j (drop ((first + i) * k) s) in
      let joined : converted k m f (i + j) from ≡ converted k m f i from ++ more =
      converted-add k m f i j from ∙ ap (λ (x : List ℕ). converted k m f i from ++ converted k m f j x) source in
      record { writing = Writing-turn c.writing j more h (converted-length k m f i from) (converted-length k m f j (drop ((first + i) * k) s)) joined e }

  -- one number more
  pub Converting-one : {t : List ℕ} → i + 1 ≤ n → t ≡ overwrite b ((first + i) * m) (bytes m (f (le (part s ((first + i) * k) k)))) → Converting k m f s d first n t (i + 1)
  Converting-one h e = Converting-turn 1 h (e ∙ ap (overwrite b ((first + i) * m)) (sym (converted-one k m f s ((first + i) * k))))

  -- after the last
  pub Converting-end : i ≡ n → b ≡ overwrite d (first * m) (converted k m f n (drop (first * k) s))
  Converting-end e = Writing-end c.writing e

-- all numbers of s, from the first on
module _ {k m : ℕ} {f : ℕ → ℕ} {s d : List ℕ} {n : ℕ} {b : List ℕ} {i : ℕ} (c : Converting k m f s d 0 n b i) where
  -- j numbers more
  pub run-turn : (j : ℕ) {t : List ℕ} → i + j ≤ n → t ≡ overwrite b (i * m) (converted k m f j (drop (i * k) s)) → Converting k m f s d 0 n t (i + j)
  run-turn j h e = Converting-turn c j h (rw (zero-add i) e)

  -- all that are left
  pub run-last : {t : List ℕ} → t ≡ overwrite b (i * m) (converted k m f (n - i) (drop (i * k) s)) → t ≡ overwrite d 0 (converted k m f n s)
  run-last e =
      let l : i ≤ n = c.writing.low in
      rw (zero-mul m, zero-mul k) at (Converting-end (run-turn (n - i) (omega arith) e) (omega arith))
