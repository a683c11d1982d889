-- Lists of hall calls: as a program makes them, and as the abstract state is given them (document 01, "Hall book").
use Rattle.std.specs.Prelude.{◌≡◌, List, [], ◌∷◌, ◌++◌, ℕ, ◌-◌, ◌^◌, ◌<◌, max, length, drop, replicate}
use Prim.{Unit}
use Rattle.halls.specs.Calls.{Given, Call, add_model, add_geometry, remove_geometry, remove_model, set_attribute, replace_indices, take_in}
use Rattle.halls.specs.Every.{Each}
use Rattle.halls.specs.State.{State, state_bytes}
use Rattle.halls.specs.Step.{Step, stays, becomes, step, step_answer, Stepped}
use Rattle.std.specs.Prelude.{Result, Ok, Err}
use Rattle.halls.specs.declared.answer.Refusal.{Refusal}
use Rattle.vertices.specs.Declaration.{InWidth}

-- ---- what the types of a call's arguments say

abbrev pub Bytes : List ℕ → Type 0
Bytes s = Each (λ (b : ℕ). b < 256) s

pub record GivenFits (x : Given) : Type 0 where
  pub shader : x.shader < 2 ^ 16
  pub declaration : InWidth x.declaration
  pub stride : x.stride < 2 ^ 16
  pub count : x.count < 2 ^ 32
  pub content : Bytes x.content
  pub indices : Each (λ (i : ℕ). i < 2 ^ 32) x.indices

abbrev pub Fits : Call → Type 0
Fits (add_model binding mask) = (binding < 2 ^ 32) × (mask < 2 ^ 16)
Fits (add_geometry x) = GivenFits x
Fits (remove_geometry m g) = Unit {0}
Fits (remove_model m) = Unit {0}
Fits (set_attribute m g vertex semantic value) = Unit {0}
Fits (replace_indices m g indices) = Each (λ (i : ℕ). i < 2 ^ 32) indices
Fits (take_in s address) = Bytes s.system × Bytes s.graphics

-- ---- as a program makes them

-- a call that was made: its answer, and the hall's buffer afterwards
pub record Made : Type 0 where
  pub call : Call
  pub answer : Result ℕ Refusal
  pub left : List ℕ

-- n after an answer
abbrev pub next_n : ℕ → Result ℕ Refusal → ℕ
next_n n (Ok m) = m
next_n n (Err r) = n

-- Each call got the buffer and n as the one before left them, and did what its contract says: `Stepped` of the call is what add_model, add_geometry,
-- remove_geometry, remove_model, set_attribute, replace_indices and take_in of halls ensure.
unfoldable pub Ran : List ℕ → ℕ → List Made → Type 0
Ran b n [] = Unit {0}
Ran b n (x ∷ xs) = Fits x.call × Stepped x.call b n x.answer x.left × Ran x.left (next_n n x.answer) xs

-- the buffer and n that they leave
unfoldable pub buffer_after : List ℕ → List Made → List ℕ
buffer_after b [] = b
buffer_after b (x ∷ xs) = buffer_after x.left xs

unfoldable pub n_after : ℕ → List Made → ℕ
n_after n [] = n
n_after n (x ∷ xs) = n_after (next_n n x.answer) xs

-- ---- as the abstract state is given them, with the buffer's length

abbrev pub state_after_step : State → Step → State
state_after_step s (stays check needed) = s
state_after_step s (becomes t) = t

unfoldable pub state_after : ℕ → State → List Made → State
state_after room s [] = s
state_after room s (x ∷ xs) = state_after room (state_after_step s (step x.call room s)) xs

-- ---- that they agree

-- n and the first n bytes are the state written out; from n to the greatest n reached the buffer holds zeros, beyond that its first content
pub record Shows (first b : List ℕ) (n greatest : ℕ) (s : State) : Type 0 where
  pub long : n ≡ length (state_bytes s)
  pub bytes : b ≡ state_bytes s ++ (replicate (greatest - n) 0 ++ drop greatest first)

-- so before and after each call, whose answer is that of the state's step
unfoldable pub Agrees : List ℕ → List ℕ → ℕ → ℕ → State → List Made → Type 0
Agrees first b n greatest s [] = Shows first b n greatest s
Agrees first b n greatest s (x ∷ xs) =
    Shows first b n greatest s
    × (x.answer ≡ step_answer (step x.call (length first) s))
    × Agrees first x.left (next_n n x.answer) (max greatest (next_n n x.answer)) (state_after_step s (step x.call (length first) s)) xs
