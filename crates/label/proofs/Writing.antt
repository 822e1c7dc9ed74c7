-- The writer's three answers, each with the buffer at return.
-- Assumes nothing.
use Prim.Native.Nat.{ℕ, ◌<◌, ◌≤◌}
use mathlib.Core.Bool.{true, false}
use mathlib.Core.List.{List, ◌++◌}
use mathlib.Core.Path.{◌≡◌, refl, ap}
use lib.ListN.{length, drop}
use native.Mathlib.Omega.{arith}
use borrow.Author.Tests.{lt-ltb, le-ltb}
use Rattle.std.specs.Prelude.{Result, Ok, Err, IsOk}
use Rattle.std.specs.Result.{result_and, result_unwrap_or}
use Rattle.answer.specs.Answers.{Answer, Accepted, Size, answer_of, number_of}
use Rattle.answer.specs.declared.Refusal.{Refusal}
use Rattle.label.specs.declared.Recipe.{Recipe}
use Rattle.label.specs.Label.{ranged, label_of}
use Rattle.label.specs.Writing.{Written, written, buffered}

module _ (r : Recipe) (b : List ℕ) where
  -- an answer with its length, and a buffer, are what the promise says
  abbrev Kept : Answer → ℕ → List ℕ → Type 0
  Kept a n l =
      (◌≡◌ {A = Written} (record { answer = a; length = n }) (written r (length b))) × (l ≡ buffered r b)

  -- of what is returned the answer, the length and the buffer
  pub kept_parts : {a : Answer} {n : ℕ} {l : List ℕ} → Kept a n l
      → (a ≡ (written r (length b)).answer) × (n ≡ (written r (length b)).length) × (l ≡ buffered r b)
  kept_parts k = (ap (λ (w : Written). w.answer) k.0, ap (λ (w : Written). w.length) k.0, k.1)

  pub outside : ranged r ≡ false → Kept (Size 0 0) 0 b
  unfolding written buffered
  outside h = (rw h, rw h)

  pub short : ranged r ≡ true → length b < length (label_of r) → Kept (Size 5 (length (label_of r))) 0 b
  unfolding written buffered
  short h s = (rw (h, lt-ltb (length b) (length (label_of r)) s), rw (h, lt-ltb (length b) (length (label_of r)) s))

  pub enough : ranged r ≡ true → length (label_of r) ≤ length b
      → Kept Accepted (length (label_of r)) (label_of r ++ drop (length (label_of r)) b)
  unfolding written buffered
  enough h s = (rw (h, le-ltb (length b) (length (label_of r)) s), rw (h, le-ltb (length b) (length (label_of r)) s))

-- a call that is accepted gives the length
pub length_given : (w : Result ℕ Refusal) → answer_of w ≡ Accepted → IsOk w
length_given (Ok n) e = refl
length_given (Err r) e = let z : ◌≡◌ {A = ℕ} 0 1 = cc e in absurd (omega arith)

-- the answer and the length, as a caller takes them from what is returned
pub answer_taken : (w : Result ℕ Refusal) → result_and w (Ok tt) ≡ answer_of w
answer_taken (Ok n) = refl
answer_taken (Err r) = refl

pub length_taken : (w : Result ℕ Refusal) → result_unwrap_or w 0 ≡ number_of w
length_taken (Ok n) = refl
length_taken (Err r) = refl
