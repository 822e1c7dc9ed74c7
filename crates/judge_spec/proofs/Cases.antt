-- A stage of the judge by its cases: what is shown of the next stage's answer and of the refusal holds of the stage's
-- answer.
use mathlib.Core.Path.{◌≡◌, refl}
use mathlib.Core.Logic.{◌↔◌}
use mathlib.Core.Bool.{Bool, true, false, cond}
use Prim.Native.Nat.{ℕ, ◌<◌}
use native.Mathlib.Omega.{arith}
use lib.Dec.{T, ltb}
use borrow.Author.Tests.{ltb-true, ltb-false, le-ltb, lt-ltb}
pub use Rattle.word.proofs.Tests.{is_true, from_true, both}
use Rattle.answer.specs.Answers.{Answer}
use Rattle.judge_spec.specs.First.{first}
use Rattle.judge_spec.proofs.Stages.{stage}
use Rattle.judge_spec.proofs.FirstLaws.{first_fails, first_before, first_past, first_none, first_found}

pub chosen : (b : Bool) (a c : Answer) (Holds : Answer → Type 0) → (T b → Holds a) → (b ≡ false → Holds c) → Holds (cond b a c)
chosen true a c Holds f g = f tt
chosen false a c Holds f g = g refl

pub passed : (b : Bool) (a c : Answer) → T b → cond b a c ≡ a
passed true a c t = refl
passed false a c t = absurd t

pub failed : (b : Bool) (a c : Answer) → b ≡ false → cond b a c ≡ c
failed b a c e = rw e

-- what a test of a number says where it is true, and where it is false
pub record Reads (passes : ℕ → Bool) (Ok Bad : ℕ → Type 0) : Type 0 where
  pub ok : (k : ℕ) → (passes k ≡ true) ↔ Ok k
  pub bad : (k : ℕ) → (passes k ≡ false) ↔ Bad k

-- a stage that refuses the first number that fails a test, with the answer that the number gives
module _ {passes : ℕ → Bool} {Ok Bad : ℕ → Type 0} (reads : Reads passes Ok Bad) (n : ℕ) (answer : ℕ → Answer) (then : Answer) where
  pub tested : (Holds : Answer → Type 0)
      → (((k : ℕ) → k < n → Ok k) → Holds then)
      → ((m : ℕ) → m < n → ((k : ℕ) → k < m → Ok k) → Bad m → Holds (answer m))
      → Holds (stage passes n answer then)
  tested Holds f g = go (ltb (first passes 0 n) n) refl
    where
      go : (b : Bool) → ltb (first passes 0 n) n ≡ b → Holds (cond b (answer (first passes 0 n)) then)
      go true t =
          let below : first passes 0 n < n = ltb-true (first passes 0 n) n t in
          g (first passes 0 n) below (λ k h. (reads.ok k).0 (first_before passes n k h)) ((reads.bad _).0 (first_fails passes n below))
      go false t = f (λ k h. (reads.ok k).0 (first_past passes n (ltb-false (first passes 0 n) n t) k h))

  pub untouched : ((k : ℕ) → k < n → Ok k) → stage passes n answer then ≡ then
  untouched all = rw (le-ltb (first passes 0 n) n (omega (arith, (first_none passes n).1 (λ k h. (reads.ok k).1 (all k h)))))

  pub refusing : (m : ℕ) → m < n → ((k : ℕ) → k < m → Ok k) → Bad m → stage passes n answer then ≡ answer m
  refusing m h before bad = rw (first_found passes n m h (λ k b. (reads.ok k).1 (before k b)) ((reads.bad m).1 bad), lt-ltb m n h)
