-- What a test of several numbers at once tells: it is true exactly where each of them passes. Two such tests joined
-- tell of both runs.
-- Assumes nothing.
use mathlib.Core.Path.{◌≡◌, refl, sym}
use mathlib.Core.Logic.{◌↔◌}
use mathlib.Core.Bool.{Bool, true, false, ◌&&◌}
use mathlib.Core.List.{List, [], ◌∷◌}
use Prim.Native.Nat.{ℕ, suc, ◌+◌, ◌≤◌, zero-le}
use native.Mathlib.Omega.{arith}
use lib.Dec.{ltb, eqb}
use borrow.Author.Tests.{ltb-true, ltb-false, eqb-true, eq-eqb}
use Rattle.word.proofs.Tests.{each}
use Rattle.judge_spec.specs.First.{first}
use Rattle.judge_spec.specs.Judged.{is_word}
use Rattle.judge_spec.proofs.FirstLaws.{first_none}
use Rattle.inputs.specs.Words.{eight_words}
use Rattle.inputs.proofs.Walks.{Pass}

-- tests that are true together are the same
same_truth : (a b : Bool) → (a ≡ true → b ≡ true) → (b ≡ true → a ≡ true) → a ≡ b
same_truth true b f g = sym (f refl)
same_truth false true f g = g refl
same_truth false false f g = refl

module _ (passes : ℕ → Bool) where
  -- a test tells whether the numbers from i to e pass
  abbrev pub Tells : Bool → ℕ → ℕ → Type 0
  Tells a i e = (a ≡ true) ↔ Pass passes i e

  pub none_yet : Tells true 0 0
  none_yet = ((λ _ j low high. absurd (omega arith)), λ _. refl)

  pub joined : (a b : Bool) (i e k f : ℕ) → i ≤ k → k ≤ e → e ≤ f → Tells a i e → Tells b k f → Tells (a && b) i f
  joined a b i e k f ik ke ef first then = (to, λ all. rw (first.1 (λ j low high. all j low (omega arith)), then.1 (λ j low high. all j (omega arith) high)))
    where
      to : (a && b) ≡ true → Pass passes i f
      to t j low high = go (ltb j e) refl
        where
          go : (c : Bool) → ltb j e ≡ c → passes j ≡ true
          go true h = first.0 (each a (b ∷ []) t).0 j low (ltb-true j e h)
          go false h = then.0 (each a (b ∷ []) t).1 j (omega (arith, ltb-false j e h)) high

  pub nothing : (i : ℕ) → Tells true i i
  nothing i = ((λ _ j low high. absurd (omega arith)), λ _. refl)

  -- two tests that tell of the same numbers are the same
  pub same_tells : (a b : Bool) (i e : ℕ) → Tells a i e → Tells b i e → a ≡ b
  same_tells a b i e first then = same_truth a b (λ t. then.1 (first.0 t)) (λ t. first.1 (then.0 t))

  -- one number, and one more
  one : (i e : ℕ) → e ≡ i + 1 → Tells (passes i) i e
  one i e last = ((λ t j low high. let same : i ≡ j = omega arith in rw same at t), λ all. all i (omega arith) (omega arith))

  pub one_more : (a : Bool) (i e f : ℕ) → i ≤ e → f ≡ e + 1 → Tells a i e → Tells (a && passes e) i f
  one_more a i e f low last tells = joined a (passes e) i e e f low (omega arith) (omega arith) tells (one e f last)

  -- a test of all of them is that none fails
  pub all_told : (a : Bool) (n : ℕ) → Tells a 0 n → a ≡ eqb (first passes 0 n) n
  all_told a n tells =
      same_truth a (eqb (first passes 0 n) n)
      (λ t. eq-eqb _ n ((first_none passes n).1 (λ k h. tells.0 t k zero-le h)))
      (λ t. tells.1 (λ k low h. (first_none passes n).0 (eqb-true _ n t) k h))

module _ (bytes : List ℕ) where
  pub eight : (i : ℕ) → Tells (is_word bytes) (eight_words bytes i) i (i + 8)
  eight i = next 7 (next 6 (next 5 (next 4 (next 3 (next 2 (next 1 (one (is_word bytes) i (i + 1) refl)))))))
    where
      next : {a : Bool} (k : ℕ) → Tells (is_word bytes) a i (i + k) → Tells (is_word bytes) (a && is_word bytes (i + k)) i (i + suc k)
      next {a} k tells = one_more (is_word bytes) a i (i + k) (i + suc k) (omega arith) (omega arith) tells

  -- eight more, from a word on that was told of or is the next
  pub eight_more : (a : Bool) (i e k f : ℕ) → i ≤ k → k ≤ e → e ≤ f → f ≡ k + 8 → Tells (is_word bytes) a i e
      → Tells (is_word bytes) (a && eight_words bytes k) i f
  eight_more a i e k f ik ke ef last tells = joined (is_word bytes) a (eight_words bytes k) i e k f ik ke ef tells (rw last (eight k))
