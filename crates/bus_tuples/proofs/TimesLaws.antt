-- How often a row pulls: where it is once or not at all, and where its words are flags, the code's number is right.
-- Assumes nothing.
use mathlib.Core.Path.{◌≡◌, refl, sym, ◌∙◌}
use mathlib.Core.Bool.{Bool, true, false, ◌&&◌, true≢false}
use mathlib.Core.List.{[], ◌∷◌}
use Prim.Native.Nat.{ℕ, ◌+◌, ◌*◌, ◌≤◌}
use native.Mathlib.Nat.{mul-le-mul_right}
use native.Mathlib.Omega.{arith}
use lib.Dec.{eqb, leb}
use borrow.Author.Tests.{eqb-true, eqb-false, eq-eqb, ne_eqb, leb-true, le-leb}
use Rattle.word.proofs.Tests.{each}
use Rattle.rows.specs.declared.Ext.{Ext}
use Rattle.rules.specs.Bus.{pulls}
use Rattle.bus_tuples.specs.Times.{pull_by, pull_count}
use Rattle.bus_tuples.specs.Ready.{Flags}

module _ (start add mul peq : ℕ) where
  -- what the tests say
  abbrev bits : Bool
  bits = eqb start 1 && leb add 1 && leb mul 1 && leb peq 1

  pub all_bits : bits ≡ true → (start ≡ 1) × (add ≤ 1) × (mul ≤ 1) × (peq ≤ 1)
  all_bits e =
      let all = each (eqb start 1) (leb add 1 ∷ leb mul 1 ∷ leb peq 1 ∷ []) e in
      (eqb-true start 1 all.0, leb-true add 1 all.1.0, leb-true mul 1 all.1.1.0, leb-true peq 1 all.1.1.1)

  pub by_none : start ≡ 0 → 0 ≡ pull_by start add mul peq
  by_none none = rw none

  pub by_bits : (start ≡ 0 → ⊥) → bits ≡ true → add + mul + peq ≡ pull_by start add mul peq
  by_bits some e = rw (ne_eqb start 0 some, e)

  pub by_other : (start ≡ 0 → ⊥) → bits ≡ false → 2 ≡ pull_by start add mul peq
  by_other some e = rw (ne_eqb start 0 some, e)

  abbrev is_right : Type 0
  is_right = pull_by start add mul peq ≡ start * (add + mul + peq)

  -- by cases: it is right, or the tests fail
  by_cases : ((start ≡ 0 → ⊥) → bits ≡ false → is_right) → is_right
  by_cases other = go (eqb start 0) refl bits refl
    where
      go : (b : Bool) → eqb start 0 ≡ b → (d : Bool) → bits ≡ d → is_right
      go true t d e =
          let none : start ≡ 0 = eqb-true start 0 t in
          rw none (omega arith)
      go false t true e =
          let one : start ≡ 1 = (all_bits e).0 in
          sym (by_bits (eqb-false start 0 t) e) ∙ rw one (omega arith)
      go false t false e = other (eqb-false start 0 t) e

module _ (x : Ext) where
  pub right_few : pull_count x ≤ 1 → pull_count x ≡ pulls x
  right_few few =
      by_cases x.start x.add x.mul x.peq (λ some e. absurd (omega (arith, by_other x.start x.add x.mul x.peq some e)))

  pub few_pulls : {n : ℕ} → n ≡ pull_count x → n ≤ 1 → pulls x ≡ n
  few_pulls is few = sym (is ∙ right_few (omega arith))

  -- of a row with flags
  module _ (f : Flags x) where
    pub right_flags : pull_count x ≡ pulls x
    right_flags =
        by_cases x.start x.add x.mul x.peq
        (λ some e.
        let one : x.start ≡ 1 = omega (arith, f.start_bit) in
        let all : bits x.start x.add x.mul x.peq ≡ true =
        rw (eq-eqb x.start 1 one, le-leb x.add 1 f.add_bit, le-leb x.mul 1 f.mul_bit, le-leb x.peq 1 f.peq_bit) in
        absurd (true≢false (sym all ∙ e)))

    pub at_most_three : pulls x ≤ 3
    at_most_three = omega (arith, f.add_bit, f.mul_bit, f.peq_bit, mul-le-mul_right (x.add + x.mul + x.peq) f.start_bit)
