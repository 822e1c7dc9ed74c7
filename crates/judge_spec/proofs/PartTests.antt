-- The tests of sizes and words, which judge and tabler make alike: what each says where it passes and where it refuses,
-- with whatever answer comes next.
use mathlib.Core.Path.{◌≡◌, refl, ◌∙◌}
use mathlib.Core.Bool.{cond, true≢false}
use mathlib.Core.List.{List}
use Prim.Native.Nat.{ℕ, zero, suc, ◌/◌, ◌<◌}
use native.Mathlib.Omega.{arith}
use lib.Dec.{T}
use lib.ListN.{length}
use Rattle.answer.specs.Answers.{Answer, Size, Word}
use Rattle.rules.specs.Sizes.{Parts}
use Rattle.rules.specs.Satisfies.{Words}
use Rattle.judge_spec.specs.Judged.{sizes, words}
use Rattle.judge_spec.specs.Refusal.{part, part_fits, BadSize, BadWord}
use Rattle.judge_spec.proofs.PartNumbers.{one_more, every_from}
use Rattle.judge_spec.proofs.Cases.{chosen, tested, passed, failed, untouched, refusing}
use Rattle.judge_spec.proofs.StageReads.{words_read}

pub words_pass : (n : ℕ) (bytes : List ℕ) (then : Answer) → Words bytes → words n bytes then ≡ then
words_pass n bytes then = untouched (words_read bytes) (length bytes / 4) (Word n) then

module _ (q : Parts) where
  pub word_at_lem : (n : ℕ) (then : Answer) {k : ℕ} → BadWord q n k → words n (part q n) then ≡ Word n k
  word_at_lem n then {k} x = refusing (words_read (part q n)) (length (part q n) / 4) (Word n) then k x.inside x.before x.bad

  -- no words are tested in a part 0
  pub no_words : (m : ℕ) → m < 1 → Words (part q m)
  no_words = one_more (λ m. Words (part q m)) 0 (λ m h. absurd (omega arith)) (λ k h. absurd (omega arith))

  module _ (Holds : Answer → Type 0) where
    -- the words of part n, where those of the parts before are right
    pub words_cases : ((m : ℕ) → T (part_fits q m)) → (n : ℕ) (then : Answer) → ((k : ℕ) → BadWord q n k → Holds (Word n k))
        → (((m : ℕ) → m < suc n → Words (part q m)) → Holds then)
        → ((m : ℕ) → m < n → Words (part q m)) → Holds (words n (part q n) then)
    words_cases sized n then refuses pass earlier =
        tested (words_read (part q n)) (length (part q n) / 4) (Word n) then Holds
        (λ w. pass (one_more (λ m. Words (part q m)) n earlier w))
        (λ k h before bad. refuses k (record { sizes = sized; parts_before = earlier; before = before; inside = h; bad = bad }))

    -- the lengths of the four parts
    pub sizes_cases : (then : Answer) → ((n : ℕ) → BadSize q n 0 → Holds (Size n 0)) → (((m : ℕ) → T (part_fits q m)) → Holds then)
        → Holds (sizes (length q.program) (length q.memory) (length q.exec) (length q.ext) then)
    sizes_cases then refuses pass =
        from 1 _ (from 2 _ (from 3 _ (from 4 _ (λ all. pass (every_from (λ m. T (part_fits q m)) all (λ m. tt))))))
        (one_more (λ m. T (part_fits q m)) 0 (λ m h. absurd (omega arith)) tt)
      where
        from : (n : ℕ) (next : Answer)
            → (((m : ℕ) → m < suc n → T (part_fits q m)) → Holds next)
            → ((m : ℕ) → m < n → T (part_fits q m)) → Holds (cond (part_fits q n) next (Size n 0))
        from n next on earlier =
            chosen (part_fits q n) next (Size n 0) Holds
            (λ t. on (one_more (λ m. T (part_fits q m)) n earlier t))
            (λ bad. refuses n (record { before = earlier; bad = bad; unnamed = refl }))

  module _ (then : Answer) where
    abbrev sized : Answer
    sized = sizes (length q.program) (length q.memory) (length q.exec) (length q.ext) then

    pub sizes_pass : ((m : ℕ) → T (part_fits q m)) → sized ≡ then
    sizes_pass s = passed (part_fits q 1) _ _ (s 1) ∙ passed (part_fits q 2) _ _ (s 2) ∙ passed (part_fits q 3) _ _ (s 3) ∙ passed (part_fits q 4) _ _ (s 4)

    pub size_refused : (n place : ℕ) → BadSize q n place → sized ≡ Size n 0
    size_refused zero place x = absurd (true≢false x.bad)
    size_refused (suc zero) place x = failed (part_fits q 1) _ _ x.bad
    size_refused (suc (suc zero)) place x = passed (part_fits q 1) _ _ (x.before 1 (omega arith)) ∙ failed (part_fits q 2) _ _ x.bad
    size_refused (suc (suc (suc zero))) place x =
        passed (part_fits q 1) _ _ (x.before 1 (omega arith))
        ∙ passed (part_fits q 2) _ _ (x.before 2 (omega arith))
        ∙ failed (part_fits q 3) _ _ x.bad
    size_refused (suc (suc (suc (suc zero)))) place x =
        passed (part_fits q 1) _ _ (x.before 1 (omega arith))
        ∙ passed (part_fits q 2) _ _ (x.before 2 (omega arith))
        ∙ passed (part_fits q 3) _ _ (x.before 3 (omega arith))
        ∙ failed (part_fits q 4) _ _ x.bad
    size_refused (suc (suc (suc (suc (suc n))))) place x = absurd (true≢false x.bad)
