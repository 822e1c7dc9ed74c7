-- What the judge over two buffers answers, by the lengths of the two.
-- Assumes nothing.
use mathlib.Core.Path.{◌≡◌, sym, ap, ◌∙◌}
use mathlib.Core.Logic.{◌↔◌}
use mathlib.Core.Bool.{Bool, true, false, true≢false}
use mathlib.Core.List.{[], ◌∷◌, ◌++◌}
use Prim.Native.Nat.{ℕ, ◌+◌, ◌-◌, ◌*◌, ◌^◌, ◌≤◌, ◌<◌}
use native.Mathlib.Omega.{arith}
use lib.Dec.{leb}
use lib.ListN.{length, take, drop, length-append, length-drop, take-append-drop}
use lib.Pow.{pow_pos, pow-lt}
use lib.Seq.{length-take-le}
use Rattle.answer.specs.Answers.{Answer, Accepted, Size}
use Rattle.answer.specs.Verdicts.{accepted}
use Rattle.word.proofs.Tests.{cases, each}
use Rattle.rules.specs.Sizes.{Parts, parts_of, program_fits, memory_fits}
use Rattle.judge_spec.specs.Judged.{judge_of}
use Rattle.judge_spec.specs.Refusal.{Says}
use Rattle.judge_spec.proofs.Exactly.{says_exactly}
use Rattle.split_spec.specs.Split.{SplitParts, joined, public_fits, split_fits, judge_split_of}
use Rattle.split_law.specs.Splits.{HasCut, cut_at, Splits}
use Rattle.split_law.proofs.Cuts.{passes_cut, cut_passes}

module _ (q : SplitParts) where
  abbrev program_passes_lem : Bool
  program_passes_lem = program_fits (length q.program)

  abbrev two_pass : Bool
  two_pass = split_fits (length q.public) (length q.rest)

  program_first : program_passes_lem ≡ false → judge_split_of q ≡ Size 1 0
  unfolding judge_split_of
  program_first e = rw e

  refused : two_pass ≡ false → program_passes_lem ≡ true → judge_split_of q ≡ Size 2 0
  unfolding judge_split_of
  refused f e = rw (e, f)

  passed : two_pass ≡ true → program_passes_lem ≡ true → judge_split_of q ≡ judge_of (joined q)
  unfolding judge_split_of
  passed f e = rw (e, f)

  -- the old judge names part 1 first too
  old_first : program_passes_lem ≡ false → judge_of (joined q) ≡ Size 1 0
  unfolding judge_of
  old_first e = rw e

  cut : HasCut q → two_pass ≡ true
  cut c = cut_passes c.0 c.1 (length q.public) (length q.rest) c.2

  as_joined : HasCut q → judge_split_of q ≡ judge_of (joined q)
  as_joined c = cases program_passes_lem (λ e. passed (cut c) e) (λ e. program_first e ∙ sym (old_first e))

  others_refused : (HasCut q → ⊥) → program_passes_lem ≡ true → judge_split_of q ≡ Size 2 0
  others_refused none e = cases two_pass (λ t. absurd (none (passes_cut (length q.public) (length q.rest) t))) (λ f. refused f e)

  says_joined : (a : Answer) → HasCut q → (judge_split_of q ≡ a) ↔ Says (joined q) a
  says_joined a c =
      let exactly = says_exactly (joined q) a in
      (λ e. exactly.0 (sym (as_joined c) ∙ e), λ s. as_joined c ∙ exactly.1 s)

  -- a memory that is cut has a length that fits
  joined_fits : HasCut q → memory_fits (length (q.public ++ q.rest)) ≡ true
  joined_fits c =
      let t = each (public_fits (length q.public)) (leb 1 (length q.rest) ∷ memory_fits (length q.public + length q.rest) ∷ []) (cut c) in
      rw (length-append q.public q.rest) t.1.1

  valid_passes : HasCut q → judge_split_of q ≡ Size 2 0 → ⊥
  unfolding Says
  valid_passes c e = true≢false (sym (joined_fits c) ∙ ((says_joined (Size 2 0) c).0 e).bad)

  accepted_joined : judge_split_of q ≡ Accepted → HasCut q × (judge_of (joined q) ≡ Accepted)
  accepted_joined e =
      cases program_passes_lem
      (λ p.
      cases two_pass
      (λ t. (passes_cut (length q.public) (length q.rest) t, sym (passed t p) ∙ e))
      (λ f. absurd (true≢false (sym (ap accepted (sym (refused f p) ∙ e))))))
      (λ p. absurd (true≢false (sym (ap accepted (sym (program_first p) ∙ e)))))

  three_words : program_passes_lem ≡ true → length q.public ≡ 4 * 3 → length q.rest ≡ 4 * 253
      → (memory_fits (length (q.public ++ q.rest)) ≡ true) × (judge_split_of q ≡ Size 2 0)
  three_words e three others =
      let all : length (q.public ++ q.rest) ≡ 1024 = length-append q.public q.rest ∙ rw (three, others) in
      (rw all, refused (rw three) e)

  no_public_words : program_passes_lem ≡ true → length q.public ≡ 0 → judge_split_of q ≡ Size 2 0
  no_public_words e none = others_refused (λ c. absurd (omega (arith, none, c.2.first, pow_pos c.1))) e

  nothing_left : program_passes_lem ≡ true → length q.rest ≡ 0 → judge_split_of q ≡ Size 2 0
  nothing_left e none =
      others_refused (λ c. absurd (omega (arith, none, c.2.others, pow-lt c.2.below))) e

any_cut : (q : Parts) (m m' : ℕ) → 8 ≤ m → m ≤ 29 → m' < m → length q.memory ≡ 4 * 2 ^ m → judge_split_of (cut_at m' q) ≡ judge_of q
any_cut q m m' least most below size =
    let n = 4 * 2 ^ m' in
    let less : 2 ^ m' < 2 ^ m = pow-lt below in
    let first : length (take n q.memory) ≡ n = length-take-le n q.memory (omega arith) in
    let others : length (drop n q.memory) ≡ 4 * (2 ^ m - 2 ^ m') = length-drop n q.memory ∙ omega arith in
    as_joined (cut_at m' q) (m, m', record { least = least; most = most; below = below; first = first; others = others })
    ∙ ap (λ memory. judge_of (parts_of q.program memory q.pc q.fp q.exec q.ext)) (take-append-drop n q.memory)

pub splits : Splits
splits =
    record {
      as_joined = as_joined;
      others_refused = others_refused;
      program_first = program_first;
      valid_passes = valid_passes;
      any_cut = any_cut;
      says_joined = says_joined;
      accepted_joined = accepted_joined;
      three_words = three_words;
      no_public_words = no_public_words;
      nothing_left = nothing_left;
    }
