-- The first word at or above p of two buffers joined: the first's own, and else so far behind it.
-- Assumes nothing.
use mathlib.Core.Path.{◌≡◌, sym, ap, ◌∙◌}
use mathlib.Core.Bool.{true}
use mathlib.Core.List.{List, ◌++◌}
use Prim.Native.Nat.{ℕ, ◌+◌, ◌-◌, ◌*◌, ◌/◌, ◌%◌, ◌≤◌, ◌<◌}
use native.Mathlib.Omega.{arith}
use lib.Dec.{ltb}
use lib.ListN.{length, get_or, length-append, get_or-append}
use Rattle.word.specs.Word.{p}
use Rattle.word.proofs.Part.{word_behind}
use Rattle.word.proofs.Tests.{by_order}
use Rattle.rules.specs.Sizes.{word_of}
use Rattle.judge_spec.specs.Judged.{is_word, first_word}
use Rattle.judge_spec.proofs.FirstLaws.{first_bound, first_fails, first_before, first_past, first_found, first_none}

module _ (public rest : List ℕ) where
  -- a word of the first buffer, and one of the second
  in_public : (k : ℕ) → k < length public / 4 → word_of (public ++ rest) k ≡ word_of public k
  in_public k h = rw (byte (4 * k) (omega arith), byte (4 * k + 1) (omega arith), byte (4 * k + 2) (omega arith), byte (4 * k + 3) (omega arith))
    where
      byte : (i : ℕ) → i < length public → get_or (public ++ rest) i 0 ≡ get_or public i 0
      byte i l = get_or-append public rest 0 i l

  module _ (seam : length public % 4 ≡ 0) where
    in_rest : (k : ℕ) → length public / 4 ≤ k → word_of (public ++ rest) k ≡ word_of rest (k - length public / 4)
    in_rest k h =
        let at : 4 * k ≡ length public + 4 * (k - length public / 4) = omega arith in
        rw at (word_behind public rest (4 * (k - length public / 4)))

    pub words_joined : length (public ++ rest) / 4 ≡ length public / 4 + length rest / 4
    words_joined = omega (arith, length-append public rest)

    pub found_public : first_word public < length public / 4 → first_word public ≡ first_word (public ++ rest)
    found_public h =
        sym
        (first_found (is_word (public ++ rest)) (length (public ++ rest) / 4) (first_word public) (omega (arith, words_joined))
        (λ k b. ap (λ w. ltb w p) (in_public k (omega arith)) ∙ first_before (is_word public) (length public / 4) k b)
        (ap (λ w. ltb w p) (in_public (first_word public) h) ∙ first_fails (is_word public) (length public / 4) h))

    -- none in the first, and none in the second before a word
    none_before : length public / 4 ≤ first_word public → (k : ℕ) → k < length public / 4 + first_word rest → is_word (public ++ rest) k ≡ true
    none_before h k b =
        by_order k (length public / 4)
        (λ low. ap (λ w. ltb w p) (in_public k low) ∙ first_past (is_word public) (length public / 4) h k low)
        (λ high.
        ap (λ w. ltb w p) (in_rest k high) ∙ first_before (is_word rest) (length rest / 4) (k - length public / 4) (omega arith))

    pub found_rest : length public / 4 ≤ first_word public → first_word public + first_word rest ≡ first_word (public ++ rest)
    found_rest h =
        let n = length public / 4 in
        let all : first_word public ≡ n = omega (arith, first_bound (is_word public) n) in
        let back : n + first_word rest - n ≡ first_word rest = omega arith in
        rw all
        (by_order (first_word rest) (length rest / 4)
        (λ low.
        sym
        (first_found (is_word (public ++ rest)) (length (public ++ rest) / 4) (n + first_word rest) (omega (arith, words_joined))
        (none_before h)
        (ap (λ w. ltb w p) (in_rest (n + first_word rest) (omega arith) ∙ ap (word_of rest) back) ∙ first_fails (is_word rest) (length rest / 4) low)))
        (λ past.
        let end : first_word rest ≡ length rest / 4 = omega (arith, first_bound (is_word rest) (length rest / 4)) in
        rw (end, ← words_joined)
        (sym ((first_none (is_word (public ++ rest)) (length (public ++ rest) / 4)).1 (λ k b. none_before h k (omega (arith, words_joined)))))))
