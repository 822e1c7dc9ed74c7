-- Where the finds of some rows stand: that of row r at as many finds as there are before it, and each place below their
-- number is a row's. Over any test of rows and any bounds.
-- Assumes nothing.
use mathlib.Core.Path.{◌≡◌, refl, sym, ap, ◌∙◌}
use mathlib.Core.Bool.{Bool, true, cond}
use mathlib.Core.List.{List, [], ◌∷◌, ◌++◌, append_assoc, append-nil}
use Prim.Native.Nat.{ℕ, zero, suc, ◌+◌, ◌-◌, ◌*◌, ◌≤◌, ◌<◌, ◌^◌}
use native.Mathlib.Nat.{add-zero}
use native.Mathlib.Omega.{arith}
use lib.ListN.{length, length-append, drop_of_length-le}
use Rattle.word.specs.Bytes.{word_at, concatenated}
use Rattle.word.proofs.Concatenated.{parts_append, parts_one}
use Rattle.word.proofs.FourBytes.{read_bytes}
use Rattle.word.proofs.Part.{word_behind}
use Rattle.word.proofs.Tests.{cases, by_order}
use Rattle.rows.specs.Rows.{bytes_of_words}
use Rattle.rules.specs.Bus.{total}
use Rattle.rules.proofs.Totals.{one_more, total_split}

-- two words that stand first
two_read : (x y : ℕ) (rest : List ℕ) → x < 2 ^ 32 → y < 2 ^ 32
    → (word_at (bytes_of_words (x ∷ y ∷ []) ++ rest) 0 ≡ x) × (word_at (bytes_of_words (x ∷ y ∷ []) ++ rest) 4 ≡ y)
unfolding bytes_of_words
two_read x y rest hx hy = (read_bytes x hx, read_bytes y hy)

module _ (found : ℕ → Bool) (bound : ℕ → ℕ) where
  abbrev part : ℕ → List ℕ
  part r = cond (found r) (bytes_of_words (r ∷ bound r ∷ [])) []

  abbrev bytes : ℕ → List ℕ
  bytes n = concatenated part n

  abbrev number : ℕ → ℕ
  number n = total (λ r. cond (found r) 1 0) n

  part_length : (r : ℕ) → length (part r) ≡ 8 * cond (found r) 1 0
  unfolding bytes_of_words
  part_length r = cases (found r) (λ t. rw t) (λ f. rw f)

  -- 8 bytes a find
  pub eight_each : (n : ℕ) → length (bytes n) ≡ 8 * number n
  unfolding concatenated
  eight_each zero = refl
  eight_each (suc n) = length-append (bytes n) (part n) ∙ omega (arith, eight_each n, part_length n)

  -- more rows have no fewer finds, and one more where a row is one
  pub number_grows : (k n : ℕ) → k ≤ n → number k ≤ number n
  number_grows k n h =
      let e : n ≡ k + (n - k) = omega arith in
      rw e (omega (arith, total_split (λ r. cond (found r) 1 0) k (n - k)))

  pub number_next : (r : ℕ) → found r ≡ true → number (r + 1) ≡ number r + 1
  number_next r t = one_more (λ r. cond (found r) 1 0) r ∙ rw t

  -- rows among which there is no find more have no more bytes
  pub same_bytes : (k n : ℕ) → k ≤ n → number k ≡ number n → bytes k ≡ bytes n
  same_bytes k n h e =
      let more : List ℕ = concatenated (λ j. part (k + j)) (n - k) in
      let whole : k + (n - k) ≡ n = omega arith in
      let split : bytes n ≡ bytes k ++ more = ap bytes (sym whole) ∙ parts_append part k (n - k) in
      let none : more ≡ [] = drop_of_length-le more {i = 0} (omega (arith, ap length split, length-append (bytes k) more, eight_each k, eight_each n)) in
      sym (split ∙ rw none (append-nil (bytes k)))

  -- the find of row r
  pub stands : (n r : ℕ) (rest : List ℕ) → r < n → found r ≡ true → r < 2 ^ 32 → bound r < 2 ^ 32
      → (word_at (bytes n ++ rest) (8 * number r) ≡ r) × (word_at (bytes n ++ rest) (8 * number r + 4) ≡ bound r)
  stands n r rest h t small bounded =
      let more : List ℕ = concatenated (λ j. part (r + 1 + j)) (n - (r + 1)) in
      let e : n ≡ r + 1 + (n - (r + 1)) = omega arith in
      let own : part r ≡ bytes_of_words (r ∷ bound r ∷ []) = rw t in
      let split : bytes n ≡ bytes r ++ bytes_of_words (r ∷ bound r ∷ []) ++ more =
      ap bytes e ∙ parts_append part (r + 1) (n - (r + 1)) ∙ ap (λ (l : List ℕ). l ++ more) (parts_one part r ∙ ap (λ (l : List ℕ). bytes r ++ l) own) in
      let whole : bytes n ++ rest ≡ bytes r ++ (bytes_of_words (r ∷ bound r ∷ []) ++ (more ++ rest)) =
      ap (λ (l : List ℕ). l ++ rest) split ∙ regroup (bytes r) (bytes_of_words (r ∷ bound r ∷ [])) more rest in
      let (first, second) = two_read r (bound r) (more ++ rest) small bounded in
      let at : (j : ℕ) → word_at (bytes n ++ rest) (8 * number r + j) ≡ word_at (bytes_of_words (r ∷ bound r ∷ []) ++ (more ++ rest)) j =
      λ j. rw (whole, ← eight_each r) (word_behind (bytes r) _ j) in
      ((rw (add-zero (8 * number r)) at (at 0)) ∙ first, at 4 ∙ second)
    where
      regroup : (a b c d : List ℕ) → a ++ b ++ c ++ d ≡ a ++ (b ++ (c ++ d))
      regroup a b c d = simp append_assoc

  -- each place below the number is a row's
  pub place : (n k : ℕ) → k < number n → (r : ℕ) × (r < n) × (found r ≡ true) × (number r ≡ k)
  place zero k h = absurd (omega arith)
  place (suc n) k h =
      by_order k (number n)
      (λ l. let (r, inside, is, at) = place n k l in (r, omega arith, is, at))
      (λ l.
      cases (found n)
      (λ t. let e : number (suc n) ≡ number n + 1 = rw t in (n, omega arith, t, omega arith))
      (λ f. let e : number (suc n) ≡ number n + 0 = rw f in absurd (omega arith)))
