-- Parts of a buffer, one after the other: how long they are, where they join, and a byte and a word of one; and a part
-- that is lent.
-- Assumes nothing.
use mathlib.Core.Path.{◌≡◌, refl, sym, ap, ap₂, ◌∙◌}
use mathlib.Core.Logic.{⊎_elim}
use mathlib.Core.List.{List, ◌++◌, append_assoc, append-nil}
use Prim.Native.Nat.{ℕ, zero, suc, ◌+◌, ◌-◌, ◌*◌, ◌≤◌, ◌<◌}
use native.Mathlib.Nat.{add-zero, add_assoc, mul-zero, mul-suc, mul-le-mul_left, not-suc-le-zero, le_of_suc-le-suc, eq-or-lt_of_le}
use native.Mathlib.Numerals.{add-one}
use native.Mathlib.Omega.{arith}
use lib.ListN.{length, take, drop, get_or, length-append, length-drop, get_or-append}
use lib.Seq.{length-take-le, get_or-append-add}
use Rattle.word.specs.Bytes.{word_at, concatenated}

module _ (part : ℕ → List ℕ) where
  pub parts_append : (k n : ℕ) → concatenated part (k + n) ≡ concatenated part k ++ concatenated (λ j. part (k + j)) n
  unfolding concatenated
  parts_append k zero = rw (add-zero k) (sym (append-nil (concatenated part k)))
  parts_append k (suc n) =
      let e : k + suc n ≡ suc (k + n) = omega arith in
      rw (e, parts_append k n) (append_assoc (concatenated part k) (concatenated (λ j. part (k + j)) n) (part (k + n)))

  pub parts_one : (k : ℕ) → concatenated part (k + 1) ≡ concatenated part k ++ part k
  unfolding concatenated
  parts_one k = rw (add-one k)

  pub parts_same : (other : ℕ → List ℕ) (n : ℕ) → ((j : ℕ) → j < n → part j ≡ other j) → concatenated part n ≡ concatenated other n
  unfolding concatenated
  parts_same other zero h = refl
  parts_same other (suc n) h = ap₂ ◌++◌ (parts_same other n (λ j b. h j (omega arith))) (h n (omega arith))

  -- parts of one size
  module _ (size : ℕ) (each : (k : ℕ) → length (part k) ≡ size) where
    pub parts_length : (n : ℕ) → length (concatenated part n) ≡ size * n
    unfolding concatenated
    parts_length zero = sym (mul-zero size)
    parts_length (suc n) = length-append (concatenated part n) (part n) ∙ ap₂ ◌+◌ (parts_length n) (each n) ∙ sym (mul-suc size n)

    -- byte j of part k
    byte_in : (n k j : ℕ) → k < n → j < size → get_or (concatenated part n) (size * k + j) 0 ≡ get_or (part k) j 0
    unfolding concatenated
    byte_in zero k j h b = absurd (not-suc-le-zero h)
    byte_in (suc n) k j h b =
        ⊎_elim
        (λ (e : k ≡ n). rw (e, ← parts_length n) (get_or-append-add (concatenated part n) (part n) j 0))
        (λ (l : k < n).
        get_or-append (concatenated part n) (part n) 0 (size * k + j) (omega (arith, parts_length n, mul-le-mul_left size l, mul-suc size k))
        ∙ byte_in n k j l b)
        (eq-or-lt_of_le (le_of_suc-le-suc h))

    pub word_in : (n k j : ℕ) → k < n → j + 3 < size → word_at (concatenated part n) (size * k + j) ≡ word_at (part k) j
    word_in n k j h b = rw (byte_in n k j h (omega arith), next 1 (omega arith), next 2 (omega arith), next 3 (omega arith))
      where
        next : (i : ℕ) → j + i < size → get_or (concatenated part n) (size * k + j + i) 0 ≡ get_or (part k) (j + i) 0
        next i l = ap (λ (m : ℕ). get_or (concatenated part n) m 0) (add_assoc (size * k) j i) ∙ byte_in n k (j + i) h l

-- as many bytes as are lent
pub lent_length : (t : List ℕ) (at size : ℕ) → at + size ≤ length t → length (take (at + size - at) (drop at t)) ≡ size
lent_length t at size room =
    let e : at + size - at ≡ size = omega arith in
    rw e (length-take-le size (drop at t) (omega (arith, length-drop at t)))
