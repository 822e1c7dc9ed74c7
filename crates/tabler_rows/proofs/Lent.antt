-- Rows written through their own bytes: what a table holds once a part of it that was lent has come back.
-- Assumes nothing.
use borrow.Author.Tests.{eq-eqb}
use mathlib.Core.List.{List, [], ◌++◌, append_assoc, append-nil}
use mathlib.Core.Path.{◌≡◌, refl, sym, ap, ap₂, ◌∙◌}
use Prim.Native.Nat.{ℕ, zero, suc, ◌+◌, ◌-◌, ◌*◌, ◌≤◌, ◌<◌}
use native.Mathlib.Nat.{add-zero, mul-zero, mul-suc, mul-add, not-suc-le-zero}
use native.Mathlib.Omega.{arith}
use lib.ListN.{length, take, drop, length-append, length-drop, drop_of_length-le, take-append-drop}
use lib.Seq.{take_at, drop_at, drop-drop, length-take-le}
use Rattle.word.specs.Bytes.{concatenated}
use Rattle.rows.proofs.Writing.{length_bytes}
use Rattle.rows.specs.Rows.{bytes_of_words, put_row}
use Rattle.tabler_rows.specs.Placed.{placed}

module _ (t x : List ℕ) (at end : ℕ) (low : at ≤ end) (high : end ≤ length t) (sized : length x ≡ end - at) where
  front : length (take at t) ≡ at
  front = length-take-le at t (omega arith)

  behind : drop (end - at) (drop at t) ≡ drop end t
  behind = let e : at + (end - at) ≡ end = omega arith in drop-drop (end - at) at t ∙ ap (λ (n : ℕ). drop n t) e

  -- before it, and up to its end, and from its start on
  pub placed_take : take end (placed t at end x) ≡ take at t ++ x
  placed_take =
      ap (take end) (sym (append_assoc (take at t) x (drop (end - at) (drop at t))))
      ∙ take_at (take at t ++ x) _ end (omega (arith, length-append (take at t) x, front))

  pub placed_drop : drop at (placed t at end x) ≡ x ++ drop end t
  placed_drop = drop_at (take at t) _ at front ∙ ap (λ (l : List ℕ). x ++ l) behind

  pub placed_length : length (placed t at end x) ≡ length t
  placed_length =
      length-append (take at t) (x ++ drop (end - at) (drop at t))
      ∙ omega (arith, front, length-append x (drop (end - at) (drop at t)), length-drop (end - at) (drop at t), length-drop at t)

-- a row put in the place of as many bytes
pub put_row_lem : (s : List ℕ) (size : ℕ) (words : List ℕ) → length s ≡ size → put_row s size words ≡ bytes_of_words words
unfolding put_row
put_row_lem s size words e = rw (eq-eqb (length s) size e)

-- as many bytes as are lent
pub lent_length : (t : List ℕ) (at size : ℕ) → at + size ≤ length t → length (take (at + size - at) (drop at t)) ≡ size
lent_length t at size room =
    let e : at + size - at ≡ size = omega arith in
    rw e (length-take-le size (drop at t) (omega (arith, length-drop at t)))

-- and all bytes from a place to another
pub rest_length : (t : List ℕ) (at end : ℕ) → end ≤ length t → length (take (end - at) (drop at t)) ≡ end - at
rest_length t at end room = length-take-le (end - at) (drop at t) (omega (arith, length-drop at t))

-- no bytes put where none stand change nothing
pub none_placed : (t : List ℕ) (at end : ℕ) → end ≤ at → {x : List ℕ} → x ≡ [] → t ≡ placed t at end x
none_placed t at end h z = let none : end - at ≡ 0 = omega arith in rw (z, none) (sym (take-append-drop at t))

module _ (t x words : List ℕ) (at size : ℕ) (room : at + size ≤ length t) (put : x ≡ put_row (take (at + size - at) (drop at t)) size words) where
  pub put_bytes : x ≡ bytes_of_words words
  put_bytes = put ∙ put_row_lem _ size words (lent_length t at size room)

  pub put_length : 4 * length words ≡ size → length x ≡ size
  put_length wide = ap length put_bytes ∙ length_bytes words ∙ wide

module _ (row : ℕ → List ℕ) where
  pub rows_append : (k n : ℕ) → concatenated row (k + n) ≡ concatenated row k ++ concatenated (λ j. row (k + j)) n
  unfolding concatenated
  rows_append k zero = rw (add-zero k) (sym (append-nil (concatenated row k)))
  rows_append k (suc n) =
      let e : k + suc n ≡ suc (k + n) = omega arith in
      rw (e, rows_append k n) (append_assoc (concatenated row k) (concatenated (λ j. row (k + j)) n) (row (k + n)))

  pub rows_same : (other : ℕ → List ℕ) (n : ℕ) → ((j : ℕ) → j < n → row j ≡ other j) → concatenated row n ≡ concatenated other n
  unfolding concatenated
  rows_same other zero h = refl
  rows_same other (suc n) h = ap₂ ◌++◌ (rows_same other n (λ j b. h j (omega arith))) (h n (omega arith))

  pub no_rows : {n : ℕ} → n ≡ 0 → concatenated row n ≡ []
  unfolding concatenated
  no_rows z = rw z

  one_more : (j : ℕ) → 0 < j → (rest : List ℕ) → concatenated row (j - 1) ++ (row (j - 1) ++ rest) ≡ concatenated row j ++ rest
  unfolding concatenated
  one_more zero h rest = absurd (not-suc-le-zero h)
  one_more (suc j) h rest =
      let one : suc j - 1 ≡ j = omega arith in
      rw one (sym (append_assoc (concatenated row j) (row j) rest))

  module _ (size : ℕ) where
    back : (j : ℕ) → 0 < j → size * (j - 1) + size ≡ size * j
    back zero h = absurd (not-suc-le-zero h)
    back (suc j) h = let one : suc j - 1 ≡ j = omega arith in rw one (sym (mul-suc size j))

    -- a part that is filled from its last row back: the rows before j, and what stands from j on, are all its rows
    pub none_back : (t : List ℕ) (n : ℕ) → length t ≡ size * n → concatenated row n ++ drop (size * n) t ≡ concatenated row n
    none_back t n e = ap (λ (l : List ℕ). concatenated row n ++ l) (drop_of_length-le t {i = size * n} (omega arith)) ∙ append-nil (concatenated row n)

    module _ (t : List ℕ) (n j : ℕ) (some : 0 < j) (room : size * j ≤ length t) (x words : List ℕ)
        (put : x ≡ put_row (take (size * (j - 1) + size - size * (j - 1)) (drop (size * (j - 1)) t)) size words)
        (wide : 4 * length words ≡ size) where
      fits : size * (j - 1) + size ≡ size * j
      fits = back j some

      pub one_back : bytes_of_words words ≡ row (j - 1)
          → concatenated row j ++ drop (size * j) t ≡ concatenated row n
          → concatenated row (j - 1) ++ drop (size * (j - 1)) (placed t (size * (j - 1)) (size * (j - 1) + size) x) ≡ concatenated row n
      one_back e whole =
          let f = fits in
          rw (
            placed_drop t x (size * (j - 1)) (size * (j - 1) + size) (omega arith) (omega arith) (omega (arith, put_length t x words (size * (j - 1)) size (omega arith) put wide)),
            fits,
            put_bytes t x words (size * (j - 1)) size (omega arith) put,
            e,
          )
          (one_more j some (drop (size * j) t) ∙ whole)

    pub all_back : (t : List ℕ) (n j : ℕ) → j ≤ 0 → concatenated row j ++ drop (size * j) t ≡ concatenated row n → t ≡ concatenated row n
    unfolding concatenated
    all_back t n j h whole = let none : j ≡ 0 = omega arith in rw (none, mul-zero size) at whole

-- a table whose first k rows stand, and the n rows after them put in their place
module _ (row : ℕ → List ℕ) (size : ℕ) where
  pub rows_length : (n : ℕ) → ((j : ℕ) → length (row j) ≡ size) → length (concatenated row n) ≡ size * n
  unfolding concatenated
  rows_length zero h = sym (mul-zero size)
  rows_length (suc n) h = length-append (concatenated row n) (row n) ∙ rw (rows_length n h, h n) (sym (mul-suc size n))

  pub rows_on : (t x : List ℕ) (k n : ℕ)
      → size * k + size * n ≤ length t → length x ≡ size * n → x ≡ concatenated (λ j. row (k + j)) n
      → take (size * k) t ≡ concatenated row k
      → take (size * (k + n)) (placed t (size * k) (size * k + size * n) x) ≡ concatenated row (k + n)
  rows_on t x k n room l e stood =
      rw (mul-add size k n)
      (placed_take t x (size * k) (size * k + size * n) (omega arith) room (omega arith)
      ∙ ap₂ ◌++◌ stood e ∙ sym (rows_append row k n))
