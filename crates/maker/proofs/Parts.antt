-- A buffer filled from its front, a part at a time, each through its own bytes.
-- Assumes nothing.
use mathlib.Core.Path.{◌≡◌, refl, sym, ap, ◌∙◌}
use mathlib.Core.List.{List, ◌++◌, append_assoc}
use Prim.Native.Nat.{ℕ, zero, suc, ◌+◌, ◌-◌, ◌*◌, ◌≤◌, ◌<◌}
use native.Mathlib.Omega.{arith}
use borrow.Author.Tests.{le-leb}
use lib.ListN.{length, take, drop, get_or, replicate, length-append, length-drop, replicate-append-replicate}
use lib.Seq.{take_at, drop_at, drop-drop}
use Rattle.word.specs.Bytes.{bytes_of, with_word, concatenated}
use Rattle.word.proofs.Concatenated.{parts_length, parts_one}

-- words that are 0 are bytes that are 0
pub zero_parts : (n : ℕ) → concatenated (λ k. bytes_of 0) n ≡ replicate (4 * n) 0
unfolding concatenated
zero_parts zero = refl
zero_parts (suc n) =
    let e : 4 * suc n ≡ 4 * n + 4 = omega arith in
    ap (λ (l : List ℕ). l ++ bytes_of 0) (zero_parts n) ∙ rw e (replicate-append-replicate (4 * n) 4 0)

-- a part that comes next, once it has come back
pub lent : (t front row : List ℕ) (at end : ℕ) → length front ≡ at → at ≤ end
    → take at (front ++ drop at t) ++ (row ++ drop (end - at) (drop at (front ++ drop at t))) ≡ front ++ row ++ drop end t
lent t front row at end f low =
    let e : at + (end - at) ≡ end = omega arith in
    rw (take_at front (drop at t) at f, drop_at front (drop at t) at f, drop-drop (end - at) at t, e) (sym (append_assoc front row (drop end t)))

-- what stands behind the front is what stood there
pub behind : (t front : List ℕ) (at k : ℕ) → length front ≡ at → at ≤ k → drop k (front ++ drop at t) ≡ drop k t
behind t front at k f low =
    let e : at + (k - at) ≡ k = omega arith in
    ap (λ (n : ℕ). drop n (front ++ drop at t)) (sym e)
    ∙ sym (drop-drop (k - at) at (front ++ drop at t))
    ∙ ap (drop (k - at)) (drop_at front (drop at t) at f)
    ∙ drop-drop (k - at) at t
    ∙ ap (λ (n : ℕ). drop n t) e

-- a word that comes next
next_word : (t front : List ℕ) (at x : ℕ) → length front ≡ at → at + 4 ≤ length (front ++ drop at t)
    → with_word (front ++ drop at t) at x ≡ front ++ bytes_of x ++ drop (at + 4) t
unfolding with_word
next_word t front at x f room =
    rw (le-leb (at + 4) (length (front ++ drop at t)) room, take_at front (drop at t) at f, behind t front at (at + 4) f (omega arith))

-- the buffer keeps its length
pub front_length : (t front : List ℕ) (at : ℕ) → length front ≡ at → at ≤ length t → length (front ++ drop at t) ≡ length t
front_length t front at f high = length-append front (drop at t) ∙ omega (arith, length-drop at t)

module _ (words t : List ℕ) (k : ℕ) (h : k < length words) (sized : length t ≡ 4 * length words) where
  first : ℕ → List ℕ
  first n = concatenated (λ j. bytes_of (get_or words j 0)) n

  front : (n : ℕ) → length (first n) ≡ 4 * n
  unfolding first
  front n = parts_length _ 4 (λ j. refl) n

  pub word_put : with_word (concatenated (λ j. bytes_of (get_or words j 0)) k ++ drop (4 * k) t) (4 * k) (get_or words k 0)
      ≡ concatenated (λ j. bytes_of (get_or words j 0)) (k + 1) ++ drop (4 * (k + 1)) t
  unfolding first
  word_put =
      let e : 4 * k + 4 ≡ 4 * (k + 1) = omega arith in
      next_word t (first k) (4 * k) (get_or words k 0) (front k) (omega (arith, front_length t (first k) (4 * k) (front k) (omega arith)))
      ∙ rw (parts_one (λ j. bytes_of (get_or words j 0)) k, e)

  pub word_length : length (concatenated (λ j. bytes_of (get_or words j 0)) (k + 1) ++ drop (4 * (k + 1)) t) ≡ length t
  unfolding first
  word_length = front_length t (first (k + 1)) (4 * (k + 1)) (front (k + 1)) (omega arith)
