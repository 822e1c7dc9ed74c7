-- Words written one after the other are their bytes, between what was before and after them.
-- Assumes nothing.
use mathlib.Core.Path.{◌≡◌, refl, sym, ap, ◌∙◌}
use mathlib.Core.List.{List, [], ◌∷◌, ◌++◌, append_assoc, append-nil}
use Prim.Native.Nat.{ℕ, zero, suc, ◌+◌, ◌*◌, ◌≤◌, ◌<◌}
use native.Mathlib.Nat.{add-zero}
use native.Mathlib.Omega.{arith}
use lib.ListN.{length, get_or, take, drop, length-append, length-drop, take-append-drop, drop_of_length-le}
use lib.Seq.{take_at, drop-append-add, drop-drop, length-take-le}
use borrow.Author.Tests.{le-leb, eq-eqb, ne_eqb}
use Rattle.word.specs.Bytes.{bytes_of, with_word}
use Rattle.rows.specs.Rows.{bytes_of_words, with_words, put_row}

-- four bytes for each word
pub length_bytes : (ws : List ℕ) → length (bytes_of_words ws) ≡ 4 * length ws
unfolding bytes_of_words
length_bytes [] = refl
length_bytes (w ∷ ws) = omega (arith, length_bytes ws)

-- one word more
pub put_next : (ws s : List ℕ) (at k : ℕ) → k < length ws
    → with_word (with_words s at (take k ws)) (at + 4 * k) (get_or ws k 0) ≡ with_words s at (take (k + 1) ws)
put_next [] s at k h = absurd (omega arith)
put_next (w ∷ ws) s at zero h = let none : at + 4 * 0 ≡ at = omega arith in rw none
put_next (w ∷ ws) s at (suc k) h =
    let e : at + 4 * suc k ≡ at + 4 + 4 * k = omega arith in
    let next : suc k + 1 ≡ suc (k + 1) = omega arith in
    rw (e, next) (put_next ws (with_word s at w) (at + 4) k (omega arith))

pub words_put : (ws s : List ℕ) (at : ℕ) → at + 4 * length ws ≤ length s
    → with_words s at ws ≡ take at s ++ (bytes_of_words ws ++ drop (at + 4 * length ws) s)
unfolding with_word bytes_of_words
words_put [] s at h = rw (add-zero at) (sym (take-append-drop at s))
words_put (w ∷ ws) s at h =
    rw (le-leb (at + 4) (length s) (omega arith))
    (words_put ws (front ++ back) (at + 4) (omega (arith, length-append front back, before, length-drop (at + 4) s))
    ∙ rw (take_at front back (at + 4) before, after) (append_assoc (take at s) (bytes_of w) _))
  where
    front : List ℕ
    front = take at s ++ bytes_of w

    back : List ℕ
    back = drop (at + 4) s

    before : length front ≡ at + 4
    before = length-append (take at s) (bytes_of w) ∙ ap (λ (n : ℕ). n + 4) (length-take-le at s (omega arith))

    after : drop (at + 4 + 4 * length ws) (front ++ back) ≡ drop (at + 4 * length (w ∷ ws)) s
    after =
        let e : at + 4 + 4 * length ws ≡ at + 4 * length (w ∷ ws) = omega arith in
        ap (λ (n : ℕ). drop (n + 4 * length ws) (front ++ back)) (sym before)
        ∙ drop-append-add front back (4 * length ws)
        ∙ drop-drop (4 * length ws) (at + 4) s
        ∙ ap (λ (n : ℕ). drop n s) e

-- a row's words put into as many bytes
pub row_put : (s : List ℕ) (size : ℕ) (ws : List ℕ) → length s ≡ size → 4 * length ws ≡ size → with_words s 0 ws ≡ put_row s size ws
unfolding put_row
row_put s size ws l e =
    words_put ws s 0 (omega arith)
    ∙ rw (eq-eqb (length s) size l, drop_of_length-le s {i = 0 + 4 * length ws} (omega arith)) (append-nil (bytes_of_words ws))

pub row_left : (s : List ℕ) (size : ℕ) (ws : List ℕ) → (length s ≡ size → ⊥) → s ≡ put_row s size ws
unfolding put_row
row_left s size ws other = rw (ne_eqb (length s) size other)
