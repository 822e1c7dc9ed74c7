-- Reading a row undoes writing it, wherever it stands, and writing undoes reading.
-- Assumes nothing.
use mathlib.Core.Path.{◌≡◌, refl, sym, ap, ◌∙◌}
use mathlib.Core.List.{List, [], ◌∷◌, ◌++◌, append_assoc, append-nil}
use Prim.Native.Nat.{ℕ, zero, suc, ◌+◌, ◌*◌, ◌^◌, ◌≤◌, ◌<◌}
use native.Mathlib.Nat.{add-zero}
use native.Mathlib.Numerals.{add-one, add-two, add-three}
use native.Mathlib.Omega.{arith}
use lib.ListN.{length, get_or, drop, drop_of_length-le}
use lib.Seq.{drop-cons}
use Rattle.word.proofs.FourBytes.{read_bytes, bytes_read}
use Rattle.word.proofs.Lists.{◌∷≡◌}
use Rattle.word.specs.Bytes.{word_at, bytes_of}
use Rattle.rows.proofs.Reading.{exec_made, ext_made, exec_behind, ext_behind}
use Rattle.rows.specs.Rows.{exec_at, five_at, ext_at, bytes_of_words, with_words, exec_words, five_words, ext_words}
use Rattle.rows.specs.declared.Exec.{Exec}
use Rattle.rows.specs.declared.Ext.{Ext}

-- every element is below a bound, which 0 is
abbrev pub Below : ℕ → List ℕ → Type 0
Below n ws = (k : ℕ) → get_or ws k 0 < n

-- the four elements of a row have five words each
pub record Fives (x : Ext) : Type 0 where
  pub vA_five : length x.vA ≡ 5
  pub vB_five : length x.vB ≡ 5
  pub comp_five : length x.comp ≡ 5
  pub res_five : length x.res ≡ 5

-- n elements from a place on
abbrev elements : List ℕ → ℕ → ℕ → List ℕ
elements s at zero = []
elements s at (suc n) = get_or s at 0 ∷ elements s (suc at) n

elements_drop : (n at : ℕ) (s : List ℕ) → at + n ≤ length s → elements s at n ++ drop (at + n) s ≡ drop at s
elements_drop zero at s h = rw (add-zero at)
elements_drop (suc n) at s h =
    let e : at + suc n ≡ suc at + n = omega arith in
    rw (e, drop-cons s at 0 (omega arith)) (refl ∷≡ elements_drop n (suc at) s (omega arith))

five_words_lem : (a : List ℕ) → length a ≡ 5 → five_words a ≡ a
five_words_lem a e = rw (drop_of_length-le a {i = 5} (omega arith)) at (elements_drop 5 0 a (omega arith))

-- the four elements put one after the other
pub fives_put : (s vA vB comp res : List ℕ) → length vA ≡ 5 → length vB ≡ 5 → length comp ≡ 5 → length res ≡ 5
    → with_words (with_words (with_words (with_words s 40 vA) 60 vB) 80 comp) 100 res
    ≡ with_words (with_words (with_words (with_words s 40 (five_words vA)) 60 (five_words vB)) 80 (five_words comp)) 100 (five_words res)
fives_put s vA vB comp res a b c r =
    λ i. with_words (with_words (with_words (with_words s 40 (whole vA a i)) 60 (whole vB b i)) 80 (whole comp c i)) 100 (whole res r i)
  where
    whole : (x : List ℕ) → length x ≡ 5 → x ≡ five_words x
    whole x e = sym (five_words_lem x e)

got : {w : ℕ} → w < 2 ^ 32 → w ≡ word_at (bytes_of w) 0
got {w} f = sym (read_bytes w f)

-- reading undoes writing, whatever follows
exec_first : (x : Exec) (back : List ℕ) → Below (2 ^ 32) (exec_words x) → exec_at (bytes_of_words (exec_words x) ++ back) 0 ≡ x
unfolding bytes_of_words
exec_first x back f =
    sym (exec_made _ 0 (got (f 0)) (got (f 1)) (got (f 2)) (got (f 3)) (got (f 4)) (got (f 5)) (got (f 6)) (got (f 7)))

five_first : (a : List ℕ) → length a ≡ 5
    → get_or a 0 0 < 2 ^ 32
    → get_or a 1 0 < 2 ^ 32
    → get_or a 2 0 < 2 ^ 32
    → get_or a 3 0 < 2 ^ 32
    → get_or a 4 0 < 2 ^ 32
    → five_at (bytes_of_words (five_words a)) 0 ≡ a
unfolding five_at bytes_of_words
five_first a e f₀ f₁ f₂ f₃ f₄ =
    (read_bytes _ f₀ ∷≡ read_bytes _ f₁ ∷≡ read_bytes _ f₂ ∷≡ read_bytes _ f₃ ∷≡ read_bytes _ f₄ ∷≡ refl) ∙ five_words_lem a e

ext_first : (x : Ext) (back : List ℕ) → Below (2 ^ 32) (ext_words x) → Fives x → ext_at (bytes_of_words (ext_words x) ++ back) 0 ≡ x
unfolding five_at bytes_of_words
ext_first x back f five =
    sym (ext_made _ 0 (got (f 0)) (got (f 1)) (got (f 2)) (got (f 3)) (got (f 4)) (got (f 5)) (got (f 6)) (got (f 7)) (got (f 8)) (got (f 9))
    (sym (five_first x.vA five.vA_five (f 10) (f 11) (f 12) (f 13) (f 14)))
    (sym (five_first x.vB five.vB_five (f 15) (f 16) (f 17) (f 18) (f 19)))
    (sym (five_first x.comp five.comp_five (f 20) (f 21) (f 22) (f 23) (f 24)))
    (sym (five_first x.res five.res_five (f 25) (f 26) (f 27) (f 28) (f 29))))

module _ (x : Exec) (f : Below (2 ^ 32) (exec_words x)) where
  pub read_exec : exec_at (bytes_of_words (exec_words x)) 0 ≡ x
  read_exec = rw append-nil at (exec_first x [] f)

  pub read_exec_at : (front back : List ℕ) → exec_at (front ++ (bytes_of_words (exec_words x) ++ back)) (length front) ≡ x
  read_exec_at front back = exec_behind front _ ∙ exec_first x back f

module _ (x : Ext) (f : Below (2 ^ 32) (ext_words x)) (five : Fives x) where
  pub read_ext : ext_at (bytes_of_words (ext_words x)) 0 ≡ x
  read_ext = rw append-nil at (ext_first x [] f five)

  pub read_ext_at : (front back : List ℕ) → ext_at (front ++ (bytes_of_words (ext_words x) ++ back)) (length front) ≡ x
  read_ext_at front back = ext_behind front _ ∙ ext_first x back f five

-- n words from a byte on
abbrev pub words_at : List ℕ → ℕ → ℕ → List ℕ
words_at s at zero = []
words_at s at (suc n) = word_at s at ∷ words_at s (at + 4) n

module _ (s : List ℕ) (b : Below 256 s) where
  word_back : (at : ℕ) → at + 4 ≤ length s → bytes_of (word_at s at) ++ drop (at + 4) s ≡ drop at s
  word_back at h =
      ap (λ (l : List ℕ). l ++ drop (at + 4) s) (bytes_read _ _ _ _ (b at) (b (at + 1)) (b (at + 2)) (b (at + 3)))
      ∙ rw (add-one at, add-two at, add-three at) (elements_drop 4 at s h)

  -- n words that are read and written again are their bytes
  pub words_drop : (n at : ℕ) → at + 4 * n ≤ length s → bytes_of_words (words_at s at n) ++ drop (at + 4 * n) s ≡ drop at s
  unfolding bytes_of_words
  words_drop zero at h = rw (add-zero at)
  words_drop (suc n) at h =
      let e : at + 4 * suc n ≡ at + 4 + 4 * n = omega arith in
      rw (e, append_assoc (bytes_of (word_at s at)) (bytes_of_words (words_at s (at + 4) n)) (drop (at + 4 + 4 * n) s), words_drop n (at + 4) (omega arith))
      (word_back at (omega arith))

  words_back : (n : ℕ) → 4 * n ≡ length s → bytes_of_words (words_at s 0 n) ≡ s
  words_back n e = rw (drop_of_length-le s {i = 0 + 4 * n} (omega arith), append-nil (bytes_of_words (words_at s 0 n))) at (words_drop n 0 (omega arith))

  -- writing undoes reading
  pub write_exec : length s ≡ 32 → bytes_of_words (exec_words (exec_at s 0)) ≡ s
  unfolding exec_at
  write_exec e = words_back 8 (sym e)

  pub write_ext : length s ≡ 120 → bytes_of_words (ext_words (ext_at s 0)) ≡ s
  unfolding ext_at five_at
  write_ext e = words_back 30 (sym e)
