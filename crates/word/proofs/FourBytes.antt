-- Words in four bytes: what reading and writing one comes to, and that each undoes the other.
-- Assumes nothing.
use mathlib.Core.Path.{◌≡◌, sym, refl, ap, ◌∙◌}
use mathlib.Core.List.{List, [], ◌∷◌, ◌++◌, append_assoc}
use Prim.Native.Nat.{ℕ, ◌+◌, ◌-◌, ◌<◌, ◌≤◌, ◌*◌, ◌%◌, ◌/◌, ◌^◌}
use native.Mathlib.Nat.{add-zero}
use native.Mathlib.Omega.{arith}
use lib.ListN.{length, get_or, take, drop, length-append, get_or-append, get_or-eq_default}
use lib.Pow.{shr-shr}
use lib.Dec.{lit<}
use lib.Seq.{drop-drop, length-take-le, get_or-append-add}
use borrow.Author.Tests.{le-leb, lt-leb}
use Rattle.word.proofs.Lists.{◌∷≡◌}
use Rattle.word.specs.Bytes.{word_at, bytes_of, with_word}

-- a word past the end is 0
pub past : (s : List ℕ) (at : ℕ) → length s ≤ at → 0 ≡ word_at s at
past s at h =
    rw (
      get_or-eq_default s 0 {n = at} h,
      get_or-eq_default s 0 {n = at + 1} (omega arith),
      get_or-eq_default s 0 {n = at + 2} (omega arith),
      get_or-eq_default s 0 {n = at + 3} (omega arith),
    )

pub no_room : (s : List ℕ) (at x : ℕ) → length s < at + 4 → s ≡ with_word s at x
unfolding with_word
no_room s at x h = rw (lt-leb (at + 4) (length s) h)

-- four bytes copied over those from a byte on
pub room : (s : List ℕ) (at x : ℕ) → at + 4 ≤ length s
    → take at s ++ (bytes_of x ++ drop (at + 4 - at) (drop at s)) ≡ with_word s at x
unfolding with_word
room s at x h =
    let e : at + (at + 4 - at) ≡ at + 4 = omega arith in
    rw (le-leb (at + 4) (length s) h, drop-drop (at + 4 - at) at s, e) (sym (append_assoc (take at s) (bytes_of x) (drop (at + 4) s)))

four_digits : (x : ℕ) → x < 2 ^ 32 → x % 256 + 256 * (x / 256 % 256) + 65536 * (x / 256 / 256 % 256) + 16777216 * (x / 256 / 256 / 256 % 256) ≡ x
four_digits x h = omega arith

-- the four bytes of a number of 32 bits read as it
pub read_bytes : (x : ℕ) → x < 2 ^ 32 → word_at (bytes_of x) 0 ≡ x
read_bytes x h =
    let second : x / 65536 ≡ x / 256 / 256 = sym (shr-shr x 8 8) in
    let third : x / 16777216 ≡ x / 256 / 256 / 256 = sym (shr-shr x 16 8) ∙ ap (λ (y : ℕ). y / 256) second in
    rw (second, third) (four_digits x h)

-- four bytes are those of the word that they read as
pub bytes_read : (a b c d : ℕ) → a < 256 → b < 256 → c < 256 → d < 256 → bytes_of (word_at (a ∷ b ∷ c ∷ d ∷ []) 0) ≡ a ∷ b ∷ c ∷ d ∷ []
bytes_read a b c d ha hb hc hd = omega arith ∷≡ omega arith ∷≡ omega arith ∷≡ omega arith ∷≡ refl

-- what is written is read
pub read_written : (s : List ℕ) (at x : ℕ) → at + 4 ≤ length s → x < 2 ^ 32 → word_at (with_word s at x) at ≡ x
unfolding with_word
read_written s at x h f =
    rw (le-leb (at + 4) (length s) h) (rw (rw (add-zero at) at (here 0 (lit< tt)), here 1 (lit< tt), here 2 (lit< tt), here 3 (lit< tt)) (read_bytes x f))
  where
    before : length (take at s) ≡ at
    before = length-take-le at s (omega arith)

    here : (k : ℕ) → k < 4 → get_or (take at s ++ bytes_of x ++ drop (at + 4) s) (at + k) 0 ≡ get_or (bytes_of x) k 0
    here k small =
        get_or-append (take at s ++ bytes_of x) (drop (at + 4) s) 0 (at + k) (simp (length-append, before) (omega arith))
        ∙ ap (λ (n : ℕ). get_or (take at s ++ bytes_of x) (n + k) 0) (sym before)
        ∙ get_or-append-add (take at s) (bytes_of x) k 0
