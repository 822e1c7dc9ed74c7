-- An instruction of draft 0.5.0 made of its words.
-- Assumes nothing.
use mathlib.Core.Path.{◌≡◌}
use mathlib.Core.List.{List}
use Prim.Native.Nat.{ℕ, ◌+◌}
use Rattle.word.specs.Bytes.{word_at}
use Rattle.edition_machine.specs.Encoding.{encoded_at}

pub encoded_made : (s : List ℕ) (at : ℕ) {w0 w1 w2 w3 w4 w5 w6 w7 w8 w9 w10 w11 w12 w13 : ℕ}
    → w0 ≡ word_at s at
    → w1 ≡ word_at s (at + 4)
    → w2 ≡ word_at s (at + 8)
    → w3 ≡ word_at s (at + 12)
    → w4 ≡ word_at s (at + 16)
    → w5 ≡ word_at s (at + 20)
    → w6 ≡ word_at s (at + 24)
    → w7 ≡ word_at s (at + 28)
    → w8 ≡ word_at s (at + 32)
    → w9 ≡ word_at s (at + 36)
    → w10 ≡ word_at s (at + 40)
    → w11 ≡ word_at s (at + 44)
    → w12 ≡ word_at s (at + 48)
    → w13 ≡ word_at s (at + 52)
    → record { a = w0; b = w1; c = w2; fa = w3; fb = w4; fc = w5; add = w6; mul = w7; deref = w8; jump = w9; precompile = w10; index = w11; aux1 = w12; aux2 = w13 } ≡ encoded_at s at
unfolding encoded_at
encoded_made s at e0 e1 e2 e3 e4 e5 e6 e7 e8 e9 e10 e11 e12 e13 i =
    record { a = e0 i; b = e1 i; c = e2 i; fa = e3 i; fb = e4 i; fc = e5 i; add = e6 i; mul = e7 i; deref = e8 i; jump = e9 i; precompile = e10 i; index = e11 i; aux1 = e12 i; aux2 = e13 i }
