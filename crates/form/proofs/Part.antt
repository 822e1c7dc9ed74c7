-- An instruction made of its words.
-- Assumes nothing.
use mathlib.Core.Path.{◌≡◌}
use mathlib.Core.List.{List}
use Prim.Native.Nat.{ℕ, ◌+◌}
use Rattle.word.specs.Bytes.{word_at}
use Rattle.form.specs.Instruction.{instruction_at}

pub instruction_made_lem : (s : List ℕ) (at : ℕ) {w0 w1 w2 w3 w4 w5 w6 w7 w8 w9 w10 w11 : ℕ}
    → w0 ≡ word_at s at
    → w1 ≡ word_at s (at + 4)
    → w2 ≡ word_at s (at + 8)
    → w3 ≡ word_at s (at + 12)
    → w4 ≡ word_at s (at + 16)
    → w5 ≡ word_at s (at + 20)
    → w6 ≡ word_at s (at + 24)
    → w7 ≡ word_at s (at + 28)
    → w8 ≡ word_at s (at + 32)
    → w9 ≡ word_at s (at + 36)
    → w10 ≡ word_at s (at + 40)
    → w11 ≡ word_at s (at + 44)
    → record { a = w0; b = w1; c = w2; fa = w3; fb = w4; fc = w5; fpc = w6; fpab = w7; mul = w8; jump = w9; aux = w10; «data» = w11 } ≡ instruction_at s at
unfolding instruction_at
instruction_made_lem s at e0 e1 e2 e3 e4 e5 e6 e7 e8 e9 e10 e11 i =
    record { a = e0 i; b = e1 i; c = e2 i; fa = e3 i; fb = e4 i; fc = e5 i; fpc = e6 i; fpab = e7 i; mul = e8 i; jump = e9 i; aux = e10 i; «data» = e11 i }
