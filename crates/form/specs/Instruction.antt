-- Document 01, "Layouts", part 1; draft 0.6.0, 3.3.2: an instruction is 12 words, in this order.
-- Declared in src/: Instruction (here).
use Rattle.std.specs.Prelude.{ℕ, ◌+◌, List, [], ◌∷◌}
use Rattle.word.specs.Bytes.{word_at}
use Rattle.form.specs.declared.Instruction.{Instruction}

-- the instruction that starts at a byte of the program
unfoldable pub instruction_at : List ℕ → ℕ → Instruction
instruction_at s at =
    record {
      a = word_at s at;
      b = word_at s (at + 4);
      c = word_at s (at + 8);
      fa = word_at s (at + 12);
      fb = word_at s (at + 16);
      fc = word_at s (at + 20);
      fpc = word_at s (at + 24);
      fpab = word_at s (at + 28);
      mul = word_at s (at + 32);
      jump = word_at s (at + 36);
      aux = word_at s (at + 40);
      «data» = word_at s (at + 44);
    }

-- an instruction's 12 words
abbrev pub instruction_words : Instruction → List ℕ
instruction_words i =
    i.a ∷ i.b ∷ i.c ∷ i.fa ∷ i.fb ∷ i.fc ∷ i.fpc ∷ i.fpab ∷ i.mul ∷ i.jump ∷ i.aux ∷ i.«data» ∷ []
