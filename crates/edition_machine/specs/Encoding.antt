-- Draft 0.5.0, 3.1.3: an instruction is 14 words, in this order; and 3.1.4: which instruction of the ISA they are, as
-- document 02, M-102 reads it.
-- Declared in src/: Encoded (here).
use Rattle.std.specs.Prelude.{ℕ, ◌+◌, ◌*◌, ◌/◌, cond, List, eqb, length}
use Rattle.word.specs.Bytes.{word_at}
use Rattle.edition_machine.specs.Isa.{Source, constant, stored, pointer, Isa, add, mul, deref, jump}
use Rattle.edition_machine.specs.OldMachine.{OldMachine}
use Rattle.edition_machine.specs.declared.Encoded.{Encoded}

-- operands A, B, C; their flags; ADD, MUL, DEREF, JUMP, IS_PRECOMPILE, PRECOMPILE_INDEX; AUX_1, AUX_2
unfoldable pub encoded_at : List ℕ → ℕ → Encoded
encoded_at s at =
    record {
      a = word_at s at;
      b = word_at s (at + 4);
      c = word_at s (at + 8);
      fa = word_at s (at + 12);
      fb = word_at s (at + 16);
      fc = word_at s (at + 20);
      add = word_at s (at + 24);
      mul = word_at s (at + 28);
      deref = word_at s (at + 32);
      jump = word_at s (at + 36);
      precompile = word_at s (at + 40);
      index = word_at s (at + 44);
      aux1 = word_at s (at + 48);
      aux2 = word_at s (at + 52);
    }

-- ν_A and ν_B: the operand where the flag is 1, else the cell at fp + operand
abbrev pub constant_or_stored : ℕ → ℕ → Source
constant_or_stored flag operand = cond (eqb flag 1) (constant operand) (stored operand)

-- ν_C in ADD, MUL and JUMP: fp itself where the flag is 1
abbrev pub pointer_or_stored : ℕ → ℕ → Source
pointer_or_stored flag operand = cond (eqb flag 1) pointer (stored operand)

-- DEREF's right side: where AUX is 1 it is γ or m[fp + γ], by flag_B; where it is 0, fp
abbrev pub right_of : ℕ → ℕ → ℕ → Source
right_of aux flag γ = cond (eqb aux 1) (constant_or_stored flag γ) pointer

abbrev pub with_three : (Source → Source → Source → Isa) → Encoded → Isa
with_three kind e = kind (constant_or_stored e.fa e.a) (constant_or_stored e.fb e.b) (pointer_or_stored e.fc e.c)

-- by the opcode word that is 1; DEREF has α in operand A, β in C and γ in B, and AUX_1 for AUX. This is also defined
-- on words that are not translatable (the first opcode word that is 1, else a jump; IS_PRECOMPILE, PRECOMPILE_INDEX and
-- AUX_2 are not looked at): no program with them is accepted, and nothing is claimed of them
abbrev pub meant : Encoded → Isa
meant e =
    cond (eqb e.add 1) (with_three add e)
    (cond (eqb e.mul 1) (with_three mul e)
    (cond (eqb e.deref 1) (deref e.a e.c (right_of e.aux1 e.fb e.b))
    (with_three jump e)))

-- the machine of numbered instructions and cells
abbrev pub old_loaded : ℕ → (ℕ → Encoded) → ℕ → (ℕ → ℕ) → OldMachine
old_loaded count encoded size cell =
    record { count = count; instruction = λ i. meant (encoded i); size = size; cell = cell }

-- instructions of 56 bytes, and cells of 4
abbrev pub old_machine_of : List ℕ → List ℕ → OldMachine
old_machine_of old memory =
    old_loaded (length old / 56) (λ i. encoded_at old (56 * i)) (length memory / 4) (λ k. word_at memory (4 * k))
