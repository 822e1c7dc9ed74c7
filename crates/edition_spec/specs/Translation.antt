-- Document 02, M-102: an instruction of 14 words in the 12 words of draft 0.6.0, 3.3.2. A dropped operand becomes 0.
-- Declared in src/: Instruction (form); Encoded (edition_machine).
use Rattle.std.specs.Prelude.{cond, ℕ, eqb}
use Rattle.form.specs.declared.Instruction.{Instruction}
use Rattle.edition_machine.specs.declared.Encoded.{Encoded}

-- a DEREF of draft 0.6.0, with C and its two flags
abbrev pub deref_form : ℕ → ℕ → ℕ → ℕ → ℕ → Instruction
deref_form α β c fc fpc =
    record { a = α; b = β; c = c; fa = 0; fb = 1; fc = fc; fpc = fpc; fpab = 0; mul = 0; jump = 0; aux = 2; «data» = 0 }

module _ (e : Encoded) where
  -- an ADD, MUL or JUMP of draft 0.6.0, with C and its two flags: A and B stay; ADD is AUX 1 now
  abbrev pub three_form : ℕ → ℕ → ℕ → Instruction
  three_form c fc fpc =
      record {
        a = e.a;
        b = e.b;
        c = c;
        fa = e.fa;
        fb = e.fb;
        fc = fc;
        fpc = fpc;
        fpab = 0;
        mul = e.mul;
        jump = e.jump;
        aux = e.add;
        «data» = 0;
      }

  -- ADD, MUL, JUMP: a C flag of 1 meant fp itself, so C becomes fp + 0
  abbrev pub carried : Instruction
  carried = cond (eqb e.fc 1) (three_form 0 0 1) (three_form e.c 0 0)

  -- DEREF: β in operand C and γ in operand B change places. AUX_1 1 is γ or the cell at fp + γ by flag B; AUX_1 0
  -- meant fp, so C becomes fp + 0
  abbrev pub exchanged : Instruction
  exchanged = cond (eqb e.aux1 1) (deref_form e.a e.c e.b e.fb 0) (deref_form e.a e.c 0 0 1)

  unfoldable pub translated : Instruction
  translated = cond (eqb e.deref 1) exchanged carried
