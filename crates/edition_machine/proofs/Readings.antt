-- What document 02, M-102 reads in draft 0.5.0, sentence by sentence, of the definitions.
-- Assumes nothing.
use mathlib.Core.Path.{◌≡◌, refl}
use mathlib.Core.Bool.{true, false}
use Prim.Native.Nat.{ℕ, ◌+◌}
use Rattle.word.specs.Bytes.{bytes_of, concatenated}
use Rattle.outcome.specs.Outcome.{State, goes, stuck}
use Rattle.edition_machine.specs.Isa.{Source, constant, stored, pointer, add, mul, deref, jump}
use Rattle.edition_machine.specs.OldMachine.{OldMachine, old_value, old_legal}
use Rattle.edition_machine.specs.OldStep.{old_performs}
use Rattle.edition_machine.specs.Encoding.{encoded_at, constant_or_stored, pointer_or_stored, meant}
use Rattle.edition_machine.specs.declared.Encoded.{Encoded}

-- "14 words in the order of its 3.1.3": of the words 1 to 14
pub order : encoded_at (concatenated (λ k. bytes_of (k + 1)) 14) 0
    ≡ record {
      a = 1;
      b = 2;
      c = 3;
      fa = 4;
      fb = 5;
      fc = 6;
      add = 7;
      mul = 8;
      deref = 9;
      jump = 10;
      precompile = 11;
      index = 12;
      aux1 = 13;
      aux2 = 14;
    }
unfolding encoded_at concatenated
order = refl

-- flags of A and B; "a C flag of 1 in ADD, MUL and JUMP meant fp itself"
pub flag_ab : (x : ℕ) → (constant_or_stored 1 x ≡ constant x) × (constant_or_stored 0 x ≡ stored x)
flag_ab x = (refl, refl)

pub flag_c : (x : ℕ) → (pointer_or_stored 1 x ≡ pointer) × (pointer_or_stored 0 x ≡ stored x)
flag_c x = (refl, refl)

module _ (e : Encoded) where
  abbrev a : Source
  a = constant_or_stored e.fa e.a

  abbrev b : Source
  b = constant_or_stored e.fb e.b

  abbrev c : Source
  c = pointer_or_stored e.fc e.c

  pub add_operands : e.add ≡ 1 → meant e ≡ add a b c
  add_operands is = rw is

  module _ (not-add : e.add ≡ 0) where
    pub mul_operands : e.mul ≡ 1 → meant e ≡ mul a b c
    mul_operands is = rw (not-add, is)

    module _ (not-mul : e.mul ≡ 0) where
      -- "DEREF holds β in operand C and γ in operand B"; "a DEREF with AUX_1 0 meant fp"
      pub deref_cell : e.deref ≡ 1 → e.aux1 ≡ 1 → e.fb ≡ 0 → meant e ≡ deref e.a e.c (stored e.b)
      deref_cell is aux flag = rw (not-add, not-mul, is, aux, flag)

      pub deref_constant : e.deref ≡ 1 → e.aux1 ≡ 1 → e.fb ≡ 1 → meant e ≡ deref e.a e.c (constant e.b)
      deref_constant is aux flag = rw (not-add, not-mul, is, aux, flag)

      pub deref_pointer : e.deref ≡ 1 → e.aux1 ≡ 0 → meant e ≡ deref e.a e.c pointer
      deref_pointer is aux = rw (not-add, not-mul, is, aux)

      -- "JUMP takes dest from B and frame from C": the second operand and the third
      pub jump_operands : e.deref ≡ 0 → meant e ≡ jump a b c
      jump_operands not-deref = rw (not-add, not-mul, not-deref)

module _ (m : OldMachine) (s : State) (condition dest next : Source) where
  -- "reading all operands of an untaken JUMP", in STUCK's order, whatever the condition is
  pub condition_read : old_legal m s condition ≡ false → old_performs m s (jump condition dest next) ≡ stuck 2
  condition_read not = rw not

  module _ (read_a : old_legal m s condition ≡ true) where
    pub dest_read : old_legal m s dest ≡ false → old_performs m s (jump condition dest next) ≡ stuck 3
    dest_read not = rw (read_a, not)

    module _ (read-b : old_legal m s dest ≡ true) where
      pub next_read : old_legal m s next ≡ false → old_performs m s (jump condition dest next) ≡ stuck 4
      next_read not = rw (read_a, read-b, not)

      -- the second operand is next(pc) and the third next(fp)
      pub jump_taken : old_legal m s next ≡ true → old_value m s condition ≡ 1
          → old_performs m s (jump condition dest next) ≡ goes (record { pc = old_value m s dest; fp = old_value m s next })
      jump_taken read-c one = rw (read_a, read-b, read-c, one)

      -- "on an untaken jump fp stays"
      pub jump_untaken : old_legal m s next ≡ true → old_value m s condition ≡ 0
          → old_performs m s (jump condition dest next) ≡ goes (record { pc = s.pc + 1; fp = s.fp })
      jump_untaken read-c zero = rw (read_a, read-b, read-c, zero)
