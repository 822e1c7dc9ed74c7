-- An accepted program and the bytes left step alike, and so run alike; the bytes are a program that judge and tabler
-- take. A refusal leaves what was there.
-- Assumes nothing.
use mathlib.Core.Path.{◌≡◌, refl, sym, ap, ◌∙◌}
use mathlib.Core.Bool.{Bool, true, false, ◌||◌, cond}
use mathlib.Core.List.{List, []}
use Prim.Native.Nat.{ℕ, zero, suc, ◌+◌, ◌*◌, ◌<◌}
use native.Mathlib.Omega.{arith}
use lib.Dec.{ltb, eqb, lit<}
use lib.ListN.{length}
use borrow.Author.Tests.{ltb-true}
use Rattle.word.specs.Word.{IsWord, ◌+ₚ◌, ◌*ₚ◌}
use Rattle.word.proofs.Tests.{from_true, cases, by_test}
use Rattle.form.specs.Form.{decode_of}
use Rattle.form.specs.declared.Instruction.{Instruction}
use Rattle.answer.specs.Verdicts.{numbers_of, accepted}
use Rattle.answer.specs.Answers.{Answer, Accepted}
use Rattle.outcome.specs.Outcome.{State, Outcome, goes, stuck, asked}
use Rattle.machine.specs.Machine.{Machine}
use Rattle.machine.specs.Step.{performs, step}
use Rattle.machine.specs.Run.{proceed, after}
use Rattle.tables.specs.Machine.{form_in, machine_of}
use Rattle.rules.specs.Satisfies.{Words}
use Rattle.edition_machine.specs.Isa.{Source, stored, Isa, add, mul, deref, jump}
use Rattle.edition_machine.specs.OldMachine.{OldMachine, old_value, old_legal}
use Rattle.edition_machine.specs.OldStep.{onward, three_read, old_target, jumped, old_performs, old_step, old_proceed, old_after}
use Rattle.edition_machine.specs.Encoding.{meant, old_machine_of}
use Rattle.edition_machine.specs.declared.Encoded.{Encoded}
use Rattle.edition_spec.specs.Translated.{old_instruction, old_count, translate_answer, translated_program, program_left}
use Rattle.edition_spec.specs.Told.{Translates, Tells, of_size, of_word, of_edition, of_accepted}
use Rattle.edition_spec.specs.Same.{SameRuns, Usable}
use Rattle.edition_spec.proofs.SameStep.{alike}
use Rattle.edition_spec.proofs.Telling.{tells}
use Rattle.edition_spec.proofs.Program.{known_at, read_back, count_is, fits_program, long, program_words}

-- a step that goes on leads to an fp that is a word
data WordFrame : Outcome → Type 0 where
  framed : {s : State} → IsWord s.fp → WordFrame (goes s)
  halted : {rule : ℕ} → WordFrame (stuck rule)

asked_frame : (rule : ℕ) (b : Bool) (then : Outcome) → (b ≡ true → WordFrame then) → WordFrame (asked rule b then)
asked_frame rule true then h = h refl
asked_frame rule false then h = halted

asked_same : {x y : Outcome} (b c : Bool) → b ≡ c → (b ≡ true → x ≡ y) → asked 1 b x ≡ asked 1 c y
asked_same {x} {y} b c same then = cases b (λ h. rw (← same, h) (then h)) (λ h. rw (← same, h))

module _ (m : OldMachine) (s : State) (word : IsWord s.fp) where
  abbrev equated : Bool → Outcome
  equated b = asked 5 b (goes (onward s))

  equated_frame : (b : Bool) → WordFrame (equated b)
  equated_frame b = asked_frame 5 b (goes (onward s)) (λ _. framed word)

  three_frame : (a b c : Source) (then : Outcome) → (old_legal m s c ≡ true → WordFrame then) → WordFrame (three_read m s a b c then)
  three_frame a b c then h =
      asked_frame 2 (old_legal m s a) (asked 3 (old_legal m s b) (asked 4 (old_legal m s c) then))
      (λ _. asked_frame 3 (old_legal m s b) (asked 4 (old_legal m s c) then) (λ _. asked_frame 4 (old_legal m s c) then h))

  three_equated : (a b c : Source) (sides : Bool) → WordFrame (three_read m s a b c (equated sides))
  three_equated a b c sides = three_frame a b c (equated sides) (λ _. equated_frame sides)

  jump_frame_lem : (condition dest next : ℕ) → IsWord next → WordFrame (jumped m s condition dest next)
  jump_frame_lem condition dest next w =
      asked_frame 6 (eqb condition 0 || eqb condition 1) (goes (cond (eqb condition 1) (record { pc = dest; fp = next }) (onward s)))
      (λ _. framed (by_test (λ (t : State). IsWord t.fp) (eqb condition 1) (λ _. w) (λ _. word)))

  -- what a jump takes for its frame
  abbrev Frames : Isa → Type 0
  Frames (add a b c) = Unit {0}
  Frames (mul a b c) = Unit {0}
  Frames (deref α β right) = Unit {0}
  Frames (jump a b c) = old_legal m s c ≡ true → IsWord (old_value m s c)

  performed_frame : (i : Isa) → Frames i → WordFrame (old_performs m s i)
  performed_frame (add a b c) h = three_equated a b c (eqb (old_value m s a +ₚ old_value m s c) (old_value m s b))
  performed_frame (mul a b c) h = three_equated a b c (eqb (old_value m s a *ₚ old_value m s c) (old_value m s b))
  performed_frame (deref α β right) h =
      let sides : Bool = eqb (m.cell (old_target m s α β)) (old_value m s right) in
      let inside : Bool = ltb (old_target m s α β) m.size in
      asked_frame 2 (old_legal m s (stored α)) (asked 3 inside (asked 4 (old_legal m s right) (equated sides)))
      (λ _. asked_frame 3 inside (asked 4 (old_legal m s right) (equated sides))
      (λ _. asked_frame 4 (old_legal m s right) (equated sides) (λ _. equated_frame sides)))
  performed_frame (jump a b c) h =
      three_frame a b c (jumped m s (old_value m s a) (old_value m s b) (old_value m s c))
      (λ legal. jump_frame_lem (old_value m s a) (old_value m s b) (old_value m s c) (h legal))

  -- a JUMP of 14 words takes fp or a cell
  next_frame : ((k : ℕ) → k < m.size → IsWord (m.cell k)) → (e : Encoded) → WordFrame (old_performs m s (meant e))
  next_frame cells e =
      performed_frame (meant e)
      (by_test Frames (eqb e.add 1) (λ _. tt)
      (λ _. by_test Frames (eqb e.mul 1) (λ _. tt)
      (λ _. by_test Frames (eqb e.deref 1) (λ _. tt)
      (λ _. by_test (λ (c : Source). old_legal m s c ≡ true → IsWord (old_value m s c)) (eqb e.fc 1) (λ _ _. word) (λ _ legal. cells _ (ltb-true _ _ legal))))))

module _ (old : List ℕ) (room : ℕ) (t : Translates old room) (memory : List ℕ) where
  abbrev was : OldMachine
  was = old_machine_of old memory

  abbrev is : Machine
  is = machine_of (translated_program old) memory

  acts_alike : (s : State) → IsWord s.fp → s.pc < old_count old → old_performs was s (meant (old_instruction old s.pc)) ≡ performs is s (is.form s.pc)
  acts_alike s word inside =
      (alike is (old_count old) (λ i. meant (old_instruction old i)) s word (old_instruction old s.pc) (known_at old room t s.pc inside)).acts
      ∙ ap (λ (i : Instruction). performs is s (form_in (decode_of i))) (sym (read_back old room t s.pc inside))

  same_step : (s : State) → IsWord s.fp → old_step was s ≡ step is s
  unfolding old_step step
  same_step s word =
      asked_same (ltb s.pc (old_count old)) (ltb s.pc is.count) (ap (ltb s.pc) (sym (count_is old room t)))
      (λ h. acts_alike s word (ltb-true s.pc (old_count old) h))

  -- the next outcome of both, where the one before leads to an fp that is a word
  proceeds : (o : Outcome) → WordFrame o → old_proceed was o ≡ proceed is o
  proceeds _ (framed {s} word) = same_step s word
  proceeds _ halted = refl

  stepped_frame : Words memory → (o : Outcome) → WordFrame o → WordFrame (old_proceed was o)
  unfolding old_step
  stepped_frame cells _ (framed {s} word) =
      asked_frame 1 (ltb s.pc (old_count old)) (old_performs was s (meant (old_instruction old s.pc)))
      (λ _. next_frame was s word cells (old_instruction old s.pc))
  stepped_frame cells _ halted = halted

  run_frame : Words memory → (s : State) → IsWord s.fp → (r : ℕ) → WordFrame (old_after was s r)
  unfolding old_after
  run_frame cells s word zero = framed word
  run_frame cells s word (suc r) = stepped_frame cells (old_after was s r) (run_frame cells s word r)

  same_run : Words memory → (s : State) → IsWord s.fp → (r : ℕ) → old_after was s r ≡ after is s r
  unfolding old_after after
  same_run cells s word zero = refl
  same_run cells s word (suc r) = proceeds (old_after was s r) (run_frame cells s word r) ∙ ap (proceed is) (same_run cells s word r)

  same_runs : SameRuns old (translated_program old) memory
  same_runs = record { same_step = same_step; same_run = same_run }

module _ (old : List ℕ) (room : ℕ) where
  -- ACCEPTED says that every instruction is translatable
  only_accepted : (a : Answer) → a ≡ Accepted → Tells old room a → Translates old room
  only_accepted _ e (of_size bad) = absurd (omega (arith, ap (λ (a : Answer). (numbers_of a).verdict) e))
  only_accepted _ e (of_word k w) = absurd (omega (arith, ap (λ (a : Answer). (numbers_of a).verdict) e))
  only_accepted _ e (of_edition i x) = absurd (omega (arith, ap (λ (a : Answer). (numbers_of a).verdict) e))
  only_accepted _ e (of_accepted t) = t

  pub translates : translate_answer old room ≡ Accepted → Translates old room
  translates told = only_accepted (translate_answer old room) told (tells old room)

module _ (old : List ℕ) (room : ℕ) (t : Translates old room) where
  usable_program : Usable old (translated_program old)
  usable_program =
      record {
        length_is = long old room t;
        fits = fits_program old room t;
        words = program_words old room t;
        well_formed =
            λ i h. rw (read_back old room t i h)
            (from_true _ (alike (machine_of (translated_program old) []) 0 (λ _. meant (old_instruction old i)) (record { pc = 0; fp = 0 }) (lit< tt) (old_instruction old i) (known_at old room t i h)).well);
      }

module _ (old program : List ℕ) where
  -- a refusal leaves the bytes as they were
  pub refusal_keeps : accepted (translate_answer old (length program)) ≡ false → program_left old program ≡ program
  unfolding program_left
  refusal_keeps not = rw not

  module _ (told : translate_answer old (length program) ≡ Accepted) where
    left : program_left old program ≡ translated_program old
    unfolding program_left
    left = rw told

    -- "for every program, memory and state the translated program takes the same step or is equally stuck"
    pub same : (memory : List ℕ) → SameRuns old (program_left old program) memory
    same memory = rw left (same_runs old (length program) (translates old (length program) told) memory)

    -- every translated instruction is well-formed, and the program is one that judge and tabler take
    pub usable : Usable old (program_left old program)
    usable = rw left (usable_program old (length program) (translates old (length program) told))
