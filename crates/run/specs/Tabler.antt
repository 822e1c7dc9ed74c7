-- Demand 3 of the tabler. Document 01, "The tabler" and "Verdicts" 0 to 4 and 9 to 11: what each answer of the tabler
-- says of the program, the memory, the start and the two buffers. Tests run in number order, so each says that those
-- before it passed.
-- Declared in src/: Form, Kind (form); Refusal (answer).
use Rattle.std.specs.Prelude.{◌≡◌, false, ◌&&◌, ◌||◌, List, [], ◌∷◌, ℕ, suc, ◌+◌, ◌-◌, ◌*◌, ◌≤◌, ◌<◌, T, ltb, eqb, length}
use Rattle.word.specs.Word.{IsWord, ◌+ₚ◌, ◌*ₚ◌}
use Rattle.form.specs.Form.{well_formed}
use Rattle.form.specs.declared.Form.{Form}
use Rattle.form.specs.declared.Kind.{Kind}
use Rattle.form.specs.declared.Kind.TheVariants.{Add, Mul, Deref, Jump, Extension as ExtensionKind}
use Rattle.std.specs.Prelude.{Ok, Err}
use Rattle.answer.specs.declared.Refusal.TheVariants as refusal
use Rattle.answer.specs.Answers.{Answer, Accepted, Size, Word, Instruction, Start, Exec, Extension, Bus, Label, Stuck, Room, Open, Buffer, Grid, Edition, Listing, Short, Host, ListShort}
use Rattle.machine.specs.Machine.{Machine, State, value, legal}
use Rattle.machine.specs.Extension.{element_at, cells_exist, extension_result, same_element}
use Rattle.machine.specs.Step.{goes, stuck, step, target, target_legal}
use Rattle.rules.specs.Given.{Rule, rule}
use Rattle.rules.specs.Sizes.{Parts, exec_fits, ext_fits, given}
use Rattle.rules.specs.Satisfies.{Words}
use Rattle.tables.specs.Rows.{form_at}
use Rattle.tables.specs.Groups.{filled}
use Rattle.judge_spec.specs.Refusal.{part_fits, BadSize, BadWord}
use Rattle.tabler_spec.specs.Tabled.{table_of, exec_after, ext_after}
use Rattle.run_tables.specs.Setting.{LegalSteps}
use Rattle.run.specs.Runs.{Input, with_tables, machine, start_of, Permitted, rows_in, ext_rows_in, LegalRun, Spare}

-- the tabler's answer to an input and two buffers, and the two tables it leaves there, as `tabler::table` promises them
abbrev pub answer_for : Input → List ℕ → List ℕ → Answer
answer_for i exec ext = table_of i.program i.memory i.pc i.fp (length exec) (length ext)

abbrev pub exec_left : Input → List ℕ → List ℕ → List ℕ
exec_left i exec ext = exec_after i.program i.memory i.pc i.fp exec ext

abbrev pub ext_left : Input → List ℕ → List ℕ → List ℕ
ext_left i exec ext = ext_after i.program i.memory i.pc i.fp exec ext

-- what a step is asked, in STUCK's order: 1 pc, 2 A read, 3 B read or DEREF target, 4 C read, and then by its kind 5
-- equation, 6 condition, 7 extension cells, 8 extension result
abbrev pub kind_reasons : Machine → State → Form → Kind → ℕ → ℕ → ℕ → List Rule
kind_reasons m s f Add a b c = rule 5 (eqb (a +ₚ c) b) ∷ []
kind_reasons m s f Mul a b c = rule 5 (eqb (a *ₚ c) b) ∷ []
kind_reasons m s f Deref a b c = rule 5 (eqb (m.cell (target m s f)) c) ∷ []
kind_reasons m s f Jump a b c = rule 6 (eqb a 0 || eqb a 1) ∷ []
kind_reasons m s f (ExtensionKind op be n) a b c =
    rule 7 (cells_exist m.size be n a b c) ∷ rule 8 (same_element (element_at m.cell c) (extension_result m.cell op be a b 0 n)) ∷ []

abbrev pub reasons : Machine → State → List Rule
reasons m s =
    let f = form_at m s in
    rule 1 (ltb s.pc m.count)
    ∷ rule 2 (legal m s f.a)
    ∷ rule 3 (legal m s f.b && target_legal m s f f.kind)
    ∷ rule 4 (legal m s f.c)
    ∷ kind_reasons m s f f.kind (value m s f.a) (value m s f.b) (value m s f.c)

-- the run is legal below row n, and its groups leave a spare row of K
pub record LegalTo (m : Machine) (start : State) (ext_height n : ℕ) (state : ℕ → State) : Type 0 where
  pub legal : LegalSteps m start n state
  pub room : filled m state n + 1 ≤ ext_height

module _ (i : Input) (exec ext : List ℕ) where
  abbrev all_parts : Parts
  all_parts = with_tables i exec ext

  -- 2 WORD, of program and memory: the tables' old bytes are not tested
  pub record TablerWord (n k : ℕ) : Type 0 where
    pub bad : BadWord all_parts n k
    pub part : n ≤ 2

  -- tests 1 and 2 passed
  pub record TablerTwo : Type 0 where
    pub sizes : (m : ℕ) → T (part_fits all_parts m)
    pub program_words : Words i.program
    pub memory_words : Words i.memory

  -- 3 INSTRUCTION: the first malformed one
  pub record TablerInstruction (k : ℕ) : Type 0 where
    pub two : TablerTwo
    pub before : (let g = given i.program i.memory in (j : ℕ) → j < k → T (well_formed (g.instruction j)))
    pub inside : k < (given i.program i.memory).count
    pub bad : well_formed ((given i.program i.memory).instruction k) ≡ false

  -- tests 1 to 3 passed
  pub record TablerThree : Type 0 where
    pub two : TablerTwo
    pub instructions : (let g = given i.program i.memory in (k : ℕ) → k < g.count → T (well_formed (g.instruction k)))

  -- 4 START: a start number at or above p
  pub record TablerStart : Type 0 where
    pub three : TablerThree
    pub bad : IsWord i.pc → IsWord i.fp → ⊥

  -- tests 1 to 4 passed
  pub record TablerFour : Type 0 where
    pub permitted : Permitted i
    pub pc_word : IsWord i.pc
    pub exec_size : T (exec_fits (length exec))
    pub ext_size : T (ext_fits (length ext))

  -- 9 STUCK: the run is legal with room up to row r, and the step of row r is stuck for the reason of that number
  pub record StuckAt (r reason : ℕ) : Type 0 where
    pub four : TablerFour
    pub inside : r < rows_in exec
    pub state : ℕ → State
    pub before : LegalTo (machine i) (start_of i) (ext_rows_in ext) r state
    pub bad : step (machine i) (state r) ≡ stuck reason

  -- 10 ROOM: that step is legal, and its group brings the lengths so far, plus 1, above K
  pub record RoomAt (r : ℕ) : Type 0 where
    pub four : TablerFour
    pub inside : r < rows_in exec
    pub state : ℕ → State
    pub before : LegalTo (machine i) (start_of i) (ext_rows_in ext) r state
    pub next : State
    pub steps : step (machine i) (state r) ≡ goes next
    pub bad : ext_rows_in ext < filled (machine i) state (suc r) + 1

  -- 11 OPEN: H steps are legal and fit, and the last one doesn't stay
  pub record OpenAt (r : ℕ) : Type 0 where
    pub four : TablerFour
    pub state : ℕ → State
    pub all : LegalTo (machine i) (start_of i) (ext_rows_in ext) (rows_in exec) state
    pub bad : state (rows_in exec) ≡ state (rows_in exec - 1) → ⊥
    pub place : r ≡ rows_in exec - 1

  -- 0 ACCEPTED: a legal run of as many steps as there are rows, that stays and leaves a spare row
  pub record AcceptedRun : Type 0 where
    pub permitted : Permitted i
    pub height : ℕ
    pub ext_height : ℕ
    pub rows : length exec ≡ 32 * height
    pub ext_rows : length ext ≡ 120 * ext_height
    pub state : ℕ → State
    pub legal : LegalRun i height state
    pub spare : Spare i height ext_height state

  -- what an answer of the tabler says; the verdicts 5 to 8, and 13 and above, are not the tabler's
  unfoldable pub Tells : Answer → Type 0
  Tells (Ok x) = AcceptedRun
  Tells (Err (refusal.Size n place)) = BadSize all_parts n place
  Tells (Err (refusal.Word n k)) = TablerWord n k
  Tells (Err (refusal.Instruction k)) = TablerInstruction k
  Tells (Err refusal.Start) = TablerStart
  Tells (Err (refusal.Exec r n expected found)) = ⊥
  Tells (Err (refusal.Extension r n expected found)) = ⊥
  Tells (Err (refusal.Bus n r)) = ⊥
  Tells (Err (refusal.Label place)) = ⊥
  Tells (Err (refusal.Stuck r reason)) = StuckAt r reason
  Tells (Err (refusal.Room r)) = RoomAt r
  Tells (Err (refusal.Open r)) = OpenAt r
  Tells (Err refusal.Buffer) = ⊥
  Tells (Err refusal.Grid) = ⊥
  Tells (Err (refusal.Edition place)) = ⊥
  Tells (Err (refusal.Listing place)) = ⊥
  Tells (Err (refusal.Short place)) = ⊥
  Tells (Err refusal.Host) = ⊥
  Tells (Err (refusal.ListShort place)) = ⊥
