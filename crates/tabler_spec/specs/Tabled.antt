-- Document 01, "The tabler" and "Verdicts" 1 to 4 and 9 to 11: the tabler's answer, and both tables at return.
-- Declared in src/: Refusal (answer).
use Rattle.std.specs.Prelude.{Ok, Err, ℕ, suc, ◌+◌, ◌-◌, ◌/◌, Bool, true, false, ◌&&◌, cond, List, [], length, replicate, leb, ltb, eqb}
use Rattle.word.specs.Word.{p}
use Rattle.answer.specs.declared.Refusal.TheVariants as refusal
use Rattle.answer.specs.Answers.{Answer, Accepted, Stuck, Room, Open, Start}
use Rattle.machine.specs.Machine.{Machine, State}
use Rattle.machine.specs.Step.{Outcome, goes, stuck, step}
use Rattle.tables.specs.Machine.{machine_of}
use Rattle.tables.specs.Rows.{state_at}
use Rattle.tables.specs.Groups.{filled}
use Rattle.tables.specs.Bytes.{exec_table, ext_table}
use Rattle.rules.specs.Sizes.{given}
use Rattle.judge_spec.specs.First.{first}
use Rattle.judge_spec.specs.Judged.{sizes, words, instructions}

abbrev pub same_state : State → State → Bool
same_state s t = eqb s.pc t.pc && eqb s.fp t.fp

abbrev pub is_legal : Outcome → Bool
is_legal (goes t) = true
is_legal (stuck rule) = false

-- a row's step is legal, and its group brings the lengths so far, plus 1, not above K
abbrev pub row_passes : Machine → (ℕ → State) → ℕ → ℕ → Bool
row_passes m state ext_height r = is_legal (step m (state r)) && leb (filled m state (suc r) + 1) ext_height

-- a row that doesn't pass: STUCK comes before ROOM
abbrev pub refused_at : ℕ → Outcome → Answer
refused_at r (stuck rule) = Stuck r rule
refused_at r (goes t) = Room r

-- how a run of H rows ends: by the first row that doesn't pass; else OPEN where the last step doesn't stay
unfoldable pub ending : Machine → State → ℕ → ℕ → Answer
ending m start height ext_height =
    let state = state_at m start in
    let r = first (row_passes m state ext_height) 0 height in
    cond (ltb r height) (refused_at r (step m (state r)))
    (cond (same_state (state height) (state (height - 1))) Accepted (Open (height - 1)))

-- 4 START: a start number at or above p
abbrev pub start_fits : ℕ → ℕ → Answer → Answer
start_fits pc fp then = cond (ltb pc p && ltb fp p) then Start

-- the tabler's answer: program, memory, start, and the lengths of both tables in bytes. 1 SIZE, 2 WORD in program and
-- memory and 3 INSTRUCTION are tested as the judge tests them
unfoldable pub table_of : List ℕ → List ℕ → ℕ → ℕ → ℕ → ℕ → Answer
table_of program memory pc fp exec ext =
    sizes (length program) (length memory) exec ext
    (words 1 program
    (words 2 memory
    (instructions (given program [])
    (start_fits pc fp
    (ending (machine_of program memory) (record { pc = pc; fp = fp }) (exec / 32) (ext / 120))))))

-- what a table holds at return: verdicts 1 to 4 change nothing, 9 to 11 leave zeros, ACCEPTED fills every byte
abbrev pub held_after : Answer → List ℕ → List ℕ → List ℕ
held_after (Ok x) old written = written
held_after (Err (refusal.Size part place)) old written = old
held_after (Err (refusal.Word part place)) old written = old
held_after (Err (refusal.Instruction place)) old written = old
held_after (Err refusal.Start) old written = old
held_after (Err (refusal.Exec row rule expected found)) old written = old
held_after (Err (refusal.Extension row rule expected found)) old written = old
held_after (Err (refusal.Bus part row)) old written = old
held_after (Err (refusal.Label place)) old written = old
held_after (Err (refusal.Stuck row rule)) old written = replicate (length old) 0
held_after (Err (refusal.Room row)) old written = replicate (length old) 0
held_after (Err (refusal.Open row)) old written = replicate (length old) 0
held_after (Err refusal.Buffer) old written = old
held_after (Err refusal.Grid) old written = old
held_after (Err (refusal.Edition place)) old written = old
held_after (Err (refusal.Listing place)) old written = old
held_after (Err (refusal.Short place)) old written = old
held_after (Err refusal.Host) old written = old
held_after (Err (refusal.ListShort place)) old written = old

abbrev pub exec_after : List ℕ → List ℕ → ℕ → ℕ → List ℕ → List ℕ → List ℕ
exec_after program memory pc fp exec ext =
    let m = machine_of program memory in
    let state = state_at m (record { pc = pc; fp = fp }) in
    held_after (table_of program memory pc fp (length exec) (length ext)) exec (exec_table m state (length exec / 32))

abbrev pub ext_after : List ℕ → List ℕ → ℕ → ℕ → List ℕ → List ℕ → List ℕ
ext_after program memory pc fp exec ext =
    let m = machine_of program memory in
    let state = state_at m (record { pc = pc; fp = fp }) in
    held_after (table_of program memory pc fp (length exec) (length ext)) ext
    (ext_table m state (length exec / 32) (length ext / 120))
