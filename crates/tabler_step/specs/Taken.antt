-- Inner: what the code of a step hands on, and the extension table after it.
-- Declared in src/: Kind (form); Group, Operands (tabler_operands); Halt, Moved (here).
use Rattle.std.specs.Prelude.{Result, Ok, Err, Bool, true, ◌&&◌, cond, List, ℕ, ◌+◌, ◌*◌, ◌/◌, ◌≤◌, ◌<◌, ◌^◌, ltb, eqb, length}
use Rattle.word.specs.Bytes.{concatenated}
use Rattle.word.specs.Word.{◌+ₚ◌, ◌*ₚ◌}
use Rattle.form.specs.declared.Kind.TheVariants.{Add, Mul, Deref, Jump, Extension}
use Rattle.form.specs.declared.Kind.{Kind}
use Rattle.machine.specs.Machine.{State}
use Rattle.machine.specs.Step.{Outcome, goes, stuck, asked, forward, jumps}
use Rattle.tables.specs.Groups.{length_of, kind_row}
use Rattle.tabler_operands.specs.Elements.{group_exists, result_holds}
use Rattle.tabler_operands.specs.declared.Group.{Group}
use Rattle.tabler_operands.specs.declared.Operands.{Operands}
use Rattle.tabler_rows.specs.Placed.{ext_bytes, placed}
use Rattle.tabler_step.specs.declared.Halt.TheVariants.{Stuck, Full}
use Rattle.tabler_step.specs.declared.Halt.{Halt}
use Rattle.tabler_step.specs.declared.Moved.{Moved}

-- a state with k rows filled
abbrev pub moved_to : State → ℕ → Moved
moved_to s k = record { to = record { pc = s.pc; fp = s.fp }; filled = k }

-- an outcome, with k rows filled after it
abbrev pub moved_of : Outcome → ℕ → Result Moved Halt
moved_of (goes s) k = Ok (moved_to s k)
moved_of (stuck rule) k = Err (Stuck rule)

-- the same where k plus 1 may be above so many rows
unfoldable pub taken_of : Outcome → ℕ → ℕ → Result Moved Halt
taken_of (goes s) k room = cond (ltb k room) (Ok (moved_to s k)) (Err Full)
taken_of (stuck rule) k room = Err (Stuck rule)

-- a group is written where the step goes on, and where nothing but its result is wrong
abbrev pub writes : Outcome → Bool
writes (goes s) = true
writes (stuck rule) = eqb rule 8

-- the extension table after a step: n rows in the place of those after the filled, where there is room
unfoldable pub taken_ext : Outcome → ℕ → ℕ → List ℕ → List ℕ → List ℕ
taken_ext o filled n bytes ext =
    cond (writes o && ltb (filled + n) (length ext / 120)) (placed ext (120 * filled) (120 * filled + 120 * n) bytes) ext

-- the rows of a step's group
unfoldable pub kind_bytes : (ℕ → ℕ) → Kind → Operands → List ℕ
kind_bytes cell kind o =
    concatenated (λ j. ext_bytes (kind_row cell kind o.a.value o.b.value o.c.value j)) (length_of kind)

-- a memory of so many cells
module _ (cell : ℕ → ℕ) (size : ℕ) where
  -- an extension step on a group
  abbrev pub extended : State → Group → Outcome
  extended s g = asked 7 (group_exists size g) (asked 8 (result_holds cell g) (forward s))

  -- what each kind asks of legal operands
  abbrev pub performed_by : State → Operands → Kind → Outcome
  performed_by s o Add = asked 5 (eqb (o.a.value +ₚ o.c.value) o.b.value) (forward s)
  performed_by s o Mul = asked 5 (eqb (o.a.value *ₚ o.c.value) o.b.value) (forward s)
  performed_by s o Deref = asked 5 (eqb o.b.cell o.c.value) (forward s)
  performed_by s o Jump = jumps o.a.value o.b.value o.c.value s
  performed_by s o (Extension op be n) = extended s (record { op = op; be = be; n = n; a = o.a.value; b = o.b.value; c = o.c.value })

  -- all have to be legal before anything is asked of them
  abbrev pub step_by : State → Operands → Kind → Outcome
  step_by s o kind = asked 2 o.a.legal (asked 3 o.b.legal (asked 4 o.c.legal (performed_by s o kind)))

-- what a step is handed: pc and the memory are short, and a row of the table is left
pub record Ready (pc : ℕ) (memory : List ℕ) (filled : ℕ) (ext : List ℕ) : Type 0 where
  pub next : pc + 1 < 2 ^ 32
  pub short : length memory ≤ 2 ^ 31
  pub room : filled < length ext / 120
