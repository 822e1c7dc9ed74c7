-- Document 01, "The tabler": the states of a run by row, and each execution row's eight words from its state.
-- Declared in src/: Form, Operand, Mode, Kind (form); Exec (rows).
use Rattle.std.specs.Prelude.{ℕ}
use Rattle.form.specs.declared.Form.{Form}
use Rattle.form.specs.declared.Operand.{Operand}
use Rattle.form.specs.declared.Mode.{Mode}
use Rattle.form.specs.declared.Mode.TheVariants.{Immediate, Cell, Frame}
use Rattle.form.specs.declared.Kind.{Kind}
use Rattle.form.specs.declared.Kind.TheVariants.{Add, Mul, Deref, Jump, Extension}
use Rattle.rows.specs.declared.Exec.{Exec}
use Rattle.machine.specs.Machine.{Machine, State, address}
use Rattle.machine.specs.Step.{Outcome, goes, stuck, target}
use Rattle.machine.specs.Run.{after}

-- the state of a row; where the run is stuck before it, 0 stands for both numbers
abbrev pub reached : Outcome → State
reached (goes s) = s
reached (stuck rule) = record { pc = 0; fp = 0 }

unfoldable pub state_at : Machine → State → ℕ → State
state_at m start r = reached (after m start r)

abbrev pub form_at : Machine → State → Form
form_at m s = m.form s.pc

-- an operand's address column: where its cell lies, and 0 where it reads none
abbrev pub column_by : State → Operand → Mode → ℕ
column_by s o Immediate = 0
column_by s o Cell = address s o
column_by s o Frame = 0

abbrev pub column : State → Operand → ℕ
column s o = column_by s o o.mode

-- DEREF's B column is its target
abbrev pub column_b : Machine → State → Form → Kind → ℕ
column_b m s f Add = column s f.b
column_b m s f Mul = column s f.b
column_b m s f Deref = target m s f
column_b m s f Jump = column s f.b
column_b m s f (Extension op be n) = column s f.b

-- an execution row: the state, three addresses, and the cells there
abbrev pub row_of : Machine → State → ℕ → ℕ → ℕ → Exec
row_of m s a b c =
    record {
      pc = s.pc;
      fp = s.fp;
      addrA = a;
      addrB = b;
      addrC = c;
      valueA = m.cell a;
      valueB = m.cell b;
      valueC = m.cell c;
    }

unfoldable pub exec_row_of : Machine → State → Exec
exec_row_of m s =
    let f = form_at m s in
    row_of m s (column s f.a) (column_b m s f f.kind) (column s f.c)
