-- Inner: what the code reads of a step's operands: whether each is legal, its address column, the cell there, its
-- value.
-- Declared in src/: Form, Kind, Mode, Operand (form); Looked, Operands (here).
use Rattle.std.specs.Prelude.{true, ◌&&◌, ℕ, ltb}
use Rattle.word.specs.Word.{◌+ₚ◌}
use Rattle.form.specs.declared.Form.{Form}
use Rattle.form.specs.declared.Kind.TheVariants.{Add, Mul, Deref, Jump, Extension}
use Rattle.form.specs.declared.Kind.{Kind}
use Rattle.form.specs.declared.Mode.TheVariants.{Immediate, Cell, Frame}
use Rattle.form.specs.declared.Mode.{Mode}
use Rattle.form.specs.declared.Operand.{Operand}
use Rattle.machine.specs.Machine.{State}
use Rattle.tabler_operands.specs.declared.Looked.{Looked}
use Rattle.tabler_operands.specs.declared.Operands.{Operands}

-- the state of a pc and an fp
abbrev pub at : ℕ → ℕ → State
at pc fp = record { pc = pc; fp = fp }

-- a memory of so many cells, and the frame
module _ (cells : ℕ → ℕ) (size fp : ℕ) where
  abbrev pub looked_by : ℕ → Mode → Looked
  looked_by word Immediate = record { legal = true; addr = 0; cell = cells 0; value = word }
  looked_by word Cell = let k = fp +ₚ word in record { legal = ltb k size; addr = k; cell = cells k; value = cells k }
  looked_by word Frame = record { legal = true; addr = 0; cell = cells 0; value = fp +ₚ word }

  abbrev pub looked_of : Operand → Looked
  looked_of o = looked_by o.word o.mode

  -- operand B, by A's value: DEREF's target has to exist too
  abbrev pub looked_b : ℕ → Operand → Kind → Looked
  looked_b a b Add = looked_of b
  looked_b a b Mul = looked_of b
  looked_b a b Deref =
      let k = a +ₚ b.word in
      record { legal = (looked_of b).legal && ltb k size; addr = k; cell = cells k; value = (looked_of b).value }
  looked_b a b Jump = looked_of b
  looked_b a b (Extension op be n) = looked_of b

  abbrev pub operands_of : Form → Operands
  operands_of f = record { a = looked_of f.a; b = looked_b (looked_of f.a).value f.b f.kind; c = looked_of f.c }
