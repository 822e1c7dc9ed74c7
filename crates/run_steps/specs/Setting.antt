-- What the theorems on the execution table speak of: what they ask of a program and a memory, which those that pass
-- verdicts 1 to 3 of document 01 have, a row's state, and what an extension row pushes (document 01, "The bus") and
-- asks of the memory ("The machine, without flags").
-- Declared in src/: Instruction, Form, Op, Kind (form); Exec (rows).
use Rattle.std.specs.Prelude.{◌≡◌, ℕ, ◌≤◌, ◌<◌, ◌^◌, Bool, T}
use Rattle.word.specs.Word.{IsWord}
use Rattle.form.specs.Data.{data_word}
use Rattle.form.specs.Form.{well_formed}
use Rattle.form.specs.declared.Instruction.{Instruction}
use Rattle.form.specs.declared.Form.{Form}
use Rattle.form.specs.declared.Op.{Op}
use Rattle.form.specs.declared.Kind.{Kind}
use Rattle.form.specs.declared.Kind.TheVariants.{Add, Mul, Deref, Jump, Extension}
use Rattle.rows.specs.declared.Exec.{Exec}
use Rattle.rules.specs.Given.{Given}
use Rattle.rules.specs.Execution.{νA, νB, νC}
use Rattle.rules.specs.Bus.{Tuple, pushed, pushes}
use Rattle.machine.specs.Machine.{Machine, State, value, legal}
use Rattle.machine.specs.Extension.{element_at, cells_exist, extension_result, same_element}
use Rattle.tables.specs.Machine.{loaded}
use Rattle.tables.specs.Rows.{form_at}

-- the machine of numbered instructions and cells; of bytes it is `machine_of`
abbrev pub machine_in : Given → Machine
machine_in g = loaded g.count g.instruction g.size g.cell

-- the state of a row
abbrev pub state_of : Exec → State
state_of x = record { pc = x.pc; fp = x.fp }

pub record OperandWords (i : Instruction) : Type 0 where
  pub a : IsWord i.a
  pub b : IsWord i.b
  pub c : IsWord i.c

-- what the theorems ask: sizes up to the largest, operands and cells below p, and well-formed instructions
pub record Fit (g : Given) : Type 0 where
  pub few : g.count ≤ 2 ^ 20
  pub small : g.size ≤ 2 ^ 29
  pub some : 0 < g.size
  pub cells : (k : ℕ) → k < g.size → IsWord (g.cell k)
  pub operands : (k : ℕ) → k < g.count → OperandWords (g.instruction k)
  pub well_formed : (k : ℕ) → k < g.count → T (well_formed (g.instruction k))

-- every column of a row is a word
pub record ExecWords (x : Exec) : Type 0 where
  pub pc : IsWord x.pc
  pub fp : IsWord x.fp
  pub addrA : IsWord x.addrA
  pub addrB : IsWord x.addrB
  pub addrC : IsWord x.addrC
  pub valueA : IsWord x.valueA
  pub valueB : IsWord x.valueB
  pub valueC : IsWord x.valueC

-- the three operands of a state's instruction are legal
pub record LegalOperands (m : Machine) (s : State) : Type 0 where
  pub a : T (legal m s (form_at m s).a)
  pub b : T (legal m s (form_at m s).b)
  pub c : T (legal m s (form_at m s).c)

-- the values selected are the operands'
pub record Selected (g : Given) (x : Exec) (i : Instruction) (f : Form) : Type 0 where
  pub a : νA i x ≡ value (machine_in g) (state_of x) f.a
  pub b : νB i x ≡ value (machine_in g) (state_of x) f.b
  pub c : νC i x ≡ value (machine_in g) (state_of x) f.c

-- what an extension instruction asks of the memory, by its operands' values: its cells exist and hold the result. The
-- other kinds ask nothing
abbrev pub ExtensionHolds : Machine → Kind → ℕ → ℕ → ℕ → Type 0
ExtensionHolds m Add a b c = Unit
ExtensionHolds m Mul a b c = Unit
ExtensionHolds m Deref a b c = Unit
ExtensionHolds m Jump a b c = Unit
ExtensionHolds m (Extension op be n) a b c =
    T (cells_exist m.size be n a b c) × T (same_element (element_at m.cell c) (extension_result m.cell op be a b 0 n))

-- what the step of a state asks of the memory
abbrev pub MemoryHolds : Machine → State → Type 0
MemoryHolds m s =
    let f = form_at m s in
    ExtensionHolds m f.kind (value m s f.a) (value m s f.b) (value m s f.c)

-- a call as a tuple of the bus: DATA and the operands' values
abbrev pub call : Machine → State → Form → Op → Bool → ℕ → Tuple
call m s f op be n =
    record { aux = data_word op be n; left = value m s f.a; right = value m s f.b; out = value m s f.c }

-- a row that pushes one call, on 1 to 2^20 elements
pub record OneCall (m : Machine) (f : Form) (i : Instruction) (x : Exec) (op : Op) (be : Bool) (n : ℕ) : Type 0 where
  pub once : pushes i ≡ 1
  pub tuple : pushed i x ≡ call m (state_of x) f op be n
  pub some : 1 ≤ n
  pub most : n ≤ 2 ^ 20

-- how a row pushes, by its kind
abbrev pub PushesBy : Machine → Form → Instruction → Exec → Kind → Type 0
PushesBy m f i x Add = pushes i ≡ 0
PushesBy m f i x Mul = pushes i ≡ 0
PushesBy m f i x Deref = pushes i ≡ 0
PushesBy m f i x Jump = pushes i ≡ 0
PushesBy m f i x (Extension op be n) = OneCall m f i x op be n

-- how a row over a program and a memory pushes
abbrev pub Pushes : Given → Exec → Type 0
Pushes g x =
    let f = form_at (machine_in g) (state_of x) in
    PushesBy (machine_in g) f (g.instruction x.pc) x f.kind
