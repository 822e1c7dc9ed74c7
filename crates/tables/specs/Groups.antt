-- Document 01, "The tabler"; draft 0.6.0, 3.5.1: an extension step's group of N rows, the groups in execution order,
-- and the padding.
-- Declared in src/: Op, Kind (form); Ext (rows).
use Rattle.std.specs.Prelude.{ℕ, zero, suc, ◌+◌, ◌-◌, ◌*◌, Bool, true, false, cond, ltb, eqb}
use Rattle.form.specs.Data.{bit}
use Rattle.form.specs.declared.Op.{Op}
use Rattle.form.specs.declared.Op.TheVariants.{Add, Mul, Peq}
use Rattle.form.specs.declared.Kind.{Kind}
use Rattle.form.specs.declared.Kind.TheVariants.{Add as AddKind, Mul as MulKind, Deref, Jump, Extension}
use Rattle.rows.specs.declared.Ext.{Ext}
use Rattle.machine.specs.Machine.{Machine, State, value}
use Rattle.machine.specs.Extension.{element_at, extension_result}
use Rattle.tables.specs.Rows.{form_at}

abbrev pub flag_add : Op → ℕ
flag_add Add = 1
flag_add Mul = 0
flag_add Peq = 0

abbrev pub flag_mul : Op → ℕ
flag_mul Add = 0
flag_mul Mul = 1
flag_mul Peq = 0

abbrev pub flag_peq : Op → ℕ
flag_peq Add = 0
flag_peq Mul = 0
flag_peq Peq = 1

-- a_j starts at A + j with be, and at A + 5j without
abbrev pub left_index : Bool → ℕ → ℕ → ℕ
left_index true a j = a + j
left_index false a j = a + 5 * j

-- row j of a group on n elements: idxR is constant, and comp is the sum or product of what is left
unfoldable pub group_row : (ℕ → ℕ) → Op → Bool → ℕ → ℕ → ℕ → ℕ → ℕ → Ext
group_row cell op be n a b c j =
    record {
      start = bit (eqb j 0);
      add = flag_add op;
      mul = flag_mul op;
      peq = flag_peq op;
      len = n - j;
      idxA = left_index be a j;
      idxB = b + 5 * j;
      idxR = c;
      be = bit be;
      base = cell (left_index be a j);
      vA = element_at cell (left_index be a j);
      vB = element_at cell (b + 5 * j);
      comp = extension_result cell op be a b j (n - j);
      res = element_at cell c;
    }

-- start 1, len 1, all indexes and flags 0; comp and res are cells 0 to 4
unfoldable pub padding : (ℕ → ℕ) → Ext
padding cell =
    record {
      start = 1;
      add = 0;
      mul = 0;
      peq = 0;
      len = 1;
      idxA = 0;
      idxB = 0;
      idxR = 0;
      be = 0;
      base = cell 0;
      vA = element_at cell 0;
      vB = element_at cell 0;
      comp = element_at cell 0;
      res = element_at cell 0;
    }

-- how many extension rows a step fills
abbrev pub length_of : Kind → ℕ
length_of AddKind = 0
length_of MulKind = 0
length_of Deref = 0
length_of Jump = 0
length_of (Extension op be n) = n

abbrev pub length_at : Machine → State → ℕ
length_at m s = length_of (form_at m s).kind

-- row j of the group of a step, by its kind and its operands' values; only an extension step has one
abbrev pub kind_row : (ℕ → ℕ) → Kind → ℕ → ℕ → ℕ → ℕ → Ext
kind_row cell AddKind a b c j = padding cell
kind_row cell MulKind a b c j = padding cell
kind_row cell Deref a b c j = padding cell
kind_row cell Jump a b c j = padding cell
kind_row cell (Extension op be n) a b c j = group_row cell op be n a b c j

abbrev pub step_row_by : Machine → State → ℕ → Kind → Ext
step_row_by m s j kind = let f = form_at m s in kind_row m.cell kind (value m s f.a) (value m s f.b) (value m s f.c) j

abbrev pub step_row : Machine → State → ℕ → Ext
step_row m s j = step_row_by m s j (form_at m s).kind

-- row k of the extension table over n steps from row r on: of the step whose group reaches it, or padding
unfoldable pub ext_row_of : Machine → (ℕ → State) → ℕ → ℕ → ℕ → Ext
ext_row_of m state r zero k = padding m.cell
ext_row_of m state r (suc n) k =
    cond (ltb k (length_at m (state r))) (step_row m (state r) k) (ext_row_of m state (suc r) n (k - length_at m (state r)))

-- the extension rows that the steps below row n fill
unfoldable pub filled : Machine → (ℕ → State) → ℕ → ℕ
filled m state zero = 0
filled m state (suc n) = filled m state n + length_at m (state n)
