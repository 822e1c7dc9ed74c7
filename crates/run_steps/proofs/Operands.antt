-- An operand by its two flags, of which one at most is 1: where its address column lies, the value selected for it,
-- that it is legal. The three cases of the flags are the three modes, and each polynomial computes at them. Assumes
-- nothing.
use mathlib.Core.Path.{◌≡◌, refl, sym, ◌∙◌, ap}
use Prim.Native.Nat.{ℕ, zero, suc, ◌+◌, ◌≤◌, ◌<◌}
use native.Mathlib.Omega.{arith}
use lib.Dec.{T, ltb, eqb, eqb→eq, ltb→lt, lt→ltb}
use Rattle.word.specs.Word.{IsWord, ◌+ₚ◌, ◌-ₚ◌, ◌*ₚ◌}
use Rattle.word.proofs.WordLaws.{sum_word}
use Rattle.form.specs.Form.{operand_of}
use Rattle.form.specs.declared.Operand.{Operand}
use Rattle.form.specs.declared.Mode.{Mode}
use Rattle.form.specs.declared.Mode.TheVariants.{Immediate, Cell, Frame}
use Rattle.rules.specs.Given.{Given, zero?, looks_up}
use Rattle.machine.specs.Machine.{State, address, value, legal}
use Rattle.tables.specs.Rows.{column}
use Rattle.run_steps.specs.Setting.{machine_in, Fit}
use Rattle.word.proofs.Tests.{both, and, eq→eqb}
use Rattle.run_steps.proofs.Rules.{OperandRules}
use Rattle.run_steps.proofs.Words.{says_equal, holds_off, holds_equal}

-- what νA, νB and νC are
abbrev pub selection : ℕ → ℕ → ℕ → ℕ → ℕ → ℕ
selection flag frame word val fp = flag *ₚ word +ₚ (1 -ₚ flag -ₚ frame) *ₚ val +ₚ frame *ₚ (fp +ₚ word)

-- a column that lies where the operand's cell is, if it reads one
abbrev pub AtBy : State → Operand → ℕ → Mode → Type 0
AtBy s o addr Immediate = Unit
AtBy s o addr Cell = addr ≡ address s o
AtBy s o addr Frame = Unit

abbrev pub At : State → Operand → ℕ → Type 0
At s o addr = AtBy s o addr o.mode

-- a column and its cell
pub record Looked (g : Given) (addr val : ℕ) : Type 0 where
  pub exists : addr < g.size
  pub holds : val ≡ g.cell addr

pub looked : (g : Given) (addr val : ℕ) → T (looks_up g addr val) → Looked g addr val
looked g addr val t =
    let (h, e) = both (ltb addr g.size) (eqb val (g.cell addr)) t in
    record { exists = ltb→lt _ _ h; holds = eqb→eq _ _ e }

pub looks_up_lem : (g : Given) (addr val : ℕ) → Looked g addr val → T (looks_up g addr val)
looks_up_lem g addr val l = and (ltb addr g.size) (eqb val (g.cell addr)) (lt→ltb _ _ l.exists) (eq→eqb l.holds)

-- what holds of the three pairs of flags holds of all that fit
by_flags : (P : ℕ → ℕ → Type 0) → P 1 0 → P 0 1 → P 0 0 → (flag frame : ℕ) → flag + frame ≤ 1 → P flag frame
by_flags P immediate framed cell zero zero h = cell
by_flags P immediate framed cell zero (suc zero) h = framed
by_flags P immediate framed cell zero (suc (suc n)) h = absurd (omega arith)
by_flags P immediate framed cell (suc zero) zero h = immediate
by_flags P immediate framed cell (suc zero) (suc n) h = absurd (omega arith)
by_flags P immediate framed cell (suc (suc n)) frame h = absurd (omega arith)

-- an operand's columns
pub record Columns (g : Given) (s : State) (o : Operand) (addr val : ℕ) : Type 0 where
  pub looked : Looked g addr val
  pub at : At s o addr

module _ (g : Given) (s : State) (word addr val flag frame : ℕ) (fit : flag + frame ≤ 1) where
  -- an operand's rules say that its columns are right
  pub columns : IsWord addr → OperandRules g flag frame word s.fp addr val → Columns g s (operand_of flag frame word) addr val
  unfolding ◌-ₚ◌
  columns w r =
      record {
        looked = looked g addr val r.looks_up;
        at =
            by_flags (λ (x y : ℕ). T (zero? ((1 -ₚ x -ₚ y) *ₚ (addr -ₚ (s.fp +ₚ word)))) → At s (operand_of x y word) addr)
            (λ t. tt) (λ t. tt) (λ t. says_equal refl w (sum_word _ _) t) flag frame fit r.at_cell;
      }

  pub column_rules : Columns g s (operand_of flag frame word) addr val → OperandRules g flag frame word s.fp addr val
  unfolding ◌-ₚ◌
  column_rules k =
      record {
        looks_up = looks_up_lem g addr val k.looked;
        at_cell =
            by_flags (λ (x y : ℕ). At s (operand_of x y word) addr → T (zero? ((1 -ₚ x -ₚ y) *ₚ (addr -ₚ (s.fp +ₚ word)))))
            (λ t. holds_off _ refl) (λ t. holds_off _ refl) (λ e. holds_equal 1 e) flag frame fit k.at;
      }

  -- the selected value is the operand's
  pub selects : IsWord word → IsWord val → Columns g s (operand_of flag frame word) addr val
      → selection flag frame word val s.fp ≡ value (machine_in g) s (operand_of flag frame word)
  unfolding ◌+ₚ◌ ◌-ₚ◌ ◌*ₚ◌
  selects w v k =
      by_flags (λ (x y : ℕ). At s (operand_of x y word) addr → selection x y word val s.fp ≡ value (machine_in g) s (operand_of x y word))
      (λ t. omega arith) (λ t. omega arith)
      (λ e.
      let same : selection 0 0 word val s.fp ≡ val = omega arith in
      same ∙ k.looked.holds ∙ ap g.cell e)
      flag frame fit k.at

module _ (g : Given) (s : State) (word : ℕ) where
  legal_by_lem : (mode : Mode) (addr : ℕ) → addr < g.size → AtBy s (record { mode = mode; word = word }) addr mode
      → T (legal (machine_in g) s (record { mode = mode; word = word }))
  legal_by_lem Immediate addr h e = tt
  legal_by_lem Cell addr h e = lt→ltb _ _ (rw e at h)
  legal_by_lem Frame addr h e = tt

  tabled_by : (mode : Mode) → 0 < g.size → T (legal (machine_in g) s (record { mode = mode; word = word }))
      → Columns g s (record { mode = mode; word = word }) (column s (record { mode = mode; word = word })) (g.cell (column s (record { mode = mode; word = word })))
  tabled_by Immediate some t = record { looked = record { exists = some; holds = refl }; at = tt }
  tabled_by Cell some t = record { looked = record { exists = ltb→lt _ _ t; holds = refl }; at = refl }
  tabled_by Frame some t = record { looked = record { exists = some; holds = refl }; at = tt }

-- an operand whose columns are right is legal
pub legal_operand : (g : Given) (s : State) (o : Operand) {addr val : ℕ} → Columns g s o addr val → T (legal (machine_in g) s o)
legal_operand g s o k = legal_by_lem g s o.word o.mode _ k.looked.exists k.at

-- and the tabler's columns of a legal operand are right
pub tabled_operand : (g : Given) (s : State) (o : Operand) → 0 < g.size → T (legal (machine_in g) s o) → Columns g s o (column s o) (g.cell (column s o))
tabled_operand g s o some t = tabled_by g s o.word o.mode some t

-- a cell read's value column is its value
pub cell_value : (g : Given) (s : State) (word addr val : ℕ) {flag frame : ℕ} → flag ≡ 0 → frame ≡ 0 → Columns g s (operand_of flag frame word) addr val
    → value (machine_in g) s (operand_of flag frame word) ≡ val
cell_value g s word addr val z z' = rw (z, z') (λ k. ap g.cell (sym k.at) ∙ sym k.looked.holds)

value_word_by : (g : Given) (s : State) (word : ℕ) (mode : Mode) → Fit g → IsWord word → T (legal (machine_in g) s (record { mode = mode; word = word }))
    → IsWord (value (machine_in g) s (record { mode = mode; word = word }))
value_word_by g s word Immediate fit w t = w
value_word_by g s word Cell fit w t = fit.cells _ (ltb→lt _ _ t)
value_word_by g s word Frame fit w t = sum_word _ _

-- a legal operand's value is a word
pub value_word : (g : Given) (s : State) (o : Operand) → Fit g → IsWord o.word → T (legal (machine_in g) s o) → IsWord (value (machine_in g) s o)
value_word g s o fit w t = value_word_by g s o.word o.mode fit w t
