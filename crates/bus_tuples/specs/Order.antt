-- Inner: pulls in the order in which they stand, against what the execution rows push.
-- Declared in src/: Instruction (form); Exec (rows).
use Rattle.std.specs.Prelude.{Bool, ◌&&◌, cond, ◌≡◌, List, [], ℕ, zero, suc, ◌+◌, ◌-◌, ◌*◌, ◌/◌, length, eqb, ltb}
use Rattle.form.specs.Form.{opcode}
use Rattle.form.specs.declared.Instruction.{Instruction}
use Rattle.rows.specs.Rows.{exec_at, ext_at}
use Rattle.rows.specs.declared.Exec.{Exec}
use Rattle.rules.specs.Given.{zero?}
use Rattle.rules.specs.Bus.{Tuple, same_tuple, pushed, pulled, instruction_of, pushed_to, pulled_to}
use Rattle.rules.specs.Sizes.{given, tables}
use Rattle.judge_spec.specs.First.{first}
use Rattle.bus_tuples.specs.Times.{pull_count}

-- rows k to s pull a tuple once
abbrev pub PullsOnce : List ℕ → Tuple → ℕ → ℕ → Type 0
PullsOnce ext τ k s = (σ : Tuple) → pulled_to (tables [] ext) σ s ≡ pulled_to (tables [] ext) σ k + cond (same_tuple τ σ) 1 0

-- rows k to s pull nothing
abbrev pub PullsNothing : List ℕ → ℕ → ℕ → Type 0
PullsNothing ext k s = (σ : Tuple) → pulled_to (tables [] ext) σ s ≡ pulled_to (tables [] ext) σ k

-- the execution rows below r push what the extension rows below k pull
abbrev pub InOrder : List ℕ → List ℕ → List ℕ → ℕ → ℕ → Type 0
InOrder program exec ext r k = (σ : Tuple) → pushed_to (given program []) (tables exec ext) σ r ≡ pulled_to (tables exec ext) σ k

-- the first extension row from row k on that may pull, and their number where there is none; k where it is past them
abbrev pub pulls_none : List ℕ → ℕ → Bool
pulls_none ext k = zero? (pull_count (ext_at ext (120 * k)))

unfoldable pub next_pull : List ℕ → ℕ → ℕ
next_pull ext k = first (pulls_none ext) k (length ext / 120 - k)

-- whether there is an extension row k that pulls τ once
abbrev pub pulls_just : List ℕ → Tuple → ℕ → Bool
pulls_just ext τ k =
    ltb k (length ext / 120) && eqb (pull_count (ext_at ext (120 * k))) 1 && same_tuple (pulled (ext_at ext (120 * k))) τ

-- the row after the next pull from row k on, where that pulls τ once; past the end where it doesn't
unfoldable pub after_pull : List ℕ → ℕ → Tuple → ℕ
after_pull ext k τ = cond (pulls_just ext τ (next_pull ext k)) (next_pull ext k + 1) (length ext / 120 + 1)

-- the same after an execution row, of which only a precompile pushes
abbrev pub after_row : List ℕ → ℕ → Instruction → Exec → ℕ
after_row ext k i x = cond (opcode i 0 0 0) (after_pull ext k (pushed i x)) k

-- where the execution rows below r leave the pulls: at most the number of extension rows only where they push what is
-- pulled, in order
unfoldable pub pulled_by : List ℕ → List ℕ → List ℕ → ℕ → ℕ
pulled_by program exec ext zero = 0
pulled_by program exec ext (suc r) =
    after_row ext (pulled_by program exec ext r) (instruction_of (given program []) (tables exec []) r) (exec_at exec (32 * r))
