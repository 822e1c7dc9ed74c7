-- The mission's second demand: when a table satisfies the constraints of draft 0.6.0. Nothing here knows of a machine,
-- a stepper or a judge.
use Rattle.std.specs.Prelude.{◌≡◌, List, [], ◌∷◌, ℕ, ◌/◌, ◌<◌, length, T}
use Rattle.word.specs.Word.{IsWord}
use Rattle.form.specs.Form.{well_formed}
use Rattle.rules.specs.Given.{Given, Tables, Rule, next}
use Rattle.rules.specs.Execution.{exec_rules}
use Rattle.rules.specs.Extension.{ext_rules}
use Rattle.rules.specs.Bus.{Tuple, pushed_to, pulled_to, instruction_of}
use Rattle.rules.specs.Sizes.{Parts, program_fits, memory_fits, exec_fits, ext_fits, word_of, given_of, tables_of}

-- every rule of a list holds
abbrev pub All : List Rule → Type 0
All [] = Unit
All (r ∷ rs) = T r.holds × All rs

-- every word of a part is below p
abbrev pub Words : List ℕ → Type 0
Words bytes = (k : ℕ) → k < length bytes / 4 → IsWord (word_of bytes k)

-- the rules of both tables and the bus, for tables over a program and a memory
pub record Constraints (g : Given) (t : Tables) : Type 0 where
  pub execution : (r : ℕ) → r < t.height → All (exec_rules g (t.exec r) (t.exec (next t.height r)) (instruction_of g t r))
  pub extension : (r : ℕ) → r < t.ext_height → All (ext_rules g (t.ext r) (t.ext (next t.ext_height r)))
  pub bus : (σ : Tuple) → pushed_to g t σ t.height ≡ pulled_to t σ t.ext_height

pub record Satisfies (q : Parts) : Type 0 where
  pub program_size : T (program_fits (length q.program))
  pub memory_size : T (memory_fits (length q.memory))
  pub exec_size : T (exec_fits (length q.exec))
  pub ext_size : T (ext_fits (length q.ext))
  pub program_words : Words q.program
  pub memory_words : Words q.memory
  pub exec_words : Words q.exec
  pub ext_words : Words q.ext
  pub instructions : (i : ℕ) → i < (given_of q).count → T (well_formed ((given_of q).instruction i))
  pub start_pc : ((tables_of q).exec 0).pc ≡ q.pc
  pub start_fp : ((tables_of q).exec 0).fp ≡ q.fp
  pub constraints : Constraints (given_of q) (tables_of q)
