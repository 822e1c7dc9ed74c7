-- Document 01, "Verdicts" 9 STUCK; drafts 0.5.0 and 0.6.0, 2.3: the registers, and what a step comes to. Beside
-- arithmetic modulo p and words in bytes (`word`) the machines of both drafts share this alone.
use Rattle.std.specs.Prelude.{ℕ, Bool, true, false}

pub record State : Type 0 where
  pub pc : ℕ
  pub fp : ℕ

-- a next state, or stuck by STUCK's rule of that number
pub data Outcome : Type 0 where
  goes : State → Outcome
  stuck : ℕ → Outcome

-- `then` where the test holds, else stuck by the rule of that number
abbrev pub asked : ℕ → Bool → Outcome → Outcome
asked rule true then = then
asked rule false then = stuck rule
