-- 65,536 rows and one more are fewer than 131,072, and 2^20 and one more fewer than 2^21.
use native.Mathlib.Omega.{arith}
use mathlib.Core.Path.{refl}
use Rattle.bus_rounds.proofs.slot.span_of.Goals as goal

pub returns-then-ext-le7864320 : goal.returns-then-ext-le7864320
returns-then-ext-le7864320 c = record { kind = λ other. absurd (other refl); rows = omega arith }

pub returns : goal.returns
returns c = record { kind = λ _. refl; rows = omega arith }
