-- No second answer fits the maker's promise, nor a second program or memory at return.
-- Assumes nothing.
use mathlib.Core.Path.{◌≡◌}
use mathlib.Core.List.{List}
use Prim.Native.Nat.{ℕ}
use lib.ListN.{length}
use Rattle.answer.specs.Determined.{Determined, equations-of-three}
use Rattle.answer.specs.Answers.{Answer}
use Rattle.label.specs.declared.Recipe.{Recipe}
use Rattle.maker_spec.specs.Bytes.{make_of, program_after, memory_after}

pub make_determined : (r : Recipe) (program memory : List ℕ)
    → Determined (λ (x : Answer × List ℕ × List ℕ).
    (x.0 ≡ make_of r (length program) (length memory)) × (x.1 ≡ program_after r program memory) × (x.2 ≡ memory_after r program memory))
make_determined r program memory = equations-of-three _ _ _
