-- Document 01, "What the contracts owe": no second answer keeps the tabler's promise, and no other bytes of a table.
-- Assumes nothing.
use mathlib.Core.List.{List}
use mathlib.Core.Path.{◌≡◌, sym, ◌∙◌}
use Prim.Native.Nat.{ℕ}
use lib.ListN.{length}
use Rattle.answer.specs.Determined.{Determined}
use Rattle.answer.specs.Answers.{Answer}
use Rattle.tabler_spec.specs.Tabled.{table_of, exec_after, ext_after}

pub table_determined : (program memory : List ℕ) (pc fp : ℕ) (exec ext : List ℕ)
    → Determined (λ (x : Answer × List ℕ × List ℕ).
    (x.0 ≡ table_of program memory pc fp (length exec) (length ext))
    × (x.1 ≡ exec_after program memory pc fp exec ext)
    × (x.2 ≡ ext_after program memory pc fp exec ext))
table_determined program memory pc fp exec ext r s p q = λ i. ((p.0 ∙ sym q.0) i, (p.1 ∙ sym q.1) i, (p.2 ∙ sym q.2) i)
