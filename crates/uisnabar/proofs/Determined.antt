-- A call of the label reader has one outcome: the text has one reading.
-- Assumes nothing.
use mathlib.Core.Path.{◌≡◌, sym, ◌∙◌}
use mathlib.Core.List.{List}
use Prim.Native.Nat.{ℕ}
use Rattle.label.proofs.Label.{reading_determined}
use Rattle.uisnabar.specs.Calls.{LabelCall}

pub call_determined : {text answer recipe answer₁ recipe₁ answer₂ recipe₂ : List ℕ} {v w : ℕ}
    → LabelCall text answer recipe answer₁ recipe₁ v
    → LabelCall text answer recipe answer₂ recipe₂ w
    → (v ≡ w) × (answer₁ ≡ answer₂) × (recipe₁ ≡ recipe₂)
call_determined {text} x y =
    let same = reading_determined text x.reading y.reading x.reads y.reads in
    (rw same at x.verdict ∙ sym y.verdict, rw same at x.answered ∙ sym y.answered, rw same at x.written ∙ sym y.written)
