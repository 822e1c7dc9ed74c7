-- Draft 0.6.0, 3.3.3: the value that an operand selects, by its flag and its fp flag.
use Rattle.std.specs.Prelude.{ℕ}
use Rattle.word.specs.Word.{◌+ₚ◌, ◌-ₚ◌, ◌*ₚ◌}

abbrev pub selected_of : ℕ → ℕ → ℕ → ℕ → ℕ → ℕ
selected_of flag fpFlag operand value fp = flag *ₚ operand +ₚ (1 -ₚ flag -ₚ fpFlag) *ₚ value +ₚ fpFlag *ₚ (fp +ₚ operand)
