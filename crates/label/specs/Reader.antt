-- Inner: the label's fields, each behind the one before it, as the reader goes. Reading.antt, the promise, knows
-- nothing of this.
-- Declared in src/: Recipe (here).
use Rattle.std.specs.Prelude.{ℕ, ◌+◌, ◌*◌, ◌∷◌}
use Rattle.answer.specs.Answers.{Label}
use Rattle.text_patterns.specs.Pattern.{Pattern, done, lit, seq}
use Rattle.text_patterns.specs.Fields.{digits, one, number}
use Rattle.text_fields.specs.Digit.{hex_value, decimal_value}
use Rattle.label.specs.Label.{newest, no_recipe, version_text, seed_text, m_text, n_text}
use Rattle.label.specs.declared.Recipe.{Recipe}
use Rattle.label.specs.Reading.{Reading}

abbrev pub recipe_of : ℕ → ℕ → ℕ → ℕ → Recipe
recipe_of version seed m n = record { version = version; seed = seed; m = m; n = n }

-- LF n= and 1 to 124, which LF ends
unfoldable pub from_n : ℕ → ℕ → ℕ → Pattern Recipe
from_n version seed m = lit (10 ∷ n_text) (seq (number decimal_value 1 124 10) (λ n. done (recipe_of version seed m n)))

-- LF m= and 10 to 29, in two digits
unfoldable pub from_m : ℕ → ℕ → Pattern Recipe
from_m version seed =
    lit (10 ∷ m_text) (seq (one decimal_value 1 2) (λ tens. seq (one decimal_value 0 9) (λ units. from_n version seed (10 * tens + units))))

-- LF seed= and sixteen hex digits
unfoldable pub from_seed : ℕ → Pattern Recipe
from_seed version = lit (10 ∷ seed_text) (seq (digits 16 hex_value 16 0) (from_m version))

-- v= and 1 or 2; what follows may depend on it
unfoldable pub label : Pattern Recipe
label = lit version_text (seq (one decimal_value 1 newest) from_seed)

abbrev pub refused_at : ℕ → Reading
refused_at place = record { answer = Label place; recipe = no_recipe }
