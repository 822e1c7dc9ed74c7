-- The label's pattern, read field by field: where the reading stands behind each field, and where it stops.
-- Assumes nothing.
use Prim.Native.Nat.{ℕ, ◌+◌, ◌*◌, ◌≤◌, ◌<◌}
use mathlib.Core.Bool.{false}
use mathlib.Core.List.{List, ◌∷◌}
use mathlib.Core.Path.{◌≡◌, ◌∙◌}
use native.Mathlib.Omega.{arith}
use lib.ListN.{drop}
use Rattle.text_patterns.specs.Pattern.{Pattern, done, lit, seq, Live, got, left, parse}
use Rattle.text_patterns.specs.Fields.{digits, one, number}
use Rattle.text_fields.specs.Digit.{hex_value, decimal_value}
use Rattle.text_fields.specs.Field.{Reaches, Stops}
use Rattle.text_fields.proofs.Toward.{past_lit, stop_lit, past_field, stop_field}
use Rattle.label.specs.Label.{version_text, seed_text, m_text, n_text}
use Rattle.label.specs.Reader.{recipe_of, from_n, from_m, from_seed, label}
use Rattle.label.specs.declared.Recipe.{Recipe}
use Rattle.label.proofs.Labels.{spelling_n, spelling_digit, spelling_seed}

abbrev Digit : ℕ → ℕ → Pattern ℕ
Digit low high = one decimal_value low high

digit_live : (low high : ℕ) → low ≤ high → high < 10 → Live false (λ x. (low ≤ x) × (x ≤ high)) (Digit low high)
digit_live low high l h = (spelling_digit low high l h).live

abbrev Literal : List ℕ → Pattern ℕ
Literal w = lit w (done 0)

abbrev Hex : Pattern ℕ
Hex = digits 16 hex_value 16 0

-- the tens of m are read, and then its units
abbrev Units : ℕ → ℕ → ℕ → Pattern Recipe
Units version seed tens = seq (Digit 0 9) (λ units. from_n version seed (10 * tens + units))

abbrev N : ℕ → ℕ → ℕ → Pattern Recipe
N version seed m = seq (number decimal_value 1 124 10) (λ n. done (recipe_of version seed m n))

-- a reading that stands somewhere, with a pattern left
abbrev Stands : List ℕ → Pattern Recipe → ℕ → Type 0
Stands text f at = parse label text ≡ parse f (drop at text)

abbrev Halts : List ℕ → ℕ → Type 0
Halts text at = parse label text ≡ left (drop at text)

module _ (text : List ℕ) where
  pub stop_v : {to : ℕ} → Stops (Literal version_text) text 0 to → Halts text to
  unfolding label
  stop_v r = stop_lit version_text (seq (Digit 1 2) from_seed) r

  module _ {a : ℕ} (at_version : Reaches (Literal version_text) text 0 0 a) where
    to_version : Stands text (seq (Digit 1 2) from_seed) a
    unfolding label
    to_version = past_lit version_text (seq (Digit 1 2) from_seed) at_version

    pub stop_version : {to : ℕ} → Stops (Digit 1 2) text a to → Halts text to
    stop_version r = to_version ∙ stop_field (Digit 1 2) from_seed _ (digit_live 1 2 (omega arith) (omega arith)) r

    module _ {v b : ℕ} (version : Reaches (Digit 1 2) text a v b) where
      to_seed_text : Stands text (from_seed v) b
      to_seed_text = to_version ∙ past_field (Digit 1 2) from_seed _ (digit_live 1 2 (omega arith) (omega arith)) version

      pub stop_seed_text : {to : ℕ} → Stops (Literal (10 ∷ seed_text)) text b to → Halts text to
      unfolding from_seed
      stop_seed_text r = to_seed_text ∙ stop_lit (10 ∷ seed_text) (seq Hex (from_m v)) r

      module _ {d : ℕ} (at_seed : Reaches (Literal (10 ∷ seed_text)) text b 0 d) where
        to_seed : Stands text (seq Hex (from_m v)) d
        unfolding from_seed
        to_seed = to_seed_text ∙ past_lit (10 ∷ seed_text) (seq Hex (from_m v)) at_seed

        pub stop_seed : {to : ℕ} → Stops Hex text d to → Halts text to
        stop_seed r = to_seed ∙ stop_field Hex (from_m v) _ spelling_seed.live r

        module _ {s e : ℕ} (seed : Reaches Hex text d s e) where
          to_m_text : Stands text (from_m v s) e
          to_m_text = to_seed ∙ past_field Hex (from_m v) _ spelling_seed.live seed

          pub stop_m_text : {to : ℕ} → Stops (Literal (10 ∷ m_text)) text e to → Halts text to
          unfolding from_m
          stop_m_text r = to_m_text ∙ stop_lit (10 ∷ m_text) (seq (Digit 1 2) (Units v s)) r

          module _ {f : ℕ} (at_m : Reaches (Literal (10 ∷ m_text)) text e 0 f) where
            to_tens : Stands text (seq (Digit 1 2) (Units v s)) f
            unfolding from_m
            to_tens = to_m_text ∙ past_lit (10 ∷ m_text) (seq (Digit 1 2) (Units v s)) at_m

            pub stop_tens : {to : ℕ} → Stops (Digit 1 2) text f to → Halts text to
            stop_tens r = to_tens ∙ stop_field (Digit 1 2) (Units v s) _ (digit_live 1 2 (omega arith) (omega arith)) r

            module _ {t g : ℕ} (tens : Reaches (Digit 1 2) text f t g) where
              to_units : Stands text (Units v s t) g
              to_units = to_tens ∙ past_field (Digit 1 2) (Units v s) _ (digit_live 1 2 (omega arith) (omega arith)) tens

              pub stop_units : {to : ℕ} → Stops (Digit 0 9) text g to → Halts text to
              stop_units r = to_units ∙ stop_field (Digit 0 9) (λ u. from_n v s (10 * t + u)) _ (digit_live 0 9 (omega arith) (omega arith)) r

              module _ {u h : ℕ} (units : Reaches (Digit 0 9) text g u h) where
                abbrev m : ℕ
                m = 10 * t + u

                to_n_text : Stands text (from_n v s m) h
                to_n_text = to_units ∙ past_field (Digit 0 9) (λ x. from_n v s (10 * t + x)) _ (digit_live 0 9 (omega arith) (omega arith)) units

                pub stop_n_text : {to : ℕ} → Stops (Literal (10 ∷ n_text)) text h to → Halts text to
                unfolding from_n
                stop_n_text r = to_n_text ∙ stop_lit (10 ∷ n_text) (N v s m) r

                module _ {i : ℕ} (at_n : Reaches (Literal (10 ∷ n_text)) text h 0 i) where
                  to_n : Stands text (N v s m) i
                  unfolding from_n
                  to_n = to_n_text ∙ past_lit (10 ∷ n_text) (N v s m) at_n

                  pub stop_n : {to : ℕ} → Stops (number decimal_value 1 124 10) text i to → Halts text to
                  stop_n r = to_n ∙ stop_field (number decimal_value 1 124 10) (λ n. done (recipe_of v s m n)) _ spelling_n.live r

                  pub all_fields : {n j : ℕ} → Reaches (number decimal_value 1 124 10) text i n j → parse label text ≡ got (recipe_of v s m n) (drop j text)
                  unfolding parse
                  all_fields r = to_n ∙ past_field (number decimal_value 1 124 10) (λ n. done (recipe_of v s m n)) _ spelling_n.live r
