-- The C boundary of labels: what `uisnabar_label` promises tells a driver the text's one reading.
-- Assumes nothing.
use mathlib.Core.Path.{◌≡◌, refl, sym, ap, ◌∙◌}
use mathlib.Core.Logic.{inl, inr}
use mathlib.Core.Bool.{true}
use mathlib.Core.List.{List, [], ◌∷◌}
use Prim.Native.Nat.{ℕ, ◌+◌, ◌*◌, ◌/◌, ◌%◌, ◌^◌, ◌<◌}
use native.Mathlib.Omega.{arith}
use lib.ListN.{length}
use borrow.Author.Tests.{eq-eqb}
use Rattle.word.proofs.FourBytes.{read_bytes}
use Rattle.rows.specs.Rows.{bytes_of_words, put_row}
use Rattle.answer.specs.Verdicts.{numbers_of}
use Rattle.answer.specs.Answers.{Answer, Accepted}
use Rattle.label.specs.Label.{InRange, label_of}
use Rattle.label.specs.Reading.{Reading, Valid, Reads}
use Rattle.label.specs.declared.Recipe.{Recipe}
use Rattle.label.proofs.Label.{reads_label}
use Rattle.label.proofs.Length.{place_most}
use Rattle.label.proofs.Range.{version_high, m_high, n_high}
use Rattle.judge_spec.proofs.Narrow.{Narrow, narrow_four}
use Rattle.reply.specs.Reply.{answer_bytes, answer_words}
use Rattle.uisnabar.specs.Calls.{both_fit, recipe_words}
use Rattle.mission.specs.Promises.{ReaderCall}
use Rattle.mission.specs.Driver.{numbers_in, recipe_in, DriverReadsLabel}
use Rattle.answer.proofs.Named.{verdict_zero}
use Rattle.mission.proofs.Driver.{numbers_back}

reading_narrow : (text : List ℕ) (r : Reading) → Reads text r → Narrow (numbers_of r.answer)
reading_narrow text r (inl a) = rw a.answer (narrow_four 0 0 0 0 (omega arith) (omega arith) (omega arith) (omega arith))
reading_narrow text r (inr n) =
    rw n.answer (narrow_four 8 0 _ 0 (omega arith) (omega arith) (omega (arith, place_most n.nearest)) (omega arith))

-- a recipe in range reads back from its 20 bytes
recipe_back : (r : Recipe) → InRange r → recipe_in (bytes_of_words (recipe_words r)) ≡ r
unfolding bytes_of_words
recipe_back r range =
    let low : r.seed % 2 ^ 32 < 2 ^ 32 = omega arith in
    let high : r.seed / 2 ^ 32 < 2 ^ 32 = omega (arith, range.bits) in
    λ i.
    record {
      seed = whole_seed (read_bytes (r.seed % 2 ^ 32) low) (read_bytes (r.seed / 2 ^ 32) high) i;
      m = read_bytes r.m (omega (arith, m_high r range.ranges)) i;
      n = read_bytes r.n (omega (arith, n_high r range.ranges)) i;
      version = read_bytes r.version (omega (arith, version_high r range.ranges)) i;
    }
  where
    whole_seed : {a b : ℕ} → a ≡ r.seed % 2 ^ 32 → b ≡ r.seed / 2 ^ 32 → a + 2 ^ 32 * b ≡ r.seed
    whole_seed e f = omega arith

-- the bytes of one recipe, each where document 02 has it
pub recipe_laid_out : bytes_of_words (recipe_words (record { version = 2; seed = 0x0123456789abcdef; m = 29; n = 124 }))
    ≡ 239 ∷ 205 ∷ 171 ∷ 137 ∷ 103 ∷ 69 ∷ 35 ∷ 1 ∷ 29 ∷ 0 ∷ 0 ∷ 0 ∷ 124 ∷ 0 ∷ 0 ∷ 0 ∷ 2 ∷ 0 ∷ 0 ∷ 0 ∷ []
unfolding bytes_of_words
recipe_laid_out = refl

module _ (text answer recipe : List ℕ) (x : ℕ × List ℕ × List ℕ) (answer-sized : length answer ≡ answer_bytes) (recipe-sized : length recipe ≡ 20)
    (call : ReaderCall text answer recipe x) where
  fit : both_fit answer recipe ≡ true
  fit = rw (eq-eqb (length answer) answer_bytes answer-sized, eq-eqb (length recipe) 20 recipe-sized)

  told : x.0 ≡ (numbers_of call.reading.answer).verdict
  told = rw fit at call.verdict

  answered : x.1 ≡ bytes_of_words (answer_words call.reading.answer)
  unfolding put_row
  answered = rw (eq-eqb (length answer) answer_bytes answer-sized) at (rw fit at call.answered)

  is_accepted : x.0 ≡ 0 → call.reading.answer ≡ Accepted
  is_accepted e = verdict_zero call.reading.answer (sym told ∙ e)

  written : x.0 ≡ 0 → x.2 ≡ bytes_of_words (recipe_words call.reading.recipe)
  unfolding put_row
  written e = rw (eq-eqb (length recipe) 20 recipe-sized) at (rw (fit, is_accepted e) at call.written)

  -- a valid text is read, not refused
  valid_zero : Valid text → Reads text call.reading → x.0 ≡ 0
  valid_zero v (inl a) = told ∙ ap (λ (y : Answer). (numbers_of y).verdict) a.answer
  valid_zero v (inr n) = absurd (n.invalid v)

  back : x.0 ≡ 0 → InRange call.reading.recipe × (text ≡ label_of call.reading.recipe)
  back e = reads_label text call.reading call.reads (is_accepted e)

  pub driver_reads_label : DriverReadsLabel text x.0 x.1 x.2
  driver_reads_label =
      record {
        reading = call.reading;
        reads = call.reads;
        numbers = ap numbers_in answered ∙ numbers_back call.reading.answer (reading_narrow text call.reading call.reads);
        verdict = told;
        valid = ((λ e. (call.reading.recipe, (back e).0, sym (back e).1)), λ v. valid_zero v call.reads);
        recipe_read = λ e. ap recipe_in (written e) ∙ recipe_back call.reading.recipe (back e).0;
      }
