-- Each answer has its law; the length that fits bounds each place.
use Rattle.std.proofs.Common.{arith, true, ◌≡◌, refl, sym, ◌∙◌, length}
use Rattle.rules.specs.Sizes.{program_fits}
use Rattle.lines.proofs.Putting.{put_front}
use Rattle.inputs.proofs.Formed.{all_formed, program_words}
use Rattle.listing_writer.proofs.Answers.{kept_parts, unfit, whole, few, word_above, malformed, short, enough}
use Rattle.listing_writer.proofs.list.Goals as goal

pub returns-then-not-program_fits : goal.returns-then-not-program_fits
returns-then-not-program_fits c =
    let s = c.args in
    let ends = kept_parts s.program.now s.text.now (unfit s.program.now s.text.now (sym c.program_fits.ensures ∙ c.if-not-program_fits.true)) in record {
      value = ends.0;
      written = ends.1;
      text_after = ends.2;
    }

pub program_walk-walked-requires : goal.program_walk-walked-requires
program_walk-walked-requires c =
    let s = c.args in whole s.program.now s.text.now (sym c.program_fits.ensures ∙ c.if-not-program_fits.false)

pub first_word_unless-word-requires : goal.first_word_unless-word-requires
first_word_unless-word-requires c = program_words _ _ c.program_walk-walked.ensures.1

pub overflow_cast-place : goal.overflow_cast-place
overflow_cast-place c =
    let s = c.args in
    let fit : program_fits (length s.program.now) ≡ true = sym c.program_fits.ensures ∙ c.if-not-program_fits.false in
    record { fits = omega (arith, whole s.program.now s.text.now fit, few s.program.now s.text.now fit) }

pub returns-then-word-program : goal.returns-then-word-program
returns-then-word-program c =
    let s = c.args in
    let fit : program_fits (length s.program.now) ≡ true = sym c.program_fits.ensures ∙ c.if-not-program_fits.false in
    let ends = kept_parts s.program.now s.text.now (word_above s.program.now s.text.now fit _ c.first_word_unless-word.ensures c.if-word-program.true) in record {
      value = ends.0;
      written = ends.1;
      text_after = ends.2;
    }

pub overflow_cast-place-then-malformed-program : goal.overflow_cast-place-then-malformed-program
overflow_cast-place-then-malformed-program c =
    let s = c.args in
    let fit : program_fits (length s.program.now) ≡ true = sym c.program_fits.ensures ∙ c.if-not-program_fits.false in
    record { fits = omega (arith, few s.program.now s.text.now fit) }

pub returns-then-malformed-program : goal.returns-then-malformed-program
returns-then-malformed-program c =
    let s = c.args in
    let fit : program_fits (length s.program.now) ≡ true = sym c.program_fits.ensures ∙ c.if-not-program_fits.false in
    let ends = kept_parts s.program.now s.text.now
    (malformed s.program.now s.text.now fit _ c.first_word_unless-word.ensures c.if-word-program.false _ c.program_walk-walked.ensures.0 c.if-malformed-program.true) in record {
      value = ends.0;
      written = ends.1;
      text_after = ends.2;
    }

pub needed-size-requires : goal.needed-size-requires
needed-size-requires c =
    let s = c.args in
    let fit : program_fits (length s.program.now) ≡ true = sym c.program_fits.ensures ∙ c.if-not-program_fits.false in record {
      well_formed = all_formed s.program.now _ c.program_walk-walked.ensures.0 c.if-malformed-program.false;
      program_len_bound = few s.program.now s.text.now fit;
    }

pub returns-then-text-size : goal.returns-then-text-size
returns-then-text-size c =
    let s = c.args in
    let fit : program_fits (length s.program.now) ≡ true = sym c.program_fits.ensures ∙ c.if-not-program_fits.false in
    let size = c.needed-size.ensures.0 in
    let ends = kept_parts s.program.now s.text.now
    (short s.program.now s.text.now fit _ c.first_word_unless-word.ensures c.if-word-program.false _ c.program_walk-walked.ensures.0 c.if-malformed-program.false (rw size at c.if-text-size.true)) in record {
      value = rw size ends.0;
      written = ends.1;
      text_after = ends.2;
    }

pub put_all-requires : goal.put_all-requires
put_all-requires c =
    let s = c.args in record {
      well_formed = all_formed s.program.now _ c.program_walk-walked.ensures.0 c.if-malformed-program.false;
      room = omega (arith, c.needed-size.ensures.0, c.if-text-size.false);
    }

pub returns : goal.returns
returns c =
    let s = c.args in
    let fit : program_fits (length s.program.now) ≡ true = sym c.program_fits.ensures ∙ c.if-not-program_fits.false in
    let size = c.needed-size.ensures.0 in
    let ends = kept_parts s.program.now s.text.now
    (enough s.program.now s.text.now fit _ c.first_word_unless-word.ensures c.if-word-program.false _ c.program_walk-walked.ensures.0 c.if-malformed-program.false (rw size at c.if-text-size.false) (put_front refl c.put_all.ensures)) in
    let same = sym c.put_all.ensures.same in record {
      value = ends.0;
      written = rw size ends.1;
      text_after = grind (arith, same, ends.2);
    }
