-- The C boundary: what `uisnabar_judge` promises tells a driver one answer, and by its number whether the constraints
-- hold.
-- Assumes nothing.
use mathlib.Core.Path.{◌≡◌, sym, ap, ◌∙◌}
use mathlib.Core.List.{List}
use Prim.Native.Nat.{ℕ}
use lib.ListN.{length}
use borrow.Author.Tests.{eq-eqb}
use Rattle.word.proofs.FourBytes.{read_bytes}
use Rattle.rows.specs.Rows.{bytes_of_words, put_row}
use Rattle.answer.specs.Verdicts.{numbers_of}
use Rattle.answer.specs.Answers.{Answer}
use Rattle.rules.specs.Sizes.{Parts}
use Rattle.judge_spec.specs.Judged.{judge_of}
use Rattle.judge_spec.proofs.Justified.{justified}
use Rattle.judge_spec.proofs.Only.{only}
use Rattle.judge_spec.proofs.Exactly.{accepted_satisfies, satisfies_accepted}
use Rattle.judge_spec.proofs.Narrow.{Narrow, answer_narrow}
use Rattle.reply.specs.Reply.{answer_bytes, returned, answer_words}
use Rattle.mission.specs.Promises.{JudgeCall}
use Rattle.mission.specs.Driver.{numbers_in, DriverReads}
use Rattle.answer.proofs.Named.{verdict_zero}

-- numbers below 2^32 read back from their 24 bytes
pub numbers_back : (a : Answer) → Narrow (numbers_of a) → numbers_in (bytes_of_words (answer_words a)) ≡ numbers_of a
unfolding bytes_of_words
numbers_back a n =
    λ i.
    record {
      verdict = read_bytes (numbers_of a).verdict n.verdict i;
      part = read_bytes (numbers_of a).part n.part i;
      place = read_bytes (numbers_of a).place n.place i;
      rule = read_bytes (numbers_of a).rule n.rule i;
      expected = read_bytes (numbers_of a).expected n.expected i;
      found = read_bytes (numbers_of a).found n.found i;
    }

module _ (q : Parts) (buffer : List ℕ) (x : ℕ × List ℕ) (sized : length buffer ≡ answer_bytes) (call : JudgeCall q buffer x) where
  told : x.0 ≡ (numbers_of (judge_of q)).verdict
  unfolding returned
  told = rw (eq-eqb (length buffer) answer_bytes sized) at call.0

  written : x.1 ≡ bytes_of_words (answer_words (judge_of q))
  unfolding put_row
  written = rw (eq-eqb (length buffer) answer_bytes sized) at call.1

  pub driver_reads : DriverReads q x.0 x.1
  driver_reads =
      record {
        answer = judge_of q;
        says = justified q;
        alone = λ other h. sym (only q other h);
        numbers = ap numbers_in written ∙ numbers_back (judge_of q) (answer_narrow q);
        verdict = told;
        satisfies = (
          (λ e. accepted_satisfies q (verdict_zero (judge_of q) (sym told ∙ e))),
          λ s. told ∙ ap (λ (a : Answer). (numbers_of a).verdict) (satisfies_accepted q s),
        );
      }
