-- Each answer is the case of the tests that led to it. The bus has what it
-- asks.
use mathlib.Core.Path.{refl, ap, ◌∙◌}
use native.Mathlib.Omega.{arith}
use Rattle.answer.specs.Answers.{Word, Instruction}
use Rattle.rules.specs.Sizes.{given, tables}
use Rattle.judge_spec.specs.Judged.{exec_failing, exec_refusal, ext_failing, ext_refusal}
use Rattle.inputs.proofs.Formed.{all_formed}
use Rattle.bus_tuples.specs.Order.{pulled_by}
use Rattle.judge_walks.proofs.Rows.{tested_words, at_end}
use Rattle.judge.proofs.Passed.{all_words, rows_listed, rows_flagged, any_program}
use Rattle.judge_lookups.specs.Joined.{joined}
use Rattle.judge.proofs.Reached.{later, here, row_here, row_later, met, unmet}
use Rattle.judge.proofs.stage.Parts.tables_answer.Goals as goal

pub first_word_unless-c-requires : goal.first_word_unless-c-requires
first_word_unless-c-requires c = tested_words c.exec_walk-ran.ensures.tested

pub returns-then-c-self : goal.returns-then-c-self
returns-then-c-self c = here (Word 3) _ c.first_word_unless-c.ensures c.if-c-self.true c.word_refused.ensures

pub first_word_unless-d-requires : goal.first_word_unless-d-requires
first_word_unless-d-requires c = tested_words c.ext_walk-extended.ensures

pub returns-then-d-self : goal.returns-then-d-self
returns-then-d-self c =
    later _ c.first_word_unless-c.ensures c.if-c-self.false
    (here (Word 4) _ c.first_word_unless-d.ensures c.if-d-self.true c.word_refused-then-d-self.ensures)

pub returns-then-malformed-self : goal.returns-then-malformed-self
returns-then-malformed-self c =
    later _ c.first_word_unless-c.ensures c.if-c-self.false
    (later _ c.first_word_unless-d.ensures c.if-d-self.false
    (here Instruction _ c.requires c.if-malformed-self.true refl))

pub returns-then-not-starts : goal.returns-then-not-starts
returns-then-not-starts c =
    later _ c.first_word_unless-c.ensures c.if-c-self.false
    (later _ c.first_word_unless-d.ensures c.if-d-self.false
    (later _ c.requires c.if-malformed-self.false
    (unmet _ c.starts.ensures c.if-not-starts.true refl)))

pub returns-in-Some : goal.returns-in-Some
returns-in-Some c =
    let a = c.args.self.now in
    let m = joined a.memory in
    let g = given a.program.now m in
    let t = tables a.exec.now a.ext.now in
    later _ c.first_word_unless-c.ensures c.if-c-self.false
    (later _ c.first_word_unless-d.ensures c.if-d-self.false
    (later _ c.requires c.if-malformed-self.false
    (met _ c.starts.ensures c.if-not-starts.false
    (c.exec_refused.ensures ∙ row_here (exec_failing g t) (exec_refusal g t) _ (rw c.in-Some.is at c.exec_walk-ran.ensures.tested)))))

pub returns-in-Some-failing : goal.returns-in-Some-failing
returns-in-Some-failing c =
    let a = c.args.self.now in
    let m = joined a.memory in
    let g = given a.program.now m in
    let t = tables a.exec.now a.ext.now in
    let walked = any_program a.program.now m a.exec.now a.ext.now (rw c.in-Some-failing.is at c.ext_walk-extended.ensures) in
    later _ c.first_word_unless-c.ensures c.if-c-self.false
    (later _ c.first_word_unless-d.ensures c.if-d-self.false
    (later _ c.requires c.if-malformed-self.false
    (met _ c.starts.ensures c.if-not-starts.false
    (row_later (exec_failing g t) _ (rw c.in_default.is at c.exec_walk-ran.ensures.tested)
    (c.ext_refused.ensures ∙ row_here (ext_failing g t) (ext_refusal g t) _ walked)))))

pub bus_answer-requires : goal.bus_answer-requires
bus_answer-requires c =
    let a = c.args.self.now in
    let program = a.program.now in
    let m = joined a.memory in
    let exec = a.exec.now in
    let ext = a.ext.now in
    let ran = rw c.in_default.is at c.exec_walk-ran.ensures.tested in
    let well = all_formed program c.args.malformed c.requires c.if-malformed-self.false in
    let words = all_words ext _ c.first_word_unless-d.ensures c.if-d-self.false in
    let fits = a.fitting in
    record {
      listed = rows_listed program m exec ran well;
      flagged = rows_flagged m ext (rw c.in_default-failing.is at c.ext_walk-extended.ensures) words;
      short = (omega (arith, fits.exec_short), omega (arith, fits.ext_short));
      pulled_value = c.exec_walk-ran.ensures.pulled ∙ ap (pulled_by program exec ext) (at_end ran);
    }

pub returns : goal.returns
returns c =
    let a = c.args.self.now in
    let m = joined a.memory in
    let g = given a.program.now m in
    let t = tables a.exec.now a.ext.now in
    let walked = any_program a.program.now m a.exec.now a.ext.now (rw c.in_default-failing.is at c.ext_walk-extended.ensures) in
    later _ c.first_word_unless-c.ensures c.if-c-self.false
    (later _ c.first_word_unless-d.ensures c.if-d-self.false
    (later _ c.requires c.if-malformed-self.false
    (met _ c.starts.ensures c.if-not-starts.false
    (row_later (exec_failing g t) _ (rw c.in_default.is at c.exec_walk-ran.ensures.tested)
    (row_later (ext_failing g t) _ walked c.bus_answer.ensures)))))
