-- A buffer of another length hears of ANSWER alone; else the judge's answer is replied.
use borrow.Author.Rules.{rules}
use mathlib.Core.Path.{◌∙◌}
use Rattle.answer.specs.Answers.{Buffer}
use Rattle.reply.proofs.Unfit.{same_returned, same_replied}
use Rattle.split_spec.specs.Split.{split_parts_of, judge_split_of}
use Rattle.uisnabar_split.proofs.split_call.Goals as goal

pub returns-then-answer-ne24 : goal.returns-then-answer-ne24
returns-then-answer-ne24 c =
    let s = c.args in
    let told = c.reply.ensures in
    let a = judge_split_of (split_parts_of s.program.now s.public.now s.rest.now s.pc s.fp s.exec.now s.ext.now) in
    let other = c.if-answer-ne24.true in record {
      value = told.0 ∙ same_returned s.answer.now other Buffer a;
      answer_after = told.1 ∙ same_replied s.answer.now other Buffer a;
    }

pub returns : goal.returns
returns c =
    let told = rw c.judge_split-a.ensures at c.reply-2.ensures in
    record { value = told.0; answer_after = told.1 }
