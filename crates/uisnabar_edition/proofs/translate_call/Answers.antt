-- A buffer of another length hears of ANSWER alone; else the translation's answer is replied.
use borrow.Author.Rules.{rules}
use Rattle.uisnabar_edition.proofs.CallEnds.{unfit_call, told_call}
use Rattle.uisnabar_edition.proofs.translate_call.Goals as goal

pub returns-then-answer-ne24 : goal.returns-then-answer-ne24
returns-then-answer-ne24 c =
    let s = c.args in
    let told = c.reply.ensures in record {
      value = (unfit_call s.old.now s.program.now s.answer.now c.if-answer-ne24.true _ _ told.0 told.1).0;
      program_after = (unfit_call s.old.now s.program.now s.answer.now c.if-answer-ne24.true _ _ told.0 told.1).1.0;
      answer_after = (unfit_call s.old.now s.program.now s.answer.now c.if-answer-ne24.true _ _ told.0 told.1).1.1;
    }

pub returns : goal.returns
returns c =
    let s = c.args in
    let translated = c.translate-a.ensures in
    let told = c.reply-2.ensures in record {
      value = (told_call s.old.now s.program.now s.answer.now c.if-answer-ne24.false _ _ _ _ translated.0 translated.1 told.0 told.1).0;
      program_after = (told_call s.old.now s.program.now s.answer.now c.if-answer-ne24.false _ _ _ _ translated.0 translated.1 told.0 told.1).1.0;
      answer_after = (told_call s.old.now s.program.now s.answer.now c.if-answer-ne24.false _ _ _ _ translated.0 translated.1 told.0 told.1).1.1;
    }
