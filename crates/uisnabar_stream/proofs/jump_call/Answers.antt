-- `uisnabar_stream::jump_call` meets its contract: ANSWER, or where the jump leads.
use mathlib.Core.Path.{sym, ◌∙◌}
use borrow.Author.Rules.{rules}
use borrow.Author.Tests.{not-true, not-false}
use Rattle.answer.specs.Answers.{Accepted}
use Rattle.stream_spec.specs.Stream.{advances}
use Rattle.reply.proofs.Telling.{untold, wholes, told}
use Rattle.uisnabar_stream.specs.StreamCalls.{jump_returned, jump_next_left, jump_answer_left}
use Rattle.uisnabar_stream.proofs.jump_call.Goals as goal

pub returns-then-not-told_fits : goal.returns-then-not-told_fits
unfolding jump_returned jump_next_left jump_answer_left
returns-then-not-told_fits c =
    let s = c.args in
    let both = untold s.next.now s.answer.now Accepted (advances s.draws s.state) _ (sym c.told_fits.ensures ∙ c.if-not-told_fits.true) c.misfit.ensures in record {
      value = both.0;
      next_after = both.1.0;
      answer_after = both.1.1;
    }

pub tell-requires : goal.tell-requires
tell-requires c =
    let s = c.args in
    wholes s.next.now s.answer.now (sym c.told_fits.ensures ∙ c.if-not-told_fits.false)

pub returns : goal.returns
unfolding jump_returned jump_next_left jump_answer_left
returns c =
    let s = c.args in
    let e = sym c.told_fits.ensures ∙ c.if-not-told_fits.false in
    let led = rw c.new.ensures at c.jump-jumped.ensures in
    let both = told s.next.now s.answer.now e Accepted (advances s.draws s.state) _ _ _ (rw led at c.tell.ensures) in record {
      value = both.0;
      next_after = both.1.0;
      answer_after = both.1.1;
    }
