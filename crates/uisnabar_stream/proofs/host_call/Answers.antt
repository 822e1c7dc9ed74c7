-- `uisnabar_stream::host_call` meets its contract: ANSWER, or where the host starts.
use mathlib.Core.Path.{sym, ◌∙◌}
use borrow.Author.Rules.{rules}
use borrow.Author.Tests.{not-true, not-false}
use Rattle.stream_spec.specs.Host.{start_of}
use Rattle.reply.proofs.Telling.{untold, wholes, told}
use Rattle.uisnabar_stream.specs.StreamCalls.{host_returned, host_next_left, host_answer_left}
use Rattle.uisnabar_stream.proofs.host_call.Goals as goal

pub returns-then-not-told_fits : goal.returns-then-not-told_fits
unfolding host_returned host_next_left host_answer_left
returns-then-not-told_fits c =
    let s = c.args in
    let did = start_of (record { state = s.seed }) s.host in
    let both = untold s.next.now s.answer.now did.answer did.generator.state _ (sym c.told_fits.ensures ∙ c.if-not-told_fits.true) c.misfit.ensures in record {
      value = both.0;
      next_after = both.1.0;
      answer_after = both.1.1;
    }

pub tell-requires : goal.tell-requires
tell-requires c =
    let s = c.args in
    wholes s.next.now s.answer.now (sym c.told_fits.ensures ∙ c.if-not-told_fits.false)

pub returns : goal.returns
unfolding host_returned host_next_left host_answer_left
returns c =
    let s = c.args in
    let e = sym c.told_fits.ensures ∙ c.if-not-told_fits.false in
    let did = start_of (record { state = s.seed }) s.host in
    let told_so = rw (c.start-a.ensures.value, c.start-a.ensures.generator_after, c.new-generator.ensures) at c.tell.ensures in
    let both = told s.next.now s.answer.now e did.answer did.generator.state _ _ _ told_so in record {
      value = both.0;
      next_after = both.1.0;
      answer_after = both.1.1;
    }
