-- Each answer is the case of the tests that led to it.
use native.Mathlib.Omega.{arith}
use Rattle.answer.specs.Answers.{Word}
use Rattle.inputs.proofs.Formed.{program_words}
use Rattle.judge.proofs.Joined.{words_joined}
use Rattle.judge.proofs.Reached.{later, here}
use Rattle.judge.proofs.stage.Parts.words_answer.Goals as goal

pub first_word_unless-a-requires : goal.first_word_unless-a-requires
first_word_unless-a-requires c = program_words _ _ c.program_walk-listed.ensures.1

pub returns-then-a-self : goal.returns-then-a-self
returns-then-a-self c = here (Word 1) _ c.first_word_unless-a.ensures c.if-a-self.true c.word_refused.ensures

pub word_refused-requires-then-b-self : goal.word_refused-requires-then-b-self
word_refused-requires-then-b-self c =
    let start = c in
    let count = words_joined start.args.self.now.memory.public.now start.args.self.now.memory.rest.now start.args.self.now.memory.seam_between in
    omega (arith, c.if-b-self.true, count, start.args.self.now.fitting.memory_short)

pub returns-then-b-self : goal.returns-then-b-self
returns-then-b-self c =
    let b = c in
    let e1 = b in
    let start = e1 in
    let count = words_joined start.args.self.now.memory.public.now start.args.self.now.memory.rest.now start.args.self.now.memory.seam_between in
    later _ e1.first_word_unless-a.ensures e1.if-a-self.false
    (here (Word 2) _ b.first_word_joined-b.ensures (rw (← count) at c.if-b-self.true) c.word_refused-then-b-self.ensures)

pub returns : goal.returns
returns c =
    let e2 = c in
    let e1 = e2 in
    let start = e1 in
    let count = words_joined start.args.self.now.memory.public.now start.args.self.now.memory.rest.now start.args.self.now.memory.seam_between in
    later _ e1.first_word_unless-a.ensures e1.if-a-self.false
    (later _ e2.first_word_joined-b.ensures (rw (← count) at e2.if-b-self.false) c.tables_answer.ensures)
