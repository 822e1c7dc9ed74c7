-- At each return the tests that led there pick the answer; e1 to e5 are the places where a test passed.
use borrow.Author.Tests.{lt-ltb, le-ltb}
use mathlib.Core.List.{[]}
use mathlib.Core.Path.{refl}
use Prim.Native.Nat.{◌/◌}
use lib.Dec.{eqb}
use lib.ListN.{length}
use Rattle.rules.specs.Sizes.{given}
use Rattle.judge_spec.specs.Judged.{first_malformed}
use Rattle.word.specs.Word.{p}
use Rattle.tabler.proofs.Ending.{unchanged}
use Rattle.inputs.proofs.Formed.{all_formed, seen_words}
use Rattle.tabler.proofs.tests.table_words.Goals as goal

pub program_walk-walked-requires : goal.program_walk-walked-requires
program_walk-walked-requires c = c.requires.program_rows

pub first_word_unless-w-requires : goal.first_word_unless-w-requires
first_word_unless-w-requires c =
    let program = c.args.program.now in
    seen_words (eqb (first_malformed (given program [])) (length program / 48)) _ program c.program_walk-walked.ensures.1

pub returns-then-w-program : goal.returns-then-w-program
returns-then-w-program c = unchanged _ _ _ _ _ _ (λ old written. refl) (rw (← c.first_word_unless-w.ensures, lt-ltb _ _ c.if-w-program.true))

pub returns-then-v-memory : goal.returns-then-v-memory
returns-then-v-memory c =
    let e1 = c in
    unchanged _ _ _ _ _ _ (λ old written. refl)
    (rw (← e1.first_word_unless-w.ensures, le-ltb _ _ e1.if-w-program.false, ← c.first_word-v.ensures, lt-ltb _ _ c.if-v-memory.true))

pub returns-then-i-program : goal.returns-then-i-program
returns-then-i-program c =
    let e2 = c in
    let e1 = e2 in
    unchanged _ _ _ _ _ _ (λ old written. refl)
    (rw (← e1.first_word_unless-w.ensures, le-ltb _ _ e1.if-w-program.false, ← e2.first_word-v.ensures, le-ltb _ _ e2.if-v-memory.false, ← e1.program_walk-walked.ensures.0, lt-ltb _ _ c.if-i-program.true))

pub returns-then-pc-ge-P : goal.returns-then-pc-ge-P
returns-then-pc-ge-P c =
    let e3 = c in
    let e2 = e3 in
    let e1 = e2 in
    unchanged _ _ _ _ _ _ (λ old written. refl)
    (rw (← e1.first_word_unless-w.ensures, le-ltb _ _ e1.if-w-program.false, ← e2.first_word-v.ensures, le-ltb _ _ e2.if-v-memory.false, ← e1.program_walk-walked.ensures.0, le-ltb _ _ e3.if-i-program.false, le-ltb _ p c.if-pc-ge-P.true))

pub returns-then-fp-ge-P : goal.returns-then-fp-ge-P
returns-then-fp-ge-P c =
    let e4 = c in
    let e3 = e4 in
    let e2 = e3 in
    let e1 = e2 in
    unchanged _ _ _ _ _ _ (λ old written. refl)
    (rw (← e1.first_word_unless-w.ensures, le-ltb _ _ e1.if-w-program.false, ← e2.first_word-v.ensures, le-ltb _ _ e2.if-v-memory.false, ← e1.program_walk-walked.ensures.0, le-ltb _ _ e3.if-i-program.false, lt-ltb _ p e4.if-pc-ge-P.false, le-ltb _ p c.if-fp-ge-P.true))

pub finish-requires : goal.finish-requires
finish-requires c =
    let e3 = c in
    let walked = e3 in
    let start = walked in record {
      fitting = start.requires;
      well_formed = all_formed start.args.program.now walked.program_walk-walked.result.at walked.program_walk-walked.ensures.0 e3.if-i-program.false;
    }

pub returns : goal.returns
returns c =
    let f = c in
    let e5 = f in
    let e4 = e5 in
    let e3 = e4 in
    let e2 = e3 in
    let e1 = e2 in
    rw (← e1.first_word_unless-w.ensures, le-ltb _ _ e1.if-w-program.false, ← e2.first_word-v.ensures, le-ltb _ _ e2.if-v-memory.false, ← e1.program_walk-walked.ensures.0, le-ltb _ _ e3.if-i-program.false, lt-ltb _ p e4.if-pc-ge-P.false, lt-ltb _ p e5.if-fp-ge-P.false)
    f.finish.ensures
