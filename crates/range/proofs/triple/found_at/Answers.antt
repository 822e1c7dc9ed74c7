-- Each of the three instructions is there and well-formed; where the first has another AUX there is no find.
use mathlib.Core.Path.{ap, ◌∙◌}
use native.Mathlib.Omega.{arith}
use Prim.Native.Nat.{ℕ, ◌+◌}
use Rattle.form.specs.Instruction.{instruction_at}
use Rattle.range_spec.specs.Finds.{derefs}
use Rattle.range.proofs.Triples.{there, three_tests, no_deref}
use Rattle.range.proofs.triple.found_at.Goals as goal

pub word_inside-requires : goal.word_inside-requires
word_inside-requires c =
    let rows = c.args.rows.now in
    omega (arith, (there rows.program.now rows.exec.now rows.listed c.args.r _ (omega arith) c.start_of-first.ensures.0).0)

pub returns-then-word_inside-ne2 : goal.returns-then-word_inside-ne2
returns-then-word_inside-ne2 c =
    let rows = c.args.rows.now in
    no_deref rows.program.now rows.exec.now rows.listed c.args.r _ (omega arith) c.start_of-first.ensures.0
    (λ e. c.if-word_inside-ne2.true (c.word_inside.ensures ∙ e))

pub word_inside-x-requires : goal.word_inside-x-requires
word_inside-x-requires c =
    let rows = c.args.rows.now in
    omega (arith, (there rows.program.now rows.exec.now rows.listed (c.args.r + 1) _ (omega arith) c.start_of-second.ensures.0).0)

pub word_inside-j-requires : goal.word_inside-j-requires
word_inside-j-requires c =
    let rows = c.args.rows.now in
    omega (arith, (there rows.program.now rows.exec.now rows.listed (c.args.r + 1) _ (omega arith) c.start_of-second.ensures.0).0)

pub derefs-requires : goal.derefs-requires
derefs-requires c =
    let rows = c.args.rows.now in record {
      at_in_bounds = (there rows.program.now rows.exec.now rows.listed c.args.r _ (omega arith) c.start_of-first.ensures.0).0;
      at_value = (there rows.program.now rows.exec.now rows.listed c.args.r _ (omega arith) c.start_of-first.ensures.0).1;
    }

pub adds-requires : goal.adds-requires
adds-requires c =
    let rows = c.args.rows.now in record {
      at_in_bounds = (there rows.program.now rows.exec.now rows.listed (c.args.r + 1) _ (omega arith) c.start_of-second.ensures.0).0;
      at_value = (there rows.program.now rows.exec.now rows.listed (c.args.r + 1) _ (omega arith) c.start_of-second.ensures.0).1;
    }

pub derefs-requires-2 : goal.derefs-requires-2
derefs-requires-2 c =
    let rows = c.args.rows.now in record {
      at_in_bounds = (there rows.program.now rows.exec.now rows.listed (c.args.r + 2) _ c.requires c.start_of-last.ensures.0).0;
      at_value = (there rows.program.now rows.exec.now rows.listed (c.args.r + 2) _ c.requires c.start_of-last.ensures.0).1;
    }

pub returns : goal.returns
unfolding instruction_at
returns c =
    let rows = c.args.rows.now in
    let program = rows.program.now in
    let first = c.start_of-first in
    let second = c.start_of-second in
    let last = c.start_of-last in
    let x = c.word_inside-x in
    let j = c.word_inside-j in
    three_tests program rows.exec.now c.args.r first.ensures.0 second.ensures.0 last.ensures.0
    (c.derefs.ensures ∙ ap (λ (x : ℕ). derefs x (instruction_at program first.result)) x.ensures)
    c.adds.ensures
    (c.derefs-2.ensures ∙ ap (λ (x : ℕ). derefs x (instruction_at program last.result)) j.ensures)
