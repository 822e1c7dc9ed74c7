-- `range::find_ranges` meets its contract: refused by the judge, without room, or written.
use Rattle.std.proofs.Common.{arith, ◌≡◌, refl, sym, []}
use Rattle.std.proofs.lemmas.Result.{err_from_is_err_and}
use Rattle.answer.specs.Answers.{answer_of}
use Rattle.answer.proofs.Named.{refusal_not_accepted}
use Rattle.lines.proofs.Putting.{put_front}
use Rattle.rules.specs.Sizes.{Parts, parts_of, given, tables}
use Rattle.judge_spec.specs.Judged.{judge_of}
use Rattle.range_finds.proofs.All.{finds_length}
use Rattle.range.proofs.Ends.{refused, ready, short, room, written}
use Rattle.range.proofs.find_ranges.Goals as goal

pub returns-in_err-judge : goal.returns-in_err-judge
returns-in_err-judge c =
    let s = c.args in
    let q : Parts = parts_of s.program.now s.memory.now s.pc s.fp s.exec.now s.ext.now in
    let p = err_from_is_err_and c.from_residual.result c.from_residual.ensures.1 in
    let is : answer_of c.from_residual.result ≡ judge_of q = rw (p.1, p.2) c.in_err-judge.ensures in
    let ends = refused q s.finds.now _ is (rw p.1 (refusal_not_accepted p.0)) in record {
      value = ends.0;
      found = rw p.1 ends.1;
      finds_after = ends.2;
    }

pub invariant_of-rows : goal.invariant_of-rows
invariant_of-rows c =
    let s = c.args in
    let q : Parts = parts_of s.program.now s.memory.now s.pc s.fp s.exec.now s.ext.now in
    record { listed = (ready q s.finds.now _ c.in_ok-judge.ensures refl).listed }

pub invariant_of-table : goal.invariant_of-table
invariant_of-table c =
    let s = c.args in
    let q : Parts = parts_of s.program.now s.memory.now s.pc s.fp s.exec.now s.ext.now in
    let known = ready q s.finds.now _ c.in_ok-judge.ensures refl in record {
      short = known.short;
      enough = known.rows;
      bounds = known.bounds;
    }

pub returns-then-finds-n : goal.returns-then-finds-n
returns-then-finds-n c =
    let s = c.args in
    let q : Parts = parts_of s.program.now s.memory.now s.pc s.fp s.exec.now s.ext.now in
    let ends = short q s.finds.now _ c.in_ok-judge.ensures refl _ c.count_finds-n.ensures.0 c.if-finds-n.true in record {
      value = ends.0;
      found = ends.1;
      finds_after = ends.2;
    }

pub put_finds-requires : goal.put_finds-requires
put_finds-requires c =
    let s = c.args in
    let q : Parts = parts_of s.program.now s.memory.now s.pc s.fp s.exec.now s.ext.now in
    let counted = c.count_finds-n.ensures.0 in record {
      n_value = counted;
      room = omega (arith, room q s.finds.now _ c.in_ok-judge.ensures refl _ counted c.if-finds-n.false, counted, finds_length (given q.program []) (tables q.exec []));
    }

pub returns : goal.returns
returns c =
    let s = c.args in
    let q : Parts = parts_of s.program.now s.memory.now s.pc s.fp s.exec.now s.ext.now in
    let ends = written q s.finds.now _ c.in_ok-judge.ensures refl _ c.count_finds-n.ensures.0 c.if-finds-n.false _ (put_front refl c.put_finds.ensures) in
    let same = sym c.put_finds.ensures.same in record {
      value = ends.0;
      found = ends.1;
      finds_after = grind (arith, same, ends.2);
    }
