-- `grid::count` meets its contract: refused by the judge, without room, or counted.
use Rattle.std.proofs.Common.{◌≡◌, refl, sym, ◌∙◌}
use Rattle.std.proofs.lemmas.Result.{err_from_is_err_and}
use Rattle.answer.proofs.Named.{refusal_not_accepted}
use Rattle.rules.specs.Sizes.{Parts}
use Rattle.judge_spec.specs.Judged.{judge_of}
use Rattle.grid.proofs.Answers.{refused, listed, full, room, counted}
use Rattle.grid.proofs.count.Goals as goal

pub returns-in_err-judge : goal.returns-in_err-judge
returns-in_err-judge c =
    let s = c.args in
    let q : Parts = record { program = s.program.now; memory = s.memory.now; exec = s.exec.now; ext = s.ext.now; pc = s.pc; fp = s.fp } in
    let p = err_from_is_err_and c.from_residual.result c.from_residual.ensures.1 in
    let is : c.from_residual.result ≡ judge_of q = rw (p.1, p.2) c.in_err-judge.ensures in
    let ends = refused s.grid.now q _ is (rw p.1 (refusal_not_accepted p.0)) in record { value = ends.0; grid_after = ends.1 }

pub invariant_of-rows : goal.invariant_of-rows
invariant_of-rows c =
    let s = c.args in
    let q : Parts = record { program = s.program.now; memory = s.memory.now; exec = s.exec.now; ext = s.ext.now; pc = s.pc; fp = s.fp } in
    record { listed = listed s.grid.now q _ c.in_ok-judge.ensures refl }

pub returns-then-not-has_room : goal.returns-then-not-has_room
returns-then-not-has_room c =
    let s = c.args in
    let q : Parts = record { program = s.program.now; memory = s.memory.now; exec = s.exec.now; ext = s.ext.now; pc = s.pc; fp = s.fp } in
    let ends = full s.grid.now q _ c.in_ok-judge.ensures refl (sym c.has_room.ensures ∙ c.if-not-has_room.true) in record {
      value = ends.0;
      grid_after = ends.1;
    }

pub count_rows-requires : goal.count_rows-requires
count_rows-requires c =
    let s = c.args in
    let q : Parts = record { program = s.program.now; memory = s.memory.now; exec = s.exec.now; ext = s.ext.now; pc = s.pc; fp = s.fp } in
    room s.grid.now q _ c.in_ok-judge.ensures refl (sym c.has_room.ensures ∙ c.if-not-has_room.false)

pub returns : goal.returns
returns c =
    let s = c.args in
    let q : Parts = record { program = s.program.now; memory = s.memory.now; exec = s.exec.now; ext = s.ext.now; pc = s.pc; fp = s.fp } in
    let ends = counted s.grid.now q _ c.in_ok-judge.ensures refl (sym c.has_room.ensures ∙ c.if-not-has_room.false) _ c.count_rows.ensures in record {
      value = ends.0;
      grid_after = ends.1;
    }
