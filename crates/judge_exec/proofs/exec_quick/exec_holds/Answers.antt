-- Selected values that are words are those of the rules, their addresses too, and each group is passed.
use Rattle.judge_lookups.specs.Joined.{joined}
use Rattle.judge_lookups.proofs.Quick.{never}
use Rattle.judge_exec.proofs.QuickExec.{all_hold}
use Rattle.judge_exec.proofs.exec_quick.exec_holds.Goals as goal

pub returns : goal.returns
returns c e =
    let s = c.args in
    all_hold (joined s.memory) s.x s.y s.i
    c.in-Some.a c.in-Some-picked.b c.in-Some-picked-2.c c.jump_taken.result
    c.in-Some.ensures
    c.in-Some-picked.ensures
    c.in-Some-picked-2.ensures
    c.jump_taken.ensures
    (c.lookups_hold.ensures c.if-not-lookups_hold.false)
    (c.operated.ensures c.if-not-operated.false)
    (c.moved.ensures e)

pub returns-then-not-lookups_hold : goal.returns-then-not-lookups_hold
returns-then-not-lookups_hold c = never

pub returns-then-not-operated : goal.returns-then-not-operated
returns-then-not-operated c = never
