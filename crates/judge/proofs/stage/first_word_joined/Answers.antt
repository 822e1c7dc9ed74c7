-- By whether the first buffer has such a word.
use mathlib.Core.Path.{ap₂, ◌∙◌}
use Prim.Native.Nat.{◌+◌, ◌/◌}
use native.Mathlib.Omega.{arith}
use lib.ListN.{length}
use Rattle.judge_spec.proofs.FirstLaws.{first_bound}
use Rattle.judge_spec.specs.Judged.{is_word}
use Rattle.judge.proofs.Joined.{found_public, found_rest}
use Rattle.judge.proofs.stage.first_word_joined.Goals as goal

pub returns-then-a-memory : goal.returns-then-a-memory
returns-then-a-memory c =
    let s = c in
    rw c.first_word-a.ensures
    (found_public s.args.memory.public.now s.args.memory.rest.now s.args.memory.seam_between (rw c.first_word-a.ensures at c.if-a-memory.true))

pub overflow_add-result : goal.overflow_add-result
overflow_add-result c =
    let s = c in
    let most = first_bound (is_word s.args.memory.public.now) (length s.args.memory.public.now / 4) in
    let most-2 = first_bound (is_word s.args.memory.rest.now) (length s.args.memory.rest.now / 4) in
    omega (arith, c.first_word-a.ensures, c.first_word.ensures, most, most-2, s.well_formed)

pub returns : goal.returns
returns c =
    let s = c in
    let first = c.first_word-a.ensures in
    ap₂ ◌+◌ first c.first_word.ensures
    ∙ found_rest s.args.memory.public.now s.args.memory.rest.now s.args.memory.seam_between (rw first at c.if-a-memory.false)
