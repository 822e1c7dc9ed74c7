-- The second row's instruction is there, and its B is word 1.
use mathlib.Core.Path.{ap, ◌∙◌}
use native.Mathlib.Omega.{arith}
use Prim.Native.Nat.{ℕ, ◌+◌}
use Rattle.range.proofs.Triples.{there, bound_read}
use Rattle.range.proofs.triple.bound_at.Goals as goal

pub word_inside-requires : goal.word_inside-requires
word_inside-requires c =
    let rows = c.args.rows.now in
    omega (arith, (there rows.program.now rows.exec.now rows.listed (c.args.r + 1) _ (omega arith) c.start_of.ensures.0).0)

pub overflow_add-result : goal.overflow_add-result
overflow_add-result c =
    let rows = c.args.rows.now in
    let e = bound_read rows.program.now rows.exec.now c.args.r _ c.start_of.ensures.0 in
    let small = c.requires.r_bound in
    let read = c.word_inside.ensures in
    omega arith

pub returns : goal.returns
returns c =
    let rows = c.args.rows.now in
    ap (λ (x : ℕ). x + 1) c.word_inside.ensures ∙ bound_read rows.program.now rows.exec.now c.args.r _ c.start_of.ensures.0
