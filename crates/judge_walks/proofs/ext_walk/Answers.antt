-- The walk stops at the first row that has a rule that fails.
use mathlib.Core.Path.{refl, sym, ◌∙◌}
use mathlib.Core.List.{List}
use Prim.Native.Nat.{ℕ, ◌+◌, ◌*◌}
use native.Mathlib.Omega.{arith}
use Rattle.judge_spec.specs.Judged.{is_word}
use Rattle.inputs.proofs.Eights.{Tells, eight, eight_more}
use Rattle.judge_walks.specs.Walks.{thirty_words}
use Rattle.judge_walks.proofs.Rows.{at_first, row_passed, row_fails, rows_end}
use Rattle.judge_walks.proofs.ext_walk.Goals as goal

-- four eights cover the thirty words; the last begins two before the third's end
thirty : (ext : List ℕ) (r : ℕ) → Tells (is_word ext) (thirty_words ext r) (30 * r) (30 * r + 30)
thirty ext r =
    let i = 30 * r in
    let sixteen = eight_more ext _ i (i + 8) (i + 8) (i + 16) (omega arith) (omega arith) (omega arith) (omega arith) (eight ext i) in
    let more = eight_more ext _ i (i + 16) (i + 16) (i + 24) (omega arith) (omega arith) (omega arith) (omega arith) sixteen in
    eight_more ext _ i (i + 24) (i + 22) (i + 30) (omega arith) (omega arith) (omega arith) (omega arith) more

pub loop-r-init : goal.loop-r-init
loop-r-init c = (refl, at_first _ _ _ 30)

pub returns-then-ext_failing-ne0 : goal.returns-then-ext_failing-ne0
returns-then-ext_failing-ne0 c =
    let tried = c in
    let loop = tried.loop-r in
    let same = c.ext_rule-rule.ensures ∙ sym tried.ext_failing.ensures in
    rw same (row_fails _ _ _ 30 loop.invariant.1 tried.ext_failing.result (omega arith) tried.ext_failing.ensures c.if-ext_failing-ne0.true)

pub loop-r-preserved : goal.loop-r-preserved
loop-r-preserved c =
    let words = c.thirty_words-words in
    let tried = c in
    let loop = tried.loop-r in
    let ext = tried.args.ext.now in
    let rule = tried.ext_failing.ensures in
    (refl, row_passed _ _ _ 30 loop.invariant.1 words.result (omega arith) (sym rule ∙ c.if-ext_failing-ne0.false) (rw words.ensures (thirty ext loop.r)))

pub returns : goal.returns
returns c = rows_end _ _ _ 30 c.loop-r.invariant.1 c.loop-r-test.false (omega arith)
