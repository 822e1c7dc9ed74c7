-- Each instruction passed is well-formed, and the walk stops at the first that isn't; its twelve words are told of.
use mathlib.Core.Bool.{◌&&◌}
use mathlib.Core.Path.{◌≡◌, sym, ◌∙◌}
use mathlib.Core.List.{List}
use Prim.Native.Nat.{ℕ, ◌+◌, ◌/◌, ◌*◌, zero-le}
use native.Mathlib.Omega.{arith}
use lib.ListN.{length}
use Rattle.judge_spec.specs.Judged.{is_word}
use Rattle.inputs.specs.Words.{eight_words}
use Rattle.inputs.proofs.Eights.{Tells, none_yet, joined, all_told, eight, eight_more}
use Rattle.inputs.proofs.Walks.{begins, goes_past, finds, finds_none, found_one, found_none}
use Rattle.inputs.proofs.walk.program_walk.Goals as goal

twelve : (program : List ℕ) (i : ℕ) → Tells (is_word program) (eight_words program (12 * i) && eight_words program (12 * i + 4)) (12 * i) (12 * i + 12)
twelve program i = eight_more program _ (12 * i) (12 * i + 8) (12 * i + 4) _ (omega arith) (omega arith) (omega arith) (omega arith) (eight program (12 * i))

pub loop-i-init : goal.loop-i-init
loop-i-init c = (begins _ _, none_yet _)

pub returns-then-not-well_formed : goal.returns-then-not-well_formed
returns-then-not-well_formed c =
    let well = rw c.instruction_inside.ensures at c.well_formed-in-loop-i.ensures in
    let walk = c.loop-i.invariant.0 in
    let bad = sym well ∙ c.if-not-well_formed.true in
    (finds walk (omega arith) bad, found_one walk (omega arith) bad _)

pub loop-i-preserved : goal.loop-i-preserved
loop-i-preserved c =
    let words = c.twelve_words-words in
    let well = rw c.instruction_inside.ensures at c.well_formed-in-loop-i.ensures in
    let loop = c.loop-i in
    let program = c.args.program.now in
    let next : 12 * (loop.i + 1) ≡ 12 * loop.i + 12 = omega arith in (
      goes_past loop.invariant.0 (omega arith) (sym well ∙ c.if-not-well_formed.false),
      rw (next, words.ensures) (joined (is_word program) _ _ 0 (12 * loop.i) _ _ zero-le (omega arith) (omega arith) loop.invariant.1 (twelve program loop.i)),
    )

pub returns : goal.returns
returns c =
    let loop = c.loop-i in
    let program = c.args.program.now in
    let walk = loop.invariant.0 in
    let all : loop.i ≡ length program / 48 = omega (arith, walk.within) in
    let ended : 12 * loop.i ≡ length program / 4 = omega (arith, all) in (
      sym all ∙ finds_none walk c.loop-i-test.false,
      all_told (is_word program) loop.words (length program / 4) (rw ended at loop.invariant.1) ∙ found_none walk c.loop-i-test.false _,
    )
