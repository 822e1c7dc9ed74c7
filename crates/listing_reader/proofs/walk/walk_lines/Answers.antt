-- The invariant: so many lines are read, up to a place, and the rest tells how the text ends. The measure is the lines
-- that may still come.
use Prim.Native.Nat.{◌<◌}
use mathlib.Core.List.{[], ◌∷◌, ◌++◌}
use mathlib.Core.Path.{refl, ◌∙◌}
use native.Mathlib.Omega.{arith}
use lib.ListN.{length, length-append}
use Rattle.std.proofs.lemmas.Result.{err_from_is_err_and}
use Rattle.listing_reader.proofs.Ends.{begins, too_many, stops, goes, no_line_read, all_read}
use Rattle.listing_reader.proofs.walk.walk_lines.Goals as goal

pub loop-at-init : goal.loop-at-init
loop-at-init c = ([], refl, begins _, omega arith)

pub returns-then-lines-eq1048576 : goal.returns-then-lines-eq1048576
returns-then-lines-eq1048576 c =
    let l = c.loop-at in
    let i = l.invariant in
    (i.2.inside, too_many _ l.at i.0 i.2 (i.1 ∙ c.if-lines-eq1048576.true) c.loop-at-test.true)

pub read_line-requires : goal.read_line-requires
read_line-requires c = c.loop-at.invariant.2.inside

pub returns-in_err-line : goal.returns-in_err-line
returns-in_err-line c =
    let l = c.loop-at in
    let i = l.invariant in
    let p = err_from_is_err_and c.from_residual.result c.from_residual.ensures.1 in
    let r = c.in_err-line.ensures.read in
    rw (p.1, p.2) (r.inside, stops _ l.at i.0 i.2 (omega (arith, i.1, i.3, c.if-lines-eq1048576.false)) c.loop-at-test.true r)

pub loop-at-preserved : goal.loop-at-preserved
loop-at-preserved c =
    let l = c.loop-at in
    let i = l.invariant in
    let line = c.in_ok-line.line in
    let few : length i.0 < 1048576 = omega (arith, i.1, i.3, c.if-lines-eq1048576.false) in (
      i.0 ++ (line.value ∷ []),
      omega (arith, length-append i.0 (line.value ∷ []), i.1),
      goes _ l.at i.0 i.2 few c.loop-at-test.true c.in_ok-line.ensures.read,
      omega (arith, i.1, few),
    )

pub returns-then-lines-eq0 : goal.returns-then-lines-eq0
returns-then-lines-eq0 c =
    let l = c.loop-at in
    let i = l.invariant in
    (i.2.inside, no_line_read _ l.at i.0 (i.1 ∙ c.if-lines-eq0.true) i.2 c.loop-at-test.false)

pub returns : goal.returns
returns c =
    let l = c.loop-at in
    let i = l.invariant in
    record { forms = i.0; many = i.1; ends = all_read _ l.at i.0 i.2 (omega (arith, i.1, c.if-lines-eq0.false)) c.loop-at-test.false }
