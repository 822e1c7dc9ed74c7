-- By how the walk ended, and by the room.
use mathlib.Core.Path.{refl}
use native.Mathlib.Omega.{arith}
use Rattle.listing_reader.proofs.Answered.{at_fits, no_listing, lines_most, too_short, assembles}
use Rattle.listing_reader.proofs.read_listing.Goals as goal

pub overflow_cast-place : goal.overflow_cast-place
overflow_cast-place c =
    let a = c.args in
    let w = c.in-Err.ensures in
    omega (arith, at_fits a.text.now a.program.now c.in-Err.stop.at w.0 w.1)

pub returns-in-Err : goal.returns-in-Err
returns-in-Err c =
    let a = c.args in
    let w = c.in-Err.ensures in
    no_listing a.text.now a.program.now c.in-Err.stop.at w.0 w.1 refl

pub overflow_mul-needed : goal.overflow_mul-needed
overflow_mul-needed c =
    let a = c.args in
    omega (arith, lines_most a.text.now a.program.now c.in-Ok.lines c.in-Ok.ensures)

pub overflow_cast-place-then-program-needed : goal.overflow_cast-place-then-program-needed
overflow_cast-place-then-program-needed c =
    let a = c.args in
    omega (arith, lines_most a.text.now a.program.now c.in-Ok.lines c.in-Ok.ensures)

pub returns-then-program-needed : goal.returns-then-program-needed
returns-then-program-needed c =
    let a = c.args in
    too_short a.text.now a.program.now c.in-Ok.lines c.in-Ok.ensures c.if-program-needed.true refl

pub put_forms-requires : goal.put_forms-requires
put_forms-requires c = (c.in-Ok.ensures, c.if-program-needed.false)

pub returns : goal.returns
returns c =
    let a = c.args in
    assembles a.text.now a.program.now c.in-Ok.lines c.in-Ok.ensures c.if-program-needed.false refl c.put_forms.ensures
