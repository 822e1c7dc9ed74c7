-- One test covers the row; each column is one of the five words that its call read.
use lib.Dec.{lit<}
use Rattle.rows.proofs.Reading.{ext_of_fives}
use Rattle.rows.proofs.extension.ext_inside.Goals as goal

pub returns : goal.returns
returns c =
    ext_of_fives c.args.s.now c.args.at
    c.five_inside-first.ensures
    c.five_inside-second.ensures
    c.five_inside.ensures
    c.five_inside-2.ensures
    c.five_inside-3.ensures
    c.five_inside-4.ensures

pub bounds-first-0 : goal.bounds-first-0
bounds-first-0 c = lit< tt

pub bounds-first-1 : goal.bounds-first-1
bounds-first-1 c = lit< tt

pub bounds-first-2 : goal.bounds-first-2
bounds-first-2 c = lit< tt

pub bounds-first-3 : goal.bounds-first-3
bounds-first-3 c = lit< tt

pub bounds-first-4 : goal.bounds-first-4
bounds-first-4 c = lit< tt

pub bounds-second-0 : goal.bounds-second-0
bounds-second-0 c = lit< tt

pub bounds-second-1 : goal.bounds-second-1
bounds-second-1 c = lit< tt

pub bounds-second-2 : goal.bounds-second-2
bounds-second-2 c = lit< tt

pub bounds-second-3 : goal.bounds-second-3
bounds-second-3 c = lit< tt

pub bounds-second-4 : goal.bounds-second-4
bounds-second-4 c = lit< tt
