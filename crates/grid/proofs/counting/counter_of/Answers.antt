-- `grid::counting::counter_of` meets its contract: the words of a well-formed instruction give its counter.
use mathlib.Core.Path.{sym}
use Rattle.grid.proofs.Words.{by_words}
use Rattle.grid.proofs.counting.counter_of.Goals as goal

pub returns : goal.returns
returns c =
    let b = c in
    rw (c.kind_number.ensures, c.mode_number.ensures.0, c.mode_number-2.ensures.0, c.mode_number-3.ensures.0)
    (sym (by_words b.args.i b.requires).is)

pub kind_number-requires : goal.kind_number-requires
kind_number-requires c = record {
  aux_bound = ((by_words c.args.i c.requires).few).0;
  aux_bound_2 = ((by_words c.args.i c.requires).few).1;
}

pub mode_number-requires : goal.mode_number-requires
mode_number-requires c = (by_words c.args.i c.requires).flags.a

pub mode_number-requires-2 : goal.mode_number-requires-2
mode_number-requires-2 c = (by_words c.args.i c.requires).flags.b

pub mode_number-requires-3 : goal.mode_number-requires-3
mode_number-requires-3 c = (by_words c.args.i c.requires).flags.c
