-- In each arm the kind is known; an extension fills five cells, and the last three are 0.
use lib.Dec.{lit≤}
use Rattle.maker.proofs.Eight.{slot_extension}
use Rattle.maker.specs.Inner.{cell_in}
use Rattle.maker.proofs.slots.slot_words.Goals as goal

pub returns-in-Add : goal.returns-in-Add
returns-in-Add c = rw (c.in-Add.is, c.add.ensures)

pub returns-in-Mul : goal.returns-in-Mul
returns-in-Mul c = rw (c.in-Mul.is, c.mul.ensures)

pub returns-in-Deref : goal.returns-in-Deref
returns-in-Deref c = rw c.in-Deref.is

pub returns-in-Jump : goal.returns-in-Jump
returns-in-Jump c = rw c.in-Jump.is

pub returns-in-Extension : goal.returns-in-Extension
returns-in-Extension c =
    let s = c.args in
    rw (c.in-Extension.is, c.result_of-e.ensures) (slot_extension (cell_in s.cells.now) 4 s.a s.c (lit≤ tt))
