-- In each arm the kind is known. From frame 0 an offset is the cell's number.
use Prim.Native.Nat.{◌+◌}
use native.Mathlib.Omega.{arith}
use Rattle.word.proofs.WordLaws.{difference_zero}
use Rattle.maker_spec.specs.Made.{slot}
use Rattle.maker.proofs.instructions.made_words.Goals as goal

pub returns-in-Add : goal.returns-in-Add
returns-in-Add c =
    let s = c.args in
    rw (c.in-Add.is, difference_zero s.a (omega arith), difference_zero s.c (omega arith), difference_zero (slot s.i) (omega arith))

pub returns-in-Mul : goal.returns-in-Mul
returns-in-Mul c =
    let s = c.args in
    rw (c.in-Mul.is, difference_zero s.a (omega arith), difference_zero s.c (omega arith), difference_zero (slot s.i) (omega arith))

pub returns-in-Deref : goal.returns-in-Deref
returns-in-Deref c =
    let s = c.args in
    rw (c.in-Deref.is, difference_zero (slot s.i) (omega arith), difference_zero (slot s.i + 1) (omega arith))

pub returns-in-Jump : goal.returns-in-Jump
returns-in-Jump c = rw c.in-Jump.is

pub returns-in-Extension : goal.returns-in-Extension
returns-in-Extension c = rw (c.in-Extension.is, ← c.data_of.ensures)
