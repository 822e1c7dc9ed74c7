-- Where the last cell is there the others are too; else nothing is said.
use mathlib.Core.Path.{◌∙◌}
use Prim.Native.Nat.{◌+◌, ◌/◌, ◌<◌}
use native.Mathlib.Omega.{arith}
use lib.ListN.{length}
use Rattle.rows.specs.Rows.{five_words}
use Rattle.rules.specs.Sizes.{word_of}
use Rattle.judge_lookups.proofs.Cells.{cell_there, cell_gone, found_inside, found_outside, five_differing}
use Rattle.judge_lookups.specs.Joined.{joined}
use Rattle.judge_lookups.proofs.buffers.Memory.found_five.Goals as goal

pub returns-then-not-there : goal.returns-then-not-there
returns-then-not-there c =
    let s = c.args in
    let gone = cell_gone (joined s.self) (s.addr + 4) c.there.ensures c.if-not-there.true in
    c.nothing.ensures ∙ found_outside (joined s.self) s.addr (five_words s.a) (omega (arith, gone))

pub returns : goal.returns
returns c =
    let last_there : (let s = c.args in s.addr + 4 < length (joined s.self) / 4) = (let s = c.args in cell_there (joined s.self) (s.addr + 4) c.there.ensures c.if-not-there.false) in
    let second = c in
    let third = second in
    let fourth = third in
    let fifth = fourth in
    let else1 = fifth in
    let s = else1.args in
    five_differing (word_of (joined s.self)) s.addr s.a
    (rw fifth.nothing-2.ensures at fifth.compared_at-fifth.ensures)
    fourth.compared_at-fourth.ensures
    third.compared_at-third.ensures
    second.compared_at-second.ensures
    c.compared_at.ensures
    ∙ found_inside (joined s.self) s.addr (five_words s.a) (omega (arith, last_there))

pub compared_at-fifth-requires : goal.compared_at-fifth-requires
compared_at-fifth-requires c = let s = c.args in cell_there (joined s.self) (s.addr + 4) c.there.ensures c.if-not-there.false

pub compared_at-fourth-requires : goal.compared_at-fourth-requires
compared_at-fourth-requires c = let s = c.args in omega (arith, cell_there (joined s.self) (s.addr + 4) c.there.ensures c.if-not-there.false)

pub compared_at-third-requires : goal.compared_at-third-requires
compared_at-third-requires c = let s = c.args in omega (arith, cell_there (joined s.self) (s.addr + 4) c.there.ensures c.if-not-there.false)

pub compared_at-second-requires : goal.compared_at-second-requires
compared_at-second-requires c = let s = c.args in omega (arith, cell_there (joined s.self) (s.addr + 4) c.there.ensures c.if-not-there.false)

pub compared_at-requires : goal.compared_at-requires
compared_at-requires c = let s = c.args in omega (arith, cell_there (joined s.self) (s.addr + 4) c.there.ensures c.if-not-there.false)
