-- By the tests of the cells and of the room; the result is asked for either way.
use mathlib.Core.Path.{◌≡◌, refl, sym, ◌∙◌}
use borrow.Author.Rules.{rules}
use Rattle.std.specs.Prelude.{Err}
use Rattle.tabler_step.specs.declared.Halt.TheVariants.{Stuck}
use native.Mathlib.Omega.{arith}
use mathlib.Core.Bool.{true, false}
use Rattle.rules.specs.Sizes.{word_of}
use Rattle.tabler_operands.specs.Elements.{result_holds}
use Rattle.tabler_operands.specs.Looked.{at}
use Rattle.tabler_rows.specs.Placed.{group_bytes}
use Rattle.tabler_step.proofs.Rooms.{halts, no_room, with_group}
use Rattle.tabler_step.proofs.extend.Goals as goal

pub returns-in_err-ask : goal.returns-in_err-ask
returns-in_err-ask c =
    let out : c.from_residual.result ≡ Err (Stuck 7) = search rules in
    rw (sym c.cells_exist.ensures ∙ c.in_err-ask.ensures.err.0) (halts 7 refl out _ _ _ _)

pub result_holds-requires : goal.result_holds-requires
result_holds-requires c = record { short = c.requires.short; exists = sym c.cells_exist.ensures ∙ c.in_ok-ask.ensures.ok }

pub returns-in_err-ask-2 : goal.returns-in_err-ask-2
returns-in_err-ask-2 c =
    let a = c.args in
    let cell = word_of a.memory.now in
    let fails : result_holds cell a.g ≡ false = sym c.result_holds.ensures ∙ c.in_err-ask-2.ensures.err.0 in
    let out : c.from_residual-in_err-ask-2.result ≡ Err (Stuck 8) = search rules in
    rw (sym c.cells_exist.ensures ∙ c.in_ok-ask.ensures.ok)
    (no_room (result_holds cell a.g) (at a.s.pc a.s.fp) _ _ _ (group_bytes cell a.g) c.if-room-after.true (rw fails out))

pub returns-then-room-after : goal.returns-then-room-after
returns-then-room-after c =
    let a = c.args in
    let cell = word_of a.memory.now in
    let holds : result_holds cell a.g ≡ true = sym c.result_holds.ensures ∙ c.in_ok-ask-2.ensures.ok in
    rw (sym c.cells_exist.ensures ∙ c.in_ok-ask.ensures.ok)
    (no_room (result_holds cell a.g) (at a.s.pc a.s.fp) _ _ _ (group_bytes cell a.g) c.if-room-after.true (rw holds refl))

pub group_holds-holds-requires : goal.group_holds-holds-requires
group_holds-holds-requires c =
    (omega (arith, c.if-room-after.false), record { short = c.requires.short; exists = sym c.cells_exist.ensures ∙ c.in_ok-ask.ensures.ok })

pub returns : goal.returns
returns c =
    let a = c.args in
    let g = c.group_holds-holds.ensures in
    let cell = word_of a.memory.now in
    rw (sym c.cells_exist.ensures ∙ c.in_ok-ask.ensures.ok)
    (with_group (result_holds cell a.g) (at a.s.pc a.s.fp) _ _ _ (group_bytes cell a.g) c.if-room-after.false (rw g.value at c.forward_if.ensures) g.ext_after)
