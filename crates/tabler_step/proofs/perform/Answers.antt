-- In each arm the kind is known, and what it asks is what the calls compute; only an extension step writes.
use mathlib.Core.Path.{refl}
use Rattle.form.specs.declared.Kind.TheVariants.{Add, Mul, Deref, Jump}
use Rattle.tabler_step.specs.Taken.{kind_bytes}
use Rattle.tabler_step.proofs.Rooms.{no_bytes, no_group}
use Rattle.tabler_step.proofs.perform.Goals as goal

pub returns-in-Add : goal.returns-in-Add
returns-in-Add c =
    let s = c in
    rw c.in-Add.is
    (no_group _ _ _ s.requires.room (rw c.add.ensures at c.forward_if.ensures) (no_bytes _ Add _ refl))

pub returns-in-Mul : goal.returns-in-Mul
returns-in-Mul c =
    let s = c in
    rw c.in-Mul.is
    (no_group _ _ _ s.requires.room (rw c.mul.ensures at c.forward_if-in-Mul.ensures) (no_bytes _ Mul _ refl))

pub returns-in-Deref : goal.returns-in-Deref
returns-in-Deref c =
    let s = c in
    let told = c.in-Deref.is in
    rw told (no_group _ _ _ s.requires.room c.forward_if-in-Deref.ensures (no_bytes _ Deref _ refl))

pub returns-in-Jump : goal.returns-in-Jump
returns-in-Jump c =
    let s = c in
    rw c.in-Jump.is (no_group _ _ _ s.requires.room c.jump.ensures (no_bytes _ Jump _ refl))

pub returns-in-Extension : goal.returns-in-Extension
unfolding kind_bytes
returns-in-Extension c = rw c.in-Extension.is c.extend.ensures
