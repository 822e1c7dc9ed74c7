-- Each group is passed but the one of rules 6 to 9.
use mathlib.Core.Path.{◌∙◌}
use Rattle.judge_lookups.proofs.Quick.{never}
use Rattle.judge_ext.proofs.ext_quick.others_hold.Goals as goal

pub returns : goal.returns
returns c e =
    let else2 = c in
    let else1 = else2 in
    rw (c.followed.ensures e)
    (else1.lookups_hold.ensures (else1.if-not-lookups_hold.false) _ ∙ else2.all_bits.ensures (else2.if-not-all_bits.false) _)

pub returns-then-not-lookups_hold : goal.returns-then-not-lookups_hold
returns-then-not-lookups_hold c = never

pub returns-then-not-all_bits : goal.returns-then-not-all_bits
returns-then-not-all_bits c = never
