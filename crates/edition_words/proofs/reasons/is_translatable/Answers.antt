-- Each test is what its function promises, and the test of DEREF picks the same one of the flags and AUX_1.
use borrow.Author.Tests.{ne_eqb}
use mathlib.Core.Bool.{cond}
use mathlib.Core.Path.{◌≡◌, ◌∙◌}
use lib.Dec.{eqb}
use Rattle.edition_spec.specs.Translatable.{deref_fixed, translatable}
use Rattle.edition_words.proofs.reasons.is_translatable.Goals as goal
use Rattle.edition_words.proofs.reasons.is_translatable.Goals.{then-e-eq1, else-e-eq1}

pub returns : goal.returns
unfolding translatable
returns c =
    let e = c.args.e in
    let picked : c.if-e-eq1.fixed ≡ cond (eqb e.deref 1) (deref_fixed e) (eqb e.aux1 0) =
    elim c.if-e-eq1.branch [
      | then-e-eq1 w ↦ w.fixed-is ∙ w.deref_fixed-fixed.ensures ∙ rw w.if-e-eq1.true
      | else-e-eq1 w ↦ w.fixed-is ∙ rw (ne_eqb _ _ w.if-e-eq1.false)
    ] in
    rw (c.no_precompile.ensures, c.flags_known.ensures, c.one_opcode.ensures, picked)
