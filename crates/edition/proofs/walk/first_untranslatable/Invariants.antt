-- Each instruction passed is translatable, and the walk stops at the first that isn't.
use Rattle.std.proofs.Common.{◌*◌}
use Rattle.edition_machine.specs.Encoding.{encoded_at}
use Rattle.edition_spec.specs.Translatable.{translatable}
use Rattle.edition_spec.specs.Translated.{old_count, first_untranslatable}
use Rattle.inputs.proofs.Walks.{Walk}
use Rattle.edition.proofs.walk.first_untranslatable.Given as goal

abbrev pub invariant-loop-i : goal.invariant-loop-i
invariant-loop-i l = Walk (λ j. translatable (encoded_at l.old (56 * j))) (old_count l.old) (first_untranslatable l.old) l.i
