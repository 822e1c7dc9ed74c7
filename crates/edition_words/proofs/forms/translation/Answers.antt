-- The test of DEREF picks the same instruction in `translated`.
use borrow.Author.Tests.{ne_eqb}
use Rattle.edition_spec.specs.Translation.{translated}
use Rattle.edition_words.proofs.forms.translation.Goals as goal

pub returns-then-e-eq1 : goal.returns-then-e-eq1
unfolding translated
returns-then-e-eq1 c = rw (c.exchange.ensures, c.if-e-eq1.true)

pub returns-else-e-eq1 : goal.returns-else-e-eq1
unfolding translated
returns-else-e-eq1 c = rw (c.carry.ensures, ne_eqb _ _ c.if-e-eq1.false)
