-- Each coordinate is the word that its call read.
use mathlib.Core.Path.{refl}
use Rattle.word.proofs.Lists.{◌∷≡◌}
use Rattle.rows.specs.Rows.{five_at}
use Rattle.rows.proofs.extension.five_inside.Goals as goal

pub returns : goal.returns
unfolding five_at
returns c = c.word_inside.ensures ∷≡ c.word_inside-2.ensures ∷≡ c.word_inside-3.ensures ∷≡ c.word_inside-4.ensures ∷≡ c.word_inside-5.ensures ∷≡ refl
