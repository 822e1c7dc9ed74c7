-- `element::fold::ended` meets its contract: word by word.
-- Assumes nothing.
use mathlib.Core.Path.{refl}
use Rattle.word.proofs.Lists.{◌∷≡◌}
use Rattle.word.specs.Element.{◌+ₑ◌, ◌·ₑ◌}
use Rattle.element.proofs.fold.ended.Goals as goal

pub returns : goal.returns
unfolding ◌+ₑ◌ ◌·ₑ◌
returns c =
    c.last.ensures
    ∷≡ c.last-2.ensures
    ∷≡ c.last-3.ensures
    ∷≡ c.last-4.ensures
    ∷≡ c.last-5.ensures
    ∷≡ refl

pub last-requires : goal.last-requires
last-requires c = (c.requires.0, c.requires.1.all_words 0)

pub last-requires-2 : goal.last-requires-2
last-requires-2 c = (c.requires.0, c.requires.1.all_words 1)

pub last-requires-3 : goal.last-requires-3
last-requires-3 c = (c.requires.0, c.requires.1.all_words 2)

pub last-requires-4 : goal.last-requires-4
last-requires-4 c = (c.requires.0, c.requires.1.all_words 3)

pub last-requires-5 : goal.last-requires-5
last-requires-5 c = (c.requires.0, c.requires.1.all_words 4)
