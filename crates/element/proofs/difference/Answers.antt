-- `element::difference` meets its contract: place by place.
-- Assumes nothing.
use borrow.Author.Rules.{rules}
use Rattle.word.specs.Word.{◌-ₚ◌}
use Rattle.word.specs.Element.{◌⟨◌⟩, ◌-ₑ◌}
use Rattle.element.proofs.Places.{five}
use Rattle.element.proofs.difference.Goals as goal

pub returns : goal.returns
unfolding ◌-ₑ◌
returns c = five (λ k. c.args.a ⟨ k ⟩ -ₚ c.args.b ⟨ k ⟩) _ (search rules) c.by_place.ensures
