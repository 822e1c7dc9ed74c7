-- The reading of the fields keeps the relation, so it is the pattern's.
use Rattle.text_fields.proofs.One.{read_told}
use Rattle.listing_line.proofs.read_line.Goals as goal

pub returns-clause-told : goal.returns-clause-told
returns-clause-told c = read_told _ _ _ _ c.read_fields.ensures
