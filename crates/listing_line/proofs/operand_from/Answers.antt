use Rattle.listing_line.proofs.operand_from.Goals as goal

pub returns : goal.returns
returns c = rw c.mode_of.ensures
