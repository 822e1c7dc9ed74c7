-- `digit::is_hex` meets its contract: the two ranges are those of the hex digits.
use Rattle.text_fields.proofs.HexRanges.{hex_ranges}
use Rattle.text_fields.proofs.digit.is_hex.Goals as goal

pub returns : goal.returns
returns c = hex_ranges c.args.byte
