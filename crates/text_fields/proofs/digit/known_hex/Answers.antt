-- `digit::known_hex` meets its contract: the low four bits, and 9 more for a letter.
use Rattle.text_fields.proofs.HexRanges.{hex_known}
use mathlib.Core.Path.{refl}
use Rattle.text_fields.proofs.digit.known_hex.Goals as goal

pub returns : goal.returns
returns c =
    let e = hex_known c.args.byte c.requires in
    rw (c.from-b.ensures, e) (refl, c.requires)
