-- All sixteen are read, or they are read one by one.
use mathlib.Core.Path.{sym, ◌∙◌}
use borrow.Author.Rules.{rules}
use Rattle.text_fields.proofs.One.{read_told}
use Rattle.text_fields.proofs.hex.read_hex.Goals as goal

pub hex_number-requires : goal.hex_number-requires
hex_number-requires c = (search rules, sym c.all_hex.ensures ∙ c.if-all_hex.true)

pub returns-then-all_hex-clause-read : goal.returns-then-all_hex-clause-read
returns-then-all_hex-clause-read c = record { inside = search rules; read = c.hex_number.ensures }

pub returns-then-all_hex-clause-told : goal.returns-then-all_hex-clause-told
returns-then-all_hex-clause-told c = read_told _ _ _ _ (returns-then-all_hex-clause-read c)

pub returns-clause-told : goal.returns-clause-told
returns-clause-told c = read_told _ _ _ _ c.hex_by_digit.ensures
