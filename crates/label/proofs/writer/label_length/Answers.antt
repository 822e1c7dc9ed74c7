-- One, two or three digits of n.
use mathlib.Core.Path.{sym}
use native.Mathlib.Omega.{arith}
use Rattle.label.proofs.Length.{long_35, long_36, long_37}
use Rattle.label.proofs.writer.label_length.Goals as goal

pub returns-in-0-to-9 : goal.returns-in-0-to-9
returns-in-0-to-9 c = (sym (long_35 c.args.recipe c.requires (omega arith)), omega arith)

pub returns-in-10-to-99 : goal.returns-in-10-to-99
returns-in-10-to-99 c = (sym (long_36 c.args.recipe c.requires (omega arith) (omega arith)), omega arith)

pub returns-in_default : goal.returns-in_default
returns-in_default c = (sym (long_37 c.args.recipe c.requires (omega arith)), omega arith)
