-- `answer::refusal_numbers` meets its contract: in each arm the variant is known, and `four` or `six` gives its
-- numbers.
use borrow.Author.Rules.{rules}
use Rattle.answer.proofs.refusal_numbers.Goals as goal

pub returns-in-Size : goal.returns-in-Size
returns-in-Size c = rw (c.four.ensures, c.in-Size.is)

pub returns-in-Word : goal.returns-in-Word
returns-in-Word c = rw (c.four-in-Word.ensures, c.in-Word.is)

pub returns-in-Instruction : goal.returns-in-Instruction
returns-in-Instruction c = rw (c.four-in-Instruction.ensures, c.in-Instruction.is)

pub returns-in-Start : goal.returns-in-Start
returns-in-Start c = rw (c.four-in-Start.ensures, c.in-Start.is)

pub returns-in-Exec : goal.returns-in-Exec
returns-in-Exec c = rw (c.six.ensures, c.in-Exec.is)

pub returns-in-Extension : goal.returns-in-Extension
returns-in-Extension c = rw (c.six-in-Extension.ensures, c.in-Extension.is)

pub returns-in-Bus : goal.returns-in-Bus
returns-in-Bus c = rw (c.four-in-Bus.ensures, c.in-Bus.is)

pub returns-in-Label : goal.returns-in-Label
returns-in-Label c = rw (c.four-in-Label.ensures, c.in-Label.is)

pub returns-in-Stuck : goal.returns-in-Stuck
returns-in-Stuck c = rw (c.four-in-Stuck.ensures, c.in-Stuck.is)

pub returns-in-Room : goal.returns-in-Room
returns-in-Room c = rw (c.four-in-Room.ensures, c.in-Room.is)

pub returns-in-Open : goal.returns-in-Open
returns-in-Open c = rw (c.four-in-Open.ensures, c.in-Open.is)

pub returns-in-Buffer : goal.returns-in-Buffer
returns-in-Buffer c = rw (c.four-in-Buffer.ensures, c.in-Buffer.is)

pub returns-in-Grid : goal.returns-in-Grid
returns-in-Grid c = rw (c.four-in-Grid.ensures, c.in-Grid.is)

pub returns-in-Edition : goal.returns-in-Edition
returns-in-Edition c = rw (c.four-in-Edition.ensures, c.in-Edition.is)

pub returns-in-Listing : goal.returns-in-Listing
returns-in-Listing c = rw (c.four-in-Listing.ensures, c.in-Listing.is)

pub returns-in-Short : goal.returns-in-Short
returns-in-Short c = rw (c.four-in-Short.ensures, c.in-Short.is)

pub returns-in-Host : goal.returns-in-Host
returns-in-Host c = rw (c.four-in-Host.ensures, c.in-Host.is)

pub returns-in-ListShort : goal.returns-in-ListShort
returns-in-ListShort c = rw (c.four-in-ListShort.ensures, c.in-ListShort.is)
