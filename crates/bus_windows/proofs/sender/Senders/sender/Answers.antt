-- Sender j is the row that the code reads.
use borrow.Author.Tests.{lt-ltb, le-ltb}
use Rattle.bus_windows.specs.Senders.{sending_of}
use Rattle.bus_windows.proofs.sender.Senders.sender.Goals as goal

pub returns-then-j-h : goal.returns-then-j-h
unfolding sending_of
returns-then-j-h c = rw (lt-ltb _ _ c.if-j-h.true) c.pusher.ensures

pub returns : goal.returns
unfolding sending_of
returns c = rw (le-ltb _ _ c.if-j-h.false) c.puller.ensures
