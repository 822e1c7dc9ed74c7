-- Before each turn the senders below r are counted: the execution rows come first.
use Rattle.bus_windows.specs.Senders.{given_of, tables_of}
use Rattle.bus_windows.specs.Window.{Counted}
use Rattle.bus_windows.proofs.sender.Senders.count_pushes.Given as goal

abbrev pub invariant-loop-r : goal.invariant-loop-r
invariant-loop-r l = Counted (given_of l.self) (tables_of l.self) l.window l.net (l.r)
