-- Every slot starts at 2^31.
use lib.ListN.{get_or-replicate}
use Rattle.bus_windows.proofs.Windows.{starts}
use Rattle.bus_windows.proofs.sender.Senders.count_and_look.Goals as goal

pub count_pushes-requires : goal.count_pushes-requires
count_pushes-requires c = λ s h. starts _ _ s _ (get_or-replicate 1024 s 2147483648 0 h)
