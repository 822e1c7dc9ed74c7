-- What is left of the steps gives the whole answer, and the steps left stay within the slots.
use Rattle.std.proofs.Common.{◌≡◌, ◌+◌, ◌-◌, ◌*◌, ◌<◌, ◌≤◌}
use Rattle.bus_search.specs.Slots.{descended}
use Rattle.bus_search.proofs.Window.place.Given as goal

abbrev pub invariant-loop-k : goal.invariant-loop-k
invariant-loop-k l = record {
  inside : l.at < 1024;
  within : l.at + 2 * l.step ≤ 1024;
  left : descended l.self.slots l.key 10 0 512 ≡ descended l.self.slots l.key (10 - l._k) l.at l.step;
}
