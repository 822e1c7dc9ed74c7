-- `stream::leap` meets its contract: the bits that are left lead from here to where all of them lead from the start.
use Rattle.std.proofs.Common.{◌≡◌, ◌*◌, ◌^◌, ◌<◌}
use Rattle.stream_spec.specs.Stream.{advances}
use Rattle.stream.proofs.leap.Given as goal

abbrev pub invariant-loop-i : goal.invariant-loop-i
invariant-loop-i l =
    (l.left * 2 ^ l.i < 2 ^ 64) × (advances (l.k * 2 ^ l.from) l.s ≡ advances (l.left * 2 ^ l.i) l.state)
