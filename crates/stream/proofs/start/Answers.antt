-- `stream::start` meets its contract: HOST from 2^24 on, else a leap from bit 40 on.
use Rattle.std.proofs.Common.{le-ltb, lt-ltb}
use Rattle.stream_spec.specs.Host.{hosts, start_of}
use Rattle.stream.proofs.start.Goals as goal

pub returns-then-host-ge16777216 : goal.returns-then-host-ge16777216
unfolding start_of
returns-then-host-ge16777216 c =
    let far = le-ltb c.args.host hosts c.if-host-ge16777216.true in record {
      value = rw far;
      generator_after = rw far;
    }

pub returns : goal.returns
unfolding start_of
returns c =
    let near = lt-ltb c.args.host hosts c.if-host-ge16777216.false in record {
      value = rw near;
      generator_after = rw (near, c.leap-generator.ensures);
    }
