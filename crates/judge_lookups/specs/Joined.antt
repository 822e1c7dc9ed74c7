-- Inner: the memory that two buffers hold, as one.
-- Declared in src/: buffers (here).
use Rattle.std.specs.Prelude.{ℕ, List, ◌++◌}
use Rattle.judge_lookups.specs.declared.buffers.Memory.{Memory}

-- the bytes of the two buffers, one behind the other
abbrev pub joined : Memory → List ℕ
joined m = m.public.now ++ m.rest.now
