-- Document 01, "Draws, recipe, label", as it was before M-103: every draw is kept, and all are numbered from 0. First
-- 32 cells, then three for each instruction.
use Rattle.std.specs.Prelude.{ℕ, ◌+◌, ◌*◌, ◌%◌}
use Rattle.word.specs.Word.{p}
use Rattle.maker_draws.specs.Drawn.{Draws, drawn}

abbrev pub plain_draws : ℕ → Draws
plain_draws seed =
    record {
      cell = λ k. drawn seed k % p;
      kind = λ i. drawn seed (32 + 3 * i) % 5;
      a = λ i. drawn seed (33 + 3 * i) % 32;
      c = λ i. drawn seed (34 + 3 * i) % 32;
    }
