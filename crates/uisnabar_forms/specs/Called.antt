-- Document 02, M-100, for C: a grid's bytes after a list of calls that count into it, each with an answer buffer that
-- fits.
use Rattle.std.specs.Prelude.{ℕ, List, [], ◌∷◌, replicate}
use Rattle.rules.specs.Sizes.{Parts}
use Rattle.reply.specs.Reply.{answer_bytes}
use Rattle.uisnabar_forms.specs.CountCall.{count_grid_left}

abbrev pub called : List ℕ → List Parts → List ℕ
called grid [] = grid
called grid (q ∷ qs) = called (count_grid_left q grid (replicate answer_bytes 0)) qs
