-- The rows of an accepted table are listed.
-- Assumes nothing.
use mathlib.Core.Path.{◌≡◌}
use Rattle.word.proofs.Tests.{is_true}
use Rattle.rules.specs.Sizes.{Parts}
use Rattle.answer.specs.Answers.{Accepted}
use Rattle.judge_spec.specs.Judged.{judge_of}
use Rattle.judge_spec.proofs.Exactly.{accepted_satisfies}
use Rattle.judge_spec.proofs.AcceptedRows.{pc_in_program}
use Rattle.bus_tuples.specs.Ready.{Listed}

pub accepted_listed : (q : Parts) → judge_of q ≡ Accepted → Listed q.program q.exec
accepted_listed q e =
    record {
      formed = λ i h. is_true _ ((accepted_satisfies q e).instructions i h);
      inside = pc_in_program q e;
    }
