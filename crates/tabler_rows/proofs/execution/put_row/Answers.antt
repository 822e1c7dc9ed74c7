-- The row's bytes come back in the place of as many.
use mathlib.Core.List.{List}
use mathlib.Core.Path.{ap, ◌∙◌}
use Prim.Native.Nat.{ℕ, ◌+◌, ◌*◌}
use Rattle.rows.specs.Rows.{exec_words}
use Rattle.tabler_rows.specs.Placed.{exec_bytes, placed}
use Rattle.tabler_rows.proofs.Lent.{put_bytes}
use Rattle.tabler_rows.proofs.execution.put_row.Goals as goal

pub returns : goal.returns
returns c =
    let row = c.row_of-row in
    let s = c in
    let a = s.args in
    let at = 32 * a.r in
    let x = c.put_exec in
    ap (λ (l : List ℕ). placed a.exec.now at (at + 32) l)
    (put_bytes a.exec.now x.new.s (exec_words row.result) at 32 s.requires x.ensures ∙ ap exec_bytes row.ensures)
