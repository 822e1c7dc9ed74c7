-- `grid_bytes::write_grid` meets its contract: the bytes of the counters below k are written.
use borrow.Author.Rules.{rules}
use mathlib.Core.Path.{◌≡◌, sym, ap, ◌∙◌}
use Prim.Native.Nat.{◌+◌, ◌*◌, ◌≤◌}
use native.Mathlib.Omega.{arith}
use lib.ListN.{length, get_or}
use lib.Seq.{take_all}
use Rattle.word.specs.Bytes.{concatenated}
use Rattle.long.specs.Long.{long_bytes}
use Rattle.grid_bytes.specs.GridBytes.{grid_bytes}
use Rattle.grid_bytes.proofs.Steps.{put_length, write_next}
use Rattle.grid_bytes.proofs.write_grid.Goals as goal

pub loop-k-init : goal.loop-k-init
unfolding concatenated
loop-k-init c = search rules

pub loop-k-preserved : goal.loop-k-preserved
loop-k-preserved c =
    let l = c.loop-k in
    let b = c in
    let put = c.put_long in
    let room : 8 * l.k + 8 ≤ length l.bytes = omega (arith, b.requires) in (
      ap length put.ensures ∙ put_length l.bytes (8 * l.k) _ room ∙ l.invariant.0,
      rw put.ensures (write_next l.bytes b.args.grid l.k room l.invariant.1),
    )

pub returns : goal.returns
unfolding grid_bytes
returns c =
    let l = c.loop-k in
    let b = c in
    let e : l.k ≡ 135 = omega arith in
    let whole : length l.bytes ≤ 8 * l.k = omega (arith, b.requires) in
    sym (take_all (8 * l.k) l.bytes whole) ∙ l.invariant.1 ∙ ap (concatenated (λ j. long_bytes (get_or b.args.grid j 0))) e
