-- The invariant: the state is the one after k cells, and the first k cells are those drawn.
use mathlib.Core.Path.{◌≡◌, refl, sym, ◌∙◌}
use Prim.Native.Nat.{◌%◌}
use native.Mathlib.Omega.{arith}
use lib.ListN.{length-set}
use lib.Seq.{take_all}
use Rattle.word.specs.Word.{p}
use Rattle.word.specs.Bytes.{concatenated}
use Rattle.maker_draws.specs.Drawn.{after_cells, draws_of}
use Rattle.maker_draws.proofs.Cells.{after_cell_lem, cell_drawn, stored}
use Rattle.maker_draws.proofs.begin.Goals as goal

pub loop-k-init : goal.loop-k-init
unfolding after_cells concatenated
loop-k-init c = record { long = refl; state = refl; cells = refl }

pub loop-k-preserved : goal.loop-k-preserved
loop-k-preserved c =
    let l = c.loop-k in
    let version = c.args.version in
    let seed = c.args.generator.now.state in
    let d = c.draw_cell.ensures in
    let e : c.draw_cell.result % p ≡ (draws_of version seed).cell l.k = rw (d.0, l.invariant.state) (cell_drawn version seed l.k) in
    record {
      long = simp length-set l.invariant.long;
      state = rw (d.1, l.invariant.state) (sym (after_cell_lem version seed l.k));
      cells = rw e (stored version seed l.cells l.k (omega (arith, c.loop-k-test.true, l.invariant.long)) l.invariant.cells);
    }

pub returns : goal.returns
returns c =
    let l = c.loop-k in
    let e : l.k ≡ 32 = omega arith in
    let next = rw e at l.invariant.state in
    (sym (take_all 32 l.cells (omega (arith, l.invariant.long))) ∙ (rw e at l.invariant.cells), λ x. record { state = next x })
