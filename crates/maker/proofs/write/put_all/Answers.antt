-- The invariant: the state is the one 3i draws after the cells, i instructions and 32 + 8i cells stand at the front of
-- their buffers, and behind them what stood there. The laws of Filling take what they need: an `omega` here would read
-- every place before it.
use mathlib.Core.List.{◌++◌}
use mathlib.Core.Path.{refl, ◌≡◌, ap, ◌∙◌}
use Prim.Native.Nat.{◌+◌, ◌*◌}
use native.Mathlib.Omega.{arith}
use lib.ListN.{length, drop}
use Rattle.word.specs.Bytes.{concatenated}
use Rattle.maker.proofs.Filling.{program_on, memory_on, begun_room, begun_lent, cells_begun, first_length, program_room, memory_room, below, fewer}
use Rattle.maker_spec.specs.Bytes.{recipe_draws}
use Rattle.draw.specs.declared.Generator.{Generator}
use Rattle.maker_draws.proofs.Drawing.{three_drawn}
use Rattle.maker_draws.proofs.Cells.{begun_long, begun_cell, begun_state}
use Rattle.maker_draws.specs.Drawn.{Three, drawn_number}
use Rattle.maker.proofs.Parts.{behind}
use Rattle.maker.proofs.write.put_all.Goals as goal

pub slice_bounds-put_words-end-3 : goal.slice_bounds-put_words-end-3
slice_bounds-put_words-end-3 c = omega (arith, begun_lent c.args.memory.now c.args.recipe.n c.requires.2)

pub put_words-requires : goal.put_words-requires
put_words-requires c =
    let cells = rw c.new-generator.ensures at c.begin-cells.ensures.0 in
    begun_lent c.args.memory.now c.args.recipe.n c.requires.2 ∙ rw (begun_long _ _ _ cells)

pub loop-i-init : goal.loop-i-init
unfolding concatenated
loop-i-init c =
    let s = c.args in
    let cells = rw c.new-generator.ensures at c.begin-cells.ensures.0 in
    let next = rw c.new-generator.ensures at c.begin-cells.ensures.1 in
    let long = begun_long _ _ _ cells in
    let same = begun_cell _ _ _ cells in
    record {
      state = begun_state _ _ _ next;
      program = refl;
      memory = cells_begun (recipe_draws s.recipe) s.recipe.n s.memory.now c.begin-cells.result c.put_words.new.s long same c.put_words.ensures;
    }

pub put_one-requires : goal.put_one-requires
put_one-requires c =
    let l = c.loop-i in
    let t = c.loop-i-test.true in
    let s = c.args in
    let n = s.recipe.n in
    let d = c.draw_three-drawn in
    let cells = rw c.new-generator.ensures at c.begin-cells.ensures.0 in
    let long = begun_long _ _ _ cells in
    let room = begun_room (recipe_draws s.recipe) n s.memory.now c.begin-cells.result long c.put_words.ensures c.requires.2 in (
      fewer l.i n t c.requires.0,
      below d.result.a _ d.ensures.1,
      below d.result.c _ d.ensures.2,
      program_room l.i n (length s.program.now) (length l.program) t c.requires.1 l.auto.program,
      memory_room l.i n (length (c.put_words.new.s ++ drop 128 s.memory.now)) (length l.memory) t room l.auto.memory,
    )

pub loop-i-preserved : goal.loop-i-preserved
loop-i-preserved c =
    let l = c.loop-i in
    let t = c.loop-i-test.true in
    let s = c.args in
    let n = s.recipe.n in
    let draws = recipe_draws s.recipe in
    let cells = rw c.new-generator.ensures at c.begin-cells.ensures.0 in
    let long = begun_long _ _ _ cells in
    let same = begun_cell _ _ _ cells in
    let room = begun_room draws n s.memory.now c.begin-cells.result long c.put_words.ensures c.requires.2 in
    let three = three_drawn s.recipe.version s.recipe.seed l.i l.generator l.invariant.state in
    let d = c.draw_three-drawn.result in
    let is = c.draw_three-drawn.ensures in
    let kind = is.0 ∙ ap (λ (x : Three). x.kind) three in
    let a = is.1 ∙ ap (λ (x : Three). x.a) three in
    let c' = is.2 ∙ ap (λ (x : Three). x.c) three in
    let put = c.put_one.ensures in
    let program = program_on draws n l.i (drawn_number d.kind) d.a d.c t kind a c' s.program.now l.program c.requires.1 l.invariant.program put.0 in
    let memory =
    memory_on draws n l.i (drawn_number d.kind) d.a d.c t kind a c' c.begin-cells.result same (below d.a _ a) (below d.c _ c')
    (c.put_words.new.s ++ drop 128 s.memory.now) l.memory room l.invariant.memory put.1 in
    record {
      state = ap (λ (x : Generator). x.state) is.3 ∙ ap (λ (x : Three). x.next.state) three;
      program = program.1;
      memory = memory.1;
    }

pub returns : goal.returns
returns c =
    let l = c.loop-i in
    let s = c.args in
    let cells = rw c.new-generator.ensures at c.begin-cells.ensures.0 in
    let long = begun_long _ _ _ cells in
    let e : s.recipe.n ≡ l.i = omega arith in
    let front = first_length (recipe_draws s.recipe) s.recipe.n c.begin-cells.result long c.put_words.ensures in (
      rw e l.invariant.program,
      l.invariant.memory ∙ rw (e, behind s.memory.now c.put_words.new.s 128 (128 + 32 * l.i) front (omega arith)),
    )
