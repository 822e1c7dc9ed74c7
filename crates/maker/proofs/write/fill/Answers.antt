-- The last instruction ends the program; past the slots the memory is 0.
use mathlib.Core.Path.{ap, ◌∙◌}
use Rattle.maker.proofs.Filling.{program_ended, cells_ended, last_lent}
use Rattle.maker_spec.specs.Bytes.{recipe_draws, word_bytes}
use Rattle.maker.proofs.write.fill.Goals as goal

pub put_words-requires : goal.put_words-requires
put_words-requires c =
    let s = c in
    last_lent c.put_all.new.program s.args.recipe.n (c.program-1.given ∙ s.requires.1) ∙ rw c.halt_words-words.ensures

pub returns : goal.returns
returns c =
    let s = c.args in
    let pre = c.requires in
    let all = c.put_all in (
      program_ended (recipe_draws s.recipe) s.recipe.n s.program.now all.new.program c.put_words.new.s all.ensures.0 pre.1
          (c.put_words.ensures ∙ ap word_bytes c.halt_words-words.ensures),
      cells_ended (recipe_draws s.recipe) s.recipe.n s.memory.now all.new.memory c.clear.new.s all.ensures.1 pre.2 pre.3 c.clear.ensures,
    )

pub shape_of-program : goal.shape_of-program
shape_of-program c = c.program-2-1.given.1 ∙ c.program-1.given

pub shape_of-memory : goal.shape_of-memory
shape_of-memory c = c.memory-2-1.given.1 ∙ c.memory-1.given
