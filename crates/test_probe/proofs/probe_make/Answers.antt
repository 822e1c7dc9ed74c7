-- What the maker gives is replied.
use mathlib.Core.Path.{◌∙◌, ap}
use Rattle.label.specs.declared.Recipe.{Recipe}
use Rattle.maker_spec.specs.Bytes.{program_after, memory_after}
use Rattle.test_probe.proofs.probe_make.Goals as goal

pub returns : goal.returns
returns c =
    let a = c.args in
    let is = c.recipe.ensures in
    let made = c.make-a.ensures in
    let told = c.reply.ensures in record {
      value = rw (made.0, is) at told.0;
      answer_after = rw (made.0, is) at told.1;
      program_after = made.1 ∙ ap (λ (r : Recipe). program_after r a.program.now a.memory.now) is;
      memory_after = made.2 ∙ ap (λ (r : Recipe). memory_after r a.program.now a.memory.now) is;
    }
