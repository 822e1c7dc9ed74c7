-- The words from k to j were tested.
use Rattle.judge_spec.specs.Judged.{is_word}
use Rattle.inputs.proofs.Eights.{Tells}
use Rattle.inputs.proofs.walk.eight_words.Given as goal

abbrev pub invariant-loop-j : goal.invariant-loop-j
invariant-loop-j l = Tells (is_word l.s) l.all l.k l.j
