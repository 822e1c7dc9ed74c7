-- The first of the two buffers is empty.
use borrow.Author.Rules.{rules}
use mathlib.Core.Path.{refl}
use Rattle.judge.proofs.judge.Goals as goal

pub judge_two-requires : goal.judge_two-requires
judge_two-requires c = record {
  seam_between = refl;
  rest_len_bound = search rules;
}

pub returns : goal.returns
returns c = c.judge_two.ensures
