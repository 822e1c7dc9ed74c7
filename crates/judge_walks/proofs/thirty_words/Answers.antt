-- Each eight as `eight_words` promises.
use Rattle.judge_walks.proofs.thirty_words.Goals as goal

pub returns : goal.returns
returns c =
    rw (
      c.eight_words-4.ensures,
      c.eight_words-3.ensures,
      c.eight_words-2.ensures,
      c.eight_words.ensures,
    )
