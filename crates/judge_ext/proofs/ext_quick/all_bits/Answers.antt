-- Each flag is 0 or 1.
use Rattle.judge_ext.proofs.QuickExt.{all_bits}
use Rattle.judge_ext.proofs.ext_quick.all_bits.Goals as goal

pub returns : goal.returns
returns c e = all_bits c.args.x e
