-- Each call gives the definition's part.
use Rattle.judge_ext.proofs.accumulation.operates.Goals as goal

pub returns : goal.returns
returns c =
    rw (
      c.first_failing.ensures,
      c.peqs_hold-peqs.ensures,
      c.products_hold-products.ensures,
      c.sums_hold-sums.ensures,
      c.tail_of-tail.ensures,
      c.selected_element-v.ensures,
    )
