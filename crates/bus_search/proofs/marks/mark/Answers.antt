-- The bit is set where it was not.
use Rattle.std.proofs.Common.{◌≡◌, ℕ, ◌*◌, ◌%◌, ◌^◌, ◌<◌, sym, ◌∙◌, one-mul, arith, shl_exact}
use Rattle.bus_search.specs.Marks.{with_mark}
use Rattle.bus_search.proofs.marks.mark.Goals as goal

one_bit : (b : ℕ) → b < 64 → 1 * 2 ^ b % 2 ^ 64 ≡ 2 ^ b
one_bit b h = shl_exact {a = 1} 1 b 64 (omega arith) (omega arith) ∙ one-mul (2 ^ b)

pub returns-then-is_marked : goal.returns-then-is_marked
unfolding with_mark
returns-then-is_marked c = rw (sym c.is_marked.ensures ∙ c.if-is_marked.true)

pub returns : goal.returns
unfolding with_mark
returns c =
    let unmarked = c.is_marked in
    let m = c.mark_of-m in
    rw (
      sym unmarked.ensures ∙ c.if-is_marked.false,
      one_bit (m.result % 64) (omega arith),
      m.ensures.0,
    )
