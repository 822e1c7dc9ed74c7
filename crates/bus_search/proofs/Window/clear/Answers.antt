-- Each of the 1024 slots is filled.
use Rattle.std.proofs.Common.{◌≡◌, length, replicate, ap, ◌∙◌, arith}
use Rattle.bus_search.proofs.Window.clear.Goals as goal

pub returns : goal.returns
returns c =
    let all : length c.args.self.now.slots ≡ 1024 = omega arith in
    let filled = c.fill.ensures.after (λ y h. h) ∙ ap (λ n. replicate n 340282366920938463463374607431768211455) all in
    λ i. record { slots = filled i; marks = c.args.self.now.marks }
