-- `draw::Generator::draw` meets its contract: a reduced product plus the increment, reduced, is the advanced state.
-- Assumes nothing.
use Rattle.std.proofs.Common.{◌≡◌, ◌+◌, ◌%◌, ◌^◌}
use native.Mathlib.Nat.{mod-add-mod}
use Rattle.draw.specs.Draw.{advance}
use Rattle.draw.proofs.Generator.draw.Goals as goal

pub returns : goal.returns
unfolding advance
returns c =
    let e : (c.wrapping_product-product.result + 1442695040888963407) % 2 ^ 64 ≡ advance c.args.self.state =
    rw c.wrapping_product-product.ensures (mod-add-mod _ _ _)
    in
    rw e
