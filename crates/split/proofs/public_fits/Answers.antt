-- 1 is the power below those that are looked for.
use borrow.Author.Rules.{rules}
use mathlib.Core.Path.{ap, ◌∙◌}
use mathlib.Core.Bool.{◌&&◌, ◌||◌}
use Prim.Native.Nat.{◌/◌, ◌%◌}
use lib.Dec.{eqb}
use Rattle.split.proofs.Lengths.{from_one}
use Rattle.split.proofs.public_fits.Goals as goal

pub returns : goal.returns
returns c =
    let bytes = c.args.bytes in
    ap (λ b. eqb (bytes % 4) 0 && (eqb (bytes / 4) 1 || b)) c.is_power.ensures ∙ ap (λ b. eqb (bytes % 4) 0 && b) (from_one (bytes / 4) 28)
