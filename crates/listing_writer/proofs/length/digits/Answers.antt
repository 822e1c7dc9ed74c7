-- A digit for each power of ten up to the word, and one more; 0 has one digit.
use Prim.Native.Nat.{suc, ◌^◌, ◌<◌}
use native.Mathlib.Nat.{pow-suc}
use native.Mathlib.Omega.{arith}
use Rattle.lines.proofs.Numbers.{digits_exactly}
use Rattle.listing_writer.proofs.length.digits.Goals as goal

pub returns-in-Some : goal.returns-in-Some
returns-in-Some c =
    let more = c.in-Some.more in
    let known = c.in-Some.ensures in
    let above : c.args.x < 10 ^ suc more = omega (arith, known.next_power_gt, pow-suc 10 more) in
    (omega (arith, digits_exactly 20 more c.args.x (omega (arith, known.bound)) above (λ h. known.power_le)), omega (arith, known.bound))

pub returns-in-None : goal.returns-in-None
returns-in-None c =
    let zero = c.in-None.ensures.none in
    (omega (arith, digits_exactly 20 0 c.args.x (omega arith) (omega (arith, zero)) (λ h. absurd (omega arith))), omega arith)
