-- The invariant: what is left of the digits gives the whole reading, and the number so far fits.
use Prim.Native.Nat.{◌+◌}
use mathlib.Core.Path.{◌≡◌, refl, ◌∙◌}
use native.Mathlib.Omega.{arith}
use borrow.Author.Rules.{rules}
use borrow.Author.Tests.{ltb-true}
use Rattle.text_patterns.specs.Pattern.{parse}
use Rattle.text_patterns.specs.Fields.{digits}
use Rattle.text_fields.specs.Digit.{hex_at}
use Rattle.text_fields.proofs.Every.{every_at}
use Rattle.text_fields.proofs.SixteenHex.{hex_next, hex_room, hex_small, hex_none_yet}
use Rattle.text_fields.proofs.hex.hex_number.Goals as goal

pub loop-i-init : goal.loop-i-init
loop-i-init c = (omega arith, hex_none_yet c.args.text.now c.args.at)

pub overflow_mul-x : goal.overflow_mul-x
overflow_mul-x c =
    let l = c.loop-i in
    omega (arith, hex_room c.args.text.now 0 l.i l.x (search rules) l.invariant.0)

pub known_hex-requires : goal.known_hex-requires
known_hex-requires c =
    let s = c in
    ltb-true _ 16 (every_at (hex_at s.args.text.now s.args.at) 16 c.loop-i.i (search rules) s.requires.1)

pub overflow_add-x : goal.overflow_add-x
overflow_add-x c =
    let l = c.loop-i in
    omega (arith, hex_room c.args.text.now 0 l.i l.x (search rules) l.invariant.0, c.known_hex.ensures.1)

pub loop-i-preserved : goal.loop-i-preserved
loop-i-preserved c =
    let s = c in
    let text = s.args.text.now in
    let at = s.args.at in
    let l = c.loop-i in
    let is = every_at (hex_at text at) 16 l.i (search rules) s.requires.1 in (
      hex_small text 0 l.i l.x (search rules) c.known_hex.result c.known_hex.ensures.1 l.invariant.0,
      l.invariant.1 ∙ hex_next text (at + l.i) l.i l.x (search rules) (search rules) at refl is ∙ rw c.known_hex.ensures.0,
    )

pub returns : goal.returns
unfolding parse digits
returns c =
    let l = c.loop-i in
    let e : l.i ≡ 16 = omega arith in
    l.invariant.1 ∙ rw e
