-- The invariant: what is left of the digits gives the whole reading, and the number so far fits.
use Prim.Native.Nat.{◌+◌}
use mathlib.Core.Path.{◌≡◌, refl, sym, ◌∙◌}
use native.Mathlib.Omega.{arith}
use borrow.Author.Rules.{rules}
use borrow.Author.Tests.{ltb-true}
use lib.ListN.{drop}
use Rattle.text_patterns.specs.Pattern.{got, parse}
use Rattle.text_patterns.specs.Fields.{digits}
use Rattle.text_fields.specs.Digit.{hex_value}
use Rattle.text_fields.proofs.SixteenHex.{hex_end, hex_stop, hex_next, hex_room, hex_small, hex_none_yet}
use Rattle.text_fields.proofs.hex.hex_by_digit.Goals as goal

pub loop-k-init : goal.loop-k-init
loop-k-init c = (omega arith, omega arith, hex_none_yet c.args.text.now c.args.at)

pub returns-then-text-i : goal.returns-then-text-i
returns-then-text-i c =
    let a = c.args in
    let l = c.loop-k in
    record {
      inside = l.invariant.0;
      read = l.invariant.2 ∙ hex_end a.text.now (a.at + l.k) l.k l.x (search rules) (search rules);
    }

pub returns-then-not-is_hex : goal.returns-then-not-is_hex
returns-then-not-is_hex c =
    let a = c.args in
    let l = c.loop-k in
    record {
      inside = l.invariant.0;
      read = l.invariant.2 ∙ hex_stop a.text.now (a.at + l.k) l.k l.x (search rules) (search rules) (sym c.is_hex.ensures ∙ c.if-not-is_hex.true);
    }

pub overflow_mul-x : goal.overflow_mul-x
overflow_mul-x c =
    let l = c.loop-k in
    omega (arith, hex_room c.args.text.now 0 l.k l.x (search rules) l.invariant.1)

pub known_hex-requires : goal.known_hex-requires
known_hex-requires c = ltb-true _ 16 (sym c.is_hex.ensures ∙ c.if-not-is_hex.false)

pub overflow_add-x : goal.overflow_add-x
overflow_add-x c =
    let l = c.loop-k in
    omega (arith, hex_room c.args.text.now 0 l.k l.x (search rules) l.invariant.1, c.known_hex.ensures.1)

pub loop-k-preserved : goal.loop-k-preserved
loop-k-preserved c =
    let text = c.args.text.now in
    let at = c.args.at in
    let l = c.loop-k in
    let is = sym c.is_hex.ensures ∙ c.if-not-is_hex.false in (
      omega arith,
      hex_small text 0 l.k l.x (search rules) c.known_hex.result c.known_hex.ensures.1 l.invariant.1,
      l.invariant.2 ∙ hex_next text (at + l.k) l.k l.x (search rules) (search rules) at refl is ∙ rw c.known_hex.ensures.0,
    )

pub returns : goal.returns
unfolding parse digits
returns c =
    let a = c.args in
    let l = c.loop-k in
    let e : l.k ≡ 16 = omega arith in
    let read : parse (digits 16 hex_value 16 0) (drop a.at a.text.now) ≡ got l.x (drop (a.at + 16) a.text.now) = l.invariant.2 ∙ rw e in
    record { inside = omega (arith, l.invariant.0); read = read }
