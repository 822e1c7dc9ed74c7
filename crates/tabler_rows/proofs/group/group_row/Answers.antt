-- Each field is what its call promises; comp is one element more in front of what is left.
use denote.Enum.Bare.{sameb}
use mathlib.Core.Bool.{Bool, true, false}
use mathlib.Core.Path.{◌≡◌, refl}
use mir.Val.{bool_byte}
use Prim.Native.Nat.{◌+◌}
use native.Mathlib.Omega.{arith}
use lib.Dec.{eqb}
use Rattle.form.specs.Data.{bit}
use Rattle.form.specs.contracts.Op.{the_type}
use Rattle.form.specs.declared.Op.{Op}
use Rattle.form.specs.declared.Op.TheVariants.{Add, Mul, Peq}
use Rattle.rules.specs.Sizes.{word_of}
use Rattle.tables.specs.Groups.{group_row, flag_add, flag_mul, flag_peq}
use Rattle.tabler_operands.proofs.Results.{one_more}
use Rattle.tabler_rows.proofs.group.group_row.Goals as goal

-- a bool as a number, and an operation's three flags
number : (b : Bool) → bool_byte b ≡ bit b
number true = refl
number false = refl

added : (op : Op) → bool_byte (sameb the_type op Add) ≡ flag_add op
added Add = refl
added Mul = refl
added Peq = refl

multiplied : (op : Op) → bool_byte (sameb the_type op Mul) ≡ flag_mul op
multiplied Add = refl
multiplied Mul = refl
multiplied Peq = refl

compared : (op : Op) → bool_byte (sameb the_type op Peq) ≡ flag_peq op
compared Add = refl
compared Mul = refl
compared Peq = refl

pub returns : goal.returns
unfolding group_row
returns c =
    let a = c.args in
    let more = one_more (word_of a.memory.now) a.g a.j (a.j + 1) refl (omega (arith, c.requires.j_lt_n.0)) c.requires.rest_value.0 c.with_element.ensures in
    rw (
      more,
      c.with_element.ensures,
      c.left_index.ensures,
      c.requires.rest_value.1,
      c.from.ensures,
      c.from-2.ensures,
      c.from-3.ensures,
      c.from-4.ensures,
      c.from-5.ensures,
      c.eq.ensures,
      c.eq-2.ensures,
      c.eq-3.ensures,
      added a.g.op,
      multiplied a.g.op,
      compared a.g.op,
      number (eqb a.j 0),
      number a.g.be,
    )
