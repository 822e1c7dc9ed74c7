-- At j the rows from j on stand, and comp is what the elements from j on come to.
use mathlib.Core.List.{List}
use mathlib.Core.Path.{◌≡◌, refl, ap}
use Prim.Native.Nat.{ℕ, ◌+◌, ◌-◌, ◌*◌, ◌≤◌, ◌<◌}
use native.Mathlib.Nat.{sub-zero}
use native.Mathlib.Omega.{arith}
use lib.ListN.{length}
use Rattle.rows.specs.Rows.{ext_words}
use Rattle.rules.specs.Sizes.{word_of}
use Rattle.tabler_operands.proofs.Results.{none_left, result_exists, element_exists}
use Rattle.tabler_rows.specs.Placed.{ext_bytes, row_in}
use Rattle.tabler_rows.proofs.Lent.{none_back, one_back, all_back}
use Rattle.tabler_rows.proofs.Comp.{group_comp}
use Rattle.tabler_rows.proofs.group.put_group.Goals as goal

pub element_at-res-requires : goal.element_at-res-requires
element_at-res-requires c = result_exists c.requires.1

pub loop-j-init : goal.loop-j-init
loop-j-init c =
    let a = c.args in
    (none_left (word_of a.memory.now) a.g c.none-comp.ensures, none_back _ 120 _ _ c.requires.0)

pub group_row-row-requires : goal.group_row-row-requires
group_row-row-requires c =
    let l = c.loop-j in
    let back : l.j - 1 + 1 ≡ l.j = omega arith in
    let inside : l.j - 1 < c.args.g.n = omega (arith, l.auto.j) in record {
      j_lt_n = (inside, element_exists c.requires.1 _ inside);
      rest_value = (rw back l.invariant.0, c.element_at-res.ensures);
    }

pub loop-j-preserved : goal.loop-j-preserved
loop-j-preserved c =
    let l = c.loop-j in
    let g = c.args.g in
    let cell = word_of c.args.memory.now in
    let row : ℕ → List ℕ = λ k. ext_bytes (row_in cell g k) in
    let x = c.put_ext in
    let y = c.group_row-row in
    let room : 120 * l.j ≤ length l.part = omega (arith, l.auto.part, l.auto.j, c.requires.0) in (
      group_comp cell g (l.j - 1) y.ensures,
      one_back row 120 l.part g.n l.j (omega arith) room x.new.s (ext_words y.result) x.ensures refl (ap ext_bytes y.ensures) l.invariant.1,
    )

pub returns : goal.returns
returns c =
    let l = c.loop-j in
    let none : l.j ≡ 0 = omega arith in
    let all = rw (none, sub-zero _) at l.invariant.0 in record {
      value = rw (c.same.ensures, c.element_at-res.ensures, all);
      part_after = all_back _ 120 l.part _ l.j (omega arith) l.invariant.1;
    }
