-- At j the rows before j stand.
use mathlib.Core.List.{List}
use mathlib.Core.Path.{◌≡◌, refl, sym, ap, ◌∙◌}
use Prim.Native.Nat.{ℕ, ◌+◌, ◌*◌, ◌/◌, ◌≤◌}
use native.Mathlib.Omega.{arith}
use lib.ListN.{length}
use lib.Seq.{take_all}
use Rattle.word.specs.Bytes.{concatenated}
use Rattle.rows.specs.Rows.{ext_words}
use Rattle.rules.specs.Sizes.{word_of}
use Rattle.tables.specs.Groups.{padding}
use Rattle.tabler_rows.specs.Placed.{ext_bytes}
use Rattle.tabler_rows.proofs.Lent.{put_bytes, put_length, rows_on}
use Rattle.tabler_rows.proofs.padding.put_padding.Goals as goal

pub loop-j-init : goal.loop-j-init
unfolding concatenated
loop-j-init c = refl

one : (x : List ℕ) → concatenated (λ k. x) 1 ≡ x
unfolding concatenated
one x = refl

pub loop-j-preserved : goal.loop-j-preserved
loop-j-preserved c =
    let l = c.loop-j in
    let row : ℕ → List ℕ = λ k. ext_bytes (padding (word_of c.args.memory.now)) in
    let x = c.put_ext in
    let words = ext_words c.padding_row-row.result in
    let room : 120 * l.j + 120 ≤ length l.part = omega (arith, l.auto.part) in
    rows_on row 120 l.part x.new.s l.j 1 room (put_length l.part x.new.s words (120 * l.j) 120 room x.ensures refl)
    (put_bytes l.part x.new.s words (120 * l.j) 120 room x.ensures ∙ ap ext_bytes c.padding_row-row.ensures ∙ sym (one (row 0))) l.invariant

pub returns : goal.returns
returns c =
    let l = c.loop-j in
    let n = length c.args.part.now / 120 in
    let all : l.j ≡ n = omega arith in
    sym (take_all (120 * n) l.part (omega (arith, l.auto.part))) ∙ rw all at l.invariant
