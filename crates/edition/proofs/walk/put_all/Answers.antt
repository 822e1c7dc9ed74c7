-- At i the first i instructions stand, translated, at the front of the output.
use mathlib.Core.Path.{refl, ap, ◌∙◌}
use native.Mathlib.Omega.{arith}
use Rattle.word.specs.Bytes.{concatenated}
use Rattle.form.specs.Instruction.{instruction_words}
use Rattle.rows.specs.Rows.{bytes_of_words}
use Rattle.edition_spec.specs.Translation.{translated}
use Rattle.edition_spec.specs.Translated.{old_count, instruction_bytes}
use Rattle.edition.proofs.Filled.{one_more, all_filled}
use Rattle.edition.proofs.walk.put_all.Goals as goal

pub loop-i-init : goal.loop-i-init
unfolding concatenated
loop-i-init c = (refl, refl)

pub loop-i-preserved : goal.loop-i-preserved
loop-i-preserved c =
    let put = c.put_instruction in
    let made = c.translation in
    let read = c.encoded_inside in
    let l = c.loop-i in
    let s = c in
    let old = s.args.old.now in
    let words = instruction_words made.result in
    let same = ap (λ i. bytes_of_words (instruction_words i)) (made.ensures ∙ ap translated read.ensures) in (
      omega (arith, c.program-1.given.1),
      one_more l.program put.new.s words l.i refl (omega arith) put.ensures (instruction_bytes old) same l.invariant.1,
    )

pub returns : goal.returns
returns c =
    let l = c.loop-i in
    let s = c in
    all_filled _ l.program (old_count s.args.old.now) l.i (l.invariant.0 ∙ s.requires) (omega arith) c.loop-i-test.false l.invariant.1

pub shape_of-program : goal.shape_of-program
shape_of-program c = c.loop-i.invariant.0
