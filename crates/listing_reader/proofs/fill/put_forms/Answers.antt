-- The invariant: the first i lines are read, and their instructions stand in front of what stood there.
use mathlib.Core.List.{List, [], ◌∷◌, ◌++◌}
use mathlib.Core.Path.{◌≡◌, refl, sym, ap, ◌∙◌}
use native.Mathlib.Omega.{arith}
use lib.ListN.{length, length-append}
use Rattle.form.specs.declared.Form.{Form}
use Rattle.text_patterns.specs.Pattern.{flat}
use Rattle.listing_reader.specs.Walk.{End, filled_by}
use Rattle.listing_reader.proofs.Ends.{begins}
use Rattle.listing_reader.proofs.Filling.{filled, on, next_line, its_form, all_lines, one_more}
use Rattle.listing_reader.proofs.fill.put_forms.Goals as goal

pub loop-i-init : goal.loop-i-init
unfolding flat
loop-i-init c = (refl, ([], refl, begins _, refl))

pub read_line-requires : goal.read_line-requires
read_line-requires c = c.loop-i.invariant.1.2.inside

pub unwrap-line-requires : goal.unwrap-line-requires
unwrap-line-requires c =
    let a = c.args in
    let l = c.loop-i in
    let w = c.requires.0 in
    let fs = l.invariant.1 in
    on a.text.now w.forms w.ends l.place fs.0 fs.2 (omega (arith, fs.1, w.many, c.loop-i-test.true)) c.read_line.result c.read_line.ensures.read

pub form_instruction-requires : goal.form_instruction-requires
form_instruction-requires c =
    let a = c.args in
    let l = c.loop-i in
    let w = c.requires.0 in
    let fs = l.invariant.1 in
    let read = rw c.unwrap-line.ensures at c.read_line.ensures.read in
    (its_form a.text.now w.forms w.ends l.place fs.0 fs.2 (omega (arith, fs.1, w.many, c.loop-i-test.true)) read).call

pub loop-i-preserved : goal.loop-i-preserved
loop-i-preserved c =
    let put = c.put_instruction in
    let made = c.form_instruction in
    let line = c.unwrap-line.result in
    let read = rw c.unwrap-line.ensures at c.read_line.ensures.read in
    let l = c.loop-i in
    let s = c in
    let w = s.requires.0 in
    let fs = l.invariant.1 in
    let more = c.loop-i-test.true in
    let size = c.program-1.given.1 in (
      omega (arith, size, l.invariant.0),
      (
        fs.0 ++ (line.value ∷ []),
        omega (arith, length-append fs.0 (line.value ∷ []), fs.1),
        next_line s.args.text.now w.forms w.ends l.place fs.0 fs.2 (omega (arith, fs.1, w.many, more)) read,
        one_more fs.0 line.value s.args.program.now l.program put.new.s l.i fs.3 fs.1 (omega (arith, more, s.requires.1, l.invariant.0))
            made.result made.ensures put.ensures,
      ),
    )

pub returns : goal.returns
returns c =
    let l = c.loop-i in
    let s = c in
    let w = s.requires.0 in
    let fs = l.invariant.1 in
    let same : length fs.0 ≡ length w.forms = omega (arith, fs.1, w.many, c.loop-i-test.false) in
    fs.3
    ∙ ap (λ (x : List Form). filled x s.args.program.now) (all_lines s.args.text.now w.forms w.ends l.place fs.0 fs.2 same)
    ∙ ap (λ (x : End). filled_by x s.args.program.now) (sym w.ends)

pub shape_of-program : goal.shape_of-program
shape_of-program c = c.loop-i.invariant.0
