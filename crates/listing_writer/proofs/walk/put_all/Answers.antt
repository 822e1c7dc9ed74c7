-- The invariant: the first i lines stand one behind the other.
use Rattle.std.proofs.Common.{rules, arith, ◌≡◌, sym, ap, ◌/◌, length, length-append}
use Rattle.word.specs.Bytes.{concatenated}
use Rattle.word.proofs.Concatenated.{parts_one}
use Rattle.lines.proofs.Putting.{put_none, put_next}
use Rattle.listing_spec.specs.Listing.{decoded_line, form_line, instruction_line, listing_of}
use Rattle.listing_writer.proofs.Together.{lines_to, room}
use Rattle.listing_writer.proofs.walk.put_all.Goals as goal

pub loop-i-init : goal.loop-i-init
unfolding concatenated
loop-i-init c = put_none c.args.out.now

pub form_at-requires : goal.form_at-requires
form_at-requires c = record {
  well_formed = c.requires.well_formed;
  i_in_bounds = search rules;
}

pub put_form-requires : goal.put_form-requires
put_form-requires c =
    let program = c.args.program.now in
    let line : form_line c.form_at.result ≡ instruction_line program c.loop-i.i = sym (ap decoded_line c.form_at.ensures) in
    rw line (omega (arith, c.requires.room, room program c.loop-i.i (search rules)))

pub loop-i-preserved : goal.loop-i-preserved
loop-i-preserved c =
    let l = c.loop-i in
    let program = c.args.program.now in
    let line : form_line c.form_at.result ≡ instruction_line program l.i = sym (ap decoded_line c.form_at.ensures) in
    rw (parts_one (instruction_line program) l.i)
    (put_next
    (omega (arith, c.requires.room, room program l.i (search rules), length-append (lines_to program l.i) (instruction_line program l.i)))
    l.invariant
    (rw line at c.put_form.ensures))

pub returns : goal.returns
unfolding listing_of
returns c =
    let e : c.loop-i.i ≡ length c.args.program.now / 48 = omega arith in
    rw e at c.loop-i.invariant
