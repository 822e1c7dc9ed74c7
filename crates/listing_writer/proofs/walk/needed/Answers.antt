-- The invariant: the size is that of the first i lines.
use Rattle.std.proofs.Common.{rules, arith, ◌≡◌, refl, sym, ap, ◌∙◌, ◌/◌, length}
use Rattle.word.specs.Bytes.{concatenated}
use Rattle.listing_spec.specs.Listing.{decoded_line, listing_of}
use Rattle.listing_writer.proofs.Together.{next_length}
use Rattle.listing_writer.proofs.walk.needed.Goals as goal

pub loop-i-init : goal.loop-i-init
unfolding concatenated
loop-i-init c = (omega arith, refl)

pub form_at-requires : goal.form_at-requires
form_at-requires c = record {
  well_formed = c.requires.well_formed;
  i_in_bounds = search rules;
}

pub loop-i-preserved : goal.loop-i-preserved
loop-i-preserved c =
    let l = c.loop-i in
    let line = c.form_length-size.ensures.0 ∙ ap (λ d. length (decoded_line d)) (sym c.form_at.ensures) in
    (omega arith, omega (arith, next_length c.args.program.now l.i))

pub returns : goal.returns
unfolding listing_of
returns c =
    let l = c.loop-i in
    let e : l.i ≡ length c.args.program.now / 48 = omega arith in
    (rw e at l.invariant.1, omega arith)
