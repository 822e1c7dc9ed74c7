-- An instruction that is there was tested, so it has a form.
use mathlib.Core.Path.{◌∙◌, sym, ap}
use Rattle.form.specs.Form.{well_formed, decode_of}
use Rattle.listing_writer.proofs.walk.form_at.Goals as goal

pub decode_known-requires : goal.decode_known-requires
decode_known-requires c = let s = c in ap well_formed c.instruction_inside.ensures ∙ s.requires.well_formed s.args.i s.requires.i_in_bounds

pub returns : goal.returns
returns c = sym (ap decode_of c.instruction_inside.ensures) ∙ c.decode_known.ensures
