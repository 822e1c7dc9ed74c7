-- Each word is what its call promises.
use Rattle.listing_forms.specs.Forms.{form_instruction}
use Rattle.listing_forms.proofs.instruction.form_instruction.Goals as goal

pub returns : goal.returns
unfolding form_instruction
returns c =
    rw (
      c.immediate_flag.ensures,
      c.immediate_flag-2.ensures,
      c.immediate_flag-3.ensures,
      c.frame_flag.ensures,
      c.frame_flag-2.ensures,
      c.mul_word.ensures,
      c.jump_word.ensures,
      c.aux_word.ensures,
      c.call_word.ensures,
    )
