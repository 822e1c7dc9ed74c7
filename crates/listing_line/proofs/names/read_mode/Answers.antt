-- The letters are read behind the first.
use Rattle.std.proofs.lemmas.Result.{err_from_is_err_and}
use Rattle.listing_line.proofs.ByFields.{stop_mode, mode_read}
use Rattle.listing_line.proofs.names.read_mode.Goals as goal

pub returns-in_err-letter : goal.returns-in_err-letter
returns-in_err-letter c =
    let a = c.args in
    let p = err_from_is_err_and c.from_residual.result c.from_residual.ensures.1 in
    rw (p.1, p.2) (stop_mode a.text.now a.at a.range c.requires.1 c.requires.2 c.in_err-letter.ensures.read)

pub returns : goal.returns
returns c =
    let a = c.args in
    mode_read a.text.now a.at a.range c.requires.1 c.requires.2 c.in_ok-letter.ensures.read c.rest_of_three.result c.rest_of_three.ensures
