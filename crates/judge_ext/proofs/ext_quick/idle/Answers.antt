-- No operation passes rules 6 to 8, and equal elements rule 9.
use borrow.Author.Tests.{eqb-true}
use lib.Dec.{eqb}
use mathlib.Core.List.{[], ◌∷◌}
use mathlib.Core.Path.{sym, ◌∙◌}
use Rattle.std.specs.Cmp.Lexicographic.{same_text}
use Rattle.word.proofs.Tests.{each}
use Rattle.judge_ext.proofs.QuickExt.{nothing_done}
use Rattle.judge_ext.proofs.ext_quick.idle.Goals as goal

pub returns : goal.returns
returns c e =
    let x = c.args.x in
    let t = each (eqb x.add 0) (eqb x.mul 0 ∷ eqb x.peq 0 ∷ c.eq.result ∷ []) e in
    nothing_done x (eqb-true _ _ t.0) (eqb-true _ _ t.1.0) (eqb-true _ _ t.1.1.0) (same_text x.comp x.res (sym t.1.1.1 ∙ c.eq.ensures))
