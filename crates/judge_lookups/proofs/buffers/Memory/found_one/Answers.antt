-- By whether the cell is there.
use mathlib.Core.List.{[], ◌∷◌}
use mathlib.Core.Path.{sym, ◌∙◌}
use native.Mathlib.Omega.{arith}
use Rattle.judge_lookups.proofs.Cells.{word_there, word_held, not_there, found_inside, found_outside}
use Rattle.judge_lookups.specs.Joined.{joined}
use Rattle.judge_lookups.proofs.buffers.Memory.found_one.Goals as goal

pub returns-in-Some : goal.returns-in-Some
returns-in-Some c =
    let nothing = c.nothing in
    let s = c.args in
    let stands = sym c.in-Some.is ∙ c.look.ensures in
    rw (nothing.ensures, word_held (joined s.self) s.addr stands) at c.compared.ensures
    ∙ found_inside (joined s.self) s.addr (s.value ∷ []) (omega (arith, word_there (joined s.self) s.addr stands))

pub returns-in-None : goal.returns-in-None
returns-in-None c =
    let s = c.args in
    let gone = sym c.in-None.is ∙ c.look.ensures in
    c.nothing-in-None.ensures
    ∙ found_outside (joined s.self) s.addr (s.value ∷ []) (omega (arith, not_there (joined s.self) s.addr gone))
