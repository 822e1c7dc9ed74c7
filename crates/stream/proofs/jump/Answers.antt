-- `stream::jump` meets its contract: all bits of the number, from bit 0 on.
use Rattle.std.proofs.Common.{ℕ, ap, ◌∙◌, mul-one}
use Rattle.draw.specs.declared.Generator.{Generator}
use Rattle.stream_spec.specs.Stream.{advances}
use Rattle.stream.proofs.jump.Goals as goal

abbrev at : ℕ → Generator
at s = record { state = s }

pub returns : goal.returns
returns c =
    let s = c.args in
    ap at (c.leap.ensures ∙ ap (λ (n : ℕ). advances n s.generator.state) (mul-one s.draws))
