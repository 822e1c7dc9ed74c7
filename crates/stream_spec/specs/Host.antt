-- Document 02, M-106: "Host k should start k·2^40 draws further on, for k below 2^24 [..] Refusals: 18 HOST for k at or
-- above 2^24; the generator is returned as it came."
-- Declared in src/: Generator (draw).
use Rattle.std.specs.Prelude.{ℕ, ◌*◌, ◌^◌, cond, ltb}
use Rattle.draw.specs.declared.Generator.{Generator}
use Rattle.answer.specs.Answers.{Answer, Accepted, Host}
use Rattle.stream_spec.specs.Stream.{after}

-- how many hosts there are, and how many draws each has to itself
abbrev pub hosts : ℕ
hosts = 2 ^ 24

abbrev pub own_draws : ℕ
own_draws = 2 ^ 40

-- a host's generator, or where the host is refused the one that came
pub record Started : Type 0 where
  pub answer : Answer
  pub generator : Generator

unfoldable pub start_of : Generator → ℕ → Started
start_of g k =
    cond (ltb k hosts)
    (record { answer = Accepted; generator = after (k * own_draws) g })
    (record { answer = Host; generator = g })
