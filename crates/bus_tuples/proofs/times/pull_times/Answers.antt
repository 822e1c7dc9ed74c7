-- The row's first four words.
use mathlib.Core.Path.{sym, ◌∙◌}
use native.Mathlib.Omega.{arith}
use Rattle.rows.specs.Rows.{ext_at}
use Rattle.bus_tuples.specs.Times.{pull_by}
use Rattle.bus_tuples.proofs.TimesLaws.{all_bits, by_bits, by_other}
use Rattle.bus_tuples.proofs.times.pull_times.Goals as goal

pub returns-then-start-eq0 : goal.returns-then-start-eq0
unfolding ext_at
returns-then-start-eq0 c = rw (sym c.word_inside-start.ensures ∙ c.if-start-eq0.true)

pub overflow_add-result : goal.overflow_add-result
overflow_add-result c =
    let start = c.word_inside-start.result in
    let add = c.word_inside-add.result in
    let mul = c.word_inside-mul.result in
    let peq = c.word_inside-peq.result in
    omega (arith, all_bits start add mul peq c.if-start-add.true)

pub overflow_add-result-then-start-add : goal.overflow_add-result-then-start-add
overflow_add-result-then-start-add c =
    let start = c.word_inside-start.result in
    let add = c.word_inside-add.result in
    let mul = c.word_inside-mul.result in
    let peq = c.word_inside-peq.result in
    omega (arith, all_bits start add mul peq c.if-start-add.true)

pub returns-then-start-add : goal.returns-then-start-add
unfolding ext_at
returns-then-start-add c =
    let start = c.word_inside-start in
    let add = c.word_inside-add in
    let mul = c.word_inside-mul in
    let peq = c.word_inside-peq in
    by_bits start.result add.result mul.result peq.result c.if-start-eq0.false c.if-start-add.true
    ∙ (λ i. pull_by (start.ensures i) (add.ensures i) (mul.ensures i) (peq.ensures i))

pub returns : goal.returns
unfolding ext_at
returns c =
    let start = c.word_inside-start in
    let add = c.word_inside-add in
    let mul = c.word_inside-mul in
    let peq = c.word_inside-peq in
    by_other start.result add.result mul.result peq.result c.if-start-eq0.false c.if-start-add.false
    ∙ (λ i. pull_by (start.ensures i) (add.ensures i) (mul.ensures i) (peq.ensures i))
