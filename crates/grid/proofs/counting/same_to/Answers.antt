-- `grid::counting::same_to` meets its contract: the rows from r on have row r's pc.
use mathlib.Core.Path.{◌≡◌, sym, ap, ◌∙◌}
use Prim.Native.Nat.{ℕ, ◌*◌, ◌/◌, ◌<◌}
use native.Mathlib.Omega.{arith}
use lib.ListN.{length}
use Rattle.word.specs.Bytes.{word_at}
use Rattle.word.proofs.Tests.{by_equal}
use Rattle.grid.proofs.counting.same_to.Goals as goal

pub loop-end-init : goal.loop-end-init
loop-end-init c =
    let s = c.args in
    λ j low high. let e : j ≡ s.r = omega arith in ap (λ (x : ℕ). word_at s.exec.now (32 * x)) e

pub loop-end-preserved : goal.loop-end-preserved
loop-end-preserved c =
    let s = c.args in
    let l = c.loop-end in
    let one : word_at s.exec.now (32 * l.end) ≡ word_at s.exec.now (32 * s.r) =
    sym c.word_inside.ensures ∙ c.if-word_inside-pc.false ∙ c.word_inside-pc.ensures in
    λ j low high.
    by_equal j l.end
    (λ e. ap (λ (x : ℕ). word_at s.exec.now (32 * x)) e ∙ one)
    (λ other. let before : j < l.end = omega arith in l.invariant j low before)

pub returns-then-word_inside-pc : goal.returns-then-word_inside-pc
returns-then-word_inside-pc c = (omega arith, omega arith, c.loop-end.invariant)

pub returns : goal.returns
returns c =
    let l = c.loop-end in
    let e : l.end ≡ length c.args.exec.now / 32 = omega arith in
    (omega arith, omega arith, rw e at l.invariant)
