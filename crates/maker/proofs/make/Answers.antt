-- Each answer has its law; what the tests leave is what `fill` requires.
use mathlib.Core.Path.{◌≡◌, sym, ◌∙◌}
use Prim.Native.Nat.{◌*◌, ◌^◌}
use native.Mathlib.Omega.{arith}
use lib.ListN.{length}
use Rattle.maker.proofs.Answers.{outside, program_refused, memory_refused, room, filled}
use Rattle.label.proofs.Range.{m_high, n_high}
use Rattle.maker.proofs.make.Goals as goal

pub returns-then-not-in_range : goal.returns-then-not-in_range
returns-then-not-in_range c =
    let s = c.args in
    outside s.recipe s.program.now s.memory.now (sym c.in_range.ensures ∙ c.if-not-in_range.true)

pub returns-then-program-recipe : goal.returns-then-program-recipe
returns-then-program-recipe c =
    let s = c.args in
    let inside = sym c.in_range.ensures ∙ c.if-not-in_range.false in
    program_refused s.recipe s.program.now s.memory.now inside c.if-program-recipe.true

pub memory_size-requires : goal.memory_size-requires
memory_size-requires c =
    let s = c.args in
    let inside = sym c.in_range.ensures ∙ c.if-not-in_range.false in
    m_high s.recipe inside

pub returns-then-memory-memory_size : goal.returns-then-memory-memory_size
returns-then-memory-memory_size c =
    let s = c.args in
    let inside = sym c.in_range.ensures ∙ c.if-not-in_range.false in
    memory_refused s.recipe s.program.now s.memory.now inside c.if-program-recipe.false (λ e. c.if-memory-memory_size.true (e ∙ sym c.memory_size.ensures))

pub fill-requires : goal.fill-requires
fill-requires c =
    let s = c.args in
    let inside = sym c.in_range.ensures ∙ c.if-not-in_range.false in
    let q : length s.memory.now ≡ 4 * 2 ^ s.recipe.m = c.if-memory-memory_size.false ∙ c.memory_size.ensures in
    (n_high s.recipe inside, c.if-program-recipe.false, room s.recipe s.program.now s.memory.now inside q, omega arith)

pub returns : goal.returns
returns c =
    let s = c.args in
    let inside = sym c.in_range.ensures ∙ c.if-not-in_range.false in
    let q : length s.memory.now ≡ 4 * 2 ^ s.recipe.m = c.if-memory-memory_size.false ∙ c.memory_size.ensures in
    filled s.recipe s.program.now s.memory.now inside c.if-program-recipe.false q c.fill.ensures.0 c.fill.ensures.1
