-- A row that is no find puts nothing, and one that is two words.
use borrow.Author.Rules.{rules}
use mathlib.Core.Path.{refl, sym, ap₂, ◌∙◌}
use mathlib.Core.List.{List, []}
use Prim.Native.Nat.{ℕ, ◌+◌}
use Rattle.word.specs.Bytes.{with_word}
use Rattle.rules.specs.Sizes.{given, tables}
use Rattle.range.proofs.Places.{nothing_put, find_put}
use Rattle.range.proofs.walk.AcceptedRows.put_row.Goals as goal

pub returns-then-not-found_at : goal.returns-then-not-found_at
returns-then-not-found_at c =
    let rows = c.args.self.now.rows in
    nothing_put (given rows.program.now []) (tables rows.exec.now []) c.args.r c.args.out.now
    (sym c.found_at.ensures ∙ c.if-not-found_at.true)

pub bound_at-requires : goal.bound_at-requires
bound_at-requires c = record {
  r_in_bounds = c.requires.r_in_bounds;
  r_bound = c.args.self.now.bounds c.args.r c.requires.r_in_bounds;
}

pub returns : goal.returns
returns c =
    let rows = c.args.self.now.rows in
    find_put (given rows.program.now []) (tables rows.exec.now []) c.args.r (sym c.found_at.ensures ∙ c.if-not-found_at.false)
    c.requires.room
    refl
    (c.put_word-2.ensures
    ∙ ap₂ (λ (l : List ℕ) (x : ℕ). with_word l (c.args.out.now.at + 4) x) c.put_word.ensures c.bound_at.ensures)
    refl

pub overflow_cast-r : goal.overflow_cast-r
overflow_cast-r c = let short = c.args.self.now.short in search rules
