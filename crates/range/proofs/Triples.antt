-- The instructions of three rows that are listed: each is there and well-formed; and the tests of them, by fewer words.
-- Assumes nothing.
use mathlib.Core.Path.{◌≡◌, sym, ap, ◌∙◌}
use mathlib.Core.Bool.{Bool, true, false, ◌&&◌}
use mathlib.Core.List.{List, []}
use Prim.Native.Nat.{ℕ, ◌+◌, ◌*◌, ◌/◌, ◌≤◌, ◌<◌}
use native.Mathlib.Omega.{arith}
use lib.Dec.{eqb}
use lib.ListN.{length}
use borrow.Author.Tests.{ne_eqb}
use Rattle.word.specs.Bytes.{word_at}
use Rattle.form.specs.Form.{well_formed}
use Rattle.form.specs.Instruction.{instruction_at}
use Rattle.form.specs.declared.Instruction.{Instruction}
use Rattle.rows.specs.Rows.{exec_at}
use Rattle.rules.specs.Sizes.{given, tables}
use Rattle.bus_tuples.specs.Ready.{Listed}
use Rattle.range_spec.specs.Finds.{derefs, adds, found_at, bound_at}
use Rattle.range.proofs.Words.{derefs_by_aux}

module _ (program exec : List ℕ) where
  -- where a row's instruction starts
  abbrev pub instruction_start : ℕ → ℕ
  instruction_start r = 48 * (exec_at exec (32 * r)).pc

  abbrev instruction : ℕ → Instruction
  instruction s = instruction_at program s

  pub there : Listed program exec → (r s : ℕ) → r < length exec / 32 → s ≡ instruction_start r
      → (s + 48 ≤ length program) × (well_formed (instruction_at program s) ≡ true)
  there listed r s h e =
      let inside = listed.inside r h in
      (omega (arith, e), ap (λ (s : ℕ). well_formed (instruction_at program s)) e ∙ listed.formed (exec_at exec (32 * r)).pc inside)

  -- the three tests are those of the rows
  pub three_tests : (r : ℕ) {a b c : ℕ} {x y z : Bool} → a ≡ instruction_start r → b ≡ instruction_start (r + 1) → c ≡ instruction_start (r + 2)
      → x ≡ derefs (instruction b).a (instruction a) → y ≡ adds (instruction b) → z ≡ derefs (instruction b).c (instruction c)
      → x && y && z ≡ found_at (given program []) (tables exec []) r
  unfolding found_at
  three_tests r ea eb ec ex ey ez = rw (ex, ey, ez, ea, eb, ec)

  -- a row whose AUX is not 2
  pub no_deref : Listed program exec → (r s : ℕ) → r < length exec / 32 → s ≡ instruction_start r → (word_at program (s + 40) ≡ 2 → ⊥)
      → false ≡ found_at (given program []) (tables exec []) r
  unfolding found_at instruction_at
  no_deref listed r s h e other =
      let none : eqb (word_at program (instruction_start r + 40)) 2 ≡ false = ne_eqb _ 2 (λ z. other (rw e z)) in
      sym (rw (derefs_by_aux (instruction (instruction_start r)) (instruction (instruction_start (r + 1))).a (rw e at (there listed r s h e).1), none))

  pub bound_read : (r s : ℕ) → s ≡ instruction_start (r + 1) → word_at program (s + 4) + 1 ≡ bound_at (given program []) (tables exec []) r
  unfolding bound_at instruction_at
  bound_read r s e = ap (λ (s : ℕ). word_at program (s + 4) + 1) e
