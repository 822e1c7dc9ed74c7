-- Version 1 makes what it made before there were others, and profiles, byte for byte; and the maker is not blind to its
-- version.
-- Assumes nothing.
use mathlib.Core.Path.{◌≡◌, refl, sym, ap, ◌∙◌}
use mathlib.Core.Bool.{true, false}
use Prim.Native.Nat.{ℕ, ◌+◌, ◌^◌}
use borrow.Author.Tests.{eqb-false}
use lib.Dec.{eqb}
use Rattle.label.specs.Label.{ranged}
use Rattle.label.specs.declared.Recipe.{Recipe}
use Rattle.maker_draws.specs.Drawn.{Draws}
use Rattle.maker_draws.specs.Plain.{plain_draws}
use Rattle.maker_draws.proofs.Versions.{first_plain, later_alike}
use Rattle.maker_draws.proofs.Examples.{eight_thrown}
use Rattle.maker_spec.specs.Bytes.{recipe_draws, program_of, memory_of}
use Rattle.maker_plain.specs.Plain.{plain_program, plain_memory}
use Rattle.maker_plain.proofs.Plain.{recipe_plain}
use Rattle.maker_law.proofs.Seeds.{seeded, first_cell}

pub first_as_before : (r : Recipe) → ranged r ≡ true → r.version ≡ 1
    → (program_of r ≡ plain_program (plain_draws r.seed) r.n (r.n + 1)) × (memory_of r ≡ plain_memory (plain_draws r.seed) r.n (2 ^ r.m))
first_as_before r inside is =
    let e : recipe_draws r ≡ plain_draws r.seed = rw is (first_plain r.seed) in
    let (program, memory) = recipe_plain r inside in
    (program ∙ ap (λ (d : Draws). plain_program d r.n (r.n + 1)) e, memory ∙ ap (λ (d : Draws). plain_memory d r.n (2 ^ r.m)) e)

-- seed 00ffdb37cb0c5f43: eight draws of a later version are thrown away
pub versions_differ : (m n version : ℕ) → eqb version 1 ≡ false → memory_of (seeded m n 1 72017151737487171) ≡ memory_of (seeded m n version 72017151737487171) → ⊥
versions_differ m n version later e =
    eqb-false 11282249 1030086921 refl
    (sym eight_thrown.3 ∙ first_cell m n 1 version 72017151737487171 72017151737487171 e
    ∙ ap (λ (d : Draws). d.cell 0) (later_alike version 2 later refl 72017151737487171) ∙ eight_thrown.1)
