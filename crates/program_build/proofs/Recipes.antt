-- What is built of a recipe with m 10 in buffers of the right lengths.
-- Assumes nothing.
use mathlib.Core.Bool.{true}
use mathlib.Core.List.{List}
use mathlib.Core.Path.{◌≡◌, sym, ap, ap₂, subst, ◌∙◌}
use Prim.Native.Nat.{ℕ, ◌+◌, ◌*◌, ◌^◌, ◌≤◌}
use native.Mathlib.Omega.{arith}
use borrow.Author.Tests.{eq-eqb}
use lib.Dec.{T, eqb}
use lib.ListN.{length, replicate, length-replicate}
use Rattle.answer.specs.Answers.{Accepted}
use Rattle.label.specs.Label.{ranged}
use Rattle.label.proofs.Range.{n_high}
use Rattle.label.specs.declared.Recipe.{Recipe}
use Rattle.maker_spec.specs.Bytes.{sizes_fit, program_of, memory_of, program_after, memory_after}
use Rattle.maker_run.specs.Runs.{recipe_input}
use Rattle.maker_run.proofs.Runs.{recipe_run}
use Rattle.rules.specs.Sizes.{exec_fits, ext_fits}
use Rattle.judge_spec.specs.Judged.{judge_of}
use Rattle.run.specs.Runs.{with_tables}
use Rattle.tabler_spec.specs.Tabled.{table_of, exec_after, ext_after}
use Rattle.program_build.specs.Inner.{Spaces}
use Rattle.program_build.specs.Recipes.{height, exec_tabled, ext_tabled}

-- M-107: the tabler accepts what the maker made, so both tables are the run's, and the judge accepts them
module _ (r : Recipe) (inside : ranged r ≡ true) (e x : List ℕ) (exec_long : length e ≡ 32 * height) (ext_long : length x ≡ 120 * height) where
  exec_fits_lem : T (exec_fits (length e))
  exec_fits_lem = subst (λ (k : ℕ). T (exec_fits k)) (sym exec_long) tt

  ext_fits_lem : T (ext_fits (length x))
  ext_fits_lem = subst (λ (k : ℕ). T (ext_fits k)) (sym ext_long) tt

  tabled : table_of (program_of r) (memory_of r) 0 0 (length e) (length x) ≡ Accepted
  tabled = (recipe_run r inside).tabled e x exec_fits_lem ext_fits_lem

  exec_is : exec_after (program_of r) (memory_of r) 0 0 e x ≡ exec_tabled r
  unfolding exec_tabled
  exec_is = rw (tabled, exec_long)

  ext_is : ext_after (program_of r) (memory_of r) 0 0 e x ≡ ext_tabled r
  unfolding ext_tabled
  ext_is = rw (tabled, exec_long, ext_long)

  judged : judge_of (with_tables (recipe_input r) (exec_tabled r) (ext_tabled r)) ≡ Accepted
  judged =
      ap₂ (λ (exec ext : List ℕ). judge_of (with_tables (recipe_input r) exec ext)) (sym exec_is) (sym ext_is)
      ∙ (recipe_run r inside).judged e x exec_fits_lem ext_fits_lem

pub judged_accepted : (r : Recipe) → ranged r ≡ true → judge_of (with_tables (recipe_input r) (exec_tabled r) (ext_tabled r)) ≡ Accepted
judged_accepted r inside =
    judged r inside (replicate (32 * height) 0) (replicate (120 * height) 0) (length-replicate {A = ℕ} (32 * height) 0)
    (length-replicate {A = ℕ} (120 * height) 0)

module _ (r : Recipe) (p m e x : List ℕ) (room : Spaces r (length p) (length m) (length e) (length x)) where
  -- the four parts have room in 49,008 bytes
  pub total_most : length p + length m + length e + length x ≤ 49008
  total_most = omega (arith, n_high r room.inside)

  program_size : eqb (length p) (48 * (r.n + 1)) ≡ true
  program_size = eq-eqb (length p) (48 * (r.n + 1)) room.program_long

  memory_size : eqb (length m) (4 * 2 ^ r.m) ≡ true
  memory_size =
      eq-eqb (length m) (4 * 2 ^ r.m) (room.memory_long ∙ ap (λ (k : ℕ). 4 * 2 ^ k) (sym room.ten))

  fitting : sizes_fit r (length p) (length m) ≡ true
  fitting = rw (room.inside, program_size, memory_size)

  -- what the maker leaves, and the tabler on it
  pub built : {program memory exec ext : List ℕ}
      → program ≡ program_after r p m
      → memory ≡ memory_after r p m
      → exec ≡ exec_after program memory 0 0 e x
      → ext ≡ ext_after program memory 0 0 e x
      → (program ≡ program_of r) × (memory ≡ memory_of r) × (exec ≡ exec_tabled r) × (ext ≡ ext_tabled r)
  built i j g k =
      let first : program_after r p m ≡ program_of r = rw fitting in
      let second : memory_after r p m ≡ memory_of r = rw fitting in (
        i ∙ first,
        j ∙ second,
        g ∙ rw (i ∙ first, j ∙ second) (exec_is r room.inside e x room.exec_long room.ext_long),
        k ∙ rw (i ∙ first, j ∙ second) (ext_is r room.inside e x room.exec_long room.ext_long),
      )
