-- The constraints read only the rows below the heights: tables that agree there satisfy them alike.
-- Assumes nothing.
use mathlib.Core.Path.{◌≡◌, sym, ◌∙◌, ap, subst₂}
use Prim.Native.Nat.{ℕ, ◌<◌}
use native.Mathlib.Omega.{arith}
use Rattle.rows.specs.declared.Exec.{Exec}
use Rattle.rows.specs.declared.Ext.{Ext}
use Rattle.rules.specs.Given.{Given, Tables, next}
use Rattle.rules.specs.Execution.{exec_rules}
use Rattle.rules.specs.Extension.{ext_rules}
use Rattle.rules.specs.Satisfies.{All, Constraints}
use Rattle.run_groups.proofs.Pairs.{next_below}
use Rattle.rules.proofs.Totals.{total_same}
use Rattle.run_tables.proofs.Steps.{pulled_by, pushed_by}

pub record SameRows (t u : Tables) : Type 0 where
  pub height : u.height ≡ t.height
  pub exec : (r : ℕ) → r < t.height → u.exec r ≡ t.exec r
  pub ext_height : u.ext_height ≡ t.ext_height
  pub ext : (k : ℕ) → k < t.ext_height → u.ext k ≡ t.ext k

pub constraints_same : (g : Given) (t u : Tables) → SameRows t u → Constraints g t → Constraints g u
constraints_same g t u same c =
    record {
      execution = λ r h.
          let l : r < t.height = omega (arith, same.height) in
          rw same.height
          (subst₂ (λ (x y : Exec). All (exec_rules g x y (g.instruction x.pc))) (sym (same.exec r l))
          (sym (same.exec _ (next_below t.height r l))) (c.execution r l));
      extension = λ k h.
          let l : k < t.ext_height = omega (arith, same.ext_height) in
          rw same.ext_height
          (subst₂ (λ (x y : Ext). All (ext_rules g x y)) (sym (same.ext k l)) (sym (same.ext _ (next_below t.ext_height k l)))
          (c.extension k l));
      bus = λ σ.
          rw (same.height, same.ext_height)
          (total_same (λ r. pushed_by g σ (u.exec r)) (λ r. pushed_by g σ (t.exec r)) t.height (λ r h. ap (pushed_by g σ) (same.exec r h))
          ∙ c.bus σ
          ∙ sym (total_same (λ k. pulled_by σ (u.ext k)) (λ k. pulled_by σ (t.ext k)) t.ext_height (λ k h. ap (pulled_by σ) (same.ext k h))));
    }
