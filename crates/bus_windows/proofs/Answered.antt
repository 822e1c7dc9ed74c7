-- What the two searches and the two totals say of the bus.
-- Assumes nothing.
use borrow.Author.Tests.{lt-ltb, le-ltb}
use mathlib.Core.Path.{◌≡◌, sym, ◌∙◌}
use Prim.Native.Nat.{ℕ, ◌+◌, ◌-◌, ◌≤◌, ◌<◌}
use native.Mathlib.Omega.{arith}
use Rattle.answer.specs.Answers.{Accepted, Bus}
use Rattle.rules.specs.Given.{Given, Tables}
use Rattle.rules.specs.Bus.{total}
use Rattle.judge_spec.specs.First.{first}
use Rattle.judge_spec.specs.Judged.{push_balanced, pull_balanced, first_push, first_pull, bus}
use Rattle.judge_spec.proofs.FirstLaws.{first_past, first_none}
use Rattle.bus_windows.specs.Senders.{push_times, pull_times, equal_at}
use Rattle.bus_windows.proofs.Balance.{totals_balance}
use Rattle.bus_windows.proofs.Joined.{first_push_lem, first_pull_lem}

module _ (g : Given) (t : Tables) where
  pub pull_past : {j : ℕ} → j ≡ first (equal_at g t) t.height (t.height + t.ext_height - t.height) → t.height ≤ j
  pull_past e = omega (arith, e ∙ first_pull_lem g t)

  module _ {r : ℕ} (push : r ≡ first (equal_at g t) 0 (t.height - 0)) where
    push_is : first_push g t ≡ r
    push_is = sym (push ∙ first_push_lem g t)

    pub push_found : r < t.height → Bus 3 r ≡ bus g t
    push_found low = rw (push_is, lt-ltb r t.height low)

    module _ (past : t.height ≤ r) where
      -- no pull is unequal where as much is pulled as is pushed
      pub same_totals : total (push_times g t) t.height ≡ total (pull_times t) t.ext_height → Accepted ≡ bus g t
      same_totals same =
          let all = first_past (push_balanced g t) t.height (omega (arith, push_is)) in
          let none : first_pull g t ≡ t.ext_height = (first_none (pull_balanced g t) t.ext_height).1 (λ k h. totals_balance g t all same k) in
          rw (push_is, le-ltb r t.height past, none, le-ltb t.ext_height t.ext_height (omega arith))

      module _ {j : ℕ} (pull : j ≡ first (equal_at g t) t.height (t.height + t.ext_height - t.height)) where
        pull_is : first_pull g t ≡ j - t.height
        pull_is = omega (arith, pull ∙ first_pull_lem g t)

        pub pull_found : j < t.height + t.ext_height → Bus 4 (j - t.height) ≡ bus g t
        pull_found low =
            rw (push_is, le-ltb r t.height past, pull_is, lt-ltb (j - t.height) t.ext_height (omega (arith, pull ∙ first_pull_lem g t)))

        pub none_found : t.height + t.ext_height ≤ j → Accepted ≡ bus g t
        none_found end = rw (push_is, le-ltb r t.height past, pull_is, le-ltb (j - t.height) t.ext_height (omega arith))
