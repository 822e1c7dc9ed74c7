-- What the stages before the bus leave, where none refused: words below p, well-formed instructions, flags that are 0
-- or 1.
-- Assumes nothing.
use mathlib.Core.Path.{◌≡◌, subst}
use mathlib.Core.Bool.{Bool}
use mathlib.Core.Logic.{⊎_elim}
use mathlib.Core.List.{List, []}
use Prim.Native.Nat.{ℕ, ◌+◌, ◌*◌, ◌/◌, ◌≤◌, ◌<◌}
use native.Mathlib.Omega.{arith}
use lib.ListN.{length}
use lib.Dec.{T}
use borrow.Author.Tests.{ltb-true, eqb-true}
use Rattle.word.specs.Word.{p, IsWord, ◌-ₚ◌, ◌*ₚ◌}
use Rattle.word.specs.Bytes.{word_at}
use Rattle.word.proofs.WordLaws.{zero_or_one}
use Rattle.rows.specs.Rows.{ext_at}
use Rattle.rules.specs.Given.{zero?}
use Rattle.rules.specs.Extension.{ext_rules}
use Rattle.rules.specs.Sizes.{word_of, given, tables}
use Rattle.rules.specs.Satisfies.{All, Words}
use Rattle.judge_spec.specs.Judged.{is_word, first_word, exec_failing, ext_rules_at, ext_failing}
use Rattle.judge_spec.proofs.Cases.{is_true}
use Rattle.judge_spec.proofs.FirstLaws.{first_past}
use Rattle.judge_spec.proofs.RuleLaws.{failing_holds, ext_numbered}
use Rattle.inputs.specs.Words.{WellFormed}
use Rattle.bus_tuples.specs.Ready.{Listed, Flagged}
use Rattle.std.proofs.Common.{Option, None}
use Rattle.judge_walks.specs.declared.Failing.{Failing}
use Rattle.judge_walks.specs.Walks.{Tested}
use Rattle.judge_walks.proofs.Rows.{none_fails, pc_inside}

pub all_words : (bytes : List ℕ) (m : ℕ) → m ≡ first_word bytes → length bytes / 4 ≤ m → Words bytes
all_words bytes m e past k h = ltb-true (word_of bytes k) p (first_past (is_word bytes) (length bytes / 4) (rw e at past) k h)

-- pc is in the program, and its instructions are well-formed
pub rows_listed : (program memory exec : List ℕ) {words : Bool}
    → Tested (exec_failing (given program memory) (tables exec [])) (length exec / 32) exec None words
    → WellFormed program → Listed program exec
rows_listed program memory exec tested well =
    record { formed = well; inside = λ r h. pc_inside program memory _ _ _ (none_fails tested r h) }

-- a flag that its rule holds to 0 or 1
bit : (x : ℕ) → IsWord x → T (zero? (x *ₚ (1 -ₚ x))) → x ≤ 1
bit x w holds =
    ⊎_elim (λ (z : x ≡ 0). omega arith) (λ (o : x ≡ 1). omega arith)
    (zero_or_one x w (eqb-true (x *ₚ (1 -ₚ x)) 0 (is_true _ holds)))

-- word j of extension row k
row_word : (ext : List ℕ) → Words ext → (k j at : ℕ) → k < length ext / 120 → j < 30 → 4 * (30 * k + j) ≡ at → IsWord (word_at ext at)
row_word ext words k j at h inside e = subst (λ n. IsWord (word_at ext n)) e (words (30 * k + j) (omega arith))

module _ (memory ext : List ℕ) {words : Bool}
    (tested : Tested (ext_failing (given [] memory) (tables [] ext)) (length ext / 120) ext None words) where
  ext_holds : (r : ℕ) → r < length ext / 120 → All (ext_rules_at (given [] memory) (tables [] ext) r)
  ext_holds r h = failing_holds (ext_rules_at (given [] memory) (tables [] ext) r) (ext_numbered (given [] memory) _ _) (none_fails tested r h)

  -- rules 2 to 5
  pub rows_flagged : Words ext → Flagged ext
  unfolding ext_rules ext_at
  rows_flagged words k h =
      let rules = ext_holds k h in
      record {
        start_bit = bit _ (row_word ext words k 0 (120 * k) h (omega arith) (omega arith)) rules.1.1.1.1.1.0;
        add_bit = bit _ (row_word ext words k 1 (120 * k + 4) h (omega arith) (omega arith)) rules.1.1.1.1.1.1.0;
        mul_bit = bit _ (row_word ext words k 2 (120 * k + 8) h (omega arith) (omega arith)) rules.1.1.1.1.1.1.1.0;
        peq_bit = bit _ (row_word ext words k 3 (120 * k + 12) h (omega arith) (omega arith)) rules.1.1.1.1.1.1.1.1.0;
      }

-- the extension rules look at the memory alone
pub any_program : (program memory exec ext : List ℕ) {found : Option Failing} {words : Bool}
    → Tested (ext_failing (given [] memory) (tables [] ext)) (length ext / 120) ext found words
    → Tested (ext_failing (given program memory) (tables exec ext)) (length ext / 120) ext found words
unfolding ext_rules
any_program program memory exec ext tested = tested
