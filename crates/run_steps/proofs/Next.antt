-- Rules 12 to 16: where J is 0 the next row goes on, where it is 1 it lands, and J is nothing else since p is prime.
-- Assumes nothing.
use mathlib.Core.Path.{◌≡◌, sym, ◌∙◌}
use mathlib.Core.Logic.{inl, inr, ⊎_elim}
use Prim.Native.Nat.{ℕ, ◌+◌, ◌<◌}
use lib.Dec.{eqb→eq}
use Rattle.word.specs.Word.{p, IsWord, ◌-ₚ◌}
use Rattle.word.proofs.WordLaws.{sum_word, zero_or_one}
use Rattle.machine.specs.Machine.{State}
use Rattle.run_steps.proofs.Legal.{Lands, Forward, Jumps}
use Rattle.run_steps.proofs.Rules.{NextRules}
use Rattle.run_steps.proofs.Words.{says_equal, holds_off, holds_equal, next_pc}

off : {j : ℕ} → j ≡ 0 → 1 -ₚ j ≡ 1
unfolding ◌-ₚ◌
off z = rw z

on : {j : ℕ} → j ≡ 1 → 1 -ₚ j ≡ 0
unfolding ◌-ₚ◌
on one = rw one

module _ (s t : State) (a b c : ℕ) where
  abbrev pub Next : ℕ → Type 0
  Next j = NextRules j a b c s.pc s.fp t.pc t.fp

  -- the rules with J 0 and with J 1
  pub read_forward : (j : ℕ) → j ≡ 0 → s.pc + 1 < p → IsWord s.fp → IsWord t.pc → IsWord t.fp → Next j → Forward s t
  read_forward j z room w v v' n =
      record {
        pc = says_equal (off z) v (sum_word _ _) n.goes_on ∙ next_pc s.pc room;
        fp = says_equal (off z) v' w n.keeps;
      }

  pub forward_rules : (j : ℕ) → j ≡ 0 → s.pc + 1 < p → Forward s t → Next j
  forward_rules j z room w =
      record {
        one = holds_off _ z;
        lands = holds_off _ z;
        enters = holds_off _ z;
        goes_on = holds_equal _ (w.pc ∙ sym (next_pc s.pc room));
        keeps = holds_equal _ w.fp;
      }

  read_taken : (j : ℕ) → j ≡ 1 → IsWord b → IsWord c → IsWord t.pc → IsWord t.fp → Next j → Lands t b c
  read_taken j one wb wc v v' n = record { pc = says_equal one v wb n.lands; fp = says_equal one v' wc n.enters }

  taken_rules : (j : ℕ) → j ≡ 1 → a ≡ 1 → Lands t b c → Next j
  taken_rules j one a_one w =
      record {
        one = holds_equal _ (sym a_one);
        lands = holds_equal _ w.pc;
        enters = holds_equal _ w.fp;
        goes_on = holds_off _ (on one);
        keeps = holds_off _ (on one);
      }

  -- a jump by its condition
  pub read_jump : (j : ℕ) → j ≡ a → s.pc + 1 < p → IsWord s.fp → IsWord t.pc → IsWord t.fp → IsWord a → IsWord b → IsWord c → Next j
      → Jumps s t a b c
  read_jump j same room w v v' wa wb wc n =
      ⊎_elim (λ (z : a ≡ 0). inl (z, read_forward j (same ∙ z) room w v v' n))
      (λ (o : a ≡ 1). inr (o, read_taken j (same ∙ o) wb wc v v' n))
      (zero_or_one a wa (eqb→eq _ 0 (rw same at n.one)))

  pub jump_rules : (j : ℕ) → j ≡ a → s.pc + 1 < p → Jumps s t a b c → Next j
  jump_rules j same room (inl (z, w)) = forward_rules j (same ∙ z) room w
  jump_rules j same room (inr (o, w)) = taken_rules j (same ∙ o) o w
