-- The run ends with ACCEPTED, STUCK, ROOM or OPEN: the first leaves the tables filled, the others are zeroed.
-- Assumes nothing.
use mathlib.Core.Bool.{Bool, true, false, cond}
use mathlib.Core.List.{List}
use mathlib.Core.Path.{◌≡◌, refl, sym, ap, ◌∙◌}
use Prim.Native.Nat.{ℕ, ◌-◌, ◌/◌, ◌≤◌}
use native.Mathlib.Omega.{arith}
use lib.Dec.{ltb}
use lib.ListN.{length, replicate}
use Rattle.answer.specs.Verdicts.{numbers_of}
use Rattle.answer.specs.Answers.{Accepted, Stuck, Room, Open, Answer}
use Rattle.machine.specs.Machine.{Machine, State}
use Rattle.machine.specs.Step.{Outcome, goes, stuck, step}
use Rattle.tables.specs.Machine.{machine_of}
use Rattle.tables.specs.Rows.{state_at}
use Rattle.judge_spec.specs.First.{first}
use Rattle.tabler_spec.specs.Tabled.{same_state, row_passes, refused_at, ending, held_after, table_of, exec_after, ext_after}
use Rattle.tabler.specs.Ends.{run_of, Ended, Tabling}
use Rattle.tabler_operands.specs.Looked.{at}

data Final : Answer → Type 0 where
  is_accepted : Final Accepted
  is_stuck : (row rule : ℕ) → Final (Stuck row rule)
  no_room : (row : ℕ) → Final (Room row)
  is_open : (row : ℕ) → Final (Open row)

chosen : (b : Bool) {x y : Answer} → Final x → Final y → Final (cond b x y)
chosen true f g = f
chosen false f g = g

refusal : (r : ℕ) (o : Outcome) → Final (refused_at r o)
refusal r (goes t) = no_room r
refusal r (stuck rule) = is_stuck r rule

final : (m : Machine) (start : State) (height room : ℕ) → Final (ending m start height room)
unfolding ending
final m start height room =
    let state = state_at m start in
    let r = first (row_passes m state room) 0 height in
    chosen (ltb r height) (refusal r (step m (state r))) (chosen (same_state (state height) (state (height - 1))) is_accepted (is_open (height - 1)))

accepted : {a : Answer} → Final a → (numbers_of a).verdict ≡ 0 → a ≡ Accepted
accepted is_accepted e = refl
accepted (is_stuck row rule) e = absurd (omega arith)
accepted (no_room row) e = absurd (omega arith)
accepted (is_open row) e = absurd (omega arith)

-- a verdict other than 0 is no acceptance, and a refusal says nothing of the tables
pub not_accepted : {a : Answer} → 1 ≤ (numbers_of a).verdict → a ≡ Accepted → ⊥
not_accepted h e = omega (arith, ap (λ (a : Answer). (numbers_of a).verdict) e)

pub refused : {program memory exec₀ ext₀ exec ext : List ℕ} {pc fp : ℕ} {a : Answer} → 1 ≤ (numbers_of a).verdict
    → a ≡ run_of program memory pc fp exec₀ ext₀ → Ended program memory pc fp exec₀ ext₀ exec ext a
refused h e = record { answer = e; exec_filled = λ y. absurd (not_accepted h y); ext_filled = λ y. absurd (not_accepted h y) }

zeroed : {a : Answer} → Final a → ((numbers_of a).verdict ≡ 0 → ⊥) → (old written : List ℕ) → held_after a old written ≡ replicate (length old) 0
zeroed is_accepted bad old written = absurd (bad refl)
zeroed (is_stuck row rule) bad old written = refl
zeroed (no_room row) bad old written = refl
zeroed (is_open row) bad old written = refl

module _ (program memory : List ℕ) (pc fp : ℕ) (exec₀ ext₀ : List ℕ) where
  last : Final (run_of program memory pc fp exec₀ ext₀)
  last = final (machine_of program memory) (at pc fp) (length exec₀ / 32) (length ext₀ / 120)

  module _ {exec ext : List ℕ} {a : Answer} (end : Ended program memory pc fp exec₀ ext₀ exec ext a) where
    pub left_filled : (numbers_of a).verdict ≡ 0
        → Tabling program memory pc fp exec₀ ext₀ (run_of program memory pc fp exec₀ ext₀) exec ext a
    left_filled e =
        let yes : run_of program memory pc fp exec₀ ext₀ ≡ Accepted = accepted last (ap (λ (b : Answer). (numbers_of b).verdict) (sym end.answer) ∙ e) in
        record {
          answer = end.answer;
          exec_held = rw yes (end.exec_filled (end.answer ∙ yes));
          ext_held = rw yes (end.ext_filled (end.answer ∙ yes));
        }

    pub left_zero : ((numbers_of a).verdict ≡ 0 → ⊥) → {exec' ext' : List ℕ}
        → exec' ≡ replicate (length exec₀) 0 → ext' ≡ replicate (length ext₀) 0
        → Tabling program memory pc fp exec₀ ext₀ (run_of program memory pc fp exec₀ ext₀) exec' ext' a
    left_zero bad ex et =
        let refused : (numbers_of (run_of program memory pc fp exec₀ ext₀)).verdict ≡ 0 → ⊥ = λ z. bad (ap (λ (b : Answer). (numbers_of b).verdict) end.answer ∙ z) in
        record { answer = end.answer; exec_held = ex ∙ sym (zeroed last refused _ _); ext_held = et ∙ sym (zeroed last refused _ _) }

  -- a refusal by verdicts 1 to 4 leaves both tables as they were
  pub unchanged : {a expected : Answer} → ((old written : List ℕ) → held_after a old written ≡ old)
      → expected ≡ a → Tabling program memory pc fp exec₀ ext₀ expected exec₀ ext₀ a
  unchanged held e = record { answer = sym e; exec_held = rw e (sym (held _ _)); ext_held = rw e (sym (held _ _)) }

  -- the tabler's three promises
  pub three : {exec ext : List ℕ} {a : Answer}
      → Tabling program memory pc fp exec₀ ext₀ (table_of program memory pc fp (length exec₀) (length ext₀)) exec ext a
      → record {
        value : a ≡ table_of program memory pc fp (length exec₀) (length ext₀);
        exec_after : exec ≡ exec_after program memory pc fp exec₀ ext₀;
        ext_after : ext ≡ ext_after program memory pc fp exec₀ ext₀;
      }
  three w = record { value = w.answer; exec_after = w.exec_held; ext_after = w.ext_held }
