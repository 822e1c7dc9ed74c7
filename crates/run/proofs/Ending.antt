-- How the tabler's run ends, by what it says of the machine: the first row that is stuck or has no room, else whether
-- the last step stays. Every such answer holds, and one alone does.
-- Assumes nothing.
use mathlib.Core.Path.{◌≡◌, refl, sym, ◌∙◌, ap}
use mathlib.Core.Bool.{Bool, true, false, cond, true≢false}
use mathlib.Core.List.{[], ◌∷◌}
use Prim.Native.Nat.{ℕ, zero, suc, ◌+◌, ◌-◌, ◌≤◌, ◌<◌}
use native.Mathlib.Omega.{arith}
use lib.Dec.{ltb, eqb}
use borrow.Author.Tests.{leb-true, leb-false, le-leb, lt-leb, lt-ltb, le-ltb, ltb-true, ltb-false, eqb-true, eq-eqb}
use Rattle.answer.specs.Answers.{Answer, Accepted, Stuck, Room, Open}
use Rattle.word.proofs.Tests.{each, by_order, by_test}
use Rattle.machine.specs.Machine.{Machine, State}
use Rattle.machine.specs.Step.{Outcome, goes, stuck, step}
use Rattle.machine.specs.Run.{StayingRun, after, proceed}
use Rattle.judge_spec.specs.First.{first}
use Rattle.judge_spec.proofs.FirstLaws.{first_past, first_before, first_fails, first_found, first_none}
use Rattle.tables.specs.Rows.{state_at, reached}
use Rattle.tables.specs.Groups.{filled}
use Rattle.tabler_spec.specs.Tabled.{same_state, is_legal, row_passes, refused_at, ending}
use Rattle.run_tables.proofs.Places.{filled_grows}
use Rattle.run_tables.proofs.Runs.{after_is, state_is, filled_same, before_last, own_run}
use Rattle.run.specs.Tabler.{LegalTo}

-- two states are the same where the test of their numbers says so
same_state_lem : (s t : State) → same_state s t ≡ true → s ≡ t
same_state_lem s t e =
    let h = each (eqb s.pc t.pc) (eqb s.fp t.fp ∷ []) e in
    λ i. record { pc = eqb-true s.pc t.pc h.0 i; fp = eqb-true s.fp t.fp h.1 i }

same_itself : {s t : State} → s ≡ t → same_state s t ≡ true
same_itself {s} {t} e = rw (e, eq-eqb t.pc t.pc refl, eq-eqb t.fp t.fp refl)

legal_goes : (o : Outcome) → is_legal o ≡ true → o ≡ goes (reached o)
legal_goes (goes t) e = refl
legal_goes (stuck rule) e = absurd (true≢false (sym e))

module _ (m : Machine) (start : State) (height room : ℕ) (some : 1 ≤ room) where
  abbrev own : ℕ → State
  own = state_at m start

  -- rows that pass are a legal run with room
  passed : (n : ℕ) → ((r : ℕ) → r < n → row_passes m own room r ≡ true) → LegalTo m start room n own
  unfolding state_at after filled
  passed n all = record { legal = record { begins = refl; steps = steps }; room = spare n all }
    where
      comes : (r : ℕ) → r ≤ n → after m start r ≡ goes (own r)
      comes zero h = refl
      comes (suc r) h = legal_goes _ (rw (comes r (omega arith)) (each _ (_ ∷ []) (all r h)).0)

      steps : (r : ℕ) → r < n → step m (own r) ≡ goes (own (suc r))
      steps r h = sym (ap (proceed m) (comes r (omega arith))) ∙ comes (suc r) h

      spare : (k : ℕ) → ((r : ℕ) → r < k → row_passes m own room r ≡ true) → filled m own k + 1 ≤ room
      spare zero all = omega arith
      spare (suc k) all = leb-true (filled m own (suc k) + 1) room (each (is_legal (step m (own k))) (_ ∷ []) (all k (omega arith))).1

  -- and only those
  passes : {n : ℕ} {state : ℕ → State} → LegalTo m start room n state → (r : ℕ) → r < n → row_passes m own room r ≡ true
  passes {n} to r h =
      let is = state_is to.legal in
      let fits : filled m own (suc r) + 1 ≤ room = omega (arith, to.room, filled_same to.legal n (omega arith), filled_grows m own (suc r) n h) in
      rw (is r (omega arith), to.legal.steps r h) (le-leb (filled m own (suc r) + 1) room fits)

  -- whether a row has room, where its step is legal
  crowded : (r : ℕ) {t : State} → step m (own r) ≡ goes t → row_passes m own room r ≡ false → room < filled m own (suc r) + 1
  crowded r e bad = leb-false (filled m own (suc r) + 1) room (rw e at bad)

  -- an answer of the run's end, by what it says of the machine
  pub ending_cases : (Holds : Answer → Type 0)
      → ((r reason : ℕ) → r < height → LegalTo m start room r own → step m (own r) ≡ stuck reason → Holds (Stuck r reason))
      → ((r : ℕ) (t : State) → r < height → LegalTo m start room r own → step m (own r) ≡ goes t → room < filled m own (suc r) + 1 → Holds (Room r))
      → (LegalTo m start room height own → (own height ≡ own (height - 1) → ⊥) → Holds (Open (height - 1)))
      → (LegalTo m start room height own → own height ≡ own (height - 1) → Holds Accepted)
      → Holds (ending m start height room)
  unfolding ending
  ending_cases Holds is_stuck no_room opens accepts =
      by_test Holds (ltb (first test 0 height) height)
      (λ below. refused (first test 0 height) (ltb-true _ height below) (first_before test height) (first_fails test height (ltb-true _ height below)))
      (λ past. finished (passed height (first_past test height (ltb-false _ height past))))
    where
      test : ℕ → Bool
      test = row_passes m own room

      refused : (r : ℕ) → r < height → ((k : ℕ) → k < r → test k ≡ true) → test r ≡ false → Holds (refused_at r (step m (own r)))
      refused r h before bad = by (step m (own r)) refl
        where
          by : (o : Outcome) → step m (own r) ≡ o → Holds (refused_at r o)
          by (goes t) e = no_room r t h (passed r before) e (crowded r e bad)
          by (stuck reason) e = is_stuck r reason h (passed r before) e

      finished : LegalTo m start room height own → Holds (cond (same_state (own height) (own (height - 1))) Accepted (Open (height - 1)))
      finished to =
          by_test Holds (same_state (own height) (own (height - 1))) (λ e. accepts to (same_state_lem _ _ e))
          (λ e. opens to (λ same. true≢false (sym (same_itself same) ∙ e)))

  module _ {state : ℕ → State} where
    refused_at_lem : (r : ℕ) → r < height → LegalTo m start room r state → row_passes m own room r ≡ false
        → ending m start height room ≡ refused_at r (step m (own r))
    unfolding ending
    refused_at_lem r h to bad = rw (first_found (row_passes m own room) height r h (passes to) bad, lt-ltb r height h)

    pub ending_stuck : (r : ℕ) {reason : ℕ} → r < height → LegalTo m start room r state → step m (state r) ≡ stuck reason
        → ending m start height room ≡ Stuck r reason
    ending_stuck r h to e =
        let here : step m (own r) ≡ _ = ap (step m) (state_is to.legal r (omega arith)) ∙ e in
        refused_at_lem r h to (rw here) ∙ ap (refused_at r) here

    pub ending_room : (r : ℕ) {t : State} → r < height → LegalTo m start room r state → step m (state r) ≡ goes t
        → room < filled m state (suc r) + 1
        → ending m start height room ≡ Room r
    ending_room r h to e full =
        let here : step m (own r) ≡ _ = ap (step m) (state_is to.legal r (omega arith)) ∙ e in
        refused_at_lem r h to
        (rw here (lt-leb (filled m own (suc r) + 1) room (omega (arith, filled_same to.legal (suc r) (omega arith)))))
        ∙ ap (refused_at r) here

    finishes : LegalTo m start room height state
        → ending m start height room ≡ cond (same_state (own height) (own (height - 1))) Accepted (Open (height - 1))
    unfolding ending
    finishes to = rw ((first_none (row_passes m own room) height).1 (passes to), le-ltb height height (omega arith))

    pub ending_open : LegalTo m start room height state → (state height ≡ state (height - 1) → ⊥) → ending m start height room ≡ Open (height - 1)
    ending_open to moves =
        let is = state_is to.legal in
        finishes to
        ∙ by_test (λ (a : Answer). a ≡ Open (height - 1)) (same_state (own height) (own (height - 1)))
        (λ e. absurd (moves (sym (is height (omega arith)) ∙ same_state_lem _ _ e ∙ is (height - 1) (omega arith))))
        (λ e. refl)

  module _ {state : ℕ → State} (rows : 1 ≤ height) (run : StayingRun m start (height - 1) state) (spare : filled m state height + 1 ≤ room) where
    last_stays : own height ≡ own (height - 1)
    unfolding state_at after
    last_stays =
        let next : height ≡ suc (height - 1) = omega arith in
        ap own next ∙ rw (after_is (before_last run) (height - 1) (omega arith), run.stays)

    stayed : LegalTo m start room height own
    stayed =
        record {
          legal = record { begins = (own_run run).begins; steps = steps };
          room = omega (arith, filled_same (before_last run) height (omega arith));
        }
      where
        steps : (r : ℕ) → r < height → step m (own r) ≡ goes (own (suc r))
        steps r h =
            by_order r (height - 1) ((own_run run).steps r)
            (λ past.
            let last : r ≡ height - 1 = omega arith in
            let next : suc (height - 1) ≡ height = omega arith in
            rw (last, next, last_stays) (own_run run).stays)

    pub ending_accepts : ending m start height room ≡ Accepted
    ending_accepts = finishes stayed ∙ rw (same_itself last_stays)
