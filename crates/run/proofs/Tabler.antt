-- Demand 3 of the tabler's own bytes: where it accepts, the judge accepts the very bytes it left; where there is a
-- legal run of that height with a spare row, it accepts and leaves that run's tables. And what its refusals leave.
-- Assumes nothing.
use mathlib.Core.Path.{◌≡◌, refl, ◌∙◌}
use mathlib.Core.List.{List}
use Prim.Native.Nat.{ℕ, ◌-◌, ◌*◌, ◌≤◌}
use native.Mathlib.Omega.{arith}
use lib.ListN.{length, replicate}
use Rattle.answer.specs.Verdicts.{numbers_of}
use Rattle.std.specs.Prelude.{Ok, Err}
use Rattle.answer.specs.declared.Refusal.TheVariants as refusal
use Rattle.answer.specs.Answers.{Answer, Accepted, Size, Word, Instruction, Start, Exec, Extension, Bus, Label, Stuck, Room, Open, Buffer, Grid, Edition, Listing, Short, Host, ListShort}
use Rattle.machine.specs.Machine.{State}
use Rattle.tables.specs.Rows.{state_at}
use Rattle.tabler_spec.specs.Tabled.{held_after}
use Rattle.run_tables.proofs.Runs.{state_is, filled_same, before_last, own_run}
use Rattle.run.specs.Runs.{Input, JudgeAccepts, machine, start_of, Permitted, LegalRun, Spare, WrittenAs, rows_in, ext_rows_in, written_exec, written_ext}
use Rattle.run.specs.Tabler.{answer_for, exec_left, ext_left, Tells}
use Rattle.run.proofs.Agree.{many_steps}
use Rattle.run.proofs.Converse.{converse}
use Rattle.run.proofs.Telling.{tells_exactly}

module _ (i : Input) (permitted : Permitted i) (height ext_height : ℕ) (state : ℕ → State) (legal : LegalRun i height state)
    (spare : Spare i height ext_height state) (exec ext : List ℕ) (rows : length exec ≡ 32 * height) (ext_rows : length ext ≡ 120 * ext_height) where
  abbrev own : ℕ → State
  own = state_at (machine i) (start_of i)

  own_legal : LegalRun i height own
  own_legal = record { permitted = legal.permitted; run = own_run legal.run }

  own_spare : Spare i height ext_height own
  own_spare =
      record {
        permitted = spare.permitted;
        room = omega (arith, spare.room, many_steps legal, filled_same (before_last legal.run) height (omega (arith, many_steps legal)));
      }

  -- where there is a legal run of that height with a spare row, the tabler accepts
  pub run_accepted : answer_for i exec ext ≡ Accepted
  unfolding Tells
  run_accepted =
      (tells_exactly i exec ext Accepted).1
      (record {
        permitted = permitted;
        height = height;
        ext_height = ext_height;
        rows = rows;
        ext_rows = ext_rows;
        state = state;
        legal = legal;
        spare = spare;
      })

  exec_left_lem : exec_left i exec ext ≡ written_exec i height own
  exec_left_lem =
      let same : rows_in exec ≡ height = omega arith in
      rw (run_accepted, same)

  ext_left_lem : ext_left i exec ext ≡ written_ext i height ext_height own
  ext_left_lem =
      let same : rows_in exec ≡ height = omega arith in
      let ext_same : ext_rows_in ext ≡ ext_height = omega arith in
      rw (run_accepted, same, ext_same)

  -- and what it leaves is accepted, and is that run's
  pub run_left : WrittenAs i height ext_height state (exec_left i exec ext) (ext_left i exec ext)
  run_left =
      let t = converse i permitted height ext_height own own_legal own_spare in
      let is = state_is (before_last legal.run) in
      rw (exec_left_lem, ext_left_lem)
      (record {
        accepted = t.accepted;
        rows = t.rows;
        ext_rows = t.ext_rows;
        states = λ r h. t.states r h ∙ is r (omega arith);
        stays = t.stays;
      })

module _ (i : Input) (exec ext : List ℕ) where
  -- for every input and pair of buffers: the very bytes that it left are accepted
  pub own_bytes : answer_for i exec ext ≡ Accepted → JudgeAccepts i (exec_left i exec ext) (ext_left i exec ext)
  unfolding Tells
  own_bytes e =
      let x = (tells_exactly i exec ext Accepted).0 e in
      (run_left i x.permitted x.height x.ext_height x.state x.legal x.spare exec ext x.rows x.ext_rows).accepted

  -- verdicts 1 to 4 change no buffer
  kept : (a : Answer) (old written : List ℕ) → 1 ≤ (numbers_of a).verdict → (numbers_of a).verdict ≤ 4 → held_after a old written ≡ old
  kept (Ok o) old written h l = absurd (omega arith)
  kept (Err (refusal.Size part place)) old written h l = refl
  kept (Err (refusal.Word part place)) old written h l = refl
  kept (Err (refusal.Instruction place)) old written h l = refl
  kept (Err refusal.Start) old written h l = refl
  kept (Err (refusal.Exec row rule expected found)) old written h l = refl
  kept (Err (refusal.Extension row rule expected found)) old written h l = refl
  kept (Err (refusal.Bus part row)) old written h l = refl
  kept (Err (refusal.Label place)) old written h l = refl
  kept (Err (refusal.Stuck row rule)) old written h l = absurd (omega arith)
  kept (Err (refusal.Room row)) old written h l = absurd (omega arith)
  kept (Err (refusal.Open row)) old written h l = absurd (omega arith)
  kept (Err refusal.Buffer) old written h l = refl
  kept (Err refusal.Grid) old written h l = refl
  kept (Err (refusal.Edition place)) old written h l = refl
  kept (Err (refusal.Listing place)) old written h l = refl
  kept (Err (refusal.Short place)) old written h l = refl
  kept (Err refusal.Host) old written h l = refl
  kept (Err (refusal.ListShort place)) old written h l = refl

  -- 9 to 11 leave zeros
  zeroed : (a : Answer) (old written : List ℕ) → 9 ≤ (numbers_of a).verdict → (numbers_of a).verdict ≤ 11 → held_after a old written ≡ replicate (length old) 0
  zeroed (Ok o) old written h l = absurd (omega arith)
  zeroed (Err (refusal.Size part place)) old written h l = absurd (omega arith)
  zeroed (Err (refusal.Word part place)) old written h l = absurd (omega arith)
  zeroed (Err (refusal.Instruction place)) old written h l = absurd (omega arith)
  zeroed (Err refusal.Start) old written h l = absurd (omega arith)
  zeroed (Err (refusal.Exec row rule expected found)) old written h l = absurd (omega arith)
  zeroed (Err (refusal.Extension row rule expected found)) old written h l = absurd (omega arith)
  zeroed (Err (refusal.Bus part row)) old written h l = absurd (omega arith)
  zeroed (Err (refusal.Label place)) old written h l = absurd (omega arith)
  zeroed (Err (refusal.Stuck row rule)) old written h l = refl
  zeroed (Err (refusal.Room row)) old written h l = refl
  zeroed (Err (refusal.Open row)) old written h l = refl
  zeroed (Err refusal.Buffer) old written h l = absurd (omega arith)
  zeroed (Err refusal.Grid) old written h l = absurd (omega arith)
  zeroed (Err (refusal.Edition place)) old written h l = absurd (omega arith)
  zeroed (Err (refusal.Listing place)) old written h l = absurd (omega arith)
  zeroed (Err (refusal.Short place)) old written h l = absurd (omega arith)
  zeroed (Err refusal.Host) old written h l = absurd (omega arith)
  zeroed (Err (refusal.ListShort place)) old written h l = absurd (omega arith)

  pub refusal_keeps : 1 ≤ (numbers_of (answer_for i exec ext)).verdict → (numbers_of (answer_for i exec ext)).verdict ≤ 4
      → (exec_left i exec ext ≡ exec) × (ext_left i exec ext ≡ ext)
  refusal_keeps h l = (kept (answer_for i exec ext) exec _ h l, kept (answer_for i exec ext) ext _ h l)

  pub refusal_zeroes : 9 ≤ (numbers_of (answer_for i exec ext)).verdict → (numbers_of (answer_for i exec ext)).verdict ≤ 11
      → (exec_left i exec ext ≡ replicate (length exec) 0) × (ext_left i exec ext ≡ replicate (length ext) 0)
  refusal_zeroes h l = (zeroed (answer_for i exec ext) exec _ h l, zeroed (answer_for i exec ext) ext _ h l)
