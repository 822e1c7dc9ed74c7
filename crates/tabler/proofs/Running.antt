-- The run's loop: at row r it is in the state that r steps come to, all rows before r pass, and they are written in
-- both tables. Each turn keeps that, and each way out answers as the run does.
-- Assumes nothing.
use borrow.Author.Tests.{le-ltb, lt-ltb, lt-leb, le-leb}
use mathlib.Core.Bool.{Bool, true, false, cond}
use mathlib.Core.List.{List}
use mathlib.Core.Path.{◌≡◌, refl, sym, ap, ◌∙◌}
use Prim.Native.Nat.{ℕ, suc, ◌+◌, ◌-◌, ◌*◌, ◌/◌, ◌≤◌, ◌<◌}
use native.Mathlib.Nat.{add-zero}
use native.Mathlib.Numerals.{add-one}
use native.Mathlib.Omega.{arith}
use lib.ListN.{length, take}
use lib.Seq.{take_all}
use Rattle.word.specs.Bytes.{concatenated}
use Rattle.word.proofs.Tests.{eqb_same}
use Rattle.answer.specs.Answers.{Accepted, Stuck, Room, Open}
use Rattle.rows.proofs.Writing.{length_bytes}
use Rattle.rows.specs.Rows.{exec_words, ext_words}
use Rattle.machine.specs.Machine.{Machine, State}
use Rattle.machine.specs.Run.{after}
use Rattle.machine.specs.Step.{goes, stuck, step}
use Rattle.judge_spec.specs.First.{first}
use Rattle.inputs.proofs.Walks as walks
use Rattle.tables.specs.Bytes.{exec_table, ext_table}
use Rattle.tables.specs.Groups.{padding, length_at, step_row, ext_row_of, filled}
use Rattle.tables.specs.Rows.{exec_row_of, reached, state_at}
use Rattle.tabler_spec.specs.Tabled.{same_state, row_passes, refused_at, ending}
use Rattle.tabler_rows.specs.Placed.{exec_bytes, ext_bytes, placed, with_padding}
use Rattle.tabler_rows.proofs.Lent.{placed_length, rows_on, rows_length, rows_same}
use Rattle.tabler.proofs.Standing.{of_step, past_last}

pub record Ran (m : Machine) (start : State) (height room : ℕ) (exec ext : List ℕ) (s : State) (r k : ℕ) (stays : Bool) : Type 0 where
  pub walk : (let passes = row_passes m (state_at m start) room in walks.Walk passes height (first passes 0 height) r)
  pub fits : k < room
  pub comes : after m start r ≡ goes s
  pub count : k ≡ filled m (state_at m start) r
  pub last : stays ≡ same_state s (state_at m start (r - 1))
  pub exec_rows : take (32 * r) exec ≡ exec_table m (state_at m start) r
  pub ext_rows : take (120 * k) ext ≡ ext_table m (state_at m start) height k

module _ {m : Machine} {start : State} {height room : ℕ} {exec ext : List ℕ} where
  pub begins : 0 < room → Ran m start height room exec ext start 0 0 true
  unfolding after state_at filled concatenated
  begins some =
      record {
        walk = walks.begins _ height;
        fits = some;
        comes = refl;
        count = refl;
        last = rw (eqb_same start.pc, eqb_same start.fp);
        exec_rows = refl;
        ext_rows = refl;
      }

  module _ {s : State} {r k : ℕ} {stays : Bool} (ran : Ran m start height room exec ext s r k stays) (more : r < height) where
    here : state_at m start r ≡ s
    unfolding state_at
    here = ap reached ran.comes

    count_next : filled m (state_at m start) (suc r) ≡ k + length_at m s
    unfolding filled
    count_next = rw (here, ← ran.count)

    fails_here : row_passes m (state_at m start) room r ≡ false → refused_at r (step m s) ≡ ending m start height room
    unfolding ending
    fails_here bad = rw (← walks.finds ran.walk more bad, lt-ltb r height more, here)

    pub is_stuck : {rule : ℕ} → step m s ≡ stuck rule → Stuck r rule ≡ ending m start height room
    is_stuck e = rw e at (fails_here (rw (here, e)))

    module _ {t : State} (e : step m s ≡ goes t) where
      pub no_room : room ≤ k + length_at m s → Room r ≡ ending m start height room
      no_room full =
          rw e at (fails_here (rw (here, e, lt-leb (filled m (state_at m start) (suc r) + 1) room (omega (arith, count_next)))))

      one_row : exec_bytes (exec_row_of m s) ≡ concatenated (λ j. exec_bytes (exec_row_of m (state_at m start (r + j)))) 1
      unfolding concatenated
      one_row = rw (add-zero r, here)

      its_group : (j : ℕ) → j < length_at m s → ext_bytes (step_row m s j) ≡ ext_bytes (ext_row_of m (state_at m start) 0 height (k + j))
      its_group j b =
          rw ran.count (ap ext_bytes (sym (rw here at (of_step m (state_at m start) height r j more (rw here b)))))

      comes_next : after m start (r + 1) ≡ goes t
      unfolding after
      comes_next = rw (add-one r, ran.comes) e

      pub goes_on : k + length_at m s < room → 32 * r + 32 ≤ length exec → 120 * k + 120 * length_at m s ≤ length ext
          → {exec' ext' : List ℕ}
          → exec' ≡ placed exec (32 * r) (32 * r + 32) (exec_bytes (exec_row_of m s))
          → ext' ≡ placed ext (120 * k) (120 * k + 120 * length_at m s) (concatenated (λ j. ext_bytes (step_row m s j)) (length_at m s))
          → Ran m start height room exec' ext' t (r + 1) (k + length_at m s) (same_state t s)
      goes_on enough exec-room ext-room put-exec put-ext =
          let back : r + 1 - 1 ≡ r = omega arith in
          record {
            walk =
                walks.goes_past ran.walk more
                (rw (here, e, le-leb (filled m (state_at m start) (suc r) + 1) room (omega (arith, count_next))));
            fits = enough;
            comes = comes_next;
            count = sym count_next ∙ ap (filled m (state_at m start)) (sym (add-one r));
            last = rw (back, here);
            exec_rows =
                ap (take (32 * (r + 1))) put-exec
                ∙ rows_on (λ r. exec_bytes (exec_row_of m (state_at m start r))) 32 exec _ r 1 exec-room (length_bytes (exec_words (exec_row_of m s))) one_row ran.exec_rows;
            ext_rows =
                ap (take (120 * (k + length_at m s))) put-ext
                ∙ rows_on (λ j. ext_bytes (ext_row_of m (state_at m start) 0 height j)) 120 ext _ k (length_at m s) ext-room
                (rows_length (λ j. ext_bytes (step_row m s j)) 120 (length_at m s) (λ j. length_bytes (ext_words (step_row m s j))))
                (rows_same (λ j. ext_bytes (step_row m s j)) _ (length_at m s) its_group) ran.ext_rows;
          }

  module _ {s : State} {r k : ℕ} {stays : Bool} (ran : Ran m start height room exec ext s r k stays) (done : height ≤ r) where
    all : r ≡ height
    all = omega (arith, ran.walk.within)

    at_end : state_at m start height ≡ s
    unfolding state_at
    at_end = rw all at (ap reached ran.comes)

    pub stands : cond stays Accepted (Open (height - 1)) ≡ ending m start height room
    unfolding ending
    stands =
        let none = rw all at (walks.finds_none ran.walk done) in
        rw (← none, le-ltb height height (omega arith), at_end, rw all at ran.last)

    pub all_exec : length exec ≡ 32 * height → exec ≡ exec_table m (state_at m start) height
    all_exec l = sym (take_all (32 * height) exec (omega arith)) ∙ rw all at ran.exec_rows

    -- padding in what is left
    pub all_ext : length ext ≡ 120 * room → {ext' : List ℕ}
        → ext' ≡ with_padding m.cell k ext
        → ext' ≡ ext_table m (state_at m start) height room
    all_ext l {ext'} put =
        let fit = ran.fits in
        let x = concatenated (λ j. ext_bytes (padding m.cell)) (room - k) in
        let rows : length ext / 120 ≡ room = omega arith in
        let whole : k + (room - k) ≡ room = omega arith in
        let end : 120 * k + 120 * (room - k) ≡ 120 * room = omega arith in
        let padded : ext' ≡ placed ext (120 * k) (120 * room) x = rw rows at put in
        let x-length : length x ≡ 120 * (room - k) =
        rows_length (λ j. ext_bytes (padding m.cell)) 120 (room - k) (λ j. length_bytes (ext_words (padding m.cell))) in
        let same : x ≡ concatenated (λ j. ext_bytes (ext_row_of m (state_at m start) 0 height (k + j))) (room - k) =
        rows_same (λ j. ext_bytes (padding m.cell)) _ (room - k) (λ j b. ap ext_bytes (sym (past j))) in
        let filled-all = rw (whole, end) at (rows_on (λ j. ext_bytes (ext_row_of m (state_at m start) 0 height j)) 120 ext x k (room - k) (omega arith) x-length same ran.ext_rows) in
        let longs : length ext' ≡ 120 * room = ap length padded ∙ placed_length ext x (120 * k) (120 * room) (omega arith) (omega arith) (omega arith) ∙ l in
        sym (take_all (120 * room) ext' (omega arith)) ∙ ap (take (120 * room)) padded ∙ filled-all
      where
        past : (j : ℕ) → ext_row_of m (state_at m start) 0 height (k + j) ≡ padding m.cell
        past j = rw (ran.count, all) (past_last m (state_at m start) height j)
