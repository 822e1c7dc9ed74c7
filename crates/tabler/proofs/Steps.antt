-- The step that the code takes is the machine's, and its rows are those of the tables.
-- Assumes nothing.
use borrow.Author.Tests.{le-ltb, lt-ltb, ltb-true, ltb-false}
use mathlib.Core.Bool.{Bool, true, false, ◌&&◌, cond, and-true}
use mathlib.Core.List.{List}
use mathlib.Core.Path.{◌≡◌, refl, sym, ap, ◌∙◌}
use Prim.Native.Nat.{ℕ, ◌+◌, ◌*◌, ◌/◌, ◌≤◌, ◌<◌}
use native.Mathlib.Omega.{arith}
use lib.Dec.{ltb}
use lib.ListN.{length}
use Rattle.word.specs.Bytes.{concatenated}
use Rattle.answer.specs.Answers.{Stuck as StuckAt, Room}
use Rattle.form.specs.declared.Form.{Form}
use Rattle.form.specs.declared.Kind.TheVariants.{Add, Mul, Deref, Jump, Extension}
use Rattle.form.specs.declared.Kind.{Kind}
use Rattle.form.specs.declared.Mode.TheVariants.{Immediate, Cell, Frame}
use Rattle.form.specs.declared.Mode.{Mode}
use Rattle.form.specs.declared.Operand.{Operand}
use Rattle.rows.specs.declared.Exec.{Exec}
use Rattle.machine.specs.Machine.{Machine, State, value, legal}
use Rattle.machine.specs.Step.{Outcome, goes, stuck, asked, target_legal, performed, performs, step}
use Rattle.tables.specs.Groups.{length_of, length_at, step_row}
use Rattle.tables.specs.Rows.{exec_row_of, form_at, column, column_b}
use Rattle.tabler_spec.specs.Tabled.{same_state, ending}
use Rattle.tabler_operands.specs.Looked.{at, looked_by, looked_of, looked_b, operands_of}
use Rattle.tabler_operands.specs.declared.Looked.{Looked}
use Rattle.tabler_operands.specs.declared.Operands.{Operands}
use Rattle.tabler_rows.specs.Placed.{exec_bytes, ext_bytes, placed, row_by}
use Rattle.std.specs.Prelude.{Result, Ok, Err}
use Rattle.tabler_step.specs.Taken.{moved_to, taken_of, taken_ext, kind_bytes, performed_by, step_by}
use Rattle.tabler_step.specs.declared.Halt.TheVariants.{Stuck, Full}
use Rattle.tabler_step.specs.declared.Halt.{Halt}
use Rattle.tabler_step.specs.declared.Moved.{Moved}
use Rattle.tabler.proofs.Running.{Ran, is_stuck, no_room, goes_on}

-- what the code's answer says of an outcome that goes on with k rows filled after it: that there is room, or none
record Went (o : Outcome) (moved : Moved) (k room : ℕ) : Type 0 where
  is : o ≡ goes (at moved.to.pc moved.to.fp)
  fits : k < room
  rows : moved.filled ≡ k

record Filled (o : Outcome) (k room : ℕ) : Type 0 where
  to : State
  is : o ≡ goes to
  full : room ≤ k

-- such an answer
abbrev Taken : Type 0
Taken = Result Moved Halt

went : (o : Outcome) (k room : ℕ) {moved : Moved} → ◌≡◌ {A = Taken} (Ok moved) (taken_of o k room) → Went o moved k room
unfolding taken_of
went (stuck rule) k room e = let z : ◌≡◌ {A = ℕ} 0 1 = cc in absurd (omega arith)
went (goes s) k room {moved} e = by (ltb k room) refl e
  where
    by : (b : Bool) → ltb k room ≡ b → ◌≡◌ {A = Taken} (Ok moved) (cond b (Ok (moved_to s k)) (Err Full)) → Went (goes s) moved k room
    by false t e = let z : ◌≡◌ {A = ℕ} 0 1 = cc in absurd (omega arith)
    by true t e =
        let same : moved_to s k ≡ moved = cc in
        record { is = ap (λ (m : Moved). goes (at m.to.pc m.to.fp)) same; fits = ltb-true k room t; rows = ap (λ (m : Moved). m.filled) (sym same) }

filled_up : (o : Outcome) (k room : ℕ) → ◌≡◌ {A = Taken} (Err Full) (taken_of o k room) → Filled o k room
unfolding taken_of
filled_up (stuck rule) k room e = let z : ◌≡◌ {A = ℕ} 0 1 = cc in absurd (omega arith)
filled_up (goes s) k room e = by (ltb k room) refl e
  where
    by : (b : Bool) → ltb k room ≡ b → ◌≡◌ {A = Taken} (Err Full) (cond b (Ok (moved_to s k)) (Err Full)) → Filled (goes s) k room
    by true t e = let z : ◌≡◌ {A = ℕ} 0 1 = cc in absurd (omega arith)
    by false t e = record { to = s; is = refl; full = ltb-false k room t }

held_up : (o : Outcome) (k room : ℕ) {rule : ℕ} → ◌≡◌ {A = Taken} (Err (Stuck rule)) (taken_of o k room) → o ≡ stuck rule
unfolding taken_of
held_up (stuck rule) k room e = cc
held_up (goes s) k room {rule} e = by (ltb k room) e
  where
    by : (b : Bool) → ◌≡◌ {A = Taken} (Err (Stuck rule)) (cond b (Ok (moved_to s k)) (Err Full)) → goes s ≡ stuck rule
    by true e = let z : ◌≡◌ {A = ℕ} 0 1 = cc in absurd (omega arith)
    by false e = let z : ◌≡◌ {A = ℕ} 0 1 = cc in absurd (omega arith)

-- what the code looks at is the machine's, of operand B by the kind
module _ (m : Machine) (s : State) where
  abbrev seen : Operand → Looked
  seen o = record { legal = legal m s o; addr = column s o; cell = m.cell (column s o); value = value m s o }

  abbrev seen_b : Form → Kind → Looked
  seen_b f kind =
      let k = column_b m s f kind in
      record { legal = legal m s f.b && target_legal m s f kind; addr = k; cell = m.cell k; value = value m s f.b }

  by_mode : (word : ℕ) (mode : Mode) → looked_by m.cell m.size s.fp word mode ≡ seen (record { mode = mode; word = word })
  by_mode word Immediate = refl
  by_mode word Cell = refl
  by_mode word Frame = refl

  module _ (f : Form) where
    plain : looked_of m.cell m.size s.fp f.b ≡ record { legal = legal m s f.b && true; addr = column s f.b; cell = m.cell (column s f.b); value = value m s f.b }
    plain = rw (and-true (legal m s f.b)) (by_mode f.b.word f.b.mode)

    by_kind : (kind : Kind) → looked_b m.cell m.size s.fp (value m s f.a) f.b kind ≡ seen_b f kind
    by_kind Add = plain
    by_kind Mul = plain
    by_kind Deref = rw (by_mode f.b.word f.b.mode)
    by_kind Jump = plain
    by_kind (Extension op be n) = plain

    performs_same : (kind : Kind)
        → performed_by m.cell m.size s (record { a = seen f.a; b = seen_b f kind; c = seen f.c }) kind
        ≡ performed m s f kind (value m s f.a) (value m s f.b) (value m s f.c)
    performs_same Add = refl
    performs_same Mul = refl
    performs_same Deref = refl
    performs_same Jump = refl
    performs_same (Extension op be n) = refl

    looked_same : operands_of m.cell m.size s.fp f ≡ record { a = seen f.a; b = seen_b f f.kind; c = seen f.c }
    looked_same = rw (by_mode f.a.word f.a.mode, by_kind f.kind, by_mode f.c.word f.c.mode)

    step_same : {o : Operands} → o ≡ operands_of m.cell m.size s.fp f → step_by m.cell m.size s o f.kind ≡ performs m s f
    step_same e =
        rw (e ∙ looked_same)
        (ap (λ (x : Outcome). asked 2 (legal m s f.a) (asked 3 (legal m s f.b && target_legal m s f f.kind) (asked 4 (legal m s f.c) x)))
        (performs_same f.kind))

module _ {m : Machine} {start : State} {height room : ℕ} {exec ext : List ℕ} {s : State} {r k : ℕ} {stays : Bool}
    (ran : Ran m start height room exec ext s r k stays) (more : r < height) where
  pub past_program : m.count ≤ s.pc → StuckAt r 1 ≡ ending m start height room
  unfolding step
  past_program h = is_stuck ran more (rw (le-ltb s.pc m.count h))

  module _ {f : Form} {o : Operands} (inside : s.pc < m.count) (ef : f ≡ form_at m s)
      (looked : o ≡ operands_of m.cell m.size s.fp f) (rows : length ext / 120 ≡ room) where
    abbrev taken : Outcome
    taken = step_by m.cell m.size s o f.kind

    stepped : taken ≡ step m s
    unfolding step
    stepped = step_same m s f looked ∙ rw (lt-ltb s.pc m.count inside) (ap (performs m s) ef)

    len : length_of f.kind ≡ length_at m s
    len = ap (λ (f : Form). length_of f.kind) ef

    pub stuck_here : {rule : ℕ} → ◌≡◌ {A = Taken} (Err (Stuck rule)) (taken_of taken (k + length_of f.kind) (length ext / 120)) → StuckAt r rule ≡ ending m start height room
    stuck_here e = is_stuck ran more (sym stepped ∙ held_up _ _ _ e)

    pub full_here : ◌≡◌ {A = Taken} (Err Full) (taken_of taken (k + length_of f.kind) (length ext / 120)) → Room r ≡ ending m start height room
    full_here e = let w = filled_up _ _ _ e in no_room ran more (sym stepped ∙ w.is) (omega (arith, w.full, len, rows))

    module _ {moved : Moved} (came : ◌≡◌ {A = Taken} (Ok moved) (taken_of taken (k + length_of f.kind) (length ext / 120))) where
      w : Went taken moved (k + length_of f.kind) (length ext / 120)
      w = went _ _ _ came

      shown : row_by s.pc s.fp o ≡ exec_row_of m s
      unfolding exec_row_of
      shown = rw (looked ∙ looked_same m s f, ef)

      bytes : kind_bytes m.cell f.kind o ≡ concatenated (λ j. ext_bytes (step_row m s j)) (length_at m s)
      unfolding kind_bytes
      bytes = rw (looked ∙ looked_same m s f, ef)

      wrote : {ext' : List ℕ} → ext' ≡ taken_ext taken k (length_of f.kind) (kind_bytes m.cell f.kind o) ext
          → ext' ≡ placed ext (120 * k) (120 * k + 120 * length_at m s) (concatenated (λ j. ext_bytes (step_row m s j)) (length_at m s))
      unfolding taken_ext
      wrote put = rw (w.is, lt-ltb (k + length_of f.kind) (length ext / 120) w.fits, bytes, len) at put

      -- a turn of the loop, by what its calls promise
      pub turns : 32 * r + 32 ≤ length exec → {exec' ext' : List ℕ}
          → ext' ≡ taken_ext taken k (length_of f.kind) (kind_bytes m.cell f.kind o) ext
          → exec' ≡ placed exec (32 * r) (32 * r + 32) (exec_bytes (row_by s.pc s.fp o))
          → Ran m start height room exec' ext' (at moved.to.pc moved.to.fp) (r + 1) moved.filled (same_state (at moved.to.pc moved.to.fp) s)
      turns exec-room put-ext put-exec =
          rw (w.rows, len)
          (goes_on ran more (sym stepped ∙ w.is) (omega (arith, w.fits, len, rows)) exec-room (omega (arith, w.fits, len))
          (put-exec ∙ ap (λ (x : Exec). placed exec (32 * r) (32 * r + 32) (exec_bytes x)) shown) (wrote put-ext))
