-- The run of what draws make, on a machine that holds it: after r steps it is at instruction r, and from n on it stays
-- there; each step fills at most two extension rows.
-- Assumes nothing.
use mathlib.Core.Path.{◌≡◌, ap, ◌∙◌}
use Prim.Native.Nat.{ℕ, zero, suc, ◌+◌, ◌*◌, ◌≤◌, ◌<◌, min}
use native.Mathlib.Numerals.{add-one}
use native.Mathlib.Omega.{arith}
use borrow.Author.Tests.{lt-ltb, le-ltb}
use Rattle.form.specs.Form.{decode_of}
use Rattle.word.proofs.Tests.{by_order}
use Rattle.machine.specs.Machine.{Machine, State}
use Rattle.machine.specs.Step.{goes, step}
use Rattle.machine.specs.Run.{StayingRun}
use Rattle.tables.specs.Machine.{form_in}
use Rattle.tables.specs.Groups.{length_at, filled}
use Rattle.maker_draws.specs.Drawn.{Draws}
use Rattle.maker_spec.specs.Made.{Drawable, Profile, slot_size, slot, kind_drawn, halt, made, frame_at, instruction_made, slot_cell, cell_of}
use Rattle.maker_law.proofs.Cells.{drawn_cell, slot_cell_lem}
use Rattle.maker_law.proofs.Frames.{frame_below}
use Rattle.maker_run.specs.Runs.{state_made}
use Rattle.maker_run.proofs.Steps.{made_goes, halt_stays, made_fills, halt_fills}

-- the n + 1 instructions, and cells 0 to 1023, as far as the last slot reaches
pub record Holds (profile : Profile) (d : Draws) (n : ℕ) (m : Machine) : Type 0 where
  pub count : m.count ≡ n + 1
  pub room : 1024 ≤ m.size
  pub forms : (i : ℕ) → i ≤ n → m.form i ≡ form_in (decode_of (instruction_made profile d n i))
  pub cells : (k : ℕ) → k < 1024 → m.cell k ≡ cell_of profile d n k

module _ (profile : Profile) (d : Draws) (is : Drawable d) (n : ℕ) (most : n ≤ 124) (m : Machine) (h : Holds profile d n m) where
  drawn : (k : ℕ) → k < 32 → m.cell k ≡ d.cell k
  drawn k b = h.cells k (omega arith) ∙ drawn_cell profile d n k b

  slots : (i : ℕ) → i < n → (j : ℕ) → j < slot_size → m.cell (slot i + j) ≡ slot_cell profile d i j
  slots i l j b = h.cells (slot i + j) (omega arith) ∙ slot_cell_lem profile d n i j l b

  form_at_lem : (i : ℕ) → i < n → m.form i ≡ form_in (decode_of (made profile (frame_at profile d i) i (kind_drawn d i) (d.a i) (d.c i)))
  form_at_lem i l = h.forms i (omega arith) ∙ rw (lt-ltb i n l)

  form_last : m.form n ≡ form_in (decode_of (halt n))
  form_last = h.forms n (omega arith) ∙ rw (le-ltb n n (omega arith))

  -- at an instruction, in its frame
  abbrev at : ℕ → State
  at i = record { pc = i; fp = frame_at profile d i }

  instruction_goes : (i : ℕ) → i < n → step m (at i) ≡ goes (at (suc i))
  unfolding frame_at
  instruction_goes i l =
      made_goes m d.cell h.room drawn (frame_at profile d i) i (frame_below profile d is i) (omega arith) (omega (arith, h.count))
      (d.a i) (d.c i) (is.a i) (is.c i) profile (d.kind i) (form_at_lem i l, slots i l)
      ∙ ap (λ (x : ℕ). goes (record { pc = x; fp = frame_at profile d (suc i) })) (add-one i)

  last_stays : step m (at n) ≡ goes (at n)
  last_stays = halt_stays m n (frame_at profile d n) (omega (arith, h.count)) (omega (arith, frame_below profile d is n)) form_last

  -- a row and the next: before the halt, and from it on
  by_row : (C : ℕ → ℕ → Type 0) (r : ℕ) → (r < n → C r (suc r)) → (n ≤ r → C n n) → C (min r n) (min (suc r) n)
  by_row C r before after =
      by_order r n
      (λ l.
      let here : min r n ≡ r = omega arith in
      let next : min (suc r) n ≡ suc r = omega arith in
      rw (here, next) (before l))
      (λ l.
      let here : min r n ≡ n = omega arith in
      let next : min (suc r) n ≡ n = omega arith in
      rw (here, next) (after l))

  pub steps : (r : ℕ) → step m (state_made profile d n r) ≡ goes (state_made profile d n (suc r))
  steps r = by_row (λ k l. step m (at k) ≡ goes (at l)) r (instruction_goes r) (λ _. last_stays)

  pub stays : (r : ℕ) → n ≤ r → step m (state_made profile d n r) ≡ goes (state_made profile d n r)
  stays r l = let here : min r n ≡ n = omega arith in rw here last_stays

  pub begins : state_made profile d n 0 ≡ record { pc = 0; fp = 0 }
  unfolding frame_at
  begins = let none : min 0 n ≡ 0 = omega arith in rw none

  pub staying : (last : ℕ) → n ≤ last → StayingRun m (record { pc = 0; fp = 0 }) last (state_made profile d n)
  staying last l = record { begins = begins; steps = λ r b. steps r; stays = stays last l }

  -- the rows that its steps fill
  fills : (r : ℕ) → length_at m (state_made profile d n r) + 2 * min r n ≤ 2 * min (suc r) n
  fills r =
      by_row (λ k l. length_at m (at k) + 2 * k ≤ 2 * l) r
      (λ l. rw (form_at_lem r l) (omega (arith, made_fills profile (frame_at profile d r) r (d.kind r) (d.a r) (d.c r))))
      (λ _. rw form_last (omega (arith, halt_fills n)))

  filled_by_lem : (r : ℕ) → filled m (state_made profile d n) r ≤ 2 * min r n
  unfolding filled
  filled_by_lem zero = omega arith
  filled_by_lem (suc r) = omega (arith, filled_by_lem r, fills r)

  pub filled_most : (r : ℕ) → filled m (state_made profile d n) r ≤ 2 * n
  filled_most r = omega (arith, filled_by_lem r)
