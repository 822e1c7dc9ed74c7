-- One law for each kind: in its frame an instruction goes on to the next, in the frame after it.
-- Assumes nothing.
use mathlib.Core.Path.{◌≡◌, refl, sym, ap, ◌∙◌}
use mathlib.Core.Bool.{Bool, true, false, cond}
use mathlib.Core.List.{List}
use Prim.Native.Nat.{ℕ, zero, suc, ◌+◌, ◌*◌, ◌%◌, ◌≤◌, ◌<◌}
use native.Mathlib.Nat.{add-zero}
use native.Mathlib.Omega.{arith}
use lib.Dec.{ltb, eqb, lit<}
use lib.ListN.{get_or}
use borrow.Author.Tests.{lt-ltb, le-leb, eq-eqb}
use Rattle.word.specs.Word.{IsWord, ◌+ₚ◌, ◌-ₚ◌, ◌*ₚ◌}
use Rattle.word.specs.Element.{◌⟨◌⟩}
use Rattle.word.proofs.Tests.{by_test, eqb_same}
use Rattle.word.proofs.WordLaws.{sum_zero, difference_sum}
use Rattle.form.specs.Form.{decode_of}
use Rattle.form.specs.declared.Form.{Form}
use Rattle.form.specs.declared.Operand.{Operand}
use Rattle.form.specs.declared.Mode.TheVariants.{Cell}
use Rattle.form.specs.declared.Kind.{Kind}
use Rattle.form.specs.declared.Kind.TheVariants.{Add, Mul, Deref, Jump, Extension}
use Rattle.form.proofs.DataLaws.{written}
use Rattle.machine.specs.Machine.{Machine, State}
use Rattle.machine.specs.Extension.{left_span, cells_exist, extension_result}
use Rattle.machine.specs.Step.{Outcome, goes, step, target_legal, jumps, performed}
use Rattle.tables.specs.Machine.{form_in}
use Rattle.tables.specs.Groups.{length_of}
use Rattle.maker_spec.specs.Made.{
  Profile,
  flat,
  frames,
  slot_size,
  slot,
  op_picked,
  be_picked,
  count_picked,
  left_picked,
  right_picked,
  kind_picked,
  halt,
  jump_made,
  made,
  frame_after,
  slot_cells,
}
use Rattle.maker_law.proofs.Making.{by_kind}
use Rattle.maker_law.proofs.Cells.{picked_same}

-- one or two elements span at most ten cells
span_most : (be : Bool) (n : ℕ) → n ≤ 2 → left_span be n ≤ 10
span_most true n h = omega arith
span_most false n h = omega arith

-- the cell at an offset
abbrev cell_at : ℕ → Operand
cell_at offset = record { mode = Cell; word = offset }

-- a machine with the drawn cells, at instruction i, whose slot is its cells
module _ (m : Machine) (cell : ℕ → ℕ) (room : 1024 ≤ m.size) (drawn : (k : ℕ) → k < 32 → m.cell k ≡ cell k)
    (fp i : ℕ) (low : fp < 32) (few : i < 124) (inside : i < m.count) (a c : ℕ) (a-low : a < 32) (c-low : c < 32) where
  abbrev here : State
  here = record { pc = i; fp = fp }

  -- to the next instruction
  abbrev on : ℕ → Outcome
  on frame = goes (record { pc = i + 1; fp = frame })

  -- an offset leads back to its cell, which is read
  read : (x : ℕ) → x < 1024 → (fp +ₚ (x -ₚ fp) ≡ x) × (ltb x m.size ≡ true)
  read x h = (difference_sum x fp (omega arith), lt-ltb x m.size (omega arith))

  -- ADD and MUL read cells a, T and c
  abbrev three_cells : Kind → Form
  three_cells kind = record { kind = kind; a = cell_at (a -ₚ fp); b = cell_at (slot i -ₚ fp); c = cell_at (c -ₚ fp) }

  three_read_lem : (kind : Kind) → target_legal m here (three_cells kind) kind ≡ true → m.form i ≡ three_cells kind
      → step m here ≡ performed m here (three_cells kind) kind (cell a) (m.cell (slot i)) (cell c)
  unfolding step
  three_read_lem kind target form =
      let (a₁, a₂) = read a (omega arith) in
      let (b₁, b₂) = read (slot i) (omega arith) in
      let (c₁, c₂) = read c (omega arith) in
      rw (lt-ltb i m.count inside, form, target, a₁, b₁, c₁, a₂, b₂, c₂, drawn a a-low, drawn c c-low)

  module _ (profile : Profile) where
    abbrev Present : Kind → Type 0
    Present kind = (m.form i ≡ form_in (decode_of (made profile fp i kind a c)))
        × ((j : ℕ) → j < slot_size → m.cell (slot i + j) ≡ get_or (slot_cells profile cell kind a c) j 0)

    abbrev Goes : Kind → Type 0
    Goes kind = Present kind → step m here ≡ on (frame_after profile kind a c fp)

    -- cell T
    first : (kind : Kind) → Present kind → m.cell (slot i) ≡ get_or (slot_cells profile cell kind a c) 0 0
    first kind h = ap m.cell (sym (add-zero (slot i))) ∙ h.1 0 (lit< tt)

    add_goes : Goes Add
    unfolding decode_of
    add_goes h = three_read_lem Add refl h.0 ∙ rw (first Add h, eqb_same (cell a +ₚ cell c))

    mul_goes : Goes Mul
    unfolding decode_of
    mul_goes h = three_read_lem Mul refl h.0 ∙ rw (first Mul h, eqb_same (cell a *ₚ cell c))

    -- α is cell T, which names cell a
    deref_goes : Goes Deref
    unfolding step decode_of
    deref_goes h =
        let second : (made profile fp i Deref a c).c ≡ (slot i + 1) -ₚ fp = refl in
        let (a₁, a₂) = read (slot i) (omega arith) in
        let (c₁, c₂) = read (slot i + 1) (omega arith) in
        rw (
          lt-ltb i m.count inside,
          h.0,
          a₁,
          c₁,
          a₂,
          c₂,
          first Deref h,
          sum_zero a (omega arith),
          lt-ltb a m.size (omega arith),
          drawn a a-low,
          h.1 1 (lit< tt),
          eqb_same (cell a),
        )

    -- the extension's cells exist
    exists : (be : Bool) (n x y : ℕ) → n ≤ 2 → x < 32 → y < 32 → cells_exist m.size be n x y (slot i) ≡ true
    exists be n x y hn hx hy =
        rw (
          le-leb (x + left_span be n) m.size (omega (arith, span_most be n hn)),
          le-leb (y + 5 * n) m.size (omega arith),
          le-leb (slot i + 5) m.size (omega arith),
        )

    abbrev picked : (ℕ → ℕ) → List ℕ
    picked cells = extension_result cells (op_picked c) (be_picked c) (left_picked a) (right_picked a) 0 (count_picked c)

    -- its result over the machine's own cells is what the slot has
    equal : (j : ℕ) {x : ℕ} → x ≡ picked cell ⟨ j ⟩ → eqb x (picked m.cell ⟨ j ⟩) ≡ true
    equal j {x} e = eq-eqb x (picked m.cell ⟨ j ⟩) (e ∙ ap (λ (l : List ℕ). l ⟨ j ⟩) (sym (picked_same m.cell cell drawn a c)))

    extension_goes : Goes (Extension (op_picked c) (be_picked c) (count_picked c))
    unfolding step decode_of
    extension_goes h =
        let last : 4 < slot_size = lit< tt in
        let place : (made profile fp i (Extension (op_picked c) (be_picked c) (count_picked c)) a c).c ≡ slot i = refl in
        rw (
          lt-ltb i m.count inside,
          h.0,
          written (op_picked c) (be_picked c) (count_picked c) (omega arith) (omega arith),
          exists (be_picked c) (count_picked c) (left_picked a) (right_picked a) (omega arith) (omega arith) (omega arith),
          equal 0 (first (Extension (op_picked c) (be_picked c) (count_picked c)) h),
          equal 1 (h.1 1 (lit< tt)),
          equal 2 (h.1 2 (lit< tt)),
          equal 3 (h.1 3 (lit< tt)),
          equal 4 (h.1 4 last),
        )

  -- a jump to the next instruction, taken or not
  bit_jump : (b frame : ℕ) → b < 2 → jumps b (i + 1) frame here ≡ on (cond (eqb b 1) frame fp)
  bit_jump zero frame h = refl
  bit_jump (suc zero) frame h = refl
  bit_jump (suc (suc b)) frame h = absurd (omega arith)

  jump_goes : (profile : Profile) → Goes profile Jump
  unfolding step decode_of
  jump_goes flat h =
      rw (lt-ltb i m.count inside, h.0, sum_zero fp (omega arith))
      (bit_jump (c % 2) fp (omega arith) ∙ ap on (by_test (λ (frame : ℕ). frame ≡ fp) (eqb (c % 2) 1) (λ _. refl) (λ _. refl)))
  jump_goes frames h =
      let (c₁, c₂) = read (slot i) (omega arith) in
      rw (lt-ltb i m.count inside, h.0, c₁, c₂, first frames Jump h) (bit_jump (c % 2) a (omega arith))

  pub made_goes : (profile : Profile) (kind : ℕ) → Goes profile (kind_picked kind c)
  made_goes profile kind =
      by_kind (Goes profile) kind c (add_goes profile) (mul_goes profile) (deref_goes profile) (jump_goes profile) (extension_goes profile)

-- instruction n stays, in any frame
pub halt_stays : (m : Machine) (n fp : ℕ) → n < m.count → IsWord fp → m.form n ≡ form_in (decode_of (halt n))
    → step m (record { pc = n; fp = fp }) ≡ goes (record { pc = n; fp = fp })
unfolding step decode_of
halt_stays m n fp inside w form =
    let taken : (halt n).a ≡ 1 = refl in
    rw (lt-ltb n m.count inside, form, sum_zero fp w)

-- how many extension rows it fills: none, 1 or 2
jump_fills : (profile : Profile) (fp i c : ℕ) → length_of (form_in (decode_of (jump_made profile fp i c))).kind ≡ 0
unfolding decode_of
jump_fills flat fp i c = refl
jump_fills frames fp i c = refl

pub made_fills : (profile : Profile) (fp i kind a c : ℕ) → length_of (form_in (decode_of (made profile fp i (kind_picked kind c) a c))).kind ≤ 2
unfolding decode_of
made_fills profile fp i kind a c =
    by_kind (λ (k : Kind). length_of (form_in (decode_of (made profile fp i k a c))).kind ≤ 2) kind c
    (omega arith) (omega arith) (omega arith) (omega (arith, jump_fills profile fp i c))
    (rw (written (op_picked c) (be_picked c) (count_picked c) (omega arith) (omega arith)) (omega arith))

pub halt_fills : (n : ℕ) → length_of (form_in (decode_of (halt n))).kind ≡ 0
unfolding decode_of
halt_fills n = refl
