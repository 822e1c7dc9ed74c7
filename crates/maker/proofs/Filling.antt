-- The program and the memory, an instruction and a slot at a time.
-- Assumes nothing.
use mathlib.Core.Path.{◌≡◌, refl, sym, ap, ◌∙◌}
use mathlib.Core.List.{List, ◌++◌, append-nil}
use Prim.Native.Nat.{ℕ, ◌+◌, ◌-◌, ◌*◌, ◌/◌, ◌%◌, ◌≤◌, ◌<◌}
use native.Mathlib.Omega.{arith}
use borrow.Author.Tests.{lt-ltb, le-ltb}
use lib.Dec.{lit≤}
use lib.ListN.{length, get_or, take, drop, replicate, length-drop, drop_of_length-le}
use lib.Seq.{length-take-le}
use Rattle.word.specs.Bytes.{bytes_of}
use Rattle.form.specs.declared.Instruction.{Instruction}
use Rattle.form.specs.Instruction.{instruction_words}
use Rattle.maker_draws.specs.Drawn.{Draws}
use Rattle.maker_spec.specs.Made.{flat, kind_picked, made, halt, instruction_made, slot_cells, cell_of}
use Rattle.maker.specs.Inner.{cell_in, eight}
use Rattle.maker_spec.specs.Bytes.{word_bytes, instructions_of, cells_of}
use Rattle.word.proofs.Concatenated.{lent_length, parts_append, parts_same, parts_one}
use Rattle.maker_law.proofs.Frames.{frame_flat}
use Rattle.maker_law.proofs.ReadBack.{words_length, program_length, cells_length}
use Rattle.maker.proofs.Parts.{zero_parts, lent, behind, front_length}
use Rattle.maker_law.proofs.Cells.{drawn_cell, slot_cell_lem, cell_past, slot_same}
use Rattle.maker.proofs.Eight.{eight_at}

module _ (d : Draws) (n : ℕ) where
  -- a buffer so filled keeps its length
  program_kept : (t : List ℕ) (k : ℕ) {s : List ℕ} → s ≡ instructions_of flat d n k ++ drop (48 * k) t → 48 * k ≤ length t → length s ≡ length t
  program_kept t k e h = ap length e ∙ front_length t (instructions_of flat d n k) (48 * k) (program_length flat d n k) h

  cells_kept : (t : List ℕ) (k : ℕ) {s : List ℕ} → s ≡ cells_of flat d n (32 + 8 * k) ++ drop (128 + 32 * k) t → 128 + 32 * k ≤ length t → length s ≡ length t
  cells_kept t k e h = ap length e ∙ front_length t (cells_of flat d n (32 + 8 * k)) (128 + 32 * k) (cells_length flat d n (32 + 8 * k) ∙ omega arith) h

  -- instruction i, through its own bytes
  instruction_next : (t s row : List ℕ) (i end : ℕ) → s ≡ instructions_of flat d n i ++ drop (48 * i) t → end ≡ 48 * (i + 1)
      → row ≡ word_bytes (instruction_words (instruction_made flat d n i))
      → take (48 * i) s ++ (row ++ drop (end - 48 * i) (drop (48 * i) s)) ≡ instructions_of flat d n (i + 1) ++ drop (48 * (i + 1)) t
  instruction_next t s row i end was e is =
      rw was
      (lent t (instructions_of flat d n i) row (48 * i) end (program_length flat d n i) (omega arith)
      ∙ rw (is, parts_one (λ k. word_bytes (instruction_words (instruction_made flat d n k))) i, e))

  made_row : (i kind a c : ℕ) {row : List ℕ} → i < n → kind ≡ d.kind i → a ≡ d.a i → c ≡ d.c i
      → row ≡ word_bytes (instruction_words (made flat 0 i (kind_picked kind c) a c)) → row ≡ word_bytes (instruction_words (instruction_made flat d n i))
  made_row i kind a c h ek ea ec is = is ∙ ap (λ (x : Instruction). word_bytes (instruction_words x)) same
    where
      same : made flat 0 i (kind_picked kind c) a c ≡ instruction_made flat d n i
      same = rw (lt-ltb i n h, ek, ea, ec, frame_flat d i)

  last_instruction : halt n ≡ instruction_made flat d n n
  last_instruction = rw (le-ltb n n (omega arith))

  -- the first 32 cells
  first_cells : (drawn : List ℕ) → length drawn ≡ 32 → ((k : ℕ) → k < 32 → get_or drawn k 0 ≡ d.cell k) → word_bytes drawn ≡ cells_of flat d n 32
  first_cells drawn e same =
      rw e (parts_same (λ k. bytes_of (get_or drawn k 0)) (λ k. bytes_of (cell_of flat d n k)) 32 (λ k h. ap bytes_of (same k h ∙ sym (drawn_cell flat d n k h))))

  pub cells_begun : (t drawn row : List ℕ) → length drawn ≡ 32 → ((k : ℕ) → k < 32 → get_or drawn k 0 ≡ d.cell k) → row ≡ word_bytes drawn
      → row ++ drop 128 t ≡ cells_of flat d n 32 ++ drop 128 (row ++ drop 128 t)
  cells_begun t drawn row e same is =
      let first = is ∙ first_cells drawn e same in
      rw (first, behind t (cells_of flat d n 32) 128 128 (cells_length flat d n 32) (lit≤ tt))

  pub first_length : (drawn : List ℕ) {row : List ℕ} → length drawn ≡ 32 → row ≡ word_bytes drawn → length row ≡ 128
  first_length drawn e is = ap length is ∙ words_length drawn ∙ ap (λ (k : ℕ). 4 * k) e

  pub begun_room : (t drawn : List ℕ) {row : List ℕ} → length drawn ≡ 32 → row ≡ word_bytes drawn → 128 + 32 * n ≤ length t
      → 128 + 32 * n ≤ length (row ++ drop 128 t)
  begun_room t drawn {row} e is room = rw (front_length t row 128 (first_length drawn e is) (omega arith)) room

  -- the cells of slot i
  slot_row : (drawn : List ℕ) → ((k : ℕ) → k < 32 → get_or drawn k 0 ≡ d.cell k) → (i kind a c : ℕ) → i < n
      → kind ≡ d.kind i → a ≡ d.a i → c ≡ d.c i → a < 32 → c < 32
      → {row : List ℕ} → row ≡ word_bytes (eight (slot_cells flat (cell_in drawn) (kind_picked kind c) a c)) → cells_of flat d n (32 + 8 * i) ++ row ≡ cells_of flat d n (32 + 8 * (i + 1))
  slot_row drawn same i kind a c h ek ea ec ha hc is =
      let e : 32 + 8 * (i + 1) ≡ 32 + 8 * i + 8 = omega arith in
      rw (e, is, parts_append (λ j. bytes_of (cell_of flat d n j)) (32 + 8 * i) 8)
      (ap (λ (l : List ℕ). cells_of flat d n (32 + 8 * i) ++ l)
      (parts_same (λ j. bytes_of (get_or (eight (slot_cells flat (cell_in drawn) (kind_picked kind c) a c)) j 0)) (λ j. bytes_of (cell_of flat d n (32 + 8 * i + j))) 8 (λ j b. ap bytes_of (one j b))))
    where
      one : (j : ℕ) → j < 8 → get_or (eight (slot_cells flat (cell_in drawn) (kind_picked kind c) a c)) j 0 ≡ cell_of flat d n (32 + 8 * i + j)
      one j b =
          eight_at (slot_cells flat (cell_in drawn) (kind_picked kind c) a c) j b ∙ ap (λ (l : List ℕ). get_or l j 0) (slot_same (cell_in drawn) d.cell same flat kind a c ha hc)
          ∙ rw (ek, ea, ec) (sym (slot_cell_lem flat d n i j h b))

  slot_next : (t s row : List ℕ) (i end : ℕ) → s ≡ cells_of flat d n (32 + 8 * i) ++ drop (128 + 32 * i) t → end ≡ 128 + 32 * (i + 1)
      → cells_of flat d n (32 + 8 * i) ++ row ≡ cells_of flat d n (32 + 8 * (i + 1))
      → take (128 + 32 * i) s ++ (row ++ drop (end - (128 + 32 * i)) (drop (128 + 32 * i) s)) ≡ cells_of flat d n (32 + 8 * (i + 1)) ++ drop (128 + 32 * (i + 1)) t
  slot_next t s row i end was e is =
      rw was
      (lent t (cells_of flat d n (32 + 8 * i)) row (128 + 32 * i) end (cells_length flat d n (32 + 8 * i) ∙ omega arith) (omega arith)
      ∙ rw (is, e))

  -- an instruction and its slot on, as `put_one` writes them: each buffer keeps its length
  module _ (i kind a c : ℕ) (h : i < n) (ek : kind ≡ d.kind i) (ea : a ≡ d.a i) (ec : c ≡ d.c i) where
    pub program_on : (t s : List ℕ) {s' : List ℕ} → 48 * n ≤ length t → s ≡ instructions_of flat d n i ++ drop (48 * i) t
        → s' ≡ take (48 * i) s ++ (word_bytes (instruction_words (made flat 0 i (kind_picked kind c) a c)) ++ drop (48 * i + 48 - 48 * i) (drop (48 * i) s))
        → (length s' ≡ length t) × (s' ≡ instructions_of flat d n (i + 1) ++ drop (48 * (i + 1)) t)
    program_on t s room was is =
        let on =
        is ∙ instruction_next t s (word_bytes (instruction_words (made flat 0 i (kind_picked kind c) a c))) i (48 * i + 48) was (omega arith) (made_row i kind a c h ek ea ec refl)
        in
        (program_kept t (i + 1) on (omega arith), on)

    pub memory_on : (drawn : List ℕ) → ((k : ℕ) → k < 32 → get_or drawn k 0 ≡ d.cell k) → a < 32 → c < 32
        → (t s : List ℕ) {s' : List ℕ} → 128 + 32 * n ≤ length t → s ≡ cells_of flat d n (32 + 8 * i) ++ drop (128 + 32 * i) t
        → s' ≡ take (128 + 32 * i) s ++ (word_bytes (eight (slot_cells flat (cell_in drawn) (kind_picked kind c) a c)) ++ drop (128 + 32 * i + 32 - (128 + 32 * i)) (drop (128 + 32 * i) s))
        → (length s' ≡ length t) × (s' ≡ cells_of flat d n (32 + 8 * (i + 1)) ++ drop (128 + 32 * (i + 1)) t)
    memory_on drawn same ha hc t s room was is =
        let row : List ℕ = word_bytes (eight (slot_cells flat (cell_in drawn) (kind_picked kind c) a c)) in
        let on =
        is ∙ slot_next t s row i (128 + 32 * i + 32) was (omega arith) (slot_row drawn same i kind a c h ek ea ec ha hc {row = row} refl)
        in
        (cells_kept t (i + 1) on (omega arith), on)

  -- past the slots the memory is 0
  cells_past : (size : ℕ) → 128 + 32 * n ≤ size → size % 4 ≡ 0 → cells_of flat d n (32 + 8 * n) ++ replicate (size - (128 + 32 * n)) 0 ≡ cells_of flat d n (size / 4)
  cells_past size h whole =
      let left : ℕ = size / 4 - (32 + 8 * n) in
      let e : size / 4 ≡ 32 + 8 * n + left = omega arith in
      let z : size - (128 + 32 * n) ≡ 4 * left = omega arith in
      rw (e, z, parts_append (λ j. bytes_of (cell_of flat d n j)) (32 + 8 * n) left, ← zero_parts left)
      (ap (λ (l : List ℕ). cells_of flat d n (32 + 8 * n) ++ l)
      (parts_same (λ j. bytes_of 0) (λ j. bytes_of (cell_of flat d n (32 + 8 * n + j))) left (λ j b. ap bytes_of (sym (cell_past flat d n j)))))

  -- the last instruction, and the bytes past the slots, end the buffers
  module _ (t s row : List ℕ) where
    pub program_ended : s ≡ instructions_of flat d n n ++ drop (48 * n) t → length t ≡ 48 * (n + 1) → row ≡ word_bytes (instruction_words (halt n))
        → take (48 * n) s ++ (row ++ drop (length s - 48 * n) (drop (48 * n) s)) ≡ instructions_of flat d n (n + 1)
    program_ended was sized is =
        let kept = program_kept t n was (omega arith) in
        instruction_next t s row n (length s) was (kept ∙ sized) (is ∙ ap (λ (x : Instruction). word_bytes (instruction_words x)) last_instruction)
        ∙ rw (drop_of_length-le t {i = 48 * (n + 1)} (omega arith)) (append-nil (instructions_of flat d n (n + 1)))

    pub cells_ended : s ≡ cells_of flat d n (32 + 8 * n) ++ drop (128 + 32 * n) t → 128 + 32 * n ≤ length t → length t % 4 ≡ 0
        → row ≡ replicate (length (take (length s - (128 + 32 * n)) (drop (128 + 32 * n) s))) 0
        → take (128 + 32 * n) s ++ (row ++ drop (length s - (128 + 32 * n)) (drop (128 + 32 * n) s)) ≡ cells_of flat d n (length t / 4)
    cells_ended was room whole is =
        let kept = cells_kept t n was room in
        let left : length (take (length s - (128 + 32 * n)) (drop (128 + 32 * n) s)) ≡ length t - (128 + 32 * n) =
        length-take-le (length s - (128 + 32 * n)) (drop (128 + 32 * n) s) (omega (arith, length-drop (128 + 32 * n) s)) ∙ ap (λ (k : ℕ). k - (128 + 32 * n)) kept
        in
        rw (kept, was)
        (lent t (cells_of flat d n (32 + 8 * n)) row (128 + 32 * n) (length t) (cells_length flat d n (32 + 8 * n) ∙ omega arith) room
        ∙ rw (drop_of_length-le t {i = length t} (omega arith), is ∙ ap (λ (k : ℕ). replicate k 0) left)
        (append-nil _ ∙ cells_past (length t) room whole))

-- room for one more, in each buffer
pub program_room : (i n x y : ℕ) → i < n → 48 * n ≤ x → y ≡ x → 48 * (i + 1) ≤ y
program_room i n x y h room e = omega arith

pub memory_room : (i n x y : ℕ) → i < n → 128 + 32 * n ≤ x → y ≡ x → 128 + 32 * (i + 1) ≤ y
memory_room i n x y h room e = omega arith

pub below : (x y : ℕ) → x ≡ y % 32 → x < 32
below x y e = omega arith

pub fewer : (i n : ℕ) → i < n → n ≤ 124 → i ≤ 124
fewer i n h k = omega arith

pub next_below : (i n : ℕ) → i < n → i + 1 ≤ n
next_below i n h = omega arith

-- the bytes of one, as lent
pub program_lent : (t : List ℕ) (i : ℕ) → 48 * (i + 1) ≤ length t → length (take (48 * i + 48 - 48 * i) (drop (48 * i) t)) ≡ 48
program_lent t i room = lent_length t (48 * i) 48 (omega arith)

pub memory_lent : (t : List ℕ) (i : ℕ) → 128 + 32 * (i + 1) ≤ length t → length (take (128 + 32 * i + 32 - (128 + 32 * i)) (drop (128 + 32 * i) t)) ≡ 32
memory_lent t i room = lent_length t (128 + 32 * i) 32 (omega arith)

pub last_lent : (t : List ℕ) (n : ℕ) → length t ≡ 48 * (n + 1) → length (take (length t - 48 * n) (drop (48 * n) t)) ≡ 48
last_lent t n e =
    let k : length t - 48 * n ≡ 48 = omega arith in
    rw k (length-take-le 48 (drop (48 * n) t) (omega (arith, length-drop (48 * n) t)))

pub begun_lent : (t : List ℕ) (n : ℕ) → 128 + 32 * n ≤ length t → length (take 128 t) ≡ 128
begun_lent t n room = length-take-le 128 t (omega arith)
