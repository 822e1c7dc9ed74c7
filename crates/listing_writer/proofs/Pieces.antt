-- A form's line is its pieces, one after the other, and an operand's piece its key and a number.
-- Assumes nothing.
use Prim.Native.Nat.{ℕ, ◌+◌}
use mathlib.Core.Bool.{Bool, true, false}
use mathlib.Core.List.{List, [], ◌∷◌, ◌++◌, append_assoc}
use mathlib.Core.Path.{◌≡◌, refl, ap, ◌∙◌}
use native.Mathlib.Omega.{arith}
use lib.ListN.{length, length-append}
use Rattle.lines.specs.Line.{decimal, decimal_in, numbered}
use Rattle.lines.specs.Putting.{Room, Put}
use Rattle.lines.specs.declared.Out.{Out}
use Rattle.lines.proofs.Putting.{put_next}
use Rattle.form.specs.declared.Op.{Op}
use Rattle.form.specs.declared.Mode.{Mode}
use Rattle.form.specs.declared.Operand.{Operand}
use Rattle.form.specs.declared.Kind.{Kind}
use Rattle.form.specs.declared.Kind.TheVariants.{Add, Mul, Deref, Jump, Extension}
use Rattle.form.specs.declared.Form.{Form}
use Rattle.listing_spec.specs.Listing.{op_text, mode_name, op_key, call_text, form_line}
use Rattle.listing_writer.specs.Pieces.{op_piece, operand_piece, end_byte, be_text, call_piece}

pub call_text_lem : (o : Op) (be : Bool) (n : ℕ) → call_text (Extension o be n) ≡ (32 ∷ be_text be) ++ decimal n
unfolding decimal_in
call_text_lem o true n = refl
call_text_lem o false n = refl

-- what stands behind the third operand's digits
tail_text : (kind : Kind) → call_text kind ++ (10 ∷ []) ≡ (end_byte kind ∷ []) ++ call_piece kind
tail_text Add = refl
tail_text Mul = refl
tail_text Deref = refl
tail_text Jump = refl
tail_text (Extension o be n) = ap (λ (l : List ℕ). l ++ (10 ∷ [])) (call_text_lem o be n) ∙ append_assoc (32 ∷ be_text be) (decimal n) (10 ∷ [])

-- the pieces of a line
abbrev pub pieces : Form → List ℕ
pieces f =
    op_piece f.kind
    ++ operand_piece (97 ∷ 61 ∷ []) f.a 32
    ++ operand_piece (98 ∷ 61 ∷ []) f.b 32
    ++ operand_piece (99 ∷ 61 ∷ []) f.c (end_byte f.kind)
    ++ call_piece f.kind

-- spaces go from the front of a key to the end of what stands before it
regroup : (o s a ma da b mb db c mc dc call lf end rest : List ℕ) → call ++ lf ≡ end ++ rest
    → o ++ (s ++ a) ++ (ma ++ da) ++ (s ++ b) ++ (mb ++ db) ++ (s ++ c) ++ (mc ++ dc) ++ call ++ lf
    ≡ (o ++ s) ++ (a ++ (ma ++ (da ++ s))) ++ (b ++ (mb ++ (db ++ s))) ++ (c ++ (mc ++ (dc ++ end))) ++ rest
regroup o s a ma da b mb db c mc dc call lf end rest e = simp (append_assoc, e)

pub line_pieces : (f : Form) → form_line f ≡ pieces f
unfolding form_line
line_pieces f =
    regroup (op_key ++ op_text f.kind) (32 ∷ []) (97 ∷ 61 ∷ []) (mode_name f.a.mode) (decimal f.a.word) (98 ∷ 61 ∷ [])
    (mode_name f.b.mode) (decimal f.b.word) (99 ∷ 61 ∷ []) (mode_name f.c.mode) (decimal f.c.word) (call_text f.kind)
    (10 ∷ []) (end_byte f.kind ∷ []) (call_piece f.kind) (tail_text f.kind)

pub pieces_length : (f : Form)
    → length (form_line f)
    ≡ length (op_piece f.kind) + length (operand_piece (97 ∷ 61 ∷ []) f.a 32) + length (operand_piece (98 ∷ 61 ∷ []) f.b 32)
    + length (operand_piece (99 ∷ 61 ∷ []) f.c (end_byte f.kind))
    + length (call_piece f.kind)
pieces_length f =
    ap length (line_pieces f)
    ∙ five (op_piece f.kind) (operand_piece (97 ∷ 61 ∷ []) f.a 32) (operand_piece (98 ∷ 61 ∷ []) f.b 32) (operand_piece (99 ∷ 61 ∷ []) f.c (end_byte f.kind)) (call_piece f.kind)
  where
    five : (a b c d e : List ℕ) → length (a ++ b ++ c ++ d ++ e) ≡ length a + length b + length c + length d + length e
    five a b c d e = simp length-append

-- an operand's piece by its mode
pub operand_length : (key : List ℕ) (o : Operand) (end : ℕ) {m : Mode} → o.mode ≡ m
    → length (operand_piece key o end) ≡ length key + length (numbered (mode_name m) o.word end)
operand_length key o end {m} e = rw e (length-append key (numbered (mode_name m) o.word end))

-- and its key is put, and then the number
pub operand_put : (key : List ℕ) (o : Operand) (end : ℕ) {m : Mode} {a b c : Out} → o.mode ≡ m → Room a (operand_piece key o end)
    → Put a key b
    → Put b (numbered (mode_name m) o.word end) c
    → Put a (operand_piece key o end) c
operand_put key o end e room first then = rw e (put_next (rw e at room) first then)

-- five pieces, each where the one before it ends
module _ (f : Form) where
  abbrev first : List ℕ
  first = op_piece f.kind

  abbrev second : List ℕ
  second = operand_piece (97 ∷ 61 ∷ []) f.a 32

  abbrev third : List ℕ
  third = operand_piece (98 ∷ 61 ∷ []) f.b 32

  abbrev fourth : List ℕ
  fourth = operand_piece (99 ∷ 61 ∷ []) f.c (end_byte f.kind)

  abbrev fifth : List ℕ
  fifth = call_piece f.kind

  pub line_put : {a b c d e g : Out} → Room a (form_line f) → Put a first b → Put b second c → Put c third d → Put d fourth e → Put e fifth g
      → Put a (form_line f) g
  line_put room p q r s t =
      let two = length-append first second in
      let three = length-append (first ++ second) third in
      let four = length-append (first ++ second ++ third) fourth in
      rw (line_pieces f)
      (put_next (rw (line_pieces f) at room)
      (put_next (omega (arith, pieces_length f)) (put_next (omega (arith, pieces_length f)) (put_next (omega (arith, pieces_length f)) p q) r) s)
      t)
