-- How long a form's line is, by its parts.
-- Assumes nothing.
use Prim.Native.Nat.{ℕ, ◌+◌}
use mathlib.Core.Bool.{Bool, true, false}
use mathlib.Core.List.{List, [], ◌∷◌, ◌++◌}
use mathlib.Core.Path.{◌≡◌, refl, ap}
use native.Mathlib.Omega.{arith}
use lib.ListN.{length, length-append}
use Rattle.lines.specs.Line.{decimal}
use Rattle.form.specs.declared.Op.{Op}
use Rattle.form.specs.declared.Op.TheVariants as op
use Rattle.form.specs.declared.Kind.TheVariants.{Extension}
use Rattle.form.specs.declared.Form.{Form}
use Rattle.listing_spec.specs.Listing.{op_text, op_key, a_key, b_key, c_key, operand_text, call_text, form_line}
use Rattle.listing_writer.specs.Pieces.{be_text}
use Rattle.listing_writer.proofs.Pieces.{call_text_lem}

-- the operation's name, be= and n= of an extension
pub extension_length : (o : Op) (be : Bool) (n : ℕ)
    → 12 + length (decimal n) ≡ length (op_text (Extension o be n)) + length (call_text (Extension o be n))
extension_length o be n = omega (arith, name o, ap length (call_text_lem o be n), behind be)
  where
    name : (o : Op) → length (op_text (Extension o be n)) ≡ 4
    name op.Add = refl
    name op.Mul = refl
    name op.Peq = refl

    behind : (be : Bool) → length ((32 ∷ be_text be) ++ decimal n) ≡ 8 + length (decimal n)
    behind true = omega arith
    behind false = omega arith

-- the lengths of ten texts are added
ten : (a b c d e f g h i j : List ℕ)
    → length (a ++ b ++ c ++ d ++ e ++ f ++ g ++ h ++ i ++ j)
    ≡ length a + length b + length c + length d + length e + length f + length g + length h + length i + length j
ten a b c d e f g h i j = simp length-append

-- of four keys and LF 13 bytes
pub line_length : (f : Form)
    → 13 + (length (op_text f.kind) + length (call_text f.kind)) + length (operand_text f.a) + length (operand_text f.b) + length (operand_text f.c)
    ≡ length (form_line f)
unfolding form_line
line_length f =
    omega (arith, ten op_key (op_text f.kind) a_key (operand_text f.a) b_key (operand_text f.b) c_key (operand_text f.c) (call_text f.kind) (10 ∷ []))
