-- Inner: the pieces that the code puts a line in. Each brings what ends it, a space or LF.
-- Declared in src/: Operand, Kind (form).
use Rattle.std.specs.Prelude.{ℕ, Bool, true, false, List, [], ◌∷◌, ◌++◌}
use Rattle.lines.specs.Line.{numbered}
use Rattle.form.specs.declared.Operand.{Operand}
use Rattle.form.specs.declared.Kind.{Kind}
use Rattle.form.specs.declared.Kind.TheVariants.{Add, Mul, Deref, Jump, Extension}
use Rattle.listing_spec.specs.Listing.{op_text, mode_name, op_key}

abbrev pub op_piece : Kind → List ℕ
op_piece kind = op_key ++ op_text kind ++ (32 ∷ [])

-- a key, an operand and what ends it
abbrev pub operand_piece : List ℕ → Operand → ℕ → List ℕ
operand_piece key o end = key ++ numbered (mode_name o.mode) o.word end

-- operand C is the last, or be= comes behind it
abbrev pub end_byte : Kind → ℕ
end_byte Add = 10
end_byte Mul = 10
end_byte Deref = 10
end_byte Jump = 10
end_byte (Extension op be n) = 32

-- be=1 n=, be=0 n=
abbrev pub be_text : Bool → List ℕ
be_text true = 98 ∷ 101 ∷ 61 ∷ 49 ∷ 32 ∷ 110 ∷ 61 ∷ []
be_text false = 98 ∷ 101 ∷ 61 ∷ 48 ∷ 32 ∷ 110 ∷ 61 ∷ []

abbrev pub call_piece : Kind → List ℕ
call_piece Add = []
call_piece Mul = []
call_piece Deref = []
call_piece Jump = []
call_piece (Extension op be n) = numbered (be_text be) n 10
