-- Draft 0.6.0, 2.5.2: PRECOMPILE_DATA = 2·is_be + 4·flag_add + 8·flag_mul + 16·flag_poly_eq + 32·N.
-- Document 01, "Well-formed instructions": exactly one operation, and N from 1 to 2^20.
-- Declared in src/: Op (here).
use Rattle.std.specs.Prelude.{ℕ, ◌+◌, ◌*◌, ◌/◌, ◌^◌, Bool, true, false, cond, ◌&&◌, leb, eqb}
use Rattle.form.specs.declared.Op.{Op}
use Rattle.form.specs.declared.Op.TheVariants.{Add, Mul, Peq}

abbrev pub data_of : ℕ → ℕ → ℕ → ℕ → ℕ → ℕ
data_of be add mul peq len = 2 * be + 4 * add + 8 * mul + 16 * peq + 32 * len

abbrev pub bit : Bool → ℕ
bit true = 1
bit false = 0

-- the DATA of an operation on N elements
abbrev pub data_word : Op → Bool → ℕ → ℕ
data_word Add be n = data_of (bit be) 1 0 0 n
data_word Mul be n = data_of (bit be) 0 1 0 n
data_word Peq be n = data_of (bit be) 0 0 1 n

-- what a word names as DATA
pub data Call : Type 0 where
  None : Call
  Of : Op → Bool → ℕ → Call

-- of the six operations on n elements the one that a test picks
abbrev pub call_by : (Op → Bool → Bool) → ℕ → Call
call_by is n =
    cond (is Add false) (Of Add false n)
    (cond (is Add true) (Of Add true n)
    (cond (is Mul false) (Of Mul false n)
    (cond (is Mul true) (Of Mul true n)
    (cond (is Peq false) (Of Peq false n)
    (cond (is Peq true) (Of Peq true n)
    None)))))

-- the call whose DATA a word is: all of it but 32·N is below 32, so N is d / 32
unfoldable pub read_data : ℕ → Call
read_data d =
    cond (leb 1 (d / 32) && leb (d / 32) (2 ^ 20)) (call_by (λ op be. eqb d (data_word op be (d / 32))) (d / 32)) None
