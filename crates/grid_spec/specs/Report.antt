-- Document 02, M-100: a printed report, one LF-ended line for each nonzero counter, as `add.cell.imm.fp=12`.
use Rattle.std.specs.Prelude.{ℕ, ◌/◌, ◌%◌, cond, List, [], ◌∷◌, ◌++◌, eqb, ltb, length, get_or, drop}
use Rattle.word.specs.Bytes.{concatenated}
use Rattle.lines.specs.Line.{line, decimal}
use Rattle.answer.specs.Answers.{Answer, Accepted, Size}

-- add, mul, deref, jump and ext (ASCII)
abbrev pub kind_text : ℕ → List ℕ
kind_text k =
    get_or
    ((97 ∷ 100 ∷ 100 ∷ [])
    ∷ (109 ∷ 117 ∷ 108 ∷ [])
    ∷ (100 ∷ 101 ∷ 114 ∷ 101 ∷ 102 ∷ [])
    ∷ (106 ∷ 117 ∷ 109 ∷ 112 ∷ [])
    ∷ (101 ∷ 120 ∷ 116 ∷ [])
    ∷ [])
    k []

-- imm, cell and fp
abbrev pub mode_text : ℕ → List ℕ
mode_text m = get_or ((105 ∷ 109 ∷ 109 ∷ []) ∷ (99 ∷ 101 ∷ 108 ∷ 108 ∷ []) ∷ (102 ∷ 112 ∷ []) ∷ []) m []

-- a text, and a byte after it: a dot, or =
abbrev pub dotted : List ℕ → List ℕ
dotted text = text ++ (46 ∷ [])

abbrev pub equals : List ℕ → List ℕ
equals text = text ++ (61 ∷ [])

-- counter k's name, kind slowest and C fastest
unfoldable pub name_of : ℕ → List ℕ
name_of k = dotted (kind_text (k / 27)) ++ dotted (mode_text (k / 9 % 3)) ++ dotted (mode_text (k / 3 % 3)) ++ equals (mode_text (k % 3))

-- its line, and nothing where it is zero
unfoldable pub line_at : List ℕ → ℕ → List ℕ
line_at grid k = cond (eqb (get_or grid k 0) 0) [] (name_of k ++ line (decimal (get_or grid k 0)))

-- all lines, in grid order
unfoldable pub report_of : List ℕ → List ℕ
report_of grid = concatenated (line_at grid) 135

-- a buffer shorter than the report is SIZE part 5 with the length needed
unfoldable pub report_answer : List ℕ → ℕ → Answer
report_answer grid room = cond (ltb room (length (report_of grid))) (Size 5 (length (report_of grid))) Accepted

-- the bytes written, 0 on refusal
unfoldable pub report_length : List ℕ → ℕ → ℕ
report_length grid room = cond (ltb room (length (report_of grid))) 0 (length (report_of grid))

-- the buffer at return: the report and then what stood there; as it was on refusal
unfoldable pub reported_in : List ℕ → List ℕ → List ℕ
reported_in grid text =
    cond (ltb (length text) (length (report_of grid))) text (report_of grid ++ drop (length (report_of grid)) text)
