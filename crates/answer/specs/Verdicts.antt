-- Document 01, "Verdicts", and document 02, M-104: an answer is six numbers, verdict, part, place, rule, expected and
-- found; unnamed ones are 0.
-- This is the one place that gives the paper's numbers. 12 is no verdict's: it was SELF's, which M-107 retired.
-- Declared in src/: Numbers, Refusal (here).
use Rattle.std.specs.Prelude.{ℕ, Bool, eqb, Ok, Err}
use Rattle.answer.specs.declared.Numbers.{Numbers}
use Rattle.answer.specs.Answers.{Answer}
use Rattle.answer.specs.declared.Refusal.{Refusal}
use Rattle.answer.specs.declared.Refusal.TheVariants.{
  Size,
  Word,
  Instruction,
  Start,
  Exec,
  Extension,
  Bus,
  Label,
  Stuck,
  Room,
  Open,
  Buffer,
  Grid,
  Edition,
  Listing,
  Short,
  Host,
  ListShort,
}

abbrev pub six : ℕ → ℕ → ℕ → ℕ → ℕ → ℕ → Numbers
six verdict part place rule expected found =
    record { verdict = verdict; part = part; place = place; rule = rule; expected = expected; found = found }

abbrev four : ℕ → ℕ → ℕ → ℕ → Numbers
four verdict part place rule = six verdict part place rule 0 0

abbrev pub refusal_numbers : Refusal → Numbers
refusal_numbers (Size part place) = four 1 part place 0
refusal_numbers (Word part place) = four 2 part place 0
refusal_numbers (Instruction place) = four 3 1 place 0
refusal_numbers Start = four 4 0 0 0
refusal_numbers (Exec row rule expected found) = six 5 3 row rule expected found
refusal_numbers (Extension row rule expected found) = six 6 4 row rule expected found
refusal_numbers (Bus part row) = four 7 part row 0
refusal_numbers (Label place) = four 8 0 place 0
refusal_numbers (Stuck row rule) = four 9 0 row rule
refusal_numbers (Room row) = four 10 0 row 0
refusal_numbers (Open row) = four 11 0 row 0
refusal_numbers Buffer = four 13 0 0 0
refusal_numbers Grid = four 14 0 0 0
refusal_numbers (Edition place) = four 15 0 place 0
refusal_numbers (Listing place) = four 16 0 place 0
refusal_numbers (Short place) = four 17 0 place 0
refusal_numbers Host = four 18 0 0 0
refusal_numbers (ListShort place) = four 19 0 place 0

-- ACCEPTED is verdict 0
abbrev pub numbers_of : Answer → Numbers
numbers_of (Ok x) = four 0 0 0 0
numbers_of (Err r) = refusal_numbers r

-- verdict 0
abbrev pub accepted : Answer → Bool
accepted a = eqb (numbers_of a).verdict 0
