-- Document 01, "Verdicts": an answer is ACCEPTED or a refusal. Each answer by the paper's name, for the definitions
-- that give one: ACCEPTED, and of each refusal the answer that is it.
-- Declared in src/: Refusal (here).
use Rattle.std.specs.Prelude.{ℕ, Result, Ok, Err}
use Rattle.answer.specs.declared.Refusal.{Refusal}
use Rattle.answer.specs.declared.Refusal.TheVariants as refusal

abbrev pub Answer : Type 0
Answer = Result Unit Refusal

abbrev pub Accepted : Answer
Accepted = Ok tt

-- the answer of a call that gives a value where it is accepted
abbrev pub answer_of : {A : Type 0} → Result A Refusal → Answer
answer_of (Ok x) = Ok tt
answer_of (Err r) = Err r

-- the number that such a call gives, 0 where it is refused
abbrev pub number_of : Result ℕ Refusal → ℕ
number_of (Ok x) = x
number_of (Err r) = 0

abbrev pub Size : ℕ → ℕ → Answer
Size part place = Err (refusal.Size part place)

abbrev pub Word : ℕ → ℕ → Answer
Word part place = Err (refusal.Word part place)

abbrev pub Instruction : ℕ → Answer
Instruction place = Err (refusal.Instruction place)

abbrev pub Start : Answer
Start = Err refusal.Start

abbrev pub Exec : ℕ → ℕ → ℕ → ℕ → Answer
Exec row rule expected found = Err (refusal.Exec row rule expected found)

abbrev pub Extension : ℕ → ℕ → ℕ → ℕ → Answer
Extension row rule expected found = Err (refusal.Extension row rule expected found)

abbrev pub Bus : ℕ → ℕ → Answer
Bus part row = Err (refusal.Bus part row)

abbrev pub Label : ℕ → Answer
Label place = Err (refusal.Label place)

abbrev pub Stuck : ℕ → ℕ → Answer
Stuck row rule = Err (refusal.Stuck row rule)

abbrev pub Room : ℕ → Answer
Room row = Err (refusal.Room row)

abbrev pub Open : ℕ → Answer
Open row = Err (refusal.Open row)

abbrev pub Buffer : Answer
Buffer = Err refusal.Buffer

abbrev pub Grid : Answer
Grid = Err refusal.Grid

abbrev pub Edition : ℕ → Answer
Edition place = Err (refusal.Edition place)

abbrev pub Listing : ℕ → Answer
Listing place = Err (refusal.Listing place)

abbrev pub Short : ℕ → Answer
Short place = Err (refusal.Short place)

abbrev pub Host : Answer
Host = Err refusal.Host

abbrev pub ListShort : ℕ → Answer
ListShort place = Err (refusal.ListShort place)
