-- The six numbers name one answer: a table from the verdict gives the answer back. 12 is no answer's, and in its place
-- stands ACCEPTED, as for any number past the table.
-- Assumes nothing.
use mathlib.Core.Path.{◌≡◌, refl, sym, ap, ◌∙◌}
use mathlib.Core.Bool.{Bool, true, false}
use mathlib.Core.List.{[], ◌∷◌}
use Prim.Native.Nat.{ℕ}
use Rattle.std.specs.Prelude.{Ok, Err}
use native.Mathlib.Omega.{arith}
use lib.ListN.{get_or}
use borrow.Author.Tests.{eqb-true}
use Rattle.answer.specs.Verdicts.{numbers_of, accepted}
use Rattle.answer.specs.declared.Numbers.{Numbers}
use Rattle.answer.specs.declared.Refusal.{Refusal}
use Rattle.answer.specs.declared.Refusal.TheVariants as refusal
use Rattle.answer.specs.Answers.{
  Answer,
  Accepted,
  Size,
  Word,
  Instruction,
  Start,
  Exec,
  Extension,
  Bus,
  Label,
  Stuck,
  Room,
  Open,
  Buffer,
  Grid,
  Edition,
  Listing,
  Short,
  Host,
  ListShort,
}

abbrev answer_in : ℕ → ℕ → ℕ → ℕ → ℕ → ℕ → Answer
answer_in verdict part place rule expected found =
    get_or
    (Accepted
    ∷ Size part place
    ∷ Word part place
    ∷ Instruction place
    ∷ Start
    ∷ Exec place rule expected found
    ∷ Extension place rule expected found
    ∷ Bus part place
    ∷ Label place
    ∷ Stuck place rule
    ∷ Room place
    ∷ Open place
    ∷ Accepted
    ∷ Buffer
    ∷ Grid
    ∷ Edition place
    ∷ Listing place
    ∷ Short place
    ∷ Host
    ∷ ListShort place
    ∷ [])
    verdict Accepted

abbrev named : Numbers → Answer
named n = answer_in n.verdict n.part n.place n.rule n.expected n.found

named_back : (a : Answer) → named (numbers_of a) ≡ a
named_back (Ok x) = refl
named_back (Err (refusal.Size part place)) = refl
named_back (Err (refusal.Word part place)) = refl
named_back (Err (refusal.Instruction place)) = refl
named_back (Err refusal.Start) = refl
named_back (Err (refusal.Exec row rule expected found)) = refl
named_back (Err (refusal.Extension row rule expected found)) = refl
named_back (Err (refusal.Bus part row)) = refl
named_back (Err (refusal.Label place)) = refl
named_back (Err (refusal.Stuck row rule)) = refl
named_back (Err (refusal.Room row)) = refl
named_back (Err (refusal.Open row)) = refl
named_back (Err refusal.Buffer) = refl
named_back (Err refusal.Grid) = refl
named_back (Err (refusal.Edition place)) = refl
named_back (Err (refusal.Listing place)) = refl
named_back (Err (refusal.Short place)) = refl
named_back (Err refusal.Host) = refl
named_back (Err (refusal.ListShort place)) = refl

pub one_number : (a b : Answer) → numbers_of a ≡ numbers_of b → a ≡ b
one_number a b e = sym (named_back a) ∙ ap named e ∙ named_back b

-- no answer has number 12
pub no_twelve : (a : Answer) → (numbers_of a).verdict ≡ 12 → ⊥
no_twelve a e = let is : a ≡ Accepted = sym (named_back a) ∙ rw e in omega (arith, ap (λ (x : Answer). (numbers_of x).verdict) is)

-- verdict 0 is ACCEPTED's alone
pub verdict_zero : (a : Answer) → (numbers_of a).verdict ≡ 0 → a ≡ Accepted
verdict_zero a e = sym (named_back a) ∙ rw e

pub accepted_is : (a : Answer) → accepted a ≡ true → a ≡ Accepted
accepted_is a e = verdict_zero a (eqb-true (numbers_of a).verdict 0 e)

not_accepted : (b : Bool) (r : Refusal) → accepted (Err r) ≡ b → b ≡ false
not_accepted false r e = refl
not_accepted true r e = let is : Err r ≡ Accepted = accepted_is (Err r) e in cc

-- and no refusal's
pub refusal_not_accepted : (r : Refusal) → accepted (Err r) ≡ false
refusal_not_accepted r = not_accepted (accepted (Err r)) r refl
