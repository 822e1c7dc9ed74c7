-- Lengths that fit are those of whole rows and in range, and a bad part is the one that SIZE names.
-- Assumes nothing.
use borrow.Author.Tests.{eqb-true, leb-true}
use mathlib.Core.Bool.{Bool, true, false, cond}
use mathlib.Core.List.{[], ◌∷◌}
use mathlib.Core.Path.{◌≡◌, refl}
use Prim.Native.Nat.{ℕ, ◌/◌, ◌%◌, ◌^◌}
use native.Mathlib.Omega.{arith}
use lib.Dec.{eqb, leb}
use Rattle.word.proofs.Tests.{each}
use Rattle.answer.specs.Answers.{Size, Answer}
use Rattle.rules.specs.Sizes.{program_fits, memory_fits, exec_fits, ext_fits}
use Rattle.inputs.specs.Parts.{Fitting}
use Rattle.judge_spec.proofs.Cases.{from_true}
use Rattle.judge_spec.proofs.Lengths.{whole}

-- lengths that fit
pub fitting : (program memory exec ext : ℕ) → program_fits program ≡ true → memory_fits memory ≡ true → exec_fits exec ≡ true → ext_fits ext ≡ true
    → Fitting program memory exec ext
fitting program memory exec ext ep em ex et =
    let fits = each (eqb (program % 48) 0) (leb 1 (program / 48) ∷ leb (program / 48) (2 ^ 20) ∷ []) ep in
    let um = whole memory 4 29 (from_true _ em) in
    let ux = whole exec 32 25 (from_true _ ex) in
    let ut = whole ext 120 20 (from_true _ et) in
    record {
      program_rows = eqb-true (program % 48) 0 fits.0;
      program_short = omega (arith, leb-true (program / 48) (2 ^ 20) fits.1.1, eqb-true (program % 48) 0 fits.0);
      memory_short = omega (arith, um.whole, um.number.most);
      exec_rows = ux.whole;
      exec_some = omega (arith, ux.number.least);
      exec_short = omega (arith, ux.whole, ux.number.most);
      ext_rows = ut.whole;
      ext_some = omega (arith, ut.number.least);
      ext_short = omega (arith, ut.whole, ut.number.most);
    }

-- the lowest of four tests that fails
abbrev pub lowest : Bool → Bool → Bool → Bool → ℕ
lowest a b c d = cond a (cond b (cond c (cond d 0 4) 3) 2) 1

pub bad_named : (a b c d : Bool) (then : Answer)
    → (lowest a b c d ≡ 0 → ⊥)
    → Size (lowest a b c d) 0 ≡ cond a (cond b (cond c (cond d then (Size 4 0)) (Size 3 0)) (Size 2 0)) (Size 1 0)
bad_named false b c d then bad = refl
bad_named true false c d then bad = refl
bad_named true true false d then bad = refl
bad_named true true true false then bad = refl
bad_named true true true true then bad = absurd (bad refl)

pub record Fit (a b c d : Bool) : Type 0 where
  pub first : a ≡ true
  pub second : b ≡ true
  pub third : c ≡ true
  pub fourth : d ≡ true

pub all_fit : (a b c d : Bool) → lowest a b c d ≡ 0 → Fit a b c d
all_fit false b c d e = absurd (omega arith)
all_fit true false c d e = absurd (omega arith)
all_fit true true false d e = absurd (omega arith)
all_fit true true true false e = absurd (omega arith)
all_fit true true true true e = record { first = refl; second = refl; third = refl; fourth = refl }
