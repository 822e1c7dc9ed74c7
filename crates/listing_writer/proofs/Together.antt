-- Lines one after the other: how long they are with one more, and that one of them has room where all have.
-- Assumes nothing.
use Prim.Native.Nat.{ℕ, ◌+◌, ◌-◌, ◌/◌, ◌≤◌, ◌<◌}
use mathlib.Core.List.{List}
use mathlib.Core.Path.{◌≡◌, ap, ◌∙◌}
use native.Mathlib.Omega.{arith}
use lib.ListN.{length, length-append}
use Rattle.word.specs.Bytes.{concatenated}
use Rattle.word.proofs.Concatenated.{parts_append, parts_one}
use Rattle.listing_spec.specs.Listing.{instruction_line, listing_of}

module _ (program : List ℕ) where
  -- the lines of the first k instructions
  abbrev pub lines_to : ℕ → List ℕ
  lines_to = concatenated (instruction_line program)

  pub next_length : (k : ℕ) → length (lines_to (k + 1)) ≡ length (lines_to k) + length (instruction_line program k)
  next_length k = ap length (parts_one (instruction_line program) k) ∙ length-append (lines_to k) (instruction_line program k)

  pub room : (k : ℕ) → k < length program / 48 → length (lines_to k) + length (instruction_line program k) ≤ length (listing_of program)
  unfolding listing_of
  room k h =
      let n = length program / 48 in
      let e : n ≡ k + 1 + (n - (k + 1)) = omega arith in
      omega (
        arith,
        ap (λ (m : ℕ). length (lines_to m)) e,
        simp length-append at (ap length (parts_append (instruction_line program) (k + 1) (n - (k + 1)))),
        next_length k,
      )
