-- What a program writes for a text; no second output keeps its promise.
-- Assumes nothing.
use Prim.Native.Nat.{ℕ, ◌≤◌}
use mathlib.Core.Bool.{true}
use mathlib.Core.List.{List, [], ◌++◌}
use mathlib.Core.Logic.{inl, inr}
use mathlib.Core.Path.{◌≡◌, refl, sym, ap, ◌∙◌}
use native.Mathlib.Nat.{zero-add}
use native.Mathlib.Omega.{arith}
use lib.ListN.{length, take, drop, length-append}
use lib.Seq.{take_at}
use Rattle.answer.specs.Determined.{Determined}
use Rattle.label.specs.Label.{ranged}
use Rattle.label.specs.Reading.{Reading, Reads}
use Rattle.label.proofs.Label.{reading_determined}
use Rattle.lines.proofs.Placing.{Stands, over_front}
use Rattle.answer.specs.Verdicts.{accepted}
use Rattle.program_build.specs.Output.{Fills, Outputs}
use Rattle.program_build.proofs.Cut.{later_bytes}

-- an accepted reading's recipe is in range
pub inside : (text : List ℕ) (R : Reading) → Reads text R → accepted R.answer ≡ true → ranged R.recipe ≡ true
inside text R (inl a) e = a.range.ranges
inside text R (inr n) e = let z : ◌≡◌ {A = ℕ} 0 1 = cc (ap accepted n.answer) in absurd (omega arith)

pub fills_nothing : (out : List ℕ) → Fills [] out out 0
fills_nothing out = record { sized = refl; filled = refl }

pub fills_front : (bytes out : List ℕ) {l : List ℕ} {end : ℕ} → Stands out 0 bytes end l → Fills bytes out l end
fills_front bytes out s = record { sized = s.0 ∙ zero-add (length bytes); filled = s.1 ∙ over_front out bytes }

-- the bytes are there to be written
module _ (bytes out l : List ℕ) (size : ℕ) (h : Fills bytes out l size) where
  fills_fits : size ≤ length l
  fills_fits = omega (arith, h.sized, ap length h.filled, length-append bytes (drop (length bytes) out))

  fills_part : size ≡ length (take size l)
  fills_part = rw (h.sized, h.filled) (sym (ap length (take_at bytes (drop (length bytes) out) (length bytes) refl)))

module _ (output : Reading → List ℕ) (text out : List ℕ) where
  pub output_fits : {l : List ℕ} {size : ℕ} → Outputs output text out l size → size ≤ length l
  output_fits h = fills_fits (output h.reading) out _ _ h.fills

  pub output_part : {l : List ℕ} {size : ℕ} → Outputs output text out l size → size ≡ length (take size l)
  output_part h = fills_part (output h.reading) out _ _ h.fills

  -- a program that reads 38 bytes writes what it owes for all of them
  pub whole_input : {l : List ℕ} {size : ℕ} → Outputs output (take 38 text) out l size → Outputs output text out l size
  whole_input h = record { reading = h.reading; reads = later_bytes text h.reading h.reads; fills = h.fills }

  -- no two sizes and buffers keep the promise
  pub output_determined : Determined (λ (x : ℕ × List ℕ). Outputs output text out x.1 x.0)
  output_determined r s a b =
      let e : output a.reading ≡ output b.reading =
      ap output (reading_determined text a.reading b.reading a.reads b.reads) in
      let filled : List ℕ → List ℕ = λ o. o ++ drop (length o) out in
      λ i. (
        (a.fills.sized ∙ (ap length e ∙ sym b.fills.sized)) i,
        (a.fills.filled ∙ (ap filled e ∙ sym b.fills.filled)) i,
      )
