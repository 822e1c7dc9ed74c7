-- The eight words that are put into a slot: by number, and of an extension five and three that are 0.
-- Assumes nothing.
use mathlib.Core.Path.{◌≡◌, refl, sym}
use mathlib.Core.List.{List, [], ◌∷◌}
use Prim.Native.Nat.{ℕ, zero, suc, ◌≤◌, ◌<◌}
use native.Mathlib.Omega.{arith}
use lib.Dec.{lit≤}
use lib.ListN.{get_or, get_or-eq_default}
use Rattle.word.specs.Element.{◌⟨◌⟩, IsElement}
use Rattle.word.proofs.Lists.{◌∷≡◌}
use Rattle.machine.specs.Extension.{extension_result}
use Rattle.maker_spec.specs.Made.{flat, op_picked, be_picked, count_picked, left_picked, right_picked, kind_picked, slot_cells}
use Rattle.maker_law.proofs.Making.{picked_extension, result_element}
use Rattle.maker.specs.Inner.{eight}

-- an element has five words
past : (e : List ℕ) → IsElement e → (j : ℕ) → 5 ≤ j → e ⟨ j ⟩ ≡ 0
past e is j h = get_or-eq_default e 0 {n = j} (omega (arith, is.five_long))

pub slot_extension : (cell : ℕ → ℕ) (kind a c : ℕ) → 4 ≤ kind
    → (let e = extension_result cell (op_picked c) (be_picked c) (left_picked a) (right_picked a) 0 (count_picked c) in
    e ⟨ 0 ⟩ ∷ e ⟨ 1 ⟩ ∷ e ⟨ 2 ⟩ ∷ e ⟨ 3 ⟩ ∷ e ⟨ 4 ⟩ ∷ 0 ∷ 0 ∷ 0 ∷ [] ≡ eight (slot_cells flat cell (kind_picked kind c) a c))
slot_extension cell kind a c h =
    let e = extension_result cell (op_picked c) (be_picked c) (left_picked a) (right_picked a) 0 (count_picked c) in
    let is = result_element cell (op_picked c) (be_picked c) (left_picked a) (right_picked a) 0 (count_picked c) in
    rw (picked_extension kind c h)
    (refl ∷≡ refl ∷≡ refl ∷≡ refl ∷≡ refl ∷≡ sym (past e is 5 (lit≤ tt)) ∷≡ sym (past e is 6 (lit≤ tt)) ∷≡ sym (past e is 7 (lit≤ tt)) ∷≡ refl)

-- eight words, by number
pub eight_at : (l : List ℕ) (j : ℕ) → j < 8 → get_or (eight l) j 0 ≡ get_or l j 0
eight_at l zero h = refl
eight_at l (suc zero) h = refl
eight_at l (suc (suc zero)) h = refl
eight_at l (suc (suc (suc zero))) h = refl
eight_at l (suc (suc (suc (suc zero)))) h = refl
eight_at l (suc (suc (suc (suc (suc zero))))) h = refl
eight_at l (suc (suc (suc (suc (suc (suc zero)))))) h = refl
eight_at l (suc (suc (suc (suc (suc (suc (suc zero))))))) h = refl
eight_at l (suc (suc (suc (suc (suc (suc (suc (suc j)))))))) h = absurd (omega arith)
