-- The other way round: a row of which Meaning is true meets every rule, next to any row whose start is 0 or 1.
-- Assumes nothing.
use mathlib.Core.Path.{◌≡◌, sym, ap}
use mathlib.Core.Logic.{inl, inr}
use mathlib.Core.Bool.{Bool, true, false}
use mathlib.Core.List.{List, [], ◌∷◌}
use Prim.Native.Nat.{ℕ, ◌+◌, ◌<◌}
use native.Mathlib.Omega.{arith}
use lib.Dec.{T}
use Rattle.word.specs.Word.{◌+ₚ◌, ◌-ₚ◌, ◌*ₚ◌}
use Rattle.word.specs.Element.{◌⟨◌⟩, element, ◌·ₑ◌}
use Rattle.word.proofs.WordLaws.{difference_self}
use Rattle.form.specs.Data.{bit}
use Rattle.form.specs.declared.Op.TheVariants.{Add, Mul, Peq}
use Rattle.rows.specs.declared.Ext.{Ext}
use Rattle.rules.specs.Given.{Given, zero?, zero_element?, looks_up, looks_up_five}
use Rattle.rules.specs.Extension.{ext_rules}
use Rattle.rules.specs.Satisfies.{All}
use Rattle.machine.specs.Extension.{element_at}
use Rattle.tables.specs.Groups.{left_index}
use Rattle.word.proofs.Tests.{together, ◌also◌}
use Rattle.run_steps.proofs.Words.{holds_off}
use Rattle.run_steps.proofs.Operands.{looks_up_lem}
use Rattle.run_groups.proofs.Words.{take_two, second_zero, first_scale, second_scale, element_difference_self, take_two_elements}
use Rattle.run_groups.proofs.Meaning.{FiveCells, IsBit, Meaning}

five_cells : (g : Given) (addr : ℕ) (a : List ℕ) → FiveCells g addr a → T (looks_up_five g addr a)
five_cells g addr a f =
    together (looks_up g addr (a ⟨ 0 ⟩)) (looks_up g (addr + 1) (a ⟨ 1 ⟩) ∷ looks_up g (addr + 2) (a ⟨ 2 ⟩) ∷ looks_up g (addr + 3) (a ⟨ 3 ⟩) ∷ looks_up g (addr + 4) (a ⟨ 4 ⟩) ∷ [])
    (cell (omega arith) (hold 0) also cell (omega arith) (hold 1) also cell (omega arith) (hold 2) also cell (omega arith) (hold 3) also cell (omega arith) (hold 4))
  where
    cell : {at x : ℕ} → at < g.size → x ≡ g.cell at → T (looks_up g at x)
    cell below e = looks_up_lem g _ _ (record { exists = below; holds = e })

    hold : (k : ℕ) → a ⟨ k ⟩ ≡ element_at g.cell addr ⟨ k ⟩
    hold k = ap (λ (l : List ℕ). l ⟨ k ⟩) f.hold

is_bit : (x : ℕ) → IsBit x → T (zero? (x *ₚ (1 -ₚ x)))
unfolding ◌*ₚ◌ ◌-ₚ◌
is_bit x (inl z) = rw z tt
is_bit x (inr one) = rw one tt

-- an element rule under a flag
under : (f : ℕ) (a : List ℕ) → IsBit f → (f ≡ 1 → a ≡ element 0) → T (zero_element? (f ·ₑ a))
under f a (inl z) e = first_scale f a z
under f a (inr one) e = second_scale f a (e one)

-- a rule that holds inside a group alone, and the one that holds at its end alone
within : (s x : ℕ) → IsBit s → (s ≡ 0 → x ≡ 0) → T (zero? ((1 -ₚ s) *ₚ x))
within s x (inl z) e = second_zero (1 -ₚ s) x (e z)
within s x (inr one) e = holds_off x (rw one (difference_self 1))

at_end : (s x : ℕ) → IsBit s → (s ≡ 1 → x ≡ 0) → T (zero? (s *ₚ x))
at_end s x (inl z) e = holds_off x z
at_end s x (inr one) e = second_zero s x (e one)

same : (x y : ℕ) → y ≡ x → x -ₚ y ≡ 0
same x y e = rw e (difference_self x)

on : (i j k : ℕ) → j ≡ i + k → j -ₚ i -ₚ k ≡ 0
unfolding ◌-ₚ◌
on i j k e = omega arith

stride : (b i j : ℕ) → IsBit b → ((be : Bool) → b ≡ bit be → j ≡ left_index be i 1) → j -ₚ i -ₚ (b +ₚ (1 -ₚ b) *ₚ 5) ≡ 0
unfolding ◌+ₚ◌ ◌-ₚ◌ ◌*ₚ◌
stride b i j (inl z) e = rw z (on i j 5 (e false z))
stride b i j (inr one) e = rw one (on i j 1 (e true one))

pub written : (g : Given) (x y : Ext) → IsBit y.start → Meaning g x y → All (ext_rules g x y)
unfolding ext_rules
written g x y s m =
    let l = m.looked in
    let b = m.bits in
    looks_up_lem g x.idxA x.base (record { exists = omega arith; holds = l.base })
    also five_cells g x.idxA x.vA l.vA
    also five_cells g x.idxB x.vB l.vB
    also five_cells g x.idxR x.res l.res
    also is_bit x.be b.be
    also is_bit x.start b.start
    also is_bit x.add b.add
    also is_bit x.mul b.mul
    also is_bit x.peq b.peq
    also under x.add _ b.add (λ one. take_two_elements _ _ _ (m.accumulates Add one))
    also under x.mul _ b.mul (λ one. take_two_elements _ _ _ (m.accumulates Mul one))
    also under x.peq _ b.peq (λ one. element_difference_self _ _ (m.accumulates Peq one))
    also under x.start _ b.start (λ one. element_difference_self _ _ (m.ends_in_result one))
    also within y.start _ s (λ z. take_two x.len y.len 1 (m.goes_on z).len)
    also within y.start _ s (λ z. same _ _ (m.goes_on z).be)
    also within y.start _ s (λ z. same _ _ (m.goes_on z).add)
    also within y.start _ s (λ z. same _ _ (m.goes_on z).mul)
    also within y.start _ s (λ z. same _ _ (m.goes_on z).peq)
    also within y.start _ s (λ z. stride x.be x.idxA y.idxA b.be (m.goes_on z).idxA)
    also within y.start _ s (λ z. on x.idxB y.idxB 5 (m.goes_on z).idxB)
    also at_end y.start _ s (λ one. same x.len 1 (sym (m.ends one)))
    also tt
