-- A counter stands for one form, and its line is named by that form.
-- Assumes nothing.
use mathlib.Core.Path.{◌≡◌, refl, sym, ap, ◌∙◌}
use mathlib.Core.List.{◌++◌}
use Prim.Native.Nat.{ℕ, ◌+◌, ◌*◌, ◌/◌, ◌%◌, ◌≤◌}
use native.Mathlib.Omega.{arith}
use Rattle.form.specs.declared.Kind.{Kind}
use Rattle.form.specs.declared.Mode.{Mode}
use Rattle.form.specs.declared.Mode.TheVariants.{Immediate, Cell, Frame}
use Rattle.grid_spec.specs.Forms.{kind_number, mode_number, counter}
use Rattle.grid_spec.specs.Possible.{mode_at}
use Rattle.grid_spec.specs.Report.{kind_text, mode_text, dotted, equals, name_of}
use Rattle.grid_spec.proofs.Counts.{mode_few}

digits : (kind a b c : ℕ) → a ≤ 2 → b ≤ 2 → c ≤ 2
    → (let k = 27 * kind + 9 * a + 3 * b + c in (k / 27 ≡ kind) × (k / 9 % 3 ≡ a) × (k / 3 % 3 ≡ b) × (k % 3 ≡ c))
digits kind a b c ha hb hc = omega arith

-- a counter's four numbers are its form's
pub form_numbers : (kind : Kind) (a b c : Mode)
    → (let k = counter kind a b c in (k / 27 ≡ kind_number kind) × (k / 9 % 3 ≡ mode_number a) × (k / 3 % 3 ≡ mode_number b) × (k % 3 ≡ mode_number c))
form_numbers kind a b c =
    digits (kind_number kind) (mode_number a) (mode_number b) (mode_number c) (mode_few a) (mode_few b) (mode_few c)

-- a mode is that of its number
pub mode_back : (m : Mode) → mode_at (mode_number m) ≡ m
mode_back Immediate = refl
mode_back Cell = refl
mode_back Frame = refl

one_mode : (m n : Mode) → mode_number m ≡ mode_number n → m ≡ n
one_mode m n e = sym (mode_back m) ∙ ap mode_at e ∙ mode_back n

-- two forms of one counter are the same: the kind, whatever an extension does, and the three modes
pub one_form : (kind other : Kind) (a b c d e f : Mode) → counter kind a b c ≡ counter other d e f
    → (kind_number kind ≡ kind_number other) × (a ≡ d) × (b ≡ e) × (c ≡ f)
one_form kind other a b c d e f same =
    let (k₁, a₁, b₁, c₁) = form_numbers kind a b c in
    let (k₂, a₂, b₂, c₂) = form_numbers other d e f in (
      sym k₁ ∙ ap (λ (k : ℕ). k / 27) same ∙ k₂,
      one_mode a d (sym a₁ ∙ ap (λ (k : ℕ). k / 9 % 3) same ∙ a₂),
      one_mode b e (sym b₁ ∙ ap (λ (k : ℕ). k / 3 % 3) same ∙ b₂),
      one_mode c f (sym c₁ ∙ ap (λ (k : ℕ). k % 3) same ∙ c₂),
    )

-- as `add.cell.imm.fp=`
pub named : (kind : Kind) (a b c : Mode)
    → name_of (counter kind a b c)
    ≡ dotted (kind_text (kind_number kind)) ++ dotted (mode_text (mode_number a)) ++ dotted (mode_text (mode_number b)) ++ equals (mode_text (mode_number c))
unfolding name_of
named kind a b c =
    let (first, second, third, last) = form_numbers kind a b c in
    rw (first, second, third, last)
