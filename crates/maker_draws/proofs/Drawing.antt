-- Draws by their number, and the three of an instruction.
-- Assumes nothing.
use mathlib.Core.Path.{◌≡◌, ap, ◌∙◌}
use Prim.Native.Nat.{ℕ, zero, suc, ◌+◌, ◌*◌, ◌/◌, ◌%◌, ◌^◌}
use native.Mathlib.Nat.{add-zero, add-suc}
use native.Mathlib.Omega.{arith}
use Rattle.draw.specs.Draw.{advance}
use Rattle.draw.specs.declared.Generator.{Generator}
use Rattle.maker_draws.specs.Drawn.{state_after, drawn, after_cells, draws_of, three_of}

-- draws after draws
pub after_more : (s j k : ℕ) → state_after (state_after s j) k ≡ state_after s (j + k)
unfolding state_after
after_more s j zero = rw (add-zero j)
after_more s j (suc k) = rw (add-suc j k) (ap advance (after_more s j k))

pub drawn_more : (s j k : ℕ) → drawn (state_after s j) k ≡ drawn s (j + k)
drawn_more s j k = ap (λ (x : ℕ). x / 2 ^ 32) (after_more s j (suc k) ∙ ap (state_after s) (add-suc j k))

-- the three draws of instruction i, from the state after those before it
module _ (version seed i : ℕ) (g : Generator) (at : g.state ≡ state_after (after_cells version seed 32) (3 * i)) where
  pub three_drawn : three_of g
      ≡ record {
        kind = (draws_of version seed).kind i;
        a = (draws_of version seed).a i;
        c = (draws_of version seed).c i;
        next = record { state = state_after (after_cells version seed 32) (3 * (i + 1)) };
      }
  three_drawn =
      let start : ℕ = after_cells version seed 32 in
      let z : 3 * i + 0 ≡ 3 * i = omega arith in
      let e : 3 * i + 3 ≡ 3 * (i + 1) = omega arith in
      let kind : drawn g.state 0 ≡ drawn start (3 * i) = rw at (drawn_more start (3 * i) 0 ∙ ap (drawn start) z) in
      let a : drawn g.state 1 ≡ drawn start (3 * i + 1) = rw at (drawn_more start (3 * i) 1) in
      let c : drawn g.state 2 ≡ drawn start (3 * i + 2) = rw at (drawn_more start (3 * i) 2) in
      let after : state_after g.state 3 ≡ state_after start (3 * (i + 1)) = rw at (after_more start (3 * i) 3 ∙ ap (state_after start) e) in
      λ x. record { kind = kind x % 5; a = a x % 32; c = c x % 32; next = record { state = after x } }
