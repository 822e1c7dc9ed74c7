-- The rest is one of the six that an operation leaves, or none of them: with N's range the tests of a call.
use borrow.Author.Tests.{ne_eqb}
use lib.Dec.{eqb, leb}
use Rattle.std.proofs.Common.{rules, ◌≡◌, ◌⊎◌, inl, inr, ℕ, ◌/◌, ◌%◌, ◌^◌, true, false, ◌&&◌, ◌||◌, sym, ap, ◌∙◌}
use Rattle.form.proofs.DataLaws.{call_tests}
use Rattle.form.proofs.data.is_data.Goals as goal
use Rattle.form.proofs.data.is_data.Goals.{in-4, in_default}

one_of : (r : ℕ) → (r ≡ 4) ⊎ ((r ≡ 6) ⊎ ((r ≡ 8) ⊎ ((r ≡ 10) ⊎ ((r ≡ 16) ⊎ (r ≡ 18)))))
    → (eqb r 4 || eqb r 6 || eqb r 8 || eqb r 10 || eqb r 16 || eqb r 18) ≡ true
one_of r (inl e) = rw e
one_of r (inr (inl e)) = rw e
one_of r (inr (inr (inl e))) = rw e
one_of r (inr (inr (inr (inl e)))) = rw e
one_of r (inr (inr (inr (inr (inl e))))) = rw e
one_of r (inr (inr (inr (inr (inr e))))) = rw e

none_of : (r : ℕ) → ((r ≡ 4) ⊎ ((r ≡ 6) ⊎ ((r ≡ 8) ⊎ ((r ≡ 10) ⊎ ((r ≡ 16) ⊎ (r ≡ 18))))) → ⊥)
    → (eqb r 4 || eqb r 6 || eqb r 8 || eqb r 10 || eqb r 16 || eqb r 18) ≡ false
none_of r none =
    rw (
      ne_eqb r 4 (λ e. none (inl e)),
      ne_eqb r 6 (λ e. none (inr (inl e))),
      ne_eqb r 8 (λ e. none (inr (inr (inl e)))),
      ne_eqb r 10 (λ e. none (inr (inr (inr (inl e))))),
      ne_eqb r 16 (λ e. none (inr (inr (inr (inr (inl e)))))),
      ne_eqb r 18 (λ e. none (inr (inr (inr (inr (inr e)))))),
    )

pub returns : goal.returns
returns c =
    let d = c.args.«data» in
    let tests : c.match-matches.matches ≡ (eqb (d % 32) 4 || eqb (d % 32) 6 || eqb (d % 32) 8 || eqb (d % 32) 10 || eqb (d % 32) 16 || eqb (d % 32) 18) =
    elim c.match-matches.branch [
      | in-4 w ↦ w.matches-is ∙ sym (one_of (d % 32) w.in-4.is)
      | in_default w ↦ w.matches-is ∙ sym (none_of (d % 32) (λ e. search rules))
    ] in
    ap (λ m. leb 1 (d / 32) && leb (d / 32) (2 ^ 20) && m) tests ∙ call_tests d
