-- p is prime, by one computed test: no odd number up to p's root divides it. And what a prime gives: a product is a
-- multiple of it only where a factor is.
-- Assumes nothing.
use mathlib.Core.Path.{◌≡◌, sym, ◌∙◌, ap}
use mathlib.Core.Bool.{Bool, true, false}
use mathlib.Core.Logic.{◌⊎◌, inl, inr}
use Prim.Native.Nat.{ℕ, zero, suc, ◌+◌, ◌-◌, ◌*◌, ◌/◌, ◌%◌, ◌<◌, ◌≤◌}
use native.Mathlib.Nat.{add-zero, mul-zero, le_of_suc-le-suc, not-suc-le-zero, div-add-mod, mod-lt, mul-mod_left, mul-mod_right, mul-le-mul, add-mul-mod_self_left, mul-one, one-mul, le_refl, le_trans}
use native.Mathlib.Decide.{dec_lt, ℕ_discrete}
use native.Mathlib.Omega.{arith}
use lib.Dec.{T, eqb, lit<}
use Rattle.word.proofs.Modulo.{mod_mul}
use Rattle.word.specs.Word.{p}
use Rattle.word.specs.Prime.{Prime}

-- the second test, where the first failed
abbrev unless : Bool → Bool → Bool
unless true b = false
unless false b = b

-- none of n odd numbers from d on divides p
abbrev none_divides : ℕ → ℕ → Bool
none_divides zero d = true
none_divides (suc n) d = unless (eqb (p % d) 0) (none_divides n (d + 2))

unless_first : (a b : Bool) → T (unless a b) → T a → ⊥
unless_first true b t _ = t
unless_first false b t s = s

unless_second : (a b : Bool) → T (unless a b) → T b
unless_second true b t = absurd t
unless_second false b t = t

-- what the test says of each of them
tested : (n d : ℕ) → T (none_divides n d) → (k : ℕ) → k < n → p % (d + 2 * k) ≡ 0 → ⊥
tested zero d t k h e = absurd (not-suc-le-zero h)
tested (suc n) d t zero h e =
    let none : p % d ≡ 0 = rw add-zero at e in
    unless_first (eqb (p % d) 0) (none_divides n (d + 2)) t (rw none tt)
tested (suc n) d t (suc k) h e =
    let same : d + 2 + 2 * k ≡ d + 2 * suc k = omega arith in
    tested n (d + 2) (unless_second (eqb (p % d) 0) (none_divides n (d + 2)) t) k (le_of_suc-le-suc h) (rw same e)

-- 46,160 is above p's root; half of the numbers below it are odd
odd_passes : T (none_divides 23079 3)
odd_passes = tt

no_half : (h q : ℕ) → 2 * h * q ≡ p → ⊥
no_half h q e = omega arith

-- a divisor times the quotient is the whole
whole_product : (n d : ℕ) → n % d ≡ 0 → d * (n / d) ≡ n
whole_product n d e = sym (add-zero _) ∙ ap (λ (r : ℕ). d * (n / d) + r) (sym e) ∙ div-add-mod n d

-- an even number doesn't divide an odd one
even_fails : (d : ℕ) → d % 2 ≡ 0 → p % d ≡ 0 → ⊥
even_fails d even e =
    let half : d ≡ 2 * (d / 2) = omega arith in
    no_half (d / 2) (p / d) (ap (λ (x : ℕ). x * (p / d)) (sym half) ∙ whole_product p d e)

small_fails : (d : ℕ) → 1 < d → d < 46160 → p % d ≡ 0 → ⊥
small_fails d above below e = go (ℕ_discrete (d % 2) 0)
  where
    go : Dec (d % 2 ≡ 0) → ⊥
    go (yes even) = even_fails d even e
    go (no odd) =
        let at : 3 + 2 * ((d - 3) / 2) ≡ d = omega arith in
        tested 23079 3 odd_passes ((d - 3) / 2) (omega arith) (rw at e)

-- of two factors above the root the product is above p
both_large : (d q : ℕ) → 46160 ≤ d → 46160 ≤ q → d * q ≡ p → ⊥
both_large d q hd hq e = omega (arith, mul-le-mul hd hq)

-- a factor's other factor is neither 0 nor 1
other_above : (d q : ℕ) → d < p → d * q ≡ p → 1 < q
other_above d zero below e = absurd (no_half 0 0 (rw mul-zero at e))
other_above d (suc zero) below e = let self : d ≡ p = rw mul-one at e in omega arith
other_above d (suc (suc q)) below e = omega arith

other_below : (d q : ℕ) → 46160 ≤ d → d * q ≡ p → q < 46160
other_below d q large e = go (dec_lt q 46160)
  where
    go : Dec (q < 46160) → q < 46160
    go (yes small) = small
    go (no both) = absurd (both_large d q large (omega arith) e)

pub p_prime : Prime p
p_prime = record { above_one = lit< tt; no_divisor = none }
  where
    none : (d : ℕ) → 1 < d → d < p → p % d ≡ 0 → ⊥
    none d above below e = go (dec_lt d 46160)
      where
        product : d * (p / d) ≡ p
        product = whole_product p d e

        go : Dec (d < 46160) → ⊥
        go (yes small) = small_fails d above small e
        go (no large) =
            small_fails (p / d) (other_above d (p / d) below product) (other_below d (p / d) (omega arith) product)
            (ap (λ (x : ℕ). x % (p / d)) (sym product) ∙ mul-mod_left d (p / d))

take_multiple : (n q s r b t : ℕ) → r * q + s ≡ n → n * t ≡ r * b → s * b + n * (q * t) ≡ n * b
take_multiple n q s r b t e f =
    let all : (r * q + s) * b ≡ n * b = ap (λ (x : ℕ). x * b) e in
    let same : q * (n * t) ≡ q * (r * b) = ap (λ (x : ℕ). q * x) f in
    omega arith

positive : (x : ℕ) → (x ≡ 0 → ⊥) → 0 < x
positive x no_zero = omega arith

module _ (n : ℕ) (prime : Prime n) where
  -- where r times b is a multiple of n, so is n's remainder by r
  rest_zero : (r b : ℕ) → r * b % n ≡ 0 → n % r * b % n ≡ 0
  rest_zero r b e =
      let t = r * b / n in
      let taken : n % r * b + n * (n / r * t) ≡ n * b = take_multiple n (n / r) (n % r) r b t (div-add-mod n r) (whole_product (r * b) n e) in
      sym (add-mul-mod_self_left (n % r * b) n (n / r * t)) ∙ ap (λ (x : ℕ). x % n) taken ∙ mul-mod_right n b

  -- by Euclid's descent on r, whose remainders are never 0
  descend : (bound r b : ℕ) → r ≤ bound → 0 < r → r < n → r * b % n ≡ 0 → b % n ≡ 0
  descend zero r b h pos below e = absurd (not-suc-le-zero (le_trans pos h))
  descend (suc bound) r b h pos below e = go (dec_lt 1 r) (descend bound (n % r) b)
    where
      go : Dec (1 < r) → (n % r ≤ bound → 0 < n % r → n % r < n → n % r * b % n ≡ 0 → b % n ≡ 0) → b % n ≡ 0
      go (no one) again = let is_one : r ≡ 1 = omega arith in rw (is_one, one-mul) at e
      go (yes above) again =
          let less : n % r < r = mod-lt n pos in
          again (omega arith) (positive (n % r) (prime.no_divisor r above below)) (omega arith) (rest_zero r b e)

  pub factor_zero : (a b : ℕ) → a * b % n ≡ 0 → (a % n ≡ 0) ⊎ (b % n ≡ 0)
  factor_zero a b e = go (ℕ_discrete (a % n) 0)
    where
      go : Dec (a % n ≡ 0) → (a % n ≡ 0) ⊎ (b % n ≡ 0)
      go (yes z) = inl z
      go (no nz) = inr (descend (a % n) (a % n) b (le_refl _) (omega arith) (mod-lt a (omega (arith, prime.above_one))) (mod_mul a b n ∙ e))
