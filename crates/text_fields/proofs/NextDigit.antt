-- One byte of a number, in the code's words and in the form's.
-- Assumes nothing.
use Prim.Native.Nat.{ℕ, zero, suc, ◌+◌, ◌*◌, ◌≤◌, ◌<◌}
use mathlib.Core.Bool.{Bool, true, false, cond, ◌&&◌, ◌||◌}
use mathlib.Core.List.{List}
use mathlib.Core.Path.{◌≡◌, refl, ◌∙◌, ap, sym}
use native.Mathlib.Omega.{arith}
use lib.Dec.{ltb, leb, eqb}
use lib.ListN.{length, get_or, drop}
use Rattle.text_patterns.specs.Pattern.{Pattern, done, parse, got, left}
use Rattle.text_patterns.specs.Fields.{follows, number_from, number}
use Rattle.word.proofs.Tests.{cases}
use Rattle.text_patterns.proofs.Number.{starting, fitting}
use Rattle.text_patterns.proofs.Parsing.{parse_on, parse_stop, parse_end}
use Rattle.text_fields.proofs.Range.{digit_outside, digit_inside}
use Rattle.std.specs.Prelude.{Some, None}
use Rattle.text_fields.specs.Digit.{decimal_value, next_digit}
use Rattle.text_fields.specs.Field.{Reaches, Stops}
use borrow.Author.Tests.{le-ltb}

as_fits : (x high b : ℕ) → next_digit x high b ≡ cond (follows high x (decimal_value b)) (Some (10 * x + decimal_value b)) None
unfolding next_digit
as_fits x high b =
    cases (ltb (decimal_value b) 10)
    (λ e. cases (ltb 0 x) (λ f. cases (leb (10 * x + decimal_value b) high) (λ g. rw (e, f, g)) (λ g. rw (e, f, g))) (λ f. rw (e, f))) (λ e. rw e)

-- what the answer tells of the byte
is_on : (z y : ℕ) (v : Bool) → cond v (Some z) None ≡ Some y → (v ≡ true) × (z ≡ y)
is_on z y true e = (refl, cc)
is_on z y false e = let w : ◌≡◌ {A = ℕ} 0 1 = cc in absurd (omega arith)

is_stop : (z : ℕ) (v : Bool) → cond v (Some z) None ≡ None → v ≡ false
is_stop z true e = let w : ◌≡◌ {A = ℕ} 0 1 = cc in absurd (omega arith)
is_stop z false e = refl

-- so far the digits of x are read, up to i
pub record Digits (f : Pattern ℕ) (high end : ℕ) (text : List ℕ) (at i x : ℕ) : Type 0 where
  pub k : ℕ
  pub room : high ≤ x + k
  pub below : x ≤ high
  pub reads : parse f (drop at text) ≡ parse (number_from decimal_value high end k x) (drop i text)

module _ (low high end : ℕ) (text : List ℕ) (at : ℕ) where
  abbrev Number : Pattern ℕ
  Number = number decimal_value low high end

  abbrev First : ℕ → Bool
  First b = ltb (decimal_value b) 10 && (leb low (decimal_value b) && leb (decimal_value b) high)

  abbrev Rest : ℕ → Pattern ℕ
  Rest b = number_from decimal_value high end high (decimal_value b)

  module _ (d : ℕ) (h : at < length text) (e : d ≡ decimal_value (get_or text at 0)) where
    pub begins : d < 10 → ltb d low || ltb high d ≡ false → Digits Number high end text at (at + 1) d
    unfolding number
    begins small o =
        let ok = digit_inside low high d small o in
        record {
          k = high;
          room = omega arith;
          below = (starting high low d ok).2;
          reads = parse_on First Rest text at h (rw (← e) ok) ∙ ap (λ (y : ℕ). parse (number_from decimal_value high end high y) (drop (at + 1) text)) (sym e);
        }

    pub begins_not : ltb d low || ltb high d ≡ true → Stops Number text at at
    unfolding number
    begins_not o = record { inside = omega arith; read = parse_stop First Rest text at h (rw (← e) (digit_outside low high d o)) }

  pub no_number : at < length text → 10 ≤ decimal_value (get_or text at 0) → Stops Number text at at
  unfolding number
  no_number h none = record { inside = omega arith; read = parse_stop First Rest text at h (rw (le-ltb (decimal_value (get_or text at 0)) 10 none)) }

  pub nothing : at ≤ length text → length text ≤ at → Stops Number text at at
  unfolding number
  nothing i h = record { inside = i; read = parse_end First Rest text at h }

module _ (f : Pattern ℕ) (high end : ℕ) (text : List ℕ) (at i x : ℕ) (h : i < length text) where
  abbrev b : ℕ
  b = get_or text i 0

  abbrev Ok : ℕ → Bool
  Ok c = eqb end c || follows high x (decimal_value c)

  abbrev Then : ℕ → ℕ → Pattern ℕ
  Then k c = cond (eqb end c) (done x) (number_from decimal_value high end k (10 * x + decimal_value c))

  on_by : (k y : ℕ) → high ≤ x + k → parse f (drop at text) ≡ parse (number_from decimal_value high end k x) (drop i text)
      → (eqb end b ≡ false) × (follows high x (decimal_value b) ≡ true) × (10 * x + decimal_value b ≡ y) → Digits f high end text at (i + 1) y
  unfolding number_from
  on_by zero y room r e = let a = fitting high x (decimal_value b) e.1 in absurd (omega arith)
  on_by (suc k) y room r e =
      let a = fitting high x (decimal_value b) e.1 in
      record {
        k = k;
        room = omega (arith, e.2);
        below = omega (arith, e.2);
        reads =
            r ∙ parse_on Ok (Then k) text i h (rw e.0 e.1)
            ∙ rw e.0 (ap (λ (z : ℕ). parse (number_from decimal_value high end k z) (drop (i + 1) text)) e.2);
      }

  pub goes : (y : ℕ) → Digits f high end text at i x → eqb end b ≡ false → next_digit x high b ≡ Some y → Digits f high end text at (i + 1) y
  goes y s o e =
      let on = is_on (10 * x + decimal_value b) y (follows high x (decimal_value b)) (sym (as_fits x high b) ∙ e) in
      on_by s.k y s.room s.reads (o, on.0, on.1)

  stop_by : (k : ℕ) → parse f (drop at text) ≡ parse (number_from decimal_value high end k x) (drop i text)
      → (eqb end b ≡ false) × (follows high x (decimal_value b) ≡ false) → parse f (drop at text) ≡ left (drop i text)
  unfolding number_from
  stop_by zero r e = r ∙ parse_stop (eqb end) (λ c. done x) text i h e.0
  stop_by (suc k) r e = r ∙ parse_stop Ok (Then k) text i h (rw e.0 e.1)

  pub halts : Digits f high end text at i x → eqb end b ≡ false → next_digit x high b ≡ None → Stops f text at i
  halts s o e = record {
    inside = omega arith;
    read = stop_by s.k s.reads (o, is_stop (10 * x + decimal_value b) (follows high x (decimal_value b)) (sym (as_fits x high b) ∙ e));
  }

  end_by : (k : ℕ) → parse f (drop at text) ≡ parse (number_from decimal_value high end k x) (drop i text)
      → eqb end b ≡ true → parse f (drop at text) ≡ got x (drop (i + 1) text)
  unfolding number_from parse
  end_by zero r e = r ∙ parse_on (eqb end) (λ c. done x) text i h e
  end_by (suc k) r e = r ∙ parse_on Ok (Then k) text i h (rw e) ∙ rw e

  pub ends : Digits f high end text at i x → eqb end b ≡ true → Reaches f text at x (i + 1)
  ends s e = record { inside = omega arith; read = end_by s.k s.reads e }

-- the text is over
over_by : (f : Pattern ℕ) (high end : ℕ) (text : List ℕ) (at i x k : ℕ) → length text ≤ i
    → parse f (drop at text) ≡ parse (number_from decimal_value high end k x) (drop i text) → parse f (drop at text) ≡ left (drop i text)
unfolding number_from
over_by f high end text at i x zero h r = r ∙ parse_end (eqb end) (λ c. done x) text i h
over_by f high end text at i x (suc k) h r = r ∙ parse_end (λ c. eqb end c || follows high x (decimal_value c)) (λ c. cond (eqb end c) (done x) (number_from decimal_value high end k (10 * x + decimal_value c))) text i h

pub over : (f : Pattern ℕ) (high end : ℕ) (text : List ℕ) (at i x : ℕ) → length text ≡ i → Digits f high end text at i x → Stops f text at (length text)
over f high end text at i x h s = rw h (record { inside = omega arith; read = over_by f high end text at i x s.k (omega arith) s.reads })
