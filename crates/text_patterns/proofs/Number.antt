-- A number in decimal, with no leading zero, and the byte that ends it.
-- Assumes nothing.
use Prim.Native.Nat.{ℕ, zero, suc, ◌+◌, ◌*◌, ◌/◌, ◌%◌, ◌≤◌, ◌<◌}
use mathlib.Core.Bool.{true, false, ◌&&◌}
use mathlib.Core.List.{List, [], ◌∷◌, ◌++◌}
use mathlib.Core.Path.{◌≡◌, refl, ◌∙◌, ap, ap₂, subst, sym}
use native.Mathlib.Omega.{arith}
use lib.Dec.{ltb, leb, eqb}
use lib.Seq.{append_snoc}
use borrow.Author.Tests.{ltb-true, lt-ltb, le-ltb, le-leb, leb-true, eq-eqb, eqb-true, ne_eqb}
use Rattle.text_patterns.specs.Pattern.{Pattern, done, Spells, Live, Spelling}
use Rattle.text_patterns.specs.Fields.{Digits, numeral_by, numeral, follows, number_from, number}
use Rattle.word.proofs.Tests.{by_order, cases, each}

-- the digits of a number
module _ (byte : ℕ → ℕ) where
  small_by : (k x : ℕ) → x < 10 → numeral_by byte k x ≡ byte x ∷ []
  unfolding numeral_by
  small_by zero x h = refl
  small_by (suc k) x h = rw (lt-ltb x 10 h)

  large_by : (k x : ℕ) → 10 ≤ x → numeral_by byte (suc k) x ≡ numeral_by byte k (x / 10) ++ (byte (x % 10) ∷ [])
  unfolding numeral_by
  large_by k x h = rw (le-ltb x 10 h)

  enough : (k j x : ℕ) → x ≤ k → x ≤ j → numeral_by byte k x ≡ numeral_by byte j x
  enough zero j x h i = small_by zero x (omega arith) ∙ sym (small_by j x (omega arith))
  enough (suc k) zero x h i = small_by (suc k) x (omega arith) ∙ sym (small_by zero x (omega arith))
  enough (suc k) (suc j) x h i =
      let r : 10 ≤ x → numeral_by byte k (x / 10) ≡ numeral_by byte j (x / 10) = λ a. enough k j (x / 10) (omega arith) (omega arith) in
      by_order x 10 (λ a. small_by (suc k) x a ∙ sym (small_by (suc j) x a))
      (λ a. large_by k x a ∙ ap (λ (l : List ℕ). l ++ (byte (x % 10) ∷ [])) (r a) ∙ sym (large_by j x a))

  pub numeral_small : (x : ℕ) → x < 10 → numeral byte x ≡ byte x ∷ []
  unfolding numeral
  numeral_small x h = small_by x x h

  pub numeral_large : (x : ℕ) → 10 ≤ x → numeral byte x ≡ numeral byte (x / 10) ++ (byte (x % 10) ∷ [])
  unfolding numeral
  numeral_large zero h = absurd (omega arith)
  numeral_large (suc x) h =
      large_by x (suc x) h ∙ ap (λ (l : List ℕ). l ++ (byte (suc x % 10) ∷ [])) (enough x (suc x / 10) (suc x / 10) (omega arith) (omega arith))

  -- one more digit, and the text behind it
  numeral_on : (x d : ℕ) (t : List ℕ) → 0 < x → d < 10 → numeral byte (10 * x + d) ++ t ≡ numeral byte x ++ (byte d ∷ t)
  numeral_on x d t h i =
      let q : (10 * x + d) / 10 ≡ x = omega arith in
      let r : (10 * x + d) % 10 ≡ d = omega arith in
      rw (numeral_large (10 * x + d) (omega arith), q, r) (append_snoc (numeral byte x) (byte d) t)

-- a digit that starts a number of a range, and one that follows the digits of x
module _ (high : ℕ) where
  pub starting : (low d : ℕ) → ltb d 10 && (leb low d && leb d high) ≡ true → (d < 10) × (low ≤ d) × (d ≤ high)
  starting low d e =
      let p = each (ltb d 10) ((leb low d && leb d high) ∷ []) e in
      let q = each (leb low d) (leb d high ∷ []) p.1 in
      (ltb-true d 10 p.0, leb-true low d q.0, leb-true d high q.1)

  pub fitting : (x d : ℕ) → follows high x d ≡ true → (d < 10) × (0 < x) × (10 * x + d ≤ high)
  fitting x d e =
      let p = each (ltb d 10) ((ltb 0 x && leb (10 * x + d) high) ∷ []) e in
      let q = each (ltb 0 x) (leb (10 * x + d) high ∷ []) p.1 in
      (ltb-true d 10 p.0, ltb-true 0 x q.0, leb-true (10 * x + d) high q.1)

module _ {byte value : ℕ → ℕ} (D : Digits 10 byte value) (low high end : ℕ) (zero_or_one : low ≤ 1) (some : low ≤ high) (stops : 10 ≤ value end) where
  abbrev Ranged : ℕ → Type 0
  Ranged x = (low ≤ x) × (x ≤ high)

  abbrev From : ℕ → ℕ → Pattern ℕ
  From = number_from value high end

  follows_on : (x d : ℕ) → d < 10 → 0 < x → 10 * x + d ≤ high → follows high x d ≡ true
  follows_on x d h i j = rw (lt-ltb d 10 h, lt-ltb 0 x i, le-leb (10 * x + d) high j)

  ranged_on : (x d : ℕ) → follows high x d ≡ true → Ranged (10 * x + d)
  ranged_on x d e = let f = fitting high x d e in omega arith

  live_from : (k x : ℕ) → Ranged x → Live false Ranged (From k x)
  unfolding number_from
  live_from zero x r = ((end, eq-eqb end end refl), λ b e. r)
  live_from (suc k) x r = (
    (end, rw (eq-eqb end end refl)),
    λ b e. cases (eqb end b) (λ y. rw y r) (λ y. rw y (live_from k (10 * x + value b) (ranged_on x (value b) (rw y at e)))),
  )

  starts_on : (d : ℕ) → d < 10 → Ranged d → ltb d 10 && (leb low d && leb d high) ≡ true
  starts_on d h r = rw (lt-ltb d 10 h, le-leb low d r.0, le-leb d high r.1)

  live_number : Live false Ranged (number value low high end)
  unfolding number
  live_number = (
    (byte low, rw (D.value_byte low (omega arith)) (starts_on low (omega arith) (omega arith))),
    λ b e. let f = starting high low (value b) e in live_from high (value b) (f.1, f.2),
  )

  -- what is read from the end byte on
  ending : (x b : ℕ) (t : List ℕ) (a : ℕ) → eqb end b ≡ true → Spells (done x) t a → numeral byte a ++ (end ∷ []) ≡ numeral byte x ++ (b ∷ t)
  ending x b [] a e h = ap₂ (λ (y c : ℕ). numeral byte y ++ (c ∷ [])) (sym h) (eqb-true end b e)
  ending x b (c ∷ t) a e h = absurd h

  sound_from : (k x : ℕ) (t : List ℕ) (a : ℕ) → Spells (From k x) t a → numeral byte a ++ (end ∷ []) ≡ numeral byte x ++ t
  unfolding number_from
  sound_from zero x [] a h = absurd h
  sound_from zero x (b ∷ t) a h = ending x b t a h.0 h.1
  sound_from (suc k) x [] a h = absurd h
  sound_from (suc k) x (b ∷ t) a h =
      cases (eqb end b) (λ y. ending x b t a y (rw y at h.1))
      (λ y. let f = fitting high x (value b) (rw y at h.0) in
      sound_from k (10 * x + value b) t a (rw y at h.1)
      ∙ numeral_on byte x (value b) t f.1 f.0
      ∙ ap (λ (c : ℕ). numeral byte x ++ (c ∷ t)) (D.byte_value b f.0))

  sound_number : (t : List ℕ) (a : ℕ) → Spells (number value low high end) t a → numeral byte a ++ (end ∷ []) ≡ t
  unfolding number
  sound_number [] a h = absurd h
  sound_number (b ∷ t) a h =
      let f = starting high low (value b) h.0 in
      sound_from high (value b) t a h.1 ∙ rw (numeral_small byte (value b) f.0, D.byte_value b f.0)

  -- a number's digits lead to where the rest of it is read
  record Led (a : ℕ) : Type 0 where
    k : ℕ
    room : high ≤ a + k
    led : (t : List ℕ) (c : ℕ) → Spells (From k a) t c → Spells (number value low high end) (numeral byte a ++ t) c

  not_end : (d : ℕ) → d < 10 → eqb end (byte d) ≡ false
  not_end d h = ne_eqb end (byte d) (λ e. omega (arith, ap value e, D.value_byte d h))

  led_on : (x d k : ℕ) → 0 < x → d < 10 → 10 * x + d ≤ high → high ≤ x + k
      → ((t : List ℕ) (c : ℕ) → Spells (From k x) t c → Spells (number value low high end) (numeral byte x ++ t) c) → Led (10 * x + d)
  unfolding number_from
  led_on x d zero h i j r l = absurd (omega arith)
  led_on x d (suc k) h i j r l = record {
    k = k;
    room = omega arith;
    led = λ t c q. rw (numeral_on byte x d t h i)
        (l (byte d ∷ t) c (rw (not_end d i, D.value_byte d i) (follows_on x d i h j, q)));
  }

  led_small : (a : ℕ) → a < 10 → Ranged a → Led a
  unfolding number
  led_small a h r = record {
    k = high;
    room = omega arith;
    led = λ t c q. rw (numeral_small byte a h, D.value_byte a h) (starts_on a h r, q);
  }

  led_to : (n a : ℕ) → a ≤ n → Ranged a → Led a
  led_to zero a h r = led_small a (omega arith) r
  led_to (suc n) a h r =
      let l : 10 ≤ a → Led (a / 10) = λ i. led_to n (a / 10) (omega arith) (omega arith) in
      by_order a 10 (λ i. led_small a i r)
      (λ i. subst Led (omega arith)
      (led_on (a / 10) (a % 10) (l i).k (omega arith) (omega arith) (omega arith) (l i).room (l i).led))

  ends_from : (k x : ℕ) → Spells (From k x) (end ∷ []) x
  unfolding number_from
  ends_from zero x = (eq-eqb end end refl, refl)
  ends_from (suc k) x = rw (eq-eqb end end refl) (refl, refl)

  -- a number of a range from 0 or 1 on, ended by a byte that is no digit
  pub spelling_number : Spelling false (number value low high end) (λ x. (low ≤ x) × (x ≤ high)) (λ x. numeral byte x ++ (end ∷ []))
  spelling_number = record {
    live = live_number;
    sound = sound_number;
    complete = λ a r. let l = led_to a a (omega arith) r in l.led (end ∷ []) a (ends_from l.k a);
  }
