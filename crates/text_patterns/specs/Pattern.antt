-- Inner: patterns of text, as what may still come: each byte that goes on, and the pattern of the rest. A pattern is
-- its own reader's state.
use Rattle.std.specs.Prelude.{ℕ, zero, suc, Bool, true, false, cond, List, [], ◌∷◌, ◌++◌, ◌≡◌, T, eqb}
use Rattle.std.proofs.Math.Option.{Option, none, some}

-- a text ends with a value; or goes on by the bytes that pass a test; or may do either
pub data Pattern (A : Type 0) : Type 0 where
  done : A → Pattern A
  node : (ℕ → Bool) → (ℕ → Pattern A) → Pattern A
  more : A → (ℕ → Bool) → (ℕ → Pattern A) → Pattern A

module _ {A : Type 0} where
  -- the reader of a pattern: its states are patterns
  abbrev pub step : Pattern A → ℕ → Option (Pattern A)
  step (done a) b = none
  step (node ok f) b = cond (ok b) (some (f b)) none
  step (more a ok f) b = cond (ok b) (some (f b)) none

  abbrev pub ended : Pattern A → Bool
  ended (done a) = true
  ended (node ok f) = false
  ended (more a ok f) = true

  -- a text has a pattern, and a value
  abbrev pub Spells : Pattern A → List ℕ → A → Type 0
  Spells (done x) [] a = x ≡ a
  Spells (done x) (b ∷ t) a = ⊥
  Spells (node ok f) [] a = ⊥
  Spells (node ok f) (b ∷ t) a = (ok b ≡ true) × Spells (f b) t a
  Spells (more x ok f) [] a = x ≡ a
  Spells (more x ok f) (b ∷ t) a = (ok b ≡ true) × Spells (f b) t a

  -- each place has a byte that goes on or a value, and the values are of a kind; where it is not open, no text of the
  -- pattern starts another
  abbrev pub Live : Bool → (A → Type 0) → Pattern A → Type 0
  Live o P (done a) = P a
  Live o P (node ok f) = ((b : ℕ) × (ok b ≡ true)) × ((b : ℕ) → ok b ≡ true → Live o P (f b))
  Live o P (more a ok f) = T o × P a × ((b : ℕ) → ok b ≡ true → Live o P (f b))

  -- the texts of a pattern are those that its values of a kind are written as
  pub record Spelling (o : Bool) (f : Pattern A) (P : A → Type 0) (write : A → List ℕ) : Type 0 where
    pub live : Live o P f
    pub sound : (t : List ℕ) (a : A) → Spells f t a → write a ≡ t
    pub complete : (a : A) → P a → Spells f (write a) a

  -- fixed bytes, and then a pattern
  unfoldable pub lit : List ℕ → Pattern A → Pattern A
  lit [] f = f
  lit (x ∷ w) f = node (eqb x) (λ b. lit w f)

-- a pattern, and then one that may depend on the value
unfoldable pub seq : {A B : Type 0} → Pattern A → (A → Pattern B) → Pattern B
seq (done a) k = k a
seq (node ok f) k = node ok (λ b. seq (f b) k)
seq (more a ok f) k = k a

-- a value, or a pattern that is read for at least a byte
unfoldable pub opt : {A : Type 0} → A → Pattern A → Pattern A
opt a (done c) = done c
opt a (node ok f) = more a ok f
opt a (more c ok f) = more a ok f

-- at most n more lines, behind those that are read
unfoldable pub many : {A : Type 0} → Pattern A → ℕ → List A → Pattern (List A)
many line zero xs = done xs
many line (suc n) xs = opt xs (seq line (λ a. many line n (xs ++ (a ∷ []))))

-- each of a list is of a kind, and what the list is written as
abbrev pub Each : {A : Type 0} → (A → Type 0) → List A → Type 0
Each P [] = Unit {0}
Each P (x ∷ xs) = P x × Each P xs

unfoldable pub flat : {A : Type 0} → (A → List ℕ) → List A → List ℕ
flat p [] = []
flat p (x ∷ xs) = p x ++ flat p xs

-- a reading that goes as far as it can: the value where it may end, and the bytes that are left
pub data Parsed (A : Type 0) : Type 0 where
  got : A → List ℕ → Parsed A
  left : List ℕ → Parsed A

unfoldable pub parse : {A : Type 0} → Pattern A → List ℕ → Parsed A
parse (done a) t = got a t
parse (node ok f) [] = left []
parse (node ok f) (b ∷ t) = cond (ok b) (parse (f b) t) (left (b ∷ t))
parse (more a ok f) [] = got a []
parse (more a ok f) (b ∷ t) = cond (ok b) (parse (f b) t) (got a (b ∷ t))

abbrev pub unread : {A : Type 0} → Parsed A → List ℕ
unread (got a r) = r
unread (left r) = r

-- the next field is read from what one leaves
abbrev pub onto : {A B : Type 0} → (A → List ℕ → Parsed B) → Parsed A → Parsed B
onto k (got a r) = k a r
onto k (left r) = left r
