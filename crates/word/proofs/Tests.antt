-- Tests that pass, as facts and as equations: one, two, and several joined from the left; and cases by a test.
-- Assumes nothing.
use mathlib.Core.Path.{◌≡◌, refl, sym}
use mathlib.Core.Bool.{Bool, true, false, cond, ◌&&◌, ◌||◌}
use mathlib.Core.List.{List, [], ◌∷◌}
use Prim.Native.Nat.{ℕ, ◌≤◌, ◌<◌}
use lib.Dec.{T, ltb, eqb, eqb_refl}
use borrow.Author.Tests.{ltb-true, ltb-false, eqb-true, eqb-false}

pub is_true : (b : Bool) → T b → b ≡ true
is_true true t = refl
is_true false t = absurd t

pub from_true : (b : Bool) → b ≡ true → T b
from_true b e = rw e tt

pub eq→eqb : {m n : ℕ} → m ≡ n → T (eqb m n)
eq→eqb {m} {n} e = rw e (eqb_refl n)

pub eqb_same : (n : ℕ) → eqb n n ≡ true
eqb_same n = is_true (eqb n n) (eqb_refl n)

-- tests joined from the left, that each of them passes, and that each is true
abbrev pub alls : Bool → List Bool → Bool
alls a [] = a
alls a (b ∷ bs) = alls (a && b) bs

abbrev pub Passed : Bool → List Bool → Type 0
Passed a [] = T a
Passed a (b ∷ bs) = T a × Passed b bs

abbrev pub Each : Bool → List Bool → Type 0
Each a [] = a ≡ true
Each a (b ∷ bs) = (a ≡ true) × Each b bs

pub apart : (a : Bool) (bs : List Bool) → T (alls a bs) → Passed a bs
apart a [] t = t
apart true (b ∷ bs) t = (tt, apart b bs t)
apart false (b ∷ bs) t = absurd (never bs t)
  where
    never : (cs : List Bool) → T (alls false cs) → ⊥
    never [] t = t
    never (c ∷ cs) t = never cs t

pub together : (a : Bool) (bs : List Bool) → Passed a bs → T (alls a bs)
together a [] t = t
together true (b ∷ bs) (s, t) = together b bs t
together false (b ∷ bs) (s, t) = absurd s

pub each : (a : Bool) (bs : List Bool) → alls a bs ≡ true → Each a bs
each a bs e = trues a bs (apart a bs (from_true (alls a bs) e))
  where
    trues : (a : Bool) (bs : List Bool) → Passed a bs → Each a bs
    trues a [] t = is_true a t
    trues a (b ∷ bs) (s, t) = (is_true a s, trues b bs t)

-- two tests
pub both : (a b : Bool) → T (a && b) → T a × T b
both a b = apart a (b ∷ [])

pub and : (a b : Bool) → T a → T b → T (a && b)
and a b s t = together a (b ∷ []) (s, t)

-- two tests that hold at once are one
pub same_test : (a b : Bool) → (a ≡ true → b ≡ true) → (b ≡ true → a ≡ true) → a ≡ b
same_test true b f g = sym (f refl)
same_test false true f g = g refl
same_test false false f g = refl

-- by the one of two tests that holds
pub either : {P : Type 0} (a b : Bool) → (a ≡ true → P) → (b ≡ true → P) → a || b ≡ true → P
either true b f g e = f refl
either false b f g e = g e

-- by what a test gives
pub cases : {P : Type 0} (b : Bool) → (b ≡ true → P) → (b ≡ false → P) → P
cases true t f = t refl
cases false t f = f refl

pub by_order : {P : Type 0} (m n : ℕ) → (m < n → P) → (n ≤ m → P) → P
by_order m n f g = cases (ltb m n) (λ t. f (ltb-true m n t)) (λ t. g (ltb-false m n t))

pub by_equal : {P : Type 0} (m n : ℕ) → (m ≡ n → P) → ((m ≡ n → ⊥) → P) → P
by_equal m n f g = cases (eqb m n) (λ t. f (eqb-true m n t)) (λ t. g (eqb-false m n t))

-- what holds of x where a test is true, and of y where it is false, holds of what the test picks
pub by_test : {A : Type 0} (P : A → Type 0) (b : Bool) {x y : A} → (b ≡ true → P x) → (b ≡ false → P y) → P (cond b x y)
by_test P true t f = t refl
by_test P false t f = f refl

-- facts one after the other, with no bracket
infixr 2 ◌also◌
pub ◌also◌ : {A B : Type 0} → A → B → A × B
a also b = (a, b)
