-- Document 02, M-104: where expected or found is not 0, a lookup of the row shows them: they differ, expected is the
-- memory's word at the column's address, and found the table's. And where every cell of the lookup under the rule is
-- below M, they are not both 0. What the lookups of a row are.
use Rattle.std.specs.Prelude.{◌≡◌, ◌⊎◌, Bool, true, ◌&&◌, cond, List, [], ◌∷◌, ℕ, ◌+◌, ◌≤◌, eqb, length}
use Rattle.rules.specs.Given.{Given, looks_up, Rule}
use Rattle.rules.specs.Lookups.{Lookup}
use Rattle.judge_spec.specs.Refusal.{Differs}

abbrev pub Among : Lookup → List Lookup → Type 0
Among l [] = ⊥
Among l (k ∷ ks) = (l ≡ k) ⊎ Among l ks

pub record Shows (g : Given) (ls : List Lookup) (n expected found : ℕ) : Type 0 where
  pub lookup : Lookup
  pub among : Among lookup ls
  pub under : lookup.number ≡ n
  pub differs : Differs g lookup.addr lookup.column expected found

-- each lookup under the rule whose cells are all below M has a word that differs, and these are the numbers
abbrev pub Told : Given → List Lookup → ℕ → ℕ → ℕ → Type 0
Told g ls n expected found =
    (l : Lookup) → Among l ls → l.number ≡ n → l.addr + length l.column ≤ g.size
    → Differs g l.addr l.column expected found

-- the lookups of a list are those of a list of rules: they have these numbers, and the rules under a lookup's number
-- hold exactly where its column is in its cells, one after the other
abbrev pub rule_numbers : List Lookup → List ℕ
rule_numbers [] = []
rule_numbers (l ∷ ls) = l.number ∷ rule_numbers ls

abbrev pub hold_under : List Rule → ℕ → Bool
hold_under [] n = true
hold_under (r ∷ rs) n = cond (eqb r.number n) (r.holds && hold_under rs n) (hold_under rs n)

abbrev pub agrees : Given → ℕ → List ℕ → Bool
agrees g addr [] = true
agrees g addr (v ∷ vs) = looks_up g addr v && agrees g (addr + 1) vs

abbrev pub Covers : Given → List Rule → List Lookup → Type 0
Covers g rs [] = Unit
Covers g rs (l ∷ ls) = (hold_under rs l.number ≡ agrees g l.addr l.column) × Covers g rs ls

pub record LookupsOf (g : Given) (rs : List Rule) (ls : List Lookup) (ns : List ℕ) : Type 0 where
  pub numbered : rule_numbers ls ≡ ns
  pub covers : Covers g rs ls
