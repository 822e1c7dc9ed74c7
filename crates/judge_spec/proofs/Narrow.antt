-- Every number of the judge's answer is below 2^32, so that four bytes hold it.
use mathlib.Core.Path.{◌≡◌, subst}
use mathlib.Core.Logic.{◌⊎◌, inl, inr}
use mathlib.Core.Bool.{false, true≢false}
use mathlib.Core.List.{List, [], ◌∷◌, ◌++◌}
use Prim.Native.Nat.{ℕ, zero, suc, ◌/◌, ◌^◌, ◌≤◌, ◌<◌}
use native.Mathlib.Omega.{arith}
use lib.Dec.{T}
use lib.ListN.{length}
use Rattle.word.specs.Word.{IsWord}
use Rattle.form.specs.declared.Instruction.{Instruction}
use Rattle.rows.specs.declared.Exec.{Exec}
use Rattle.rows.specs.declared.Ext.{Ext}
use Rattle.answer.specs.Verdicts.{six, numbers_of}
use Rattle.answer.specs.declared.Numbers.{Numbers}
use Rattle.std.specs.Prelude.{Ok, Err}
use Rattle.answer.specs.declared.Refusal.TheVariants as refusal
use Rattle.answer.specs.Answers.{Answer, Accepted, Size, Word, Instruction as Malformed, Start, Exec as ExecRefused, Extension, Bus, Label, Stuck, Room, Open, Buffer, Grid, Edition, Listing, Short, Host, ListShort}
use Rattle.rules.specs.Given.{Given, Rule, rule}
use Rattle.rules.specs.Execution.{exec_rules}
use Rattle.rules.specs.Extension.{ext_rules}
use Rattle.rules.specs.Lookups.{Lookup, exec_lookups, ext_lookups}
use Rattle.rules.specs.Sizes.{Parts, given_of, tables_of}
use Rattle.judge_spec.specs.Judged.{judge_of}
use Rattle.judge_spec.specs.Refusal.{FirstFailing, Stood, part, part_fits, Says}
use Rattle.judge_spec.proofs.Lengths.{whole, few}
use Rattle.judge_spec.proofs.FoundWords.{Columns, stood_words, exec_columns, ext_columns}
use Rattle.judge_spec.proofs.Justified.{justified}

pub record Narrow (n : Numbers) : Type 0 where
  pub verdict : n.verdict < 2 ^ 32
  pub part : n.part < 2 ^ 32
  pub place : n.place < 2 ^ 32
  pub rule : n.rule < 2 ^ 32
  pub expected : n.expected < 2 ^ 32
  pub found : n.found < 2 ^ 32

-- an answer that says nothing of a lookup
pub narrow_four : (verdict part place rule : ℕ) → verdict < 2 ^ 32 → part < 2 ^ 32 → place < 2 ^ 32 → rule < 2 ^ 32
    → Narrow (six verdict part place rule 0 0)
narrow_four verdict part place rule v p l r =
    record { verdict = v; part = p; place = l; rule = r; expected = omega arith; found = omega arith }

-- the numbers of a list's rules are at most 21
abbrev Few : List Rule → Type 0
Few [] = Unit
Few (r ∷ rs) = (r.number ≤ 21) × Few rs

exec_few : (g : Given) (x y : Exec) (i : Instruction) → Few (exec_rules g x y i)
unfolding exec_rules
exec_few g x y i = omega arith

ext_few : (g : Given) (x y : Ext) → Few (ext_rules g x y)
unfolding ext_rules
ext_few g x y = omega arith

few_at : (before after : List Rule) (n : ℕ) → Few (before ++ (rule n false ∷ after)) → n ≤ 21
few_at [] after n h = h.0
few_at (r ∷ rs) after n h = few_at rs after n h.1

rule_few : (rs : List Rule) (n : ℕ) → Few rs → FirstFailing rs n → n ≤ 21
rule_few rs n h f = few_at f.before f.after n (subst Few f.split h)

module _ (q : Parts) where
  -- a part that is refused is one of four
  size_part : (n : ℕ) → part_fits q n ≡ false → n ≤ 4
  size_part zero e = omega arith
  size_part (suc zero) e = omega arith
  size_part (suc (suc zero)) e = omega arith
  size_part (suc (suc (suc zero))) e = omega arith
  size_part (suc (suc (suc (suc zero)))) e = omega arith
  size_part (suc (suc (suc (suc (suc n))))) e = absurd (true≢false e)

  module _ (sizes : (m : ℕ) → T (part_fits q m)) where
    count : length q.program / 48 ≤ 2 ^ 20
    count = few (length q.program) (sizes 1)

    height : length q.exec / 32 ≤ 2 ^ 25
    height = (whole (length q.exec) 32 25 (sizes 3)).number.most

    ext_height : length q.ext / 120 ≤ 2 ^ 20
    ext_height = (whole (length q.ext) 120 20 (sizes 4)).number.most

    -- the words of a part, and its number
    word_part : (n k : ℕ) → k < length (part q n) / 4 → (n ≤ 4) × (k < 2 ^ 32)
    word_part zero k h = omega arith
    word_part (suc zero) k h = (omega arith, omega (arith, count))
    word_part (suc (suc zero)) k h = (omega arith, omega (arith, (whole (length q.memory) 4 29 (sizes 2)).number.most))
    word_part (suc (suc (suc zero))) k h = (omega arith, omega (arith, height))
    word_part (suc (suc (suc (suc zero)))) k h = (omega arith, omega (arith, ext_height))
    word_part (suc (suc (suc (suc (suc n))))) k h = absurd (omega arith)

  -- a row that is refused, by its rule and what stood there
  row_narrow : (g : Given) (ls : List Lookup) {verdict part row n x y : ℕ} → verdict < 2 ^ 32 → part < 2 ^ 32 → row < 2 ^ 32 → n ≤ 21
      → ((k : ℕ) → k < g.size → IsWord (g.cell k)) → Columns ls → Stood g ls n x y → Narrow (six verdict part row n x y)
  row_narrow g ls {verdict} {part} {row} {n} v p l few cells columns stood =
      let w = stood_words g cells ls n columns stood in
      record { verdict = v; part = p; place = l; rule = omega arith; expected = omega (arith, w.0); found = omega (arith, w.1) }

  says_narrow : (a : Answer) → Says q a → Narrow (numbers_of a)
  unfolding Says
  says_narrow (Ok o) x = narrow_four 0 0 0 0 (omega arith) (omega arith) (omega arith) (omega arith)
  says_narrow (Err (refusal.Size n place)) x =
      narrow_four 1 n place 0 (omega arith) (omega (arith, size_part n x.bad)) (omega (arith, x.unnamed)) (omega arith)
  says_narrow (Err (refusal.Word n k)) x =
      let w = word_part x.sizes n k x.inside in
      narrow_four 2 n k 0 (omega arith) (omega arith) w.1 (omega arith)
  says_narrow (Err (refusal.Instruction i)) x =
      narrow_four 3 1 i 0 (omega arith) (omega arith) (omega (arith, x.inside, count x.two.sizes)) (omega arith)
  says_narrow (Err refusal.Start) x = narrow_four 4 0 0 0 (omega arith) (omega arith) (omega arith) (omega arith)
  says_narrow (Err (refusal.Exec r n expected found)) x =
      let two = x.four.three.two in
      row_narrow (given_of q) (exec_lookups ((tables_of q).exec r)) (omega arith) (omega arith) (omega (arith, x.inside, height two.sizes))
      (rule_few _ n (exec_few _ _ _ _) x.bad) (two.words 2) (exec_columns q.exec (two.words 3) r x.inside) x.stood
  says_narrow (Err (refusal.Extension r n expected found)) x =
      let two = x.five.four.three.two in
      row_narrow (given_of q) (ext_lookups ((tables_of q).ext r)) (omega arith) (omega arith) (omega (arith, x.inside, ext_height two.sizes))
      (rule_few _ n (ext_few _ _ _) x.bad) (two.words 2) (ext_columns q.ext (two.words 4) r x.inside) x.stood
  says_narrow (Err (refusal.Bus n r)) (inl x) =
      narrow_four 7 n r 0 (omega arith) (omega (arith, x.0))
      (omega (arith, x.1.inside, height x.1.six.five.four.three.two.sizes)) (omega arith)
  says_narrow (Err (refusal.Bus n r)) (inr x) =
      narrow_four 7 n r 0 (omega arith) (omega (arith, x.0))
      (omega (arith, x.1.inside, ext_height x.1.six.five.four.three.two.sizes)) (omega arith)
  says_narrow (Err (refusal.Label place)) x = absurd x
  says_narrow (Err (refusal.Stuck r n)) x = absurd x
  says_narrow (Err (refusal.Room r)) x = absurd x
  says_narrow (Err (refusal.Open r)) x = absurd x
  says_narrow (Err refusal.Buffer) x = absurd x
  says_narrow (Err refusal.Grid) x = absurd x
  says_narrow (Err (refusal.Edition place)) x = absurd x
  says_narrow (Err (refusal.Listing place)) x = absurd x
  says_narrow (Err (refusal.Short place)) x = absurd x
  says_narrow (Err refusal.Host) x = absurd x
  says_narrow (Err (refusal.ListShort place)) x = absurd x

  pub answer_narrow : Narrow (numbers_of (judge_of q))
  answer_narrow = says_narrow (judge_of q) (justified q)
