-- The padding row meets the rules next to any row that starts a group, itself included, and pulls nothing.
-- Assumes nothing.
use mathlib.Core.Path.{◌≡◌, refl}
use mathlib.Core.Logic.{inl, inr}
use Prim.Native.Nat.{ℕ, ◌≤◌, ◌<◌}
use native.Mathlib.Omega.{arith}
use lib.Dec.{lit<}
use Rattle.word.specs.Word.{IsWord}
use Rattle.form.specs.declared.Op.{Op}
use Rattle.form.specs.declared.Op.TheVariants.{Add, Mul, Peq}
use Rattle.rows.specs.declared.Ext.{Ext}
use Rattle.rules.specs.Given.{Given}
use Rattle.rules.specs.Extension.{ext_rules}
use Rattle.rules.specs.Satisfies.{All}
use Rattle.rules.specs.Bus.{pulls}
use Rattle.machine.specs.Extension.{element_at}
use Rattle.tables.specs.Groups.{padding}
use Rattle.run_groups.proofs.Words.{cells_element}
use Rattle.run_groups.proofs.Meaning.{RowWords, FiveCells, flag_of}
use Rattle.run_groups.proofs.Written.{written}

pub padding_words : (g : Given) → 5 ≤ g.size → ((k : ℕ) → k < g.size → IsWord (g.cell k)) → RowWords (padding g.cell)
unfolding padding
padding_words g h words =
    let cells = cells_element g words 0 h in
    record {
      start = lit< tt;
      add = lit< tt;
      mul = lit< tt;
      peq = lit< tt;
      len = lit< tt;
      idxA = lit< tt;
      idxB = lit< tt;
      idxR = lit< tt;
      be = lit< tt;
      base = words 0 (omega arith);
      vA = cells;
      vB = cells;
      comp = cells;
      res = cells;
    }

no_flag : (op : Op) (cell : ℕ → ℕ) → flag_of op (padding cell) ≡ 1 → ⊥
unfolding padding
no_flag Add cell e = omega arith
no_flag Mul cell e = omega arith
no_flag Peq cell e = omega arith

pub padding_rules : (g : Given) → 5 ≤ g.size → (y : Ext) → y.start ≡ 1 → All (ext_rules g (padding g.cell) y)
unfolding padding
padding_rules g h y one =
    written g (padding g.cell) y (inr one)
    (record {
      looked = record { base = refl; vA = cells; vB = cells; res = cells };
      bits = record { be = inl refl; start = inr refl; add = inl refl; mul = inl refl; peq = inl refl };
      accumulates = λ op e. absurd (no_flag op g.cell e);
      ends_in_result = λ _. refl;
      goes_on = λ z. absurd (omega arith);
      ends = λ _. refl;
    })
  where
    cells : FiveCells g 0 (element_at g.cell 0)
    cells = record { exist = h; hold = refl }

pub padding_pulls : (cell : ℕ → ℕ) → pulls (padding cell) ≡ 0
unfolding padding
padding_pulls cell = refl

pub padding_start : (cell : ℕ → ℕ) → (padding cell).start ≡ 1
unfolding padding
padding_start cell = refl
