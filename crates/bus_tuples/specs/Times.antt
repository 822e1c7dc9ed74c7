-- Inner: how often an extension row pulls, as the code finds it before the row's rules are known to hold.
-- Declared in src/: Ext (rows).
use Rattle.std.specs.Prelude.{◌&&◌, cond, ℕ, ◌+◌, eqb, leb}
use Rattle.rows.specs.declared.Ext.{Ext}

-- by the words that say so; 2 where one of them is no flag, as of such a row no more is asked than that it doesn't pull
-- once
abbrev pub pull_by : ℕ → ℕ → ℕ → ℕ → ℕ
pull_by start add mul peq =
    cond (eqb start 0) 0 (cond (eqb start 1 && leb add 1 && leb mul 1 && leb peq 1) (add + mul + peq) 2)

-- at most once it is as often as the row pulls, and of a row with flags always (proofs/Times)
abbrev pub pull_count : Ext → ℕ
pull_count x = pull_by x.start x.add x.mul x.peq
