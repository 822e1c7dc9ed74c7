-- The bytes' value is 0.
use mathlib.Core.Path.{subst, sym}
use Prim.Native.Nat.{ℕ}
use Rattle.std.proofs.lemmas.Result.{err_from_is_err_and}
use Rattle.text_patterns.specs.Pattern.{lit, done}
use Rattle.text_fields.specs.Field.{Reaches}
use Rattle.text_fields.proofs.Toward.{name_value}
use Rattle.text_fields.proofs.One.{passed_told}
use Rattle.text_fields.proofs.read_literal.Goals as goal

pub returns-in_err-read-clause-read : goal.returns-in_err-read-clause-read
returns-in_err-read-clause-read c =
    let p = err_from_is_err_and c.from_residual.result c.from_residual.ensures.1 in
    rw (p.1, p.2) c.in_err-read.ensures.read

pub returns-in_err-read-clause-told : goal.returns-in_err-read-clause-told
returns-in_err-read-clause-told c = passed_told _ _ _ _ (returns-in_err-read-clause-read c)

pub returns-clause-read : goal.returns-clause-read
returns-clause-read c =
    let a = c.args in
    let r = c.in_ok-read.ensures.read in
    let e = name_value a.word.now a.text.now a.at c.in_ok-read.read.at 0 c.in_ok-read.read.value r in
    subst (λ (v : ℕ). Reaches (lit a.word.now (done 0)) a.text.now a.at v c.in_ok-read.read.at) (sym e) r

pub returns-clause-told : goal.returns-clause-told
returns-clause-told c = passed_told _ _ _ _ (returns-clause-read c)
