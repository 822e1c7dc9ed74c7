-- The invariant: what is left of the word gives the whole reading.
use Prim.Native.Nat.{ℕ, ◌+◌}
use mathlib.Core.List.{List}
use mathlib.Core.Path.{◌≡◌, ◌∙◌}
use native.Mathlib.Nat.{add-zero}
use native.Mathlib.Omega.{arith}
use borrow.Author.Rules.{rules}
use lib.ListN.{length, drop}
use Rattle.text_patterns.specs.Pattern.{Pattern, lit, done, left, parse}
use Rattle.text_patterns.proofs.Parsing.{lit_on, lit_stop, lit_end, lit_done}
use Rattle.text_fields.proofs.One.{read_told}
use Rattle.text_fields.proofs.read_name.Goals as goal
use Rattle.text_fields.proofs.read_name.Goals.{then-text-i-via-then-text-i, then-text-i-via-else-text-i+then-word-j}

-- before its first byte all of the word is left
none_yet : (word text : List ℕ) (f : Pattern ℕ) (at : ℕ) → parse (lit word f) (drop at text) ≡ parse (lit (drop 0 word) f) (drop (at + 0) text)
none_yet word text f at = rw (add-zero at)

pub loop-j-init : goal.loop-j-init
loop-j-init c = (omega arith, none_yet c.args.word.now c.args.text.now (done c.args.value) c.args.at)

pub returns-then-text-i-clause-read : goal.returns-then-text-i-clause-read
returns-then-text-i-clause-read c =
    let a = c.args in
    let l = c.loop-j in
    let w = a.word.now in
    let t = a.text.now in
    let read : parse {A = ℕ} (lit (drop l.j w) (done a.value)) (drop (a.at + l.j) t) ≡ left (drop (a.at + l.j) t) =
    elim c.then-text-i.branch [
      | then-text-i-via-then-text-i b ↦ lit_end {A = ℕ} (done a.value) w t l.j (a.at + l.j) c.loop-j-test.true b.if-text-i.true
      | then-text-i-via-else-text-i+then-word-j b ↦ lit_stop {A = ℕ} (done a.value) w t l.j (a.at + l.j) c.loop-j-test.true b.if-text-i.false b.if-word-j.true
    ] in
    record { inside = l.invariant.0; read = l.invariant.1 ∙ read }

pub returns-then-text-i-clause-told : goal.returns-then-text-i-clause-told
returns-then-text-i-clause-told c = read_told _ _ _ _ (returns-then-text-i-clause-read c)

pub loop-j-preserved : goal.loop-j-preserved
loop-j-preserved c =
    let a = c.args in
    let l = c.loop-j in
    let e : a.at + (l.j + 1) ≡ a.at + l.j + 1 = omega arith in
    (omega arith, rw e (l.invariant.1 ∙ lit_on {A = ℕ} (done a.value) a.word.now a.text.now l.j (a.at + l.j) (search rules) (search rules) (search rules)))

pub returns-clause-read : goal.returns-clause-read
unfolding parse
returns-clause-read c =
    let a = c.args in
    let l = c.loop-j in
    let e : l.j ≡ length a.word.now = omega arith in
    rw (← e) (record {
      inside = l.invariant.0;
      read = l.invariant.1 ∙ lit_done {A = ℕ} (done a.value) a.word.now a.text.now l.j (a.at + l.j) (omega arith);
    })

pub returns-clause-told : goal.returns-clause-told
returns-clause-told c = read_told _ _ _ _ (returns-clause-read c)
