-- The invariant: the first k words stand at the front, then what stood there.
use mathlib.Core.Path.{ap, ◌∙◌, ◌≡◌}
use mathlib.Core.List.{append-nil, ◌++◌}
use Prim.Native.Nat.{◌+◌, ◌*◌}
use native.Mathlib.Omega.{arith}
use borrow.Author.Rules.{rules}
use lib.ListN.{drop_of_length-le, length, drop, get_or}
use Rattle.maker.proofs.Parts.{word_put, word_length}
use Rattle.word.specs.Bytes.{bytes_of, concatenated}
use Rattle.maker.proofs.write.put_words.Goals as goal

pub loop-k-init : goal.loop-k-init
unfolding concatenated
loop-k-init c = search rules

pub loop-k-preserved : goal.loop-k-preserved
loop-k-preserved c =
    let l = c.loop-k in
    let a = c.args in
    let pre = c.requires in
    let e : c.put_word.new.s ≡ concatenated (λ j. bytes_of (get_or a.words.now j 0)) (l.k + 1) ++ drop (4 * (l.k + 1)) a.s.now =
    c.put_word.ensures ∙ rw l.invariant.1 (word_put a.words.now a.s.now l.k (omega arith) pre)
    in
    (ap length e ∙ word_length a.words.now a.s.now l.k (omega arith) pre, e)

pub returns : goal.returns
returns c =
    let l = c.loop-k in
    let a = c.args in
    let e : l.k ≡ length a.words.now = omega arith in
    l.invariant.1 ∙ rw (e, drop_of_length-le a.s.now {i = 4 * length a.words.now} (omega arith)) (append-nil _)
