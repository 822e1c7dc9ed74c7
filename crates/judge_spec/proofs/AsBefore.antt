-- Verdict, part, place and rule of every answer are what they were: the tests are the same, and so are these numbers of
-- a row that is refused.
use mathlib.Core.Path.{◌≡◌, refl}
use mathlib.Core.Bool.{Bool, true, false, ◌&&◌, cond}
use mathlib.Core.List.{List}
use Prim.Native.Nat.{ℕ, ◌/◌}
use lib.Dec.{ltb, eqb}
use lib.ListN.{length}
use Rattle.answer.specs.Answers.{Answer, Exec, Extension}
use Rattle.rules.specs.Sizes.{Parts, program_fits, memory_fits, exec_fits, ext_fits, given_of, tables_of}
use Rattle.judge_spec.specs.Judged.{first_word, first_malformed, first_exec, first_ext, judge_of}
use Rattle.judge_spec.specs.Before.{judge_before, first_four}

data Alike : Answer → Answer → Type 0 where
  itself : {a : Answer} → Alike a a
  exec_row : {r n x y : ℕ} → Alike (Exec r n x y) (Exec r n 0 0)
  ext_row : {r n x y : ℕ} → Alike (Extension r n x y) (Extension r n 0 0)

numbers : (x y : Answer) → Alike x y → first_four x ≡ first_four y
numbers x y itself = refl
numbers x y exec_row = refl
numbers x y ext_row = refl

-- two answers to one test
by_test : (b : Bool) {a c x y : Answer} → Alike a c → Alike x y → Alike (cond b a x) (cond b c y)
by_test true s t = s
by_test false s t = t

pub as_before : (q : Parts) → first_four (judge_of q) ≡ first_four (judge_before q)
unfolding judge_of judge_before
as_before q =
    let g = given_of q in
    let t = tables_of q in
    let word : List ℕ → Bool = λ bytes. ltb (first_word bytes) (length bytes / 4) in
    numbers (judge_of q) (judge_before q)
    (by_test (program_fits (length q.program))
    (by_test (memory_fits (length q.memory))
    (by_test (exec_fits (length q.exec))
    (by_test (ext_fits (length q.ext))
    (by_test (word q.program) itself
    (by_test (word q.memory) itself
    (by_test (word q.exec) itself
    (by_test (word q.ext) itself
    (by_test (ltb (first_malformed g) g.count) itself
    (by_test (eqb (t.exec 0).pc q.pc && eqb (t.exec 0).fp q.fp)
    (by_test (ltb (first_exec g t) t.height) exec_row (by_test (ltb (first_ext g t) t.ext_height) ext_row itself))
    itself))))))
    itself)
    itself)
    itself)
    itself)
