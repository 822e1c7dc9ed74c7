-- What refusals do to the buffers: nothing where maker, writer and C calls refuse, and a refused label reads as zeros.
-- Assumes nothing.
use mathlib.Core.Path.{◌≡◌, refl, ap, ◌∙◌}
use mathlib.Core.Logic.{◌⊎◌, inl, inr}
use mathlib.Core.Bool.{Bool, true, false, cond, ◌&&◌}
use mathlib.Core.List.{List}
use Prim.Native.Nat.{ℕ, ◌≤◌}
use native.Mathlib.Omega.{arith}
use lib.Dec.{eqb, ltb}
use lib.ListN.{length}
use borrow.Author.Tests.{ne_eqb}
use Rattle.word.proofs.Tests.{cases}
use Rattle.answer.specs.Verdicts.{numbers_of, accepted}
use Rattle.answer.specs.Answers.{Answer, Accepted, Size}
use Rattle.label.specs.Label.{ranged, no_recipe, label_of}
use Rattle.label.specs.Reading.{Reading, Reads}
use Rattle.label.specs.Writing.{Written, written, buffered}
use Rattle.label.specs.declared.Recipe.{Recipe}
use Rattle.maker_spec.specs.Bytes.{make_of, sizes_fit, program_after, memory_after}
use Rattle.rules.specs.Sizes.{Parts}
use Rattle.judge_spec.specs.Judged.{judge_of}
use Rattle.reply.specs.Reply.{answer_bytes, verdict_of}
use Rattle.uisnabar.specs.Calls.{both_fit}
use Rattle.reply.proofs.Unfit.{buffer_told, unchanged}
use Rattle.uisnabar.proofs.Buffers.{unfit_left, unfit_right}
use Rattle.mission.specs.Promises.{IsRefusal, JudgeCall, ReaderCall}

module _ (r : Recipe) (program memory : List ℕ) where
  refuses : (a b c : Bool) → IsRefusal (cond a (cond b (cond c Accepted (Size 2 0)) (Size 1 0)) (Size 0 0)) → (a && b && c) ≡ false
  refuses true true true h = absurd (omega arith)
  refuses true true false h = refl
  refuses true false c h = refl
  refuses false b c h = refl

  unfit : IsRefusal (make_of r (length program) (length memory)) → sizes_fit r (length program) (length memory) ≡ false
  unfolding make_of
  unfit h = refuses (ranged r) _ _ h

  pub maker_keeps : IsRefusal (make_of r (length program) (length memory)) → (program_after r program memory ≡ program) × (memory_after r program memory ≡ memory)
  maker_keeps h = (rw (unfit h), rw (unfit h))

module _ (r : Recipe) (buffer : List ℕ) where
  writes : (a b : Bool) (n : ℕ) (label : List ℕ)
      → (let w : Written = cond a (cond b (record { answer = Size 5 n; length = 0 }) (record { answer = Accepted; length = n })) (record { answer = Size 0 0; length = 0 }) in IsRefusal w.answer → (w.length ≡ 0) × (cond a (cond b buffer label) buffer ≡ buffer))
  writes true true n label h = (refl, refl)
  writes true false n label h = absurd (omega arith)
  writes false b n label h = (refl, refl)

  pub writer_keeps : IsRefusal (written r (length buffer)).answer → ((written r (length buffer)).length ≡ 0) × (buffered r buffer ≡ buffer)
  unfolding written buffered
  writer_keeps = writes (ranged r) (ltb (length buffer) (length (label_of r))) (length (label_of r)) _

pub reader_zeroes : (text : List ℕ) (r : Reading) → Reads text r → IsRefusal r.answer → r.recipe ≡ no_recipe
reader_zeroes text r (inl a) h = absurd (omega (arith, ap (λ (x : Answer). (numbers_of x).verdict) a.answer))
reader_zeroes text r (inr n) h = n.recipe

pub judge_call_answer : (q : Parts) (buffer : List ℕ) (x : ℕ × List ℕ) → JudgeCall q buffer x → (length buffer ≡ answer_bytes → ⊥) → (x.0 ≡ 13) × (x.1 ≡ buffer)
judge_call_answer q buffer x call other =
    (call.0 ∙ buffer_told buffer other (judge_of q), call.1 ∙ unchanged buffer other (judge_of q))

module _ (text answer recipe : List ℕ) (x : ℕ × List ℕ × List ℕ) (call : ReaderCall text answer recipe x) where
  unfit_call : both_fit answer recipe ≡ false → (x.0 ≡ 13) × (x.1 ≡ answer) × (x.2 ≡ recipe)
  unfit_call e = (rw e at call.verdict, rw e at call.answered, rw e at call.written)

  pub reader_call_answer : (length answer ≡ answer_bytes → ⊥) ⊎ (length recipe ≡ 20 → ⊥) → (x.0 ≡ 13) × (x.1 ≡ answer) × (x.2 ≡ recipe)
  reader_call_answer (inl other) = unfit_call (unfit_left answer answer_bytes other _)
  reader_call_answer (inr other) = unfit_call (unfit_right recipe 20 other (eqb (length answer) answer_bytes))

  pub reader_call_keeps : 1 ≤ x.0 → x.2 ≡ recipe
  reader_call_keeps h =
      cases (both_fit answer recipe)
      (λ fit.
      let told = rw fit at call.verdict in
      let refused : accepted call.reading.answer ≡ false = ne_eqb (verdict_of call.reading.answer) 0 (λ z. omega arith) in
      rw (fit, refused) at call.written)
      (λ unfit. (unfit_call unfit).2)
