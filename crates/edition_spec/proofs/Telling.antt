-- The answer is the one that says what is so of the program, and no other says it.
-- Assumes nothing.
use mathlib.Core.Path.{◌≡◌, sym, ◌∙◌}
use mathlib.Core.Logic.{◌↔◌}
use mathlib.Core.Bool.{true, false, true≢false}
use mathlib.Core.List.{List, [], ◌∷◌}
use Prim.Native.Nat.{ℕ, ◌*◌, ◌/◌, ◌%◌, ◌^◌}
use lib.Dec.{leb, eqb}
use lib.ListN.{length}
use borrow.Author.Tests.{eqb-true, eq-eqb, leb-true, le-leb}
use Rattle.word.proofs.Tests.{each, cases, by_test}
use Rattle.answer.specs.Answers.{Answer, Accepted, Word, Edition}
use Rattle.judge_spec.proofs.Cases.{Reads, tested, untouched, refusing}
use Rattle.judge_spec.proofs.StageReads.{words_read}
use Rattle.edition_machine.specs.declared.Encoded.{Encoded}
use Rattle.edition_spec.specs.Translatable.{translatable, Reason}
use Rattle.edition_spec.specs.Translated.{old_instruction, old_count, lengths_fit, editions, translate_answer}
use Rattle.edition_spec.specs.Told.{Lengths, Tells, of_size, of_word, of_edition, of_accepted}
use Rattle.edition_spec.proofs.Known.{refused_exactly}

-- translatable exactly where no reason holds
pub translatable_exactly : (e : Encoded) → (translatable e ≡ true) ↔ (Reason e → ⊥)
translatable_exactly e = (
  (λ t r. true≢false (sym t ∙ (refused_exactly e).1 r)),
  λ none. cases (translatable e) (λ t. t) (λ f. absurd (none ((refused_exactly e).0 f))),
)

-- lengths that are right, as they are tested
pub lengths_exactly : (bytes room : ℕ) → (lengths_fit bytes room ≡ true) ↔ Lengths bytes room
lengths_exactly bytes room = (tested_so, λ l. rw (l.whole, le-leb 1 (bytes / 56) l.least, le-leb (bytes / 56) (2 ^ 20) l.most, eq-eqb room (48 * (bytes / 56)) l.output))
  where
    tested_so : lengths_fit bytes room ≡ true → Lengths bytes room
    tested_so t =
        let (whole, (least, (most, output))) = each (eqb (bytes % 56) 0) (leb 1 (bytes / 56) ∷ leb (bytes / 56) (2 ^ 20) ∷ eqb room (48 * (bytes / 56)) ∷ []) t in
        record { whole = eqb-true _ _ whole; least = leb-true _ _ least; most = leb-true _ _ most; output = eqb-true _ _ output }

unfit : (bytes room : ℕ) → lengths_fit bytes room ≡ false → Lengths bytes room → ⊥
unfit bytes room f l = true≢false (sym ((lengths_exactly bytes room).1 l) ∙ f)

fits_not : (bytes room : ℕ) → (Lengths bytes room → ⊥) → lengths_fit bytes room ≡ false
fits_not bytes room not = cases (lengths_fit bytes room) (λ t. absurd (not ((lengths_exactly bytes room).0 t))) (λ f. f)

module _ (old : List ℕ) (room : ℕ) where
  fitting : Lengths (length old) room → lengths_fit (length old) room ≡ true
  fitting = (lengths_exactly (length old) room).1

  reasons : Reads (λ i. translatable (old_instruction old i)) (λ i. Reason (old_instruction old i) → ⊥) (λ i. Reason (old_instruction old i))
  reasons = record { ok = λ i. translatable_exactly _; bad = λ i. refused_exactly _ }

  pub tells : Tells old room (translate_answer old room)
  unfolding translate_answer
  tells =
      by_test (Tells old room) (lengths_fit (length old) room)
      (λ t. let fit : Lengths (length old) room = (lengths_exactly (length old) room).0 t in
      tested (words_read old) (length old / 4) (Word 1) (editions old Accepted) (Tells old room)
      (λ words. tested reasons (old_count old) Edition Accepted (Tells old room)
      (λ all. of_accepted (record { fit = fit; words = words; each = all }))
      (λ i inside before reason. of_edition i (record { fit = fit; words = words; before = before; inside = inside; reason = reason })))
      (λ k inside before bad. of_word k (record { fit = fit; before = before; inside = inside; bad = bad })))
      (λ f. of_size (unfit (length old) room f))

  pub tells_only : (a : Answer) → Tells old room a → translate_answer old room ≡ a
  unfolding translate_answer
  tells_only _ (of_size not) = rw (fits_not (length old) room not)
  tells_only _ (of_word k w) = rw (fitting w.fit) (refusing (words_read old) (length old / 4) (Word 1) (editions old Accepted) k w.inside w.before w.bad)
  tells_only _ (of_edition i x) =
      rw (fitting x.fit)
      (untouched (words_read old) (length old / 4) (Word 1) (editions old Accepted) x.words
      ∙ refusing reasons (old_count old) Edition Accepted i x.inside x.before x.reason)
  tells_only _ (of_accepted t) =
      rw (fitting t.fit)
      (untouched (words_read old) (length old / 4) (Word 1) (editions old Accepted) t.words
      ∙ untouched reasons (old_count old) Edition Accepted t.each)
