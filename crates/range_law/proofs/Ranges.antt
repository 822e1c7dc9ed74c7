-- The theorem of specs/Ranges, from the laws of finds.
-- Assumes nothing.
use mathlib.Core.Path.{◌≡◌, refl, sym, ap, ◌∙◌}
use mathlib.Core.Bool.{true, false, true≢false}
use mathlib.Core.List.{List, ◌++◌}
use mathlib.Core.Logic.{◌⊎◌, inl, inr}
use Prim.Native.Nat.{ℕ, ◌+◌, ◌-◌, ◌*◌, ◌≤◌, ◌<◌}
use native.Mathlib.Nat.{le_refl}
use native.Mathlib.Omega.{arith}
use lib.ListN.{length, get_or, drop, length-append, length-drop}
use lib.Seq.{get_or-append-add, get_or-drop}
use Rattle.word.proofs.Tests.{cases, by_order}
use Rattle.answer.specs.Verdicts.{numbers_of, accepted}
use Rattle.answer.specs.Answers.{Answer, Accepted, ListShort}
use Rattle.answer.proofs.Named.{accepted_is}
use Rattle.rules.specs.Sizes.{Parts, given_of, tables_of}
use Rattle.judge_spec.specs.Judged.{judge_of}
use Rattle.judge_spec.specs.Refusal.{Says}
use Rattle.judge_spec.proofs.Exactly.{says_exactly}
use Rattle.range_spec.specs.Finds.{all_finds}
use Rattle.range_spec.specs.Finder.{finds_number_in, ranges_answer, ranges_found, finds_left}
use Rattle.range_law.specs.Ranges.{Lists, Ranges}
use Rattle.range_law.proofs.Below.{bounded, same_frame}
use Rattle.range_finds.proofs.All.{finds_length, finds_most}
use Rattle.range_law.proofs.Listed.{all_listed}
use Rattle.range_finds.proofs.Answers.{judge_refuses, fits, too_short, number_given, finds_given, nothing_given}

-- a byte behind what was put in the place of as many
kept_byte : (xs s : List ℕ) (n at : ℕ) → length xs ≡ n → n ≤ at → get_or (xs ++ drop n s) at 0 ≡ get_or s at 0
kept_byte xs s n at e h =
    let split : at ≡ length xs + (at - n) = omega arith in
    let same : n + (at - n) ≡ at = omega arith in
    ap (λ (i : ℕ). get_or (xs ++ drop n s) i 0) split ∙ get_or-append-add xs (drop n s) (at - n) 0 ∙ get_or-drop n s (at - n) 0 ∙ ap (λ (i : ℕ). get_or s i 0) same

module _ (q : Parts) where
  -- an answer that isn't ACCEPTED
  not_accepted : (a : Answer) → (a ≡ Accepted → ⊥) → accepted a ≡ false
  not_accepted a not = cases (accepted a) (λ t. absurd (not (accepted_is a t))) (λ f. f)

  judge_first : (room : ℕ) → (judge_of q ≡ Accepted → ⊥) → ranges_answer q room ≡ judge_of q
  judge_first room not = judge_refuses q room (not_accepted (judge_of q) not)

  refused : (finds : List ℕ) → (ranges_answer q (length finds) ≡ Accepted → ⊥) → (ranges_found q (length finds) ≡ 0) × (finds_left q finds ≡ finds)
  refused finds not = nothing_given q finds (not_accepted (ranges_answer q (length finds)) not)

  -- the three answers: the judge's own refusal, ACCEPTED and LIST
  three : {C : Type 0} (room : ℕ) → (accepted (judge_of q) ≡ false → C)
      → (judge_of q ≡ Accepted → 8 * finds_number_in q ≤ room → C)
      → (judge_of q ≡ Accepted → room < 8 * finds_number_in q → C)
      → C
  three room not enough short =
      cases (accepted (judge_of q))
      (λ t. by_order room (8 * finds_number_in q) (short (accepted_is (judge_of q) t)) (enough (accepted_is (judge_of q) t)))
      not

  -- ACCEPTED: the judge accepts, and there is room
  room_for : (room : ℕ) → ranges_answer q room ≡ Accepted → (judge_of q ≡ Accepted) × (8 * finds_number_in q ≤ room)
  room_for room e =
      three room
      (λ f. absurd (true≢false (ap accepted (sym e ∙ judge_refuses q room f) ∙ f)))
      (λ yes h. (yes, h))
      (λ yes h. absurd (listed_not (sym (too_short q (ap accepted yes) room h) ∙ e)))
    where
      listed_not : ListShort (finds_number_in q) ≡ Accepted → ⊥
      listed_not z = omega (arith, ap (λ (a : Answer). (numbers_of a).verdict) z)

  lists : (finds : List ℕ) → ranges_answer q (length finds) ≡ Accepted → Lists q (ranges_found q (length finds)) (finds_left q finds)
  lists finds e =
      rw (number_given q (length finds) e, finds_given q finds e)
      (all_listed q (room_for (length finds) e).0 (drop (8 * finds_number_in q) finds))

  -- LIST is no answer of the judge's
  list_place : (room n : ℕ) → ranges_answer q room ≡ ListShort n
      → (room < 8 * n) × (ranges_answer q (8 * n) ≡ Accepted) × (ranges_found q (8 * n) ≡ n)
  unfolding Says
  list_place room n e =
      three room
      (λ f. absurd ((says_exactly q (ListShort n)).0 (sym (judge_refuses q room f) ∙ e)))
      (λ yes h. absurd (omega (arith, ap (λ (a : Answer). (numbers_of a).verdict) (sym (fits q (ap accepted yes) room h) ∙ e))))
      (λ yes h.
      let same : finds_number_in q ≡ n = ap (λ (a : Answer). (numbers_of a).place) (sym (too_short q (ap accepted yes) room h) ∙ e) in
      let enough = fits q (ap accepted yes) (8 * finds_number_in q) (le_refl _) in
      (rw same at h, rw same at enough, rw same at (number_given q (8 * finds_number_in q) enough)))

  -- the buffer at return, by whether it is written
  left : (C : List ℕ → ℕ → Type 0) (finds : List ℕ)
      → (8 * finds_number_in q ≤ length finds → C (all_finds (given_of q) (tables_of q) ++ drop (8 * finds_number_in q) finds) (finds_number_in q))
      → C finds 0
      → C (finds_left q finds) (ranges_found q (length finds))
  left C finds written kept =
      cases (accepted (ranges_answer q (length finds)))
      (λ t.
      let e = accepted_is (ranges_answer q (length finds)) t in
      rw (finds_given q finds e, number_given q (length finds) e) (written (room_for (length finds) e).1))
      (λ f. let (none, same) = nothing_given q finds f in rw (none, same) kept)

  later_kept : (finds : List ℕ) (at : ℕ) → 8 * ranges_found q (length finds) ≤ at → get_or (finds_left q finds) at 0 ≡ get_or finds at 0
  later_kept finds at =
      left (λ l n. 8 * n ≤ at → get_or l at 0 ≡ get_or finds at 0) finds
      (λ room h. kept_byte (all_finds (given_of q) (tables_of q)) finds (8 * finds_number_in q) at (finds_length (given_of q) (tables_of q)) h)
      (λ _. refl)

  length_kept : (finds : List ℕ) → length (finds_left q finds) ≡ length finds
  length_kept finds =
      left (λ l n. length l ≡ length finds) finds
      (λ room.
      length-append (all_finds (given_of q) (tables_of q)) (drop (8 * finds_number_in q) finds)
      ∙ omega (arith, finds_length (given_of q) (tables_of q), length-drop (8 * finds_number_in q) finds))
      refl

  always_enough : judge_of q ≡ Accepted → ranges_answer q (8 * ((tables_of q).height - 2)) ≡ Accepted
  always_enough e = fits q (ap accepted e) _ (omega (arith, finds_most (given_of q) (tables_of q)))

  accepted_or_list : (room : ℕ) → judge_of q ≡ Accepted → (ranges_answer q room ≡ Accepted) ⊎ ((n : ℕ) × (ranges_answer q room ≡ ListShort n))
  accepted_or_list room e =
      by_order room (8 * finds_number_in q)
      (λ short. inr (finds_number_in q, too_short q (ap accepted e) room short))
      (λ enough. inl (fits q (ap accepted e) room enough))

pub ranges : Ranges
ranges =
    record {
      bounds = bounded;
      one_frame = same_frame;
      lists = lists;
      later_kept = later_kept;
      length_kept = length_kept;
      judge_first = judge_first;
      list_place = list_place;
      always_enough = always_enough;
      accepted_or_list = accepted_or_list;
      refused = refused;
    }
