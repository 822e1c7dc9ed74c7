-- Document 02, M-108: what the finder answers, the number it gives, and every byte of the buffer at return.
use Rattle.std.specs.Prelude.{ℕ, ◌*◌, cond, List, ◌++◌, leb, length, drop}
use Rattle.answer.specs.Verdicts.{accepted}
use Rattle.answer.specs.Answers.{Answer, Accepted, ListShort}
use Rattle.rules.specs.Sizes.{Parts, given_of, tables_of}
use Rattle.judge_spec.specs.Judged.{judge_of}
use Rattle.range_spec.specs.Finds.{all_finds, finds_number}

-- how many finds there are in what is handed in
abbrev pub finds_number_in : Parts → ℕ
finds_number_in q = finds_number (given_of q) (tables_of q)

-- the judge's own refusals first; then 19 LIST if the buffer is too short, place = finds
unfoldable pub ranges_answer : Parts → ℕ → Answer
ranges_answer q room =
    cond (accepted (judge_of q)) (cond (leb (8 * finds_number_in q) room) Accepted (ListShort (finds_number_in q))) (judge_of q)

-- the number of finds, 0 on refusal
unfoldable pub ranges_found : Parts → ℕ → ℕ
ranges_found q room = cond (accepted (ranges_answer q room)) (finds_number_in q) 0

-- the buffer: the finds, and after the last of them what it held; on refusal as it was
unfoldable pub finds_left : Parts → List ℕ → List ℕ
finds_left q finds =
    cond (accepted (ranges_answer q (length finds))) (all_finds (given_of q) (tables_of q) ++ drop (8 * finds_number_in q) finds) finds
