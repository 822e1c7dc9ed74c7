-- The mission, demand 2: "A table is accepted exactly when it satisfies the constraints of the leanVM draft 0.6.0; a
-- refusal names the first failing rule in document 01's order. A recipe is written as one label, the label reads back
-- as that recipe, all 64 bits of the seed included, and no other text reads as it."
-- Parts are the four parts as bytes, and the start; `judge_of` is the answer that `judge::judge` promises. `Satisfies`
-- (rules) knows neither machine nor judge; `Says` (judge_spec) says for each verdict what document 01's table has: the
-- first failure in its order, by part, row and rule. A recipe in range is a version, a seed below 2^64, m and n;
-- `label_of` is its label byte for byte, and `Reads` what `label::read_label` promises.
-- Declared in src/: Recipe (label); Instruction (form); Exec, Ext (rows).
use Rattle.std.specs.Prelude.{◌≡◌, ◌↔◌, List, [], ◌∷◌, ◌++◌, ℕ, ◌≤◌, length, drop}
use Rattle.reply.specs.Reply.{answer_bytes}
use Rattle.answer.specs.Answers.{Answer, Accepted, Exec, Extension, Label}
use Rattle.label.specs.Label.{InRange, label_of}
use Rattle.text_patterns.specs.Place.{Place}
use Rattle.label.specs.Reading.{Reading, Valid, Reads}
use Rattle.uisnabar.specs.Calls.{recipe_bytes}
use Rattle.label.specs.Writing.{written, buffered}
use Rattle.label.specs.declared.Recipe.{Recipe}
use Rattle.rules.specs.Sizes.{Parts, given_of, tables_of}
use Rattle.rules.specs.Given.{Given}
use Rattle.rules.specs.Execution.{exec_rules}
use Rattle.rules.specs.Extension.{ext_rules}
use Rattle.rules.specs.Lookups.{exec_lookups, ext_lookups}
use Rattle.form.specs.declared.Instruction.{Instruction}
use Rattle.rows.specs.declared.Exec.{Exec as ExecRow}
use Rattle.rows.specs.declared.Ext.{Ext}
use Rattle.rules.specs.Satisfies.{Satisfies}
use Rattle.judge_spec.specs.Judged.{judge_of}
use Rattle.judge_spec.specs.Refusal.{Silent, Says}
use Rattle.judge_spec.specs.Before.{judge_before, first_four}
use Rattle.judge_spec.specs.Shown.{Shows, Told, LookupsOf}
use Rattle.mission.specs.Promises.{JudgeCall, ReaderCall}
use Rattle.mission.specs.Driver.{DriverReads, DriverReadsLabel}

pub record DemandTwo : Type 0 where
  -- a table is accepted exactly when it satisfies the constraints
  pub accepted_exactly : (q : Parts) → (judge_of q ≡ Accepted) ↔ Satisfies q
  -- the judge gives an answer exactly where what the answer says is so: a refusal names the first failing rule
  pub answers_exactly : (q : Parts) (a : Answer) → (judge_of q ≡ a) ↔ Says q a
  -- its first four numbers are those of the definition that knew no others (document 02, M-104)
  pub four_as_before : (q : Parts) → first_four (judge_of q) ≡ first_four (judge_before q)
  -- and where expected or found is not 0 a lookup of the row shows them: they differ, expected is the memory's word at
  -- the column's address, and found the table's
  pub exec_shown : (q : Parts) (r n expected found : ℕ) → judge_of q ≡ Exec r n expected found → (Silent expected found → ⊥)
      → Shows (given_of q) (exec_lookups ((tables_of q).exec r)) n expected found
  pub extension_shown : (q : Parts) (r n expected found : ℕ) → judge_of q ≡ Extension r n expected found → (Silent expected found → ⊥)
      → Shows (given_of q) (ext_lookups ((tables_of q).ext r)) n expected found
  -- the lookups are those of execution rules 2 to 4 and of extension rules 18 to 21, and ask what these do
  pub execution_lookups : (g : Given) (x y : ExecRow) (i : Instruction) → LookupsOf g (exec_rules g x y i) (exec_lookups x) (2 ∷ 3 ∷ 4 ∷ [])
  pub extension_lookups : (g : Given) (x y : Ext) → LookupsOf g (ext_rules g x y) (ext_lookups x) (18 ∷ 19 ∷ 20 ∷ 21 ∷ [])
  -- the numbers are said wherever every cell of the lookup under the rule is below M
  pub exec_told : (q : Parts) (r n expected found : ℕ) → judge_of q ≡ Exec r n expected found
      → Told (given_of q) (exec_lookups ((tables_of q).exec r)) n expected found
  pub extension_told : (q : Parts) (r n expected found : ℕ) → judge_of q ≡ Extension r n expected found
      → Told (given_of q) (ext_lookups ((tables_of q).ext r)) n expected found
  -- and so for a driver in C, from what `uisnabar_judge` promises
  pub driver_reads : (q : Parts) (buffer : List ℕ) (x : ℕ × List ℕ) → length buffer ≡ answer_bytes → JudgeCall q buffer x → DriverReads q x.0 x.1
  -- a driver reads a label as the reader does, from what `uisnabar_label` promises
  pub driver_reads_label : (text answer recipe : List ℕ) (x : ℕ × List ℕ × List ℕ) → length answer ≡ answer_bytes → length recipe ≡ recipe_bytes
      → ReaderCall text answer recipe x
      → DriverReadsLabel text x.0 x.1 x.2
  -- a recipe is written as one label, and the bytes after it keep what they held
  pub label_written : (r : Recipe) (buffer : List ℕ) → InRange r → length (label_of r) ≤ length buffer
      → (written r (length buffer) ≡ record { answer = Accepted; length = length (label_of r) })
      × (buffered r buffer ≡ label_of r ++ drop (length (label_of r)) buffer)
  -- the label reads back as that recipe, all 64 bits of the seed included
  pub label_reads_back : (r : Recipe) → InRange r → (x : Reading) → Reads (label_of r) x → (x.answer ≡ Accepted) × (x.recipe ≡ r)
  -- and no other text reads as it
  pub no_other_text : (text : List ℕ) (x : Reading) → Reads text x → x.answer ≡ Accepted → InRange x.recipe × (text ≡ label_of x.recipe)
  -- a refused text's place is the longest prefix it shares with any valid label, of either version
  pub label_place : (text : List ℕ) (x : Reading) (place : ℕ) → Reads text x → x.answer ≡ Label place → Place Valid text place
