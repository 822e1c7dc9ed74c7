-- In a text that is a listing each line is read, and its instruction stands behind those before it.
-- Assumes nothing.
use Prim.Native.Nat.{ℕ, ◌+◌, ◌-◌, ◌*◌, ◌≤◌, ◌<◌}
use mathlib.Core.Bool.{false}
use mathlib.Core.List.{List, [], ◌∷◌, ◌++◌, append_assoc, append-nil}
use mathlib.Core.Path.{◌≡◌, refl, sym, ap, ◌∙◌}
use native.Mathlib.Omega.{arith}
use lib.ListN.{length, take, drop, length-append}
use lib.Seq.{take_at, drop_at, drop-drop}
use Rattle.word.proofs.Tests.{by_order}
use Rattle.word.proofs.Concatenated.{lent_length}
use Rattle.form.specs.Instruction.{instruction_words}
use Rattle.form.specs.declared.Instruction.{Instruction}
use Rattle.form.specs.declared.Form.{Form}
use Rattle.rows.specs.Rows.{bytes_of_words, put_row}
use Rattle.text_patterns.specs.Pattern.{parse}
use Rattle.text_patterns.proofs.Parsing.{parse_kind}
use Rattle.listing_forms.specs.Forms.{Listable, form_instruction, form_bytes, program_of}
use Rattle.listing_forms.proofs.Programs.{program_long, program_of_snoc}
use Rattle.std.specs.Prelude.{Result, Ok, Err, IsOk}
use Rattle.text_fields.specs.Field.{Reaches, Read}
use Rattle.text_fields.specs.declared.Field.{Field}
use Rattle.text_fields.specs.declared.Stop.{Stop}
use Rattle.listing_line.specs.Line.{line_fields, listing_lines}
use Rattle.listing_line.proofs.Listable.{spelling_line}
use Rattle.listing_law.proofs.Senses.{Forms, read_forms}
use Rattle.listing_reader.specs.Walk.{whole, ending}
use Rattle.listing_reader.proofs.Ends.{Behind, stops, goes, nothing_read, all_read, not_both, one_whole, whole_got, in_front}

module _ (text : List ℕ) (gs : List Form) (is : ending text ≡ whole gs) where
  pub its_forms : Forms gs
  its_forms = read_forms text gs (whole_got (parse listing_lines text) gs is)

  over_by : (at : ℕ) (fs : List Form) → Behind text at fs → length fs < length gs → length text ≤ at → ⊥
  over_by at [] s h e = not_both gs (drop at text) (sym is ∙ nothing_read text at s e)
  over_by at (f ∷ fs) s h e =
      let same = one_whole (f ∷ fs) gs (sym (all_read text at (f ∷ fs) s (omega arith) e) ∙ is) in
      omega (arith, ap length same, h)

  module _ (at : ℕ) (fs : List Form) (s : Behind text at fs) (fewer : length fs < length gs) where
    few : length fs < 1048576
    few = omega (arith, its_forms.1)

    bytes_left : at < length text
    bytes_left = by_order at (length text) (λ h. h) (λ h. absurd (over_by at fs s fewer h))

    pub on : (r : Result (Field Form) Stop) → Read line_fields text at r → IsOk r
    on (Ok l) h = refl
    on (Err e) h = absurd (not_both gs (drop e.at text) (sym is ∙ stops text at fs s few bytes_left h))

    module _ {f : Form} {to : ℕ} (l : Reaches line_fields text at f to) where
      pub next_line : Behind text to (fs ++ (f ∷ []))
      next_line = goes text at fs s few bytes_left l

      pub its_form : Listable f
      its_form = parse_kind false Listable line_fields (drop at text) f (drop to text) spelling_line.live l.read

  -- as many lines as the listing has are all of them
  none_more : (fs zs : List Form) → fs ++ zs ≡ gs → length fs ≡ length gs → fs ≡ gs
  none_more fs [] e h = sym (append-nil fs) ∙ e
  none_more fs (z ∷ zs) e h = absurd (omega (arith, length-append fs (z ∷ zs), ap length e, h))

  pub all_lines : (at : ℕ) (fs : List Form) → Behind text at fs → length fs ≡ length gs → fs ≡ gs
  all_lines at fs s h = let z = in_front text at gs is fs s in none_more fs z.0 z.1 h

-- the program so far, in front of what stood there
abbrev pub filled : List Form → List ℕ → List ℕ
filled fs before = program_of fs ++ drop (48 * length fs) before

-- the next 48 bytes
module _ (fs : List Form) (f : Form) (before t x : List ℕ) (i : ℕ) (stood : t ≡ filled fs before) (many : length fs ≡ i) (room : 48 * (i + 1) ≤ length t)
    (made : Instruction) (is : made ≡ form_instruction f) (put : x ≡ put_row (take (48 * i + 48 - 48 * i) (drop (48 * i) t)) 48 (instruction_words made)) where
  bytes : x ≡ form_bytes f
  unfolding put_row
  bytes = put ∙ rw (lent_length t (48 * i) 48 (omega arith)) (ap (λ (j : Instruction). bytes_of_words (instruction_words j)) is)

  long : length (program_of fs) ≡ 48 * i
  long = program_long fs ∙ ap (λ (n : ℕ). 48 * n) many

  pub one_more : take (48 * i) t ++ (x ++ drop (48 * i + 48 - 48 * i) (drop (48 * i) t)) ≡ filled (fs ++ (f ∷ [])) before
  one_more =
      let e : 48 * i + 48 - 48 * i ≡ 48 = omega arith in
      let n : 48 * length (fs ++ (f ∷ [])) ≡ 48 * i + 48 = omega (arith, length-append fs (f ∷ []), many) in
      let front : take (48 * i) t ≡ program_of fs = ap (take (48 * i)) stood ∙ take_at (program_of fs) (drop (48 * length fs) before) (48 * i) long in
      let rest : drop (48 * i) t ≡ drop (48 * i) before =
      ap (drop (48 * i)) stood ∙ drop_at (program_of fs) (drop (48 * length fs) before) (48 * i) long ∙ ap (λ (k : ℕ). drop (48 * k) before) many in
      rw (e, front, rest, drop-drop 48 (48 * i) before, n, bytes, program_of_snoc fs f) (sym (append_assoc (program_of fs) (form_bytes f) (drop (48 * i + 48) before)))
