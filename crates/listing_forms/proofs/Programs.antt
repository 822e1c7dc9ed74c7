-- The programs of forms that a line can say are the well-formed ones, and their listings are the forms' lines.
-- Assumes nothing.
use mathlib.Core.Path.{◌≡◌, refl, sym, ap, ap₂, ◌∙◌}
use mathlib.Core.List.{List, [], ◌∷◌, ◌++◌, append_assoc, append-nil}
use Prim.Native.Nat.{ℕ, zero, suc, ◌*◌, ◌/◌, ◌%◌, ◌^◌, ◌≤◌, ◌<◌}
use native.Mathlib.Omega.{arith}
use lib.Dec.{eqb, leb, lit<}
use lib.ListN.{length, get_or, length-append}
use borrow.Author.Tests.{eqb-true, leb-true}
use Rattle.word.specs.Bytes.{bytes_of, concatenated}
use Rattle.word.proofs.Below.{each_below}
use Rattle.word.proofs.Tests.{each, is_true, from_true}
use Rattle.word.proofs.Concatenated.{parts_same}
use Rattle.form.specs.Form.{decode_of, is_well}
use Rattle.form.specs.Instruction.{instruction_at, instruction_words}
use Rattle.form.specs.declared.Instruction.{Instruction}
use Rattle.form.specs.declared.Mode.TheVariants.{Immediate}
use Rattle.form.specs.declared.Operand.{Operand}
use Rattle.form.specs.declared.Kind.TheVariants.{Add}
use Rattle.form.specs.declared.Form.{Form}
use Rattle.std.specs.Prelude.{Some}
use Rattle.form.proofs.Forms.{well}
use Rattle.rows.specs.Rows.{bytes_of_words}
use Rattle.rows.proofs.RowLaws.{Below}
use Rattle.form_bytes.proofs.ReadBack.{written, written_length, instruction_read}
use Rattle.form_bytes.proofs.Rewritten.{rewritten}
use Rattle.rules.proofs.Programs.{written_fits, written_words, read_words}
use Rattle.text_patterns.specs.Pattern.{Each, flat}
use Rattle.listing_spec.specs.Listing.{form_line, decoded_line, instruction_line, listing_of}
use Rattle.listing_spec.specs.Program.{WellFormedProgram}
use Rattle.listing_forms.specs.Forms.{Listable, form_instruction, form_bytes, program_of}
use Rattle.listing_forms.proofs.Forms.{decodes, words_small, decoded}

-- what is below a bound stays so behind what is
below_append : {n : ℕ} (xs ys : List ℕ) → Below n xs → Below n ys → Below n (xs ++ ys)
below_append [] ys a b k = b k
below_append (x ∷ xs) ys a b zero = a 0
below_append (x ∷ xs) ys a b (suc k) = below_append xs ys (λ j. a (suc j)) b k

-- the first of some parts, and the others
first_part : (part : ℕ → List ℕ) (n : ℕ) → concatenated part (suc n) ≡ part 0 ++ concatenated (λ k. part (suc k)) n
unfolding concatenated
first_part part zero = sym (append-nil (part 0))
first_part part (suc n) =
    ap (λ (l : List ℕ). l ++ part (suc n)) (first_part part n) ∙ append_assoc (part 0) (concatenated (λ k. part (suc k)) n) (part (suc n))

module _ {A : Type 0} where
  -- one more at the end
  pub flat_snoc : (write : A → List ℕ) (xs : List A) (x : A) → flat write (xs ++ (x ∷ [])) ≡ flat write xs ++ write x
  unfolding flat
  flat_snoc write [] x = append-nil (write x)
  flat_snoc write (y ∷ ys) x = ap (λ (l : List ℕ). write y ++ l) (flat_snoc write ys x) ∙ sym (append_assoc (write y) (flat write ys) (write x))

  each_snoc : (P : A → Type 0) (xs : List A) (x : A) → Each P xs → P x → Each P (xs ++ (x ∷ []))
  each_snoc P [] x e px = (px, tt)
  each_snoc P (y ∷ ys) x e px = (e.0, each_snoc P ys x e.1 px)

  module _ (other : A) where
    -- what a list is written as, by the numbers of its elements
    flat_parts : (write : A → List ℕ) (xs : List A) → flat write xs ≡ concatenated (λ k. write (get_or xs k other)) (length xs)
    unfolding flat concatenated
    flat_parts write [] = refl
    flat_parts write (x ∷ xs) =
        ap (λ (l : List ℕ). write x ++ l) (flat_parts write xs) ∙ sym (first_part (λ k. write (get_or (x ∷ xs) k other)) (length xs))

    each_at : (P : A → Type 0) (xs : List A) → Each P xs → (k : ℕ) → k < length xs → P (get_or xs k other)
    each_at P [] e k h = absurd (omega arith)
    each_at P (x ∷ xs) e zero h = e.0
    each_at P (x ∷ xs) e (suc k) h = each_at P xs e.1 k (omega arith)

pub program_of_snoc : (fs : List Form) (f : Form) → program_of (fs ++ (f ∷ [])) ≡ program_of fs ++ form_bytes f
program_of_snoc = flat_snoc form_bytes

-- any form, for the numbers past a list's end
blank : Form
blank = let zero_word : Operand = record { mode = Immediate; word = 0 } in record { kind = Add; a = zero_word; b = zero_word; c = zero_word }

abbrev part : List Form → ℕ → Instruction
part fs k = form_instruction (get_or fs k blank)

as_written : (fs : List Form) → program_of fs ≡ written (part fs) (length fs)
as_written = flat_parts blank form_bytes

-- 48 bytes for each form
pub program_long : (fs : List Form) → length (program_of fs) ≡ 48 * length fs
program_long fs = rw (as_written fs) (written_length (part fs) (length fs))

module _ (fs : List Form) (each : Each Listable fs) where
  listable : (k : ℕ) → k < length fs → Listable (get_or fs k blank)
  listable = each_at blank Listable fs each

  read_back : (k : ℕ) → k < length fs → decode_of (instruction_at (program_of fs) (48 * k)) ≡ Some (get_or fs k blank)
  read_back k h =
      ap (λ (program : List ℕ). decode_of (instruction_at program (48 * k))) (as_written fs)
      ∙ ap decode_of (instruction_read (part fs) (length fs) k h (λ j. omega (arith, words_small (get_or fs k blank) (listable k h) j)))
      ∙ decodes (get_or fs k blank) (listable k h)

  pub its_listing : listing_of (program_of fs) ≡ flat form_line fs
  unfolding listing_of
  its_listing =
      let count : length (program_of fs) / 48 ≡ length fs = omega (arith, program_long fs) in
      ap (concatenated (instruction_line (program_of fs))) count
      ∙ parts_same (instruction_line (program_of fs)) (λ k. form_line (get_or fs k blank)) (length fs) (λ k h. ap decoded_line (read_back k h))
      ∙ sym (flat_parts blank form_line fs)

-- bytes of words, and of one list after the other
bytes_below : (ws : List ℕ) → Below 256 (bytes_of_words ws)
unfolding bytes_of_words
bytes_below [] = λ k. lit< tt
bytes_below (w ∷ ws) = below_append (bytes_of w) (bytes_of_words ws) (each_below (bytes_of w) (omega arith)) (bytes_below ws)

program_bytes : (fs : List Form) → Below 256 (program_of fs)
unfolding flat
program_bytes [] = λ k. lit< tt
program_bytes (f ∷ fs) = below_append (form_bytes f) (program_of fs) (bytes_below (instruction_words (form_instruction f))) (program_bytes fs)

pub well_formed_lem : (fs : List Form) → 1 ≤ length fs → length fs ≤ 2 ^ 20 → Each Listable fs → WellFormedProgram (program_of fs)
well_formed_lem fs least most each = record {
  bytes = program_bytes fs;
  fits = rw (as_written fs) (written_fits (part fs) (length fs) least most);
  words = rw (as_written fs) (written_words (part fs) (length fs) (λ k h. words_small (get_or fs k blank) (listable fs each k h)));
  formed = λ k h. from_true _ (ap is_well (read_back fs each k (omega (arith, program_long fs))));
}

-- a program by its instructions' forms
collected : (part : ℕ → Instruction) (n : ℕ) → ((k : ℕ) → k < n → (f : Form) × Listable f × (form_instruction f ≡ part k))
    → (fs : List Form) × (length fs ≡ n) × Each Listable fs × (program_of fs ≡ written part n)
unfolding flat concatenated
collected part zero forms = ([], refl, tt, refl)
collected part (suc n) forms =
    let (fs, long, each, program) = collected part n (λ k h. forms k (omega arith)) in
    let (f, listable, instruction) = forms n (omega arith) in (
      fs ++ (f ∷ []),
      omega (arith, length-append fs (f ∷ [])),
      each_snoc Listable fs f each listable,
      program_of_snoc fs f ∙ ap₂ ◌++◌ program (ap (λ (i : Instruction). bytes_of_words (instruction_words i)) instruction),
    )

pub of_forms : (P : List ℕ) → WellFormedProgram P → (fs : List Form) × (1 ≤ length fs) × (length fs ≤ 2 ^ 20) × Each Listable fs × (program_of fs ≡ P)
of_forms P w =
    let (whole, (least, most)) = each (eqb (length P % 48) 0) (leb 1 (length P / 48) ∷ leb (length P / 48) (2 ^ 20) ∷ []) w.fits in
    let exact : 48 * (length P / 48) ≡ length P = omega (arith, eqb-true (length P % 48) 0 whole) in
    let (fs, long, all, program) = collected (λ k. instruction_at P (48 * k)) (length P / 48) form_at_lem in (
      fs,
      omega (arith, leb-true 1 (length P / 48) least),
      omega (arith, leb-true (length P / 48) (2 ^ 20) most),
      all,
      program ∙ rewritten P w.bytes (length P / 48) exact,
    )
  where
    form_at_lem : (k : ℕ) → k < length P / 48 → (f : Form) × Listable f × (form_instruction f ≡ instruction_at P (48 * k))
    form_at_lem k h =
        let (f, e) = well (instruction_at P (48 * k)) (is_true _ (w.formed k h)) in
        let (listable, same) = decoded (instruction_at P (48 * k)) f (read_words P w.words k (omega arith)) e in
        (f, listable, same)
