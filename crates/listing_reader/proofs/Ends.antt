-- Line by line: where the reading of a listing stands once some lines are read, and how it ends.
-- Assumes nothing.
use Prim.Native.Nat.{ℕ, zero, suc, ◌+◌, ◌-◌, ◌≤◌, ◌<◌}
use mathlib.Core.Bool.{true}
use mathlib.Core.List.{List, [], ◌∷◌, ◌++◌}
use mathlib.Core.Path.{◌≡◌, refl, sym, ap, ◌∙◌}
use native.Mathlib.Omega.{arith}
use lib.ListN.{length, drop, length-append, drop_of_length-le}
use lib.Seq.{drop-cons}
use Rattle.word.proofs.Tests.{cases}
use Rattle.form.specs.declared.Form.{Form}
use Rattle.text_patterns.specs.Pattern.{Pattern, done, node, more, lit, seq, opt, many, Parsed, got, left, parse, onto}
use Rattle.text_patterns.proofs.Parsing.{parse_seq, parse_spells}
use Rattle.text_patterns.proofs.Patterns.{spells_kind}
use Rattle.text_patterns.proofs.Many.{Lines, spelling_many}
use Rattle.listing_forms.specs.Forms.{Listable}
use Rattle.text_fields.specs.Field.{Reaches, Stops}
use Rattle.listing_line.specs.Line.{line_fields, listing_lines}
use Rattle.listing_line.proofs.Listable.{spelling_line}
use Rattle.listing_reader.specs.Walk.{whole, cut, end_from, ending}

-- what may follow the lines that are read, with room for r more behind the next
abbrev Next : ℕ → List Form → Pattern (List Form)
Next r fs = seq line_fields (λ f. many line_fields r (fs ++ (f ∷ [])))

-- at the start, and behind some lines
abbrev pub Rest : ℕ → List Form → Pattern (List Form)
Rest r [] = Next r []
Rest r (f ∷ fs) = many line_fields (suc r) (f ∷ fs)

-- a line or nothing, where there are bytes
next_by : (p : Pattern (List Form)) (fs : List Form) (b : ℕ) (t : List ℕ) → end_from (parse (opt fs p) (b ∷ t)) ≡ end_from (parse p (b ∷ t))
unfolding opt parse
next_by (done gs) fs b t = refl
next_by (node ok k) fs b t = cases (ok b) (λ e. rw e) (λ e. rw e)
next_by (more gs ok k) fs b t = cases (ok b) (λ e. rw e) (λ e. rw e)

on_byte : (r : ℕ) (fs : List Form) (b : ℕ) (t : List ℕ) → end_from (parse (Rest r fs) (b ∷ t)) ≡ end_from (parse (Next r fs) (b ∷ t))
unfolding many
on_byte r [] b t = refl
on_byte r (f ∷ fs) b t = next_by (Next r (f ∷ fs)) (f ∷ fs) b t

-- nothing is left
at_end : (r : ℕ) (f : Form) (fs : List Form) → parse (many line_fields r (f ∷ fs)) [] ≡ got (f ∷ fs) []
unfolding many line_fields lit seq opt parse
at_end zero f fs = refl
at_end (suc r) f fs = refl

-- the lines fs are read, up to a place, and at most r more may follow
pub record Behind (text : List ℕ) (at : ℕ) (fs : List Form) : Type 0 where
  pub room : ℕ
  pub counted : length fs + room ≡ 1048576
  pub inside : at ≤ length text
  pub ends : (r : ℕ) → suc r ≡ room → ending text ≡ end_from (parse (Rest r fs) (drop at text))
  pub full : room ≡ 0 → ending text ≡ end_from (parse (done fs) (drop at text))

module _ (text : List ℕ) where
  pub begins : Behind text 0 []
  unfolding listing_lines
  begins = record {
    room = 1048576;
    counted = refl;
    inside = omega arith;
    ends = λ r e. let z : r ≡ 1048575 = omega (arith, e) in rw z;
    full = λ e. absurd (omega (arith, e));
  }

  module _ (at : ℕ) (fs : List Form) (s : Behind text at fs) where
    -- all lines are read that there may be, and bytes are left
    pub too_many : length fs ≡ 1048576 → at < length text → ending text ≡ cut (drop at text)
    unfolding parse
    too_many full h =
        s.full (omega (arith, s.counted))
        ∙ ap (λ (l : List ℕ). end_from (got fs l)) (drop-cons text at 0 h)
        ∙ ap cut (sym (drop-cons text at 0 h))

    module _ (few : length fs < 1048576) (h : at < length text) where
      abbrev left_over : ℕ
      left_over = s.room - 1

      toward : (p : Parsed Form) → parse line_fields (drop at text) ≡ p → ending text ≡ end_from (onto (λ f. parse (many line_fields left_over (fs ++ (f ∷ [])))) p)
      toward p is =
          s.ends left_over (omega (arith, s.counted))
          ∙ ap (λ (t : List ℕ). end_from (parse (Rest left_over fs) t)) (drop-cons text at 0 h)
          ∙ on_byte left_over fs _ _
          ∙ ap (λ (t : List ℕ). end_from (parse (Next left_over fs) t)) (sym (drop-cons text at 0 h))
          ∙ ap end_from (parse_seq Listable (λ f. many line_fields left_over (fs ++ (f ∷ []))) line_fields (drop at text) spelling_line.live)
          ∙ ap (λ (q : Parsed Form). end_from (onto (λ f. parse (many line_fields left_over (fs ++ (f ∷ [])))) q)) is

      -- the next line stops
      pub stops : {to : ℕ} → Stops line_fields text at to → ending text ≡ cut (drop to text)
      stops {to} l = toward (left (drop to text)) l.read

      one_more : (m : ℕ) (f : Form) (t : List ℕ) → end_from (parse (many line_fields (suc m) (fs ++ (f ∷ []))) t) ≡ end_from (parse (Rest m (fs ++ (f ∷ []))) t)
      one_more m f t = go fs
        where
          go : (gs : List Form) → end_from (parse (many line_fields (suc m) (gs ++ (f ∷ []))) t) ≡ end_from (parse (Rest m (gs ++ (f ∷ []))) t)
          go [] = refl
          go (g ∷ gs) = refl

      -- or is read
      pub goes : {f : Form} {to : ℕ} → Reaches line_fields text at f to → Behind text to (fs ++ (f ∷ []))
      unfolding many
      goes {f} {to} l =
          let on : ending text ≡ end_from (parse (many line_fields left_over (fs ++ (f ∷ []))) (drop to text)) = toward (got f (drop to text)) l.read in
          record {
            room = left_over;
            counted = omega (arith, length-append fs (f ∷ []), s.counted);
            inside = l.inside;
            ends = λ m z. on ∙ (rw (← z) (one_more m f (drop to text)));
            full = λ z. on ∙ rw z;
          }

-- all of the text is read
no_line : (r : ℕ) → parse (Next r []) [] ≡ left []
unfolding line_fields lit seq parse
no_line r = refl

some_lines : (room : ℕ) (f : Form) (fs : List Form) (text : List ℕ) (at : ℕ) → length text ≤ at
    → ((r : ℕ) → suc r ≡ room → ending text ≡ end_from (parse (Rest r (f ∷ fs)) (drop at text)))
    → (room ≡ 0 → ending text ≡ end_from (parse (done (f ∷ fs)) (drop at text))) → ending text ≡ whole (f ∷ fs)
unfolding parse
some_lines zero f fs text at h ends full = full refl ∙ ap (λ (t : List ℕ). end_from (got (f ∷ fs) t)) (drop_of_length-le text h)
some_lines (suc r) f fs text at h ends full =
    ends r refl
    ∙ ap (λ (t : List ℕ). end_from (parse (many line_fields (suc r) (f ∷ fs)) t)) (drop_of_length-le text h)
    ∙ ap end_from (at_end (suc r) f fs)

pub nothing_read : (text : List ℕ) (at : ℕ) → Behind text at [] → length text ≤ at → ending text ≡ cut (drop at text)
nothing_read text at s h =
    s.ends 1048575 (omega (arith, s.counted))
    ∙ ap (λ (t : List ℕ). end_from (parse (Next 1048575 []) t)) (drop_of_length-le text h)
    ∙ ap end_from (no_line 1048575)
    ∙ ap cut (sym (drop_of_length-le text h))

pub all_read : (text : List ℕ) (at : ℕ) (fs : List Form) → Behind text at fs → 0 < length fs → length text ≤ at → ending text ≡ whole fs
all_read text at [] s some h = absurd (omega arith)
all_read text at (f ∷ fs) s some h = some_lines s.room f fs text at h s.ends s.full

-- no end is two
pub not_both : (fs : List Form) (t : List ℕ) → whole fs ≡ cut t → ⊥
not_both fs t e = let z : ◌≡◌ {A = ℕ} 0 1 = cc in omega arith

pub one_whole : (fs gs : List Form) → whole fs ≡ whole gs → fs ≡ gs
one_whole fs gs e = cc

pub whole_got : (p : Parsed (List Form)) (gs : List Form) → end_from p ≡ whole gs → p ≡ got gs []
whole_got (got fs []) gs e = ap (λ (x : List Form). got x []) (one_whole fs gs e)
whole_got (got fs (b ∷ t)) gs e = absurd (not_both gs (b ∷ t) (sym e))
whole_got (left t) gs e = absurd (not_both gs t (sym e))

-- what is read stays in front
module _ (text : List ℕ) (at : ℕ) (gs : List Form) (e : ending text ≡ whole gs) where
  more_lines : (r : ℕ) (fs : List Form) → end_from (parse (many line_fields r fs) (drop at text)) ≡ whole gs → (zs : List Form) × (fs ++ zs ≡ gs)
  unfolding line_fields lit
  more_lines r fs is =
      let l : Lines Listable r fs gs =
      spells_kind true (Lines Listable r fs) (drop at text) (many line_fields r fs) gs (spelling_many spelling_line r fs).live
      (parse_spells (many line_fields r fs) (drop at text) gs (whole_got _ gs is)) in
      (l.0, l.1)

  front_by : (room : ℕ) (fs : List Form)
      → ((r : ℕ) → suc r ≡ room → ending text ≡ end_from (parse (Rest r fs) (drop at text)))
      → (room ≡ 0 → ending text ≡ end_from (parse (done fs) (drop at text))) → (zs : List Form) × (fs ++ zs ≡ gs)
  unfolding many
  front_by room [] ends full = (gs, refl)
  front_by zero (f ∷ fs) ends full = more_lines 0 (f ∷ fs) (sym (full refl) ∙ e)
  front_by (suc r) (f ∷ fs) ends full = more_lines (suc r) (f ∷ fs) (sym (ends r refl) ∙ e)

  pub in_front : (fs : List Form) → Behind text at fs → (zs : List Form) × (fs ++ zs ≡ gs)
  in_front fs s = front_by s.room fs s.ends s.full

-- the walk's last word: all of the text is read, and there is no line
pub no_line_read : (text : List ℕ) (at : ℕ) (fs : List Form) → length fs ≡ 0 → Behind text at fs → length text ≤ at → ending text ≡ cut (drop at text)
no_line_read text at [] e s h = nothing_read text at s h
no_line_read text at (f ∷ fs) e s h = absurd (omega arith)
