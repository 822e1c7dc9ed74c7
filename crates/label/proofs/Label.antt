-- The theorems on labels: a recipe and its label determine one another, and the reader's promise has one answer.
-- Assumes nothing.
use Prim.Native.Nat.{ℕ, ◌≤◌}
use mathlib.Core.List.{List, [], ◌∷◌}
use mathlib.Core.Logic.{inl, inr}
use mathlib.Core.Path.{◌≡◌, refl, sym, ◌∙◌, ap, subst}
use native.Mathlib.Omega.{arith}
use lib.ListN.{length, take, drop}
use lib.Seq.{take-append_seam}
use Rattle.std.specs.Prelude.{Result, Ok, Err}
use Rattle.answer.specs.declared.Refusal.{Refusal}
use Rattle.answer.specs.Determined.{Determined, equations}
use Rattle.answer.specs.Answers.{Accepted, Label}
use Rattle.text_patterns.specs.Pattern.{Parsed, got, left, parse, Spells}
use Rattle.text_patterns.specs.Place.{Place}
use Rattle.text_patterns.proofs.Law.{unique}
use Rattle.text_patterns.proofs.Patterns.{spells_one}
use Rattle.text_patterns.proofs.Parsing.{parse_owed, ParseOwed}
use Rattle.label.specs.declared.Recipe.{Recipe}
use Rattle.label.specs.Writing.{Written, written_by, written, buffered}
use Rattle.label.specs.Label.{InRange, label_of}
use Rattle.label.specs.Reading.{Reading, reading_of, Valid, Reads}
use Rattle.label.specs.Reader.{label, refused_at}
use Rattle.label.proofs.Labels.{spelling_label}
use Rattle.label.proofs.Writing.{enough}

-- two recipes with one label are one recipe, of one version
pub label_injective : (r s : Recipe) → InRange r → InRange s → label_of r ≡ label_of s → r ≡ s
label_injective r s hr hs e =
    spells_one (label_of s) label r s
    (subst (λ (w : List ℕ). Spells label w r) e (spelling_label.complete r hr))
    (spelling_label.complete s hs)

-- each text has a reading: the pattern's
pub reading_some : (text : List ℕ) → (R : Reading) × Reads text R
reading_some text = go (parse label text) (parse_owed spelling_label text)
  where
    refuses : (k : ℕ) → (Valid text → ⊥) × Place Valid text k → (R : Reading) × Reads text R
    refuses k o = (refused_at k, inr (record { place = k; answer = refl; invalid = o.0; nearest = o.1; recipe = refl }))

    go : (p : Parsed Recipe) → ParseOwed InRange label_of text p → (R : Reading) × Reads text R
    go (got r []) o = (record { answer = Accepted; recipe = r }, inl (record { answer = refl; range = o.0; label = o.1 }))
    go (got r (b ∷ t)) o = refuses _ o
    go (left t) o = refuses _ o

-- no two readings keep the promise
pub reading_determined : (text : List ℕ) → Determined (Reads text)
reading_determined text r s (inl a) (inl b) =
    let e = label_injective r.recipe s.recipe a.range b.range (a.label ∙ sym b.label) in
    λ i. record { answer = (a.answer ∙ sym b.answer) i; recipe = e i }
reading_determined text r s (inl a) (inr b) = absurd (b.invalid (r.recipe, a.range, a.label))
reading_determined text r s (inr a) (inl b) = absurd (a.invalid (s.recipe, b.range, b.label))
reading_determined text r s (inr a) (inr b) =
    let e = unique a.place b.place a.nearest b.nearest in
    λ i. record { answer = (a.answer ∙ (ap Label e ∙ sym b.answer)) i; recipe = (a.recipe ∙ sym b.recipe) i }

-- a reading is of one result
pub one_result : (z w : Result Recipe Refusal) → reading_of z ≡ reading_of w → z ≡ w
one_result (Ok r) (Ok s) e = ap Ok (ap (λ (R : Reading). R.recipe) e)
one_result (Ok r) (Err u) e = let z : ◌≡◌ {A = ℕ} 0 1 = cc (ap (λ (R : Reading). R.answer) e) in absurd (omega arith)
one_result (Err t) (Ok s) e = let z : ◌≡◌ {A = ℕ} 0 1 = cc (ap (λ (R : Reading). R.answer) e) in absurd (omega arith)
one_result (Err t) (Err u) e = let same : t ≡ u = cc (ap (λ (R : Reading). R.answer) e) in ap Err same

-- so no two results keep the promise either
pub result_determined : (text : List ℕ) → Determined (λ (z : Result Recipe Refusal). Reads text (reading_of z))
result_determined text z w a b = one_result z w (reading_determined text (reading_of z) (reading_of w) a b)

-- a recipe's label reads as that recipe, all 64 bits of its seed
pub label_reads : (r : Recipe) → InRange r → (R : Reading) → Reads (label_of r) R → (R.answer ≡ Accepted) × (R.recipe ≡ r)
label_reads r h R (inl a) = (a.answer, label_injective R.recipe r a.range h a.label)
label_reads r h R (inr n) = absurd (n.invalid (r, h, refl))

-- a text that reads as a recipe is that recipe's label byte for byte
pub reads_label : (text : List ℕ) (R : Reading) → Reads text R → R.answer ≡ Accepted
    → InRange R.recipe × (text ≡ label_of R.recipe)
reads_label text R (inl a) e = (a.range, sym a.label)
reads_label text R (inr n) e = let z : ◌≡◌ {A = ℕ} 0 1 = cc (e, n.answer) in absurd (omega arith)

-- two texts that read as one recipe are one text
pub one_text : (t u : List ℕ) (R S : Reading) → Reads t R → Reads u S
    → R.answer ≡ Accepted
    → S.answer ≡ Accepted
    → R.recipe ≡ S.recipe
    → t ≡ u
one_text t u R S p q a b e = (reads_label t R p a).1 ∙ (ap label_of e ∙ sym (reads_label u S q b).1)

-- a refused text's place: a valid label shares that many bytes with it, and none shares more
pub refused_place : (text : List ℕ) (R : Reading) (k : ℕ) → Reads text R → R.answer ≡ Label k → Place Valid text k
refused_place text R k (inl a) e = let z : ◌≡◌ {A = ℕ} 0 1 = cc (e, a.answer) in absurd (omega arith)
refused_place text R k (inr n) e =
    let i : n.place ≡ k = cc (e, n.answer) in
    subst (Place Valid text) i n.nearest

-- what the writer wrote reads as the recipe
pub write_then_read : (r : Recipe) (buffer : List ℕ) (R : Reading) → InRange r → length (label_of r) ≤ length buffer
    → Reads (take (written r (length buffer)).length (buffered r buffer)) R
    → ((written r (length buffer)).answer ≡ Accepted) × (R.answer ≡ Accepted) × (R.recipe ≡ r)
write_then_read r buffer R h room p =
    let e = enough r buffer h.ranges room in
    let t : take (written r (length buffer)).length (buffered r buffer) ≡ label_of r =
    rw (← e.0, ← e.1) (take-append_seam (label_of r) (drop (length (label_of r)) buffer)) in
    let a = label_reads r h R (subst (λ (w : List ℕ). Reads w R) t p) in
    (ap (λ (w : Written). w.answer) (sym e.0), a.0, a.1)

-- no two answers and buffers keep the writer's promise
pub writing_determined : (r : Recipe) (buffer : List ℕ)
    → Determined (λ (x : Written × List ℕ). (x.0 ≡ written r (length buffer)) × (x.1 ≡ buffered r buffer))
writing_determined r buffer = equations (written r (length buffer)) (buffered r buffer)

-- what was written is of one result
pub one_written : (z w : Result ℕ Refusal) → written_by z ≡ written_by w → z ≡ w
one_written (Ok x) (Ok y) e = ap Ok (ap (λ (v : Written). v.length) e)
one_written (Ok x) (Err u) e = let z : ◌≡◌ {A = ℕ} 0 1 = cc (ap (λ (v : Written). v.answer) e) in absurd (omega arith)
one_written (Err t) (Ok y) e = let z : ◌≡◌ {A = ℕ} 0 1 = cc (ap (λ (v : Written). v.answer) e) in absurd (omega arith)
one_written (Err t) (Err u) e = let same : t ≡ u = cc (ap (λ (v : Written). v.answer) e) in ap Err same

-- so no two results and buffers keep the promise either
pub written_determined : (r : Recipe) (buffer : List ℕ)
    → Determined (λ (x : Result ℕ Refusal × List ℕ). (written_by x.0 ≡ written r (length buffer)) × (x.1 ≡ buffered r buffer))
written_determined r buffer x y p q =
    let e = one_written x.0 y.0 (p.0 ∙ sym q.0) in
    λ i. (e i, (p.1 ∙ sym q.1) i)
