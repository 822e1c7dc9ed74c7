-- The groups in which the code walks an extension row's rules are the rules.
-- Assumes nothing.
use mathlib.Core.Path.{◌≡◌, sym, ◌∙◌, ap}
use mathlib.Core.Bool.{Bool, cond}
use mathlib.Core.List.{List, []}
use Prim.Native.Nat.{ℕ, ◌*◌, ◌/◌}
use lib.ListN.{length}
use Rattle.word.specs.Word.{◌-ₚ◌}
use Rattle.rows.specs.declared.Ext.{Ext}
use Rattle.rows.specs.Rows.{ext_at}
use Rattle.rules.specs.Given.{zero_element?, next}
use Rattle.rules.specs.Sizes.{given, tables}
use Rattle.rules.specs.Extension.{ext_rules, selected, comp_tail}
use Rattle.judge_spec.specs.Judged.{ext_failing}
use Rattle.judge_ext.proofs.QuickExt.{no_operation}
use Rattle.judge_ext.specs.ExtParts.{ext_lookups_then, bits_then, result_of, operates_then, accumulates_then, sames_then, steps_then, ext_fails, row_of, paired_row}

-- rules 6 to 9 of two rows
abbrev pub summed : Ext → Ext → ℕ → ℕ
summed x y after = accumulates_then x y (selected x) (comp_tail y) after

module _ (ext : List ℕ) (r : ℕ) where
  abbrev row : Ext
  row = row_of ext r

  abbrev paired : Ext
  paired = paired_row ext r

  -- the row that is paired with row r of n
  pub its_pair : {y : Ext} {n s : ℕ} → y ≡ ext_at ext (120 * s) → s ≡ next n r → n ≡ length ext / 120 → y ≡ paired
  its_pair ey es en = ey ∙ ap (row_of ext) (es ∙ ap (λ (k : ℕ). next k r) en)

  summed_rows : {x y : Ext} (after : ℕ) → x ≡ row → y ≡ paired → summed x y after ≡ summed row paired after
  summed_rows {x} {y} after ex ey = ap (λ z. summed z y after) ex ∙ ap (λ z. summed row z after) ey

  -- rules 6 to 9, where nothing is done and where something may be
  pub idle : {x y : Ext} (after : ℕ) → x ≡ row → y ≡ paired → summed x y after ≡ after → after ≡ summed row paired after
  idle after ex ey s = sym s ∙ summed_rows after ex ey

  -- rules 6 to 9, where the row has no operation
  pub unoperated : (after : ℕ) {x : Ext} {ninth : Bool} {f : ℕ}
      → x ≡ row
      → ninth ≡ zero_element? (result_of x.start x.comp x.res)
      → f ≡ cond ninth after 9
      → x.add ≡ 0
      → x.mul ≡ 0
      → x.peq ≡ 0
      → f ≡ summed row paired after
  unoperated after {x} ex n l a m q =
      l
      ∙ ap (λ b. cond b after 9) n
      ∙ no_operation x paired (selected x) (comp_tail paired) _ a m q
      ∙ ap (λ z. summed z paired after) ex

  pub operated : (after : ℕ) {x y : Ext} {ninth : Bool} {last f : ℕ}
      → x ≡ row
      → y ≡ paired
      → ninth ≡ zero_element? (result_of x.start x.comp x.res)
      → last ≡ cond ninth after 9
      → f ≡ operates_then x y (selected x) (comp_tail y) last
      → f ≡ summed row paired after
  operated after {x} {y} ex ey n l o =
      o ∙ ap (operates_then x y (selected x) (comp_tail y)) (l ∙ ap (λ b. cond b after 9) n) ∙ summed_rows after ex ey

  module _ (memory : List ℕ) where
    all_rules : {x y : Ext} → x ≡ row → y ≡ paired → ext_fails memory x y ≡ ext_failing (given [] memory) (tables [] ext) r
    unfolding ext_rules
    all_rules {x} {y} ex ey = ap (λ z. ext_fails memory z y) ex ∙ ap (ext_fails memory row) ey

    -- comparisons showed all but rules 6 to 9
    pub compared : {x y : Ext} {f : ℕ}
        → x ≡ row
        → y ≡ paired
        → ext_fails memory x y ≡ summed x y 0
        → f ≡ summed row paired 0
        → f ≡ ext_failing (given [] memory) (tables [] ext) r
    compared ex ey others s = s ∙ sym (summed_rows 0 ex ey) ∙ sym others ∙ all_rules ex ey

    -- the last group first, each with what the groups after it came to
    pub walked : {x y : Ext} {inside step same sum bit f : ℕ}
        → x ≡ row
        → y ≡ paired
        → inside ≡ 1 -ₚ y.start
        → step ≡ steps_then inside x y 0
        → same ≡ sames_then inside x y step
        → sum ≡ summed row paired same
        → bit ≡ bits_then x sum
        → f ≡ ext_lookups_then memory x bit
        → f ≡ ext_failing (given [] memory) (tables [] ext) r
    walked {x} {y} {inside} {step} {same} ex ey i s m a b l =
        let own : same ≡ sames_then (1 -ₚ y.start) x y (steps_then (1 -ₚ y.start) x y 0) =
        m ∙ ap (sames_then inside x y) s ∙ ap (λ g. sames_then g x y (steps_then g x y 0)) i in
        let sums = a ∙ sym (summed_rows same ex ey) ∙ ap (summed x y) own in
        l ∙ ap (ext_lookups_then memory x) (b ∙ ap (bits_then x) sums) ∙ all_rules ex ey
