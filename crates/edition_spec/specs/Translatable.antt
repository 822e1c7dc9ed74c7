-- Document 02, M-102, EDITION: which 14 words are translatable, and each reason why others are not. "The draft" is
-- 0.5.0, 3.1.4: DEREF sets flag_A 0, flag_C 1, and flag_B 1 where AUX is 0; document 02 reads AUX_1 as its AUX.
-- Declared in src/: Encoded (edition_machine).
use Rattle.std.specs.Prelude.{◌≡◌, Bool, ◌&&◌, ◌||◌, cond, List, [], ◌∷◌, ℕ, ◌+◌, ◌<◌, leb, eqb, get_or}
use Rattle.edition_machine.specs.declared.Encoded.{Encoded}

module _ (e : Encoded) where
  -- the flags, of the operands and of the opcodes
  abbrev pub flags : List ℕ
  flags = e.fa ∷ e.fb ∷ e.fc ∷ e.add ∷ e.mul ∷ e.deref ∷ e.jump ∷ []

  -- each is 0 or 1
  abbrev pub flags_known : Bool
  flags_known =
      leb e.fa 1 && leb e.fb 1 && leb e.fc 1 && leb e.add 1 && leb e.mul 1 && leb e.deref 1 && leb e.jump 1

  abbrev pub one_opcode : Bool
  one_opcode = eqb (e.add + e.mul + e.deref + e.jump) 1

  -- the flags and AUX_1 that the draft fixes for a DEREF
  abbrev pub deref_fixed : Bool
  deref_fixed = eqb e.fa 0 && eqb e.fc 1 && leb e.aux1 1 && (eqb e.aux1 1 || eqb e.fb 1)

  abbrev pub no_precompile : Bool
  no_precompile = eqb e.precompile 0 && eqb e.index 0

  unfoldable pub translatable : Bool
  translatable =
      no_precompile && flags_known && one_opcode && cond (eqb e.deref 1) deref_fixed (eqb e.aux1 0) && eqb e.aux2 0

  -- the reasons, as document 02 lists them
  pub data Reason : Type 0 where
    is_precompile : (e.precompile ≡ 0 → ⊥) → Reason
    precompile_index : (e.index ≡ 0 → ⊥) → Reason
    several_or_no_opcodes : (e.add + e.mul + e.deref + e.jump ≡ 1 → ⊥) → Reason
    flag_outside : (k : ℕ) → 1 < get_or flags k 0 → Reason
    deref_flags : e.deref ≡ 1 → (e.fa ≡ 0 → e.fc ≡ 1 → (e.aux1 ≡ 0 → e.fb ≡ 1) → ⊥) → Reason
    deref_aux : e.deref ≡ 1 → 1 < e.aux1 → Reason
    aux_of_another : (e.deref ≡ 1 → ⊥) → (e.aux1 ≡ 0 → ⊥) → Reason
    aux_2 : (e.aux2 ≡ 0 → ⊥) → Reason
