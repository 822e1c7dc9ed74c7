-- All seven tests are the definition's, one after the other.
use Rattle.std.proofs.Common.{◌≡◌, refl, ◌∙◌, Bool, true, false, ◌&&◌, leb}
use Rattle.edition_words.proofs.reasons.flags_known.Goals as goal

in_turn : (a b c d e f g : Bool) → (a && (b && (c && (d && (e && (f && (g && true))))))) ≡ (a && b && c && d && e && f && g)
in_turn false b c d e f g = refl
in_turn true false c d e f g = refl
in_turn true true false d e f g = refl
in_turn true true true false e f g = refl
in_turn true true true true false f g = refl
in_turn true true true true true false g = refl
in_turn true true true true true true false = refl
in_turn true true true true true true true = refl

pub returns : goal.returns
returns c =
    let e = c.args.e in
    c.are_flags.ensures ∙ in_turn (leb e.fa 1) (leb e.fb 1) (leb e.fc 1) (leb e.add 1) (leb e.mul 1) (leb e.deref 1) (leb e.jump 1)
