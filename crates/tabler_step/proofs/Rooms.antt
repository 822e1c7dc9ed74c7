-- A step by whether there is room after it.
-- Assumes nothing.
use borrow.Author.Tests.{lt-ltb, le-ltb}
use mathlib.Core.Bool.{Bool, true, false, ◌&&◌, cond}
use mathlib.Core.List.{List, []}
use mathlib.Core.Path.{◌≡◌, refl, ◌∙◌}
use Prim.Native.Nat.{ℕ, ◌+◌, ◌*◌, ◌/◌, ◌≤◌, ◌<◌}
use native.Mathlib.Nat.{add-zero}
use native.Mathlib.Omega.{arith}
use lib.Dec.{ltb, eqb}
use lib.ListN.{length}
use Rattle.form.specs.declared.Kind.{Kind}
use Rattle.machine.specs.Machine.{State}
use Rattle.machine.specs.Step.{Outcome, goes, stuck, asked, forward}
use Rattle.tables.specs.Groups.{length_of}
use Rattle.tabler_operands.specs.declared.Operands.{Operands}
use Rattle.tabler_rows.specs.Placed.{placed}
use Rattle.tabler_rows.proofs.Lent.{none_placed, no_rows}
use Rattle.tabler_step.specs.Taken.{moved_of, taken_of, taken_ext, kind_bytes, writes}
use Rattle.std.specs.Prelude.{Result, Err}
use Rattle.tabler_step.specs.declared.Halt.TheVariants.{Stuck, Full}
use Rattle.tabler_step.specs.declared.Halt.{Halt}
use Rattle.tabler_step.specs.declared.Moved.{Moved}

-- what is handed on after an outcome, and the table with n rows after it
abbrev Handed : Result Moved Halt → List ℕ → List ℕ → ℕ → ℕ → List ℕ → Outcome → Type 0
Handed x ext' ext filled n bytes o =
    record { value : x ≡ taken_of o (filled + n) (length ext / 120); ext_after : ext' ≡ taken_ext o filled n bytes ext }

-- where all operands are legal what is asked of them decides
pub all_legal : {a b c : Bool} → a ≡ true → b ≡ true → c ≡ true → {x : Result Moved Halt} {ext' : List ℕ} (ext : List ℕ) (filled n : ℕ) (bytes : List ℕ) (o : Outcome)
    → Handed x ext' ext filled n bytes o → Handed x ext' ext filled n bytes (asked 2 a (asked 3 b (asked 4 c o)))
all_legal ha hb hc ext filled n bytes o h = rw (ha, hb, hc) h

-- stuck before a group is written
pub halts : {x : Result Moved Halt} (rule : ℕ) → eqb rule 8 ≡ false → x ≡ Err (Stuck rule) → (ext : List ℕ) (filled n : ℕ) (bytes : List ℕ)
    → Handed x ext ext filled n bytes (stuck rule)
unfolding taken_of taken_ext
halts rule h e ext filled n bytes = rw h (record { value = e; ext_after = refl })

with_room : (o : Outcome) {k room : ℕ} → k < room → moved_of o k ≡ taken_of o k room
unfolding taken_of
with_room (goes s) {k} {room} h = rw (lt-ltb k room h)
with_room (stuck rule) h = refl

-- a step without a group leaves the table as it is
untouched : (b : Bool) (ext : List ℕ) (filled : ℕ) {bytes : List ℕ} → bytes ≡ [] → ext ≡ cond b (placed ext (120 * filled) (120 * filled + 120 * 0) bytes) ext
untouched true ext filled none = none_placed ext (120 * filled) (120 * filled + 120 * 0) (omega arith) none
untouched false ext filled none = refl

pub no_bytes : (cell : ℕ → ℕ) (kind : Kind) (o : Operands) → length_of kind ≡ 0 → kind_bytes cell kind o ≡ []
unfolding kind_bytes
no_bytes cell kind o none = no_rows _ none

pub no_group : (o : Outcome) (filled : ℕ) (ext : List ℕ) {x : Result Moved Halt} {bytes : List ℕ} → filled < length ext / 120
    → x ≡ moved_of o filled → bytes ≡ [] → Handed x ext ext filled 0 bytes o
unfolding taken_ext
no_group o filled ext h e none = record { value = rw (add-zero filled) (e ∙ with_room o h); ext_after = untouched (writes o && ltb (filled + 0) (length ext / 120)) ext filled none }

-- a group by whether its result holds
pub no_room : (holds : Bool) (s : State) (filled n : ℕ) (ext bytes : List ℕ) {x : Result Moved Halt} → length ext / 120 ≤ filled + n
    → x ≡ cond holds (Err Full) (Err (Stuck 8)) → Handed x ext ext filled n bytes (asked 8 holds (forward s))
unfolding taken_of taken_ext
no_room true s filled n ext bytes h e = rw (le-ltb (filled + n) (length ext / 120) h) (record { value = e; ext_after = refl })
no_room false s filled n ext bytes h e = rw (le-ltb (filled + n) (length ext / 120) h) (record { value = e; ext_after = refl })

pub with_group : (holds : Bool) (s : State) (filled n : ℕ) (ext bytes : List ℕ) {x : Result Moved Halt} {ext' : List ℕ} → filled + n < length ext / 120
    → x ≡ moved_of (asked 8 holds (forward s)) (filled + n) → ext' ≡ placed ext (120 * filled) (120 * filled + 120 * n) bytes
    → Handed x ext' ext filled n bytes (asked 8 holds (forward s))
unfolding taken_of taken_ext
with_group true s filled n ext bytes h e put = rw (lt-ltb (filled + n) (length ext / 120) h) (record { value = e; ext_after = put })
with_group false s filled n ext bytes h e put = rw (lt-ltb (filled + n) (length ext / 120) h) (record { value = e; ext_after = put })
