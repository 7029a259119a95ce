-- The entries of a block with timestamps below that of one of them are those before it.
use Rattle.std.proofs.Common.{◌≡◌, ◌<◌, ◌≤◌, ◌-◌, ℕ, zero, suc, Bool, true, false, eqb, nat_le, if◌then◌else◌, List, [], ◌∷◌, take, Option, None, Some, refl, ap, subst, arith}
use Rattle.std.specs.Prelude.{slice_get}
use Rattle.avm_call.specs.Replay.{replayed}
use Rattle.avm_block.specs.declared.entry.Entry.{Entry}
use Rattle.avm_block.specs.Blocks.{RisesAbove, calls_in}
use Rattle.avm_replay.specs.Past.{entries_until}
use Rattle.avm_stepper.specs.Laws.{LedgersBeforeAreReplays}

none_until : (t before : ℕ) (es : List Entry) → RisesAbove before es → t ≤ before → entries_until t es ≡ []
none_until t before [] rises le = refl
none_until t before (e ∷ es) (above, rises) le =
    let no : nat_le e.timestamp t ≡ false = search (arith, above, le) in
    rw no (none_until t e.timestamp es rises (omega (arith, above, le)))

stands_above : (before : ℕ) (es : List Entry) (n : ℕ) (e : Entry) → RisesAbove before es → slice_get es n ≡ Some e → before < e.timestamp
stands_above before [] n e rises there = absurd cc
stands_above before (x ∷ xs) zero e (above, rises) there = let same : x ≡ e = cc in subst (λ (d : Entry). before < d.timestamp) same above
stands_above before (x ∷ xs) (suc n) e (above, rises) there = omega (arith, above, stands_above x.timestamp xs n e rises there)

until_before : (before : ℕ) (es : List Entry) (n : ℕ) (e : Entry) → RisesAbove before es → slice_get es n ≡ Some e → entries_until (e.timestamp - 1) es ≡ take n es
until_before before [] n e rises there = absurd cc
until_before before (x ∷ xs) zero e (above, rises) there =
    let same : x ≡ e = cc in
    let stamp : x.timestamp ≡ e.timestamp = ap (λ (d : Entry). d.timestamp) same in
    let below : e.timestamp - 1 < x.timestamp = omega (arith, above, stamp) in
    let no : nat_le x.timestamp (e.timestamp - 1) ≡ false = search (arith, below) in
    rw no (none_until (e.timestamp - 1) x.timestamp xs rises (omega (arith, below)))
until_before before (x ∷ xs) (suc n) e (above, rises) there =
    let later = stands_above x.timestamp xs n e rises there in
    let within : x.timestamp ≤ e.timestamp - 1 = omega (arith, later) in
    let yes : nat_le x.timestamp (e.timestamp - 1) ≡ true = search (arith, within) in
    rw yes (ap (λ ys. x ∷ ys) (until_before x.timestamp xs n e rises there))

found : (b : Bool) (o : Option Entry) (e : Entry) → (if b then None else o) ≡ Some e → o ≡ Some e
found true o e is = absurd cc
found false o e is = is

pub ledgers_before_are_replays : LedgersBeforeAreReplays
ledgers_before_are_replays base b number e rises there =
    ap (λ es. replayed base b.header (calls_in es)) (until_before 0 b.entries (number - 1) e rises (found (eqb number 0) (slice_get b.entries (number - 1)) e there))
