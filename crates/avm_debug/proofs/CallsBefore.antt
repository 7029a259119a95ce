-- The committed calls of a store with timestamps below that of one of them are those before it.
use Rattle.std.proofs.Common.{◌≡◌, ◌<◌, ◌≤◌, ◌-◌, ℕ, zero, suc, Bool, true, false, eqb, nat_lt, if◌then◌else◌, List, [], ◌∷◌, take, Option, None, Some, refl, ap, ◌∙◌, sym, subst, arith}
use Rattle.std.specs.Prelude.{slice_get, option_map}
use Rattle.avm_items.specs.declared.call_data.CallData.{CallData}
use Rattle.avm_call.specs.Replay.{replayed}
use Rattle.mv_history.specs.History.{IsRising, entries_below}
use Rattle.mv_parts.specs.CallHistory.{CallEntry, calls_made}
use Rattle.mv_parts.specs.CallNumbers.{call_of}
use Rattle.avm_debug.specs.Laws.{LiveLedgersBeforeAreReplays}
use Rattle.avm_debug.specs.LiveOpening.{call_of_entry, live_entry}

none_below : (t before : ℕ) (es : List CallEntry) → IsRising before es → t ≤ suc before → entries_below t es ≡ []
none_below t before [] rises le = refl
none_below t before (e ∷ es) (above, rises) le =
    let no : nat_lt e.timestamp t ≡ false = search (arith, above, le) in
    rw no (none_below t e.timestamp es rises (omega (arith, above, le)))

stands_above : (before : ℕ) (es : List CallEntry) (n : ℕ) (e : CallEntry) → IsRising before es → slice_get es n ≡ Some e → before < e.timestamp
stands_above before [] n e rises there = absurd cc
stands_above before (x ∷ xs) zero e (above, rises) there = let same : x ≡ e = cc in subst (λ (d : CallEntry). before < d.timestamp) same above
stands_above before (x ∷ xs) (suc n) e (above, rises) there = omega (arith, above, stands_above x.timestamp xs n e rises there)

below_before : (before : ℕ) (es : List CallEntry) (n : ℕ) (e : CallEntry) → IsRising before es → slice_get es n ≡ Some e → entries_below e.timestamp es ≡ take n es
below_before before [] n e rises there = absurd cc
below_before before (x ∷ xs) zero e (above, rises) there =
    let same : x ≡ e = cc in
    let stamp : x.timestamp ≡ e.timestamp = ap (λ (d : CallEntry). d.timestamp) same in
    let no : nat_lt x.timestamp e.timestamp ≡ false = search (arith, stamp) in
    rw no (none_below e.timestamp x.timestamp xs rises (omega (arith, stamp)))
below_before before (x ∷ xs) (suc n) e (above, rises) there =
    let later = stands_above x.timestamp xs n e rises there in
    let yes : nat_lt x.timestamp e.timestamp ≡ true = search (arith, later) in
    rw yes (ap (λ ys. x ∷ ys) (below_before x.timestamp xs n e rises there))

found : (b : Bool) (o : Option CallEntry) (e : CallEntry) → (if b then None else o) ≡ Some e → o ≡ Some e
found true o e is = absurd cc
found false o e is = is

-- the entry that was met, and its timestamp
record IsEntry (o : Option CallEntry) (timestamp : ℕ) : Type 0 where
  pub entry : CallEntry
  pub there : o ≡ Some entry
  pub stamp : entry.timestamp ≡ timestamp

abbrev stamp_in : ℕ → Option (ℕ × CallData) → ℕ
stamp_in t None = t
stamp_in t (Some met) = met.0

stamp_of : (t : ℕ) (o : Option CallData) (timestamp : ℕ) (call : CallData) → option_map {U = ℕ × CallData} (λ (c : CallData). (t, c)) o ≡ Some (timestamp, call) → t ≡ timestamp
stamp_of t None timestamp call is = absurd cc
stamp_of t (Some c) timestamp call is = ap (stamp_in t) is

entry_met : (calls : List CallData) (o : Option CallEntry) (timestamp : ℕ) (call : CallData) → call_of_entry calls o ≡ Some (timestamp, call) → IsEntry o timestamp
entry_met calls None timestamp call is = absurd cc
entry_met calls (Some e) timestamp call is = record { entry = e; there = refl; stamp = stamp_of e.timestamp (call_of calls e.number) timestamp call is }

suc_before : (before t : ℕ) → before < t → suc (t - 1) ≡ t
suc_before before t above = omega (arith, above)

pub live_ledgers_before_are_replays : LiveLedgersBeforeAreReplays
live_ledgers_before_are_replays s number timestamp call rises there =
    let es = s.world.entries in
    let met = entry_met s.calls (live_entry es number) timestamp call there in
    let at_place = found (eqb number 0) (slice_get es (number - 1)) met.entry met.there in
    let above = stands_above 0 es (number - 1) met.entry rises at_place in
    let same : suc (timestamp - 1) ≡ met.entry.timestamp = ap (λ t. suc (t - 1)) (sym met.stamp) ∙ suc_before 0 met.entry.timestamp above in
    ap (λ t. replayed s.base s.header (calls_made s.calls (entries_below t es))) same
    ∙ ap (λ ys. replayed s.base s.header (calls_made s.calls ys)) (below_before 0 es (number - 1) met.entry rises at_place)
