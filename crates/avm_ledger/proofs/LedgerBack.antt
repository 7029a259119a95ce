-- A ledger that keeps the rules is read from its bytes.
use Rattle.std.proofs.Common.{◌≡◌, ℕ, suc, ◌+◌, ◌^◌, ◌<◌, ◌≤◌, Bool, true, false, cond, ltb, leb, ◌&&◌, ◌||◌, List, [], ◌∷◌, ◌++◌, length, Option, Some, None, Result, Ok, Err, All, refl, sym, ap, ◌∙◌, append_assoc, arith}
use Rattle.std.specs.Ordering.{nat_cmp, is_eq, is_lt, is_le, ordering_then}
use Rattle.std.specs.declared.cmp.Ordering.{Ordering}
use Rattle.std.specs.declared.cmp.Ordering.TheVariants.{Less, Equal, Greater}
use Rattle.std.specs.List.{flat_map, AllByRecursion}
use Rattle.std.specs.List.Sorted.{IsStrictlySortedBy}
use Rattle.std.specs.Map.{keys_of}
use Rattle.std.specs.Int.{w8, w64}
use Rattle.std.specs.Prelude.{is_ok}
use Rattle.std.proofs.lemmas.Bool.{ltb-false, lt-ltb, le-leb}
use Rattle.std.proofs.lemmas.List.{append-nil}
use Rattle.std.proofs.lemmas.Cmp.{ranked}
use Rattle.std.proofs.lemmas.List.Elements.{All-head, All-tail}
use Rattle.teal_value.specs.Answer.{◌>>=◌}
use Rattle.teal_value.specs.declared.value.Value.{Value}
use Rattle.teal_value.specs.declared.value.Value.TheVariants.{Uint, Bytes}
use Rattle.teal_value.specs.declared.address.Address.{Address}
use Rattle.teal_check.specs.WellFormed.{WellFormed, checked}
use Rattle.teal_check.specs.declared.fault.CheckFault.{CheckFault}
use Rattle.avm_ledger.specs.declared.ledger_fault.LedgerFault.TheVariants.{Truncated, Rest}
use Rattle.avm_states.specs.declared.schema.Schema.{Schema}
use Rattle.avm_states.specs.Entries.{Entries, byte_cmp}
use Rattle.avm_ledger.specs.declared.application.Application.{Application}
use Rattle.avm_ledger.specs.declared.application.StoredApplication.{StoredApplication}
use Rattle.avm_ledger.specs.Ledgers.{Ledger, account_cmp}
use Rattle.avm_states.specs.Schemas.{count_with, count_without, counts_in}
use Rattle.teal_code.specs.Limits.{most_program_bytes}
use Rattle.avm_ledger.specs.Encodings.{string_bytes, schema_bytes, counted_bytes, u8_bytes, u16_bytes, u32_bytes, u64_bytes, row_bytes, application_bytes, local_state_bytes, ledger_bytes, value_bytes, entry_bytes, state_bytes}
use Rattle.avm_ledger.specs.FieldReader.{number_at, short_string_at, alone}
use Rattle.avm_ledger.specs.LedgerReader.{tested, Room, local_room, room_of_schema, stored_in, limited_schema_at, program_at, row_at, stored_application_at, id_between, applications_at, is_no_lower, rises_from_pair, account_at, local_id_at, local_states_at, next_id_at, ledger_front, ledger_at, rises_from_key, key_at, value_of_kind, value_at, entries_at, state_of_count, state_at}
use Rattle.avm_ledger.specs.LedgerRules.{IsStateValue, IsStateEntry, IsStateIn, IsRow, IsApplicationBelow, IsLocalStateBelow, KeepsRules, IsCountable}
use Rattle.avm_ledger.proofs.FieldsBack.{then, address_back, schema_back, byte_back, u32_back, u64_back, short_string_back, string_back}

-- ---- states

-- there is room for one of the value's kind
abbrev HasRoom : Value → Schema → Type 0
HasRoom (Uint n) left = 0 < left.uints
HasRoom (Bytes s) left = 0 < left.bytes

-- a value that there is room for is read from its bytes
pub value_back : (v : Value) (left : Schema) (rest : List ℕ) → IsStateValue v → HasRoom v left → value_at left (value_bytes v ++ rest) ≡ Ok (v, rest)
value_back (Uint n) left rest is room =
    let one : ltb 0 left.uints ≡ true = lt-ltb 0 left.uints room in
    then (number_at Truncated w8 (1 ∷ (u64_bytes n ++ rest))) (1, u64_bytes n ++ rest) (value_of_kind left) (Ok (Uint n, rest)) (byte_back Truncated 1 (u64_bytes n ++ rest) (omega arith))
    (rw one (then (number_at Truncated w64 (u64_bytes n ++ rest)) (n, rest) (λ m. Ok (Uint m.0, m.1)) (Ok (Uint n, rest)) (u64_back Truncated n rest is) refl))
value_back (Bytes s) left rest is room =
    let one : ltb 0 left.bytes ≡ true = lt-ltb 0 left.bytes room in
    let short : leb (length s) 64 ≡ true = le-leb (length s) 64 is in
    then (number_at Truncated w8 (2 ∷ (u8_bytes (length s) ++ (s ++ rest)))) (2, u8_bytes (length s) ++ (s ++ rest)) (value_of_kind left) (Ok (Bytes s, rest)) (byte_back Truncated 2 (u8_bytes (length s) ++ (s ++ rest)) (omega arith))
    (rw one (then (short_string_at Truncated (u8_bytes (length s) ++ (s ++ rest))) (s, rest) (λ t. tested (leb (length t.0) 64) (Bytes t.0, t.1)) (Ok (Bytes s, rest)) (short_string_back Truncated s rest (omega arith)) (rw short refl)))

-- each key is above the one before
abbrev IsAbove : Option (List ℕ) → List (List ℕ) → Type 0
IsAbove None keys = Unit {0}
IsAbove (Some before) keys = AllByRecursion (λ k. byte_cmp before k ≡ Less) keys

first_rises : (before : Option (List ℕ)) (k : List ℕ) (ks : List (List ℕ)) → IsAbove before (k ∷ ks) → rises_from_key before k ≡ true
first_rises None k ks h = refl
first_rises (Some b) k ks h = ap is_lt h.0

key_back : (before : Option (List ℕ)) (k rest : List ℕ) → length k ≤ 64 → rises_from_key before k ≡ true → key_at before (u8_bytes (length k) ++ (k ++ rest)) ≡ Ok (k, rest)
key_back before k rest small rises =
    let short : leb (length k) 64 ≡ true = le-leb (length k) 64 small in
    then (short_string_at Truncated (u8_bytes (length k) ++ (k ++ rest))) (k, rest) (λ x. tested (leb (length x.0) 64 && rises_from_key before x.0) x) (Ok (k, rest))
    (short_string_back Truncated k rest (omega arith)) (rw (short, rises) refl)

-- counts that there is room for, one entry on
room_there : (v : Value) (n left : Schema) → (count_with v n).uints ≤ left.uints → (count_with v n).bytes ≤ left.bytes → HasRoom v left
room_there (Uint m) n left u b = omega arith
room_there (Bytes s) n left u b = omega arith

room_left : (v : Value) (n left : Schema) → (count_with v n).uints ≤ left.uints → (count_with v n).bytes ≤ left.bytes → (n.uints ≤ (count_without v left).uints) × (n.bytes ≤ (count_without v left).bytes)
room_left (Uint m) n left u b = (omega arith, omega arith)
room_left (Bytes s) n left u b = (omega arith, omega arith)

entries_back : (state : Entries) (before : Option (List ℕ)) (left : Schema) (rest : List ℕ) → IsAbove before (keys_of state) → IsStrictlySortedBy byte_cmp (keys_of state) → All IsStateEntry state
    → (counts_in state).uints ≤ left.uints → (counts_in state).bytes ≤ left.bytes → entries_at (length state) before left (flat_map entry_bytes state ++ rest) ≡ Ok (state, rest)
unfolding IsStrictlySortedBy
entries_back [] before left rest above sorted all uints strings = refl
entries_back ((k, v) ∷ es) before left rest above sorted all uints strings =
    let entry = All-head IsStateEntry (k, v) es all in
    let more = All-tail IsStateEntry (k, v) es all in
    let there = room_there v (counts_in es) left uints strings in
    let fewer = room_left v (counts_in es) left uints strings in
    let behind = flat_map entry_bytes es ++ rest in
    let parts : flat_map entry_bytes ((k, v) ∷ es) ++ rest ≡ u8_bytes (length k) ++ (k ++ (value_bytes v ++ behind)) = simp append_assoc in
    ap (entries_at (suc (length es)) before left) parts
    ∙ then (key_at before (u8_bytes (length k) ++ (k ++ (value_bytes v ++ behind)))) (k, value_bytes v ++ behind)
    (λ x. value_at left x.1 >>= λ w. entries_at (length es) (Some x.0) (count_without w.0 left) w.1 >>= λ fs. Ok ((x.0, w.0) ∷ fs.0, fs.1)) (Ok ((k, v) ∷ es, rest))
    (key_back before k (value_bytes v ++ behind) entry.0 (first_rises before k (keys_of es) above))
    (then (value_at left (value_bytes v ++ behind)) (v, behind) (λ w. entries_at (length es) (Some k) (count_without w.0 left) w.1 >>= λ fs. Ok ((k, w.0) ∷ fs.0, fs.1)) (Ok ((k, v) ∷ es, rest))
    (value_back v left behind entry.1 there)
    (then (entries_at (length es) (Some k) (count_without v left) behind) (es, rest) (λ fs. Ok ((k, v) ∷ fs.0, fs.1)) (Ok ((k, v) ∷ es, rest))
    (entries_back es (Some k) (count_without v left) rest sorted.0 sorted.1 more fewer.0 fewer.1) refl))

-- a state within a room for fewer than 256 entries is read from its bytes, whatever follows them
pub state_back : (room : Room) (state : Entries) (rest : List ℕ) → IsStateIn room state → room.entries < 256 → state_at room (u8_bytes (length state) ++ (flat_map entry_bytes state ++ rest)) ≡ Ok (state, rest)
state_back room state rest is small =
    let few : leb (length state) room.entries ≡ true = le-leb (length state) room.entries is.few in
    then (number_at Truncated w8 (u8_bytes (length state) ++ (flat_map entry_bytes state ++ rest))) (length state, flat_map entry_bytes state ++ rest) (state_of_count room) (Ok (state, rest))
    (byte_back Truncated (length state) (flat_map entry_bytes state ++ rest) (omega (arith, is.few)))
    (rw few (entries_back state None room.kinds rest tt is.rising is.entries is.uints is.strings))

-- ---- applications

-- a schema within a limit is read from its bytes
pub limited_schema_back : (most : ℕ) (s : Schema) (rest : List ℕ) → s.uints + s.bytes ≤ most → most ≤ 64 → limited_schema_at most (u8_bytes s.uints ++ (u8_bytes s.bytes ++ rest)) ≡ Ok (s, rest)
limited_schema_back most s rest few small =
    let within : leb (s.uints + s.bytes) most ≡ true = le-leb (s.uints + s.bytes) most few in
    then _ _ _ _ (schema_back Truncated s rest (omega arith) (omega arith)) (rw within refl)

short_if : (a b : Bool) (f : CheckFault) (r : Result WellFormed CheckFault) → is_ok (cond (a || b) (Err f) r) ≡ true → b ≡ false
short_if true b f r e = absurd cc
short_if false true f r e = absurd cc
short_if false false f r e = refl

-- a checked program has at most 1024 bytes
program_short : (p : List ℕ) → is_ok (checked p) ≡ true → length p ≤ most_program_bytes
unfolding checked
program_short p ok = ltb-false most_program_bytes (length p) (short_if _ _ _ _ ok)

-- a checked program is read from its bytes
pub program_back : (p rest : List ℕ) → is_ok (checked p) ≡ true → program_at (u16_bytes (length p) ++ (p ++ rest)) ≡ Ok (p, rest)
program_back p rest ok =
    let short : length p ≤ most_program_bytes = program_short p ok in
    then _ _ _ _ (string_back Truncated p rest (omega arith)) (rw ok refl)

five : (a b c d e rest : List ℕ) → (a ++ b ++ c ++ d ++ e) ++ rest ≡ a ++ (b ++ (c ++ (d ++ (e ++ rest))))
five a b c d e rest = simp append_assoc

-- an application without its global state is read from its bytes
pub row_back : (row : Application) (rest : List ℕ) → IsRow row → row_at (row_bytes row ++ rest) ≡ Ok (row, rest)
row_back row rest is =
    let local = schema_bytes row.local_schema ++ rest in
    let global = schema_bytes row.global_schema ++ local in
    let clear = string_bytes row.clear ++ global in
    let approval = string_bytes row.approval ++ clear in
    let schemas = then _ _ _ _ (limited_schema_back 64 row.global_schema local is.global_schema (omega arith)) (then _ _ _ _ (limited_schema_back 16 row.local_schema rest is.local_schema (omega arith)) refl) in
    ap row_at (five row.creator.0 (string_bytes row.approval) (string_bytes row.clear) (schema_bytes row.global_schema) (schema_bytes row.local_schema) rest)
    ∙ then _ _ _ _ (address_back Truncated row.creator approval is.creator)
    (then _ _ _ _ (program_back row.approval clear is.approval) (then _ _ _ _ (program_back row.clear global is.clear) (then _ _ _ _ schemas refl)))

stored_back : (next id : ℕ) (app : StoredApplication) (rest : List ℕ) → IsApplicationBelow next (id, app) → stored_application_at (row_bytes app.row ++ (state_bytes app.state ++ rest)) ≡ Ok (app, rest)
stored_back next id app rest is =
    then _ _ _ _ (row_back app.row (state_bytes app.state ++ rest) is.row)
    (then _ _ _ _ (state_back (room_of_schema app.row.global_schema) app.state rest is.state (omega (arith, is.row.global_schema))) refl)

id_back : (before next id : ℕ) (rest : List ℕ) → before < id → id < next → next < 2 ^ 64 → id_between before next (u64_bytes id ++ rest) ≡ Ok (id, rest)
id_back before next id rest above below small =
    let a : ltb before id ≡ true = lt-ltb before id above in
    let b : ltb id next ≡ true = lt-ltb id next below in
    then _ _ _ _ (u64_back Truncated id rest (omega arith)) (rw (a, b) refl)

nat_less : (a b : ℕ) → nat_cmp a b ≡ Less → a < b
nat_less a b e = ranked a b Less (sym e)

-- ids above the one before
abbrev AreAbove : ℕ → List (ℕ × StoredApplication) → Type 0
AreAbove before [] = Unit {0}
AreAbove before (e ∷ es) = before < e.0

next_above : (id : ℕ) (es : List (ℕ × StoredApplication)) → AllByRecursion (λ y. nat_cmp id y ≡ Less) (keys_of es) → AreAbove id es
next_above id [] h = tt
next_above id (e ∷ es) h = nat_less id e.0 h.0

application_parts : (id : ℕ) (app : StoredApplication) (es : List (ℕ × StoredApplication)) (rest : List ℕ) → flat_map application_bytes ((id, app) ∷ es) ++ rest ≡ u64_bytes id ++ (row_bytes app.row ++ (state_bytes app.state ++ (flat_map application_bytes es ++ rest)))
application_parts id app es rest = four (u64_bytes id) (row_bytes app.row) (state_bytes app.state) (flat_map application_bytes es) rest
  where
    four : (u r s more rest : List ℕ) → (u ++ r ++ s ++ more) ++ rest ≡ u ++ (r ++ (s ++ (more ++ rest)))
    four u r s more rest = simp append_assoc

applications_back : (apps : List (ℕ × StoredApplication)) (before next : ℕ) (rest : List ℕ) → AreAbove before apps → IsStrictlySortedBy nat_cmp (keys_of apps) → All (IsApplicationBelow next) apps → next < 2 ^ 64
    → applications_at (length apps) before next (flat_map application_bytes apps ++ rest) ≡ Ok (apps, rest)
unfolding IsStrictlySortedBy
applications_back [] before next rest above sorted all small = refl
applications_back ((id, app) ∷ es) before next rest above sorted all small =
    let one = All-head (IsApplicationBelow next) (id, app) es all in
    let more = All-tail (IsApplicationBelow next) (id, app) es all in
    let behind = flat_map application_bytes es ++ rest in
    ap (applications_at (suc (length es)) before next) (application_parts id app es rest)
    ∙ then _ _ _ _ (id_back before next id (row_bytes app.row ++ (state_bytes app.state ++ behind)) above one.below small)
    (then _ _ _ _ (stored_back next id app behind one)
    (then _ _ _ _ (applications_back es id next rest (next_above id es sorted.0) sorted.1 more small) refl))

-- ---- local states

then_less : (a b : Ordering) → ordering_then a b ≡ Less → is_le a ≡ true
then_less Less b e = refl
then_less Equal b e = refl
then_less Greater b e = absurd cc

-- accounts and ids above those before
abbrev IsAbovePair : Option (Address × ℕ) → List (Address × ℕ) → Type 0
IsAbovePair None keys = Unit {0}
IsAbovePair (Some before) keys = AllByRecursion (λ k. account_cmp before k ≡ Less) keys

no_lower : (before : Option (Address × ℕ)) (k : Address × ℕ) (ks : List (Address × ℕ)) → IsAbovePair before (k ∷ ks) → is_no_lower before k.0 ≡ true
no_lower None k ks h = refl
no_lower (Some b) k ks h = then_less (byte_cmp b.0.0 k.0.0) (nat_cmp b.1 k.1) h.0

pair_rises : (before : Option (Address × ℕ)) (k : Address × ℕ) (ks : List (Address × ℕ)) → IsAbovePair before (k ∷ ks) → rises_from_pair before k ≡ true
pair_rises None k ks h = refl
pair_rises (Some b) k ks h = ap is_lt h.0

account_back : (before : Option (Address × ℕ)) (who : Address) (rest : List ℕ) → length who.0 ≡ 32 → is_no_lower before who ≡ true → account_at before (who.0 ++ rest) ≡ Ok (who, rest)
account_back before who rest is above = then _ _ _ _ (address_back Truncated who rest is) (rw above refl)

local_id_back : (before : Option (Address × ℕ)) (next id : ℕ) (who : Address) (rest : List ℕ) → 1 ≤ id → id < next → next < 2 ^ 64 → rises_from_pair before (who, id) ≡ true → local_id_at before next who (u64_bytes id ++ rest) ≡ Ok (id, rest)
local_id_back before next id who rest positive below small rises = then _ _ _ _ (id_back 0 next id rest (omega arith) below small) (rw rises refl)

-- a state has room for fewer than 256 entries
local_room_small : (apps : List (ℕ × StoredApplication)) (next id : ℕ) → All (IsApplicationBelow next) apps → (local_room (stored_in apps id)).entries < 256
local_room_small [] next id all = omega arith
local_room_small (e ∷ es) next id all = at_test (is_eq (nat_cmp id e.0)) (local_room_small es next id (All-tail (IsApplicationBelow next) e es all))
  where
    at_test : (b : Bool) → (local_room (stored_in es id)).entries < 256 → (local_room (cond b (Some e.1) (stored_in es id))).entries < 256
    at_test true later = omega (arith, (All-head (IsApplicationBelow next) e es all).row.local_schema)
    at_test false later = later

local_chain : (a u s more rest : List ℕ) → ((a ++ u ++ s) ++ more) ++ rest ≡ a ++ (u ++ (s ++ (more ++ rest)))
local_chain a u s more rest = simp append_assoc

local_states_back : (states : List ((Address × ℕ) × Entries)) (before : Option (Address × ℕ)) (next : ℕ) (apps : List (ℕ × StoredApplication)) (rest : List ℕ) → IsAbovePair before (keys_of states) → IsStrictlySortedBy account_cmp (keys_of states)
    → All (IsLocalStateBelow next apps) states → All (IsApplicationBelow next) apps → next < 2 ^ 64 → local_states_at (length states) before next apps (flat_map local_state_bytes states ++ rest) ≡ Ok (states, rest)
unfolding IsStrictlySortedBy
local_states_back [] before next apps rest above sorted all kept small = refl
local_states_back (((who, id), state) ∷ es) before next apps rest above sorted all kept small =
    let one = All-head (IsLocalStateBelow next apps) ((who, id), state) es all in
    let more = All-tail (IsLocalStateBelow next apps) ((who, id), state) es all in
    let behind = flat_map local_state_bytes es ++ rest in
    let own = u8_bytes (length state) ++ (flat_map entry_bytes state ++ behind) in
    ap (local_states_at (suc (length es)) before next apps) (local_parts who id state es rest)
    ∙ then _ _ _ _ (account_back before who (u64_bytes id ++ own) one.account (no_lower before (who, id) (keys_of es) above))
    (then _ _ _ _ (local_id_back before next id who own one.positive one.below small (pair_rises before (who, id) (keys_of es) above))
    (then _ _ _ _ (state_back (local_room (stored_in apps id)) state behind one.state (local_room_small apps next id kept))
    (then _ _ _ _ (local_states_back es (Some (who, id)) next apps rest sorted.0 sorted.1 more kept small) refl)))
  where
    local_parts : (who : Address) (id : ℕ) (state : Entries) (es : List ((Address × ℕ) × Entries)) (rest : List ℕ)
        → flat_map local_state_bytes (((who, id), state) ∷ es) ++ rest ≡ who.0 ++ (u64_bytes id ++ (u8_bytes (length state) ++ (flat_map entry_bytes state ++ (flat_map local_state_bytes es ++ rest))))
    local_parts who id state es rest = local_chain who.0 (u64_bytes id) (state_bytes state) (flat_map local_state_bytes es) rest

-- ---- ledgers

ledger_chain : (u a s rest : List ℕ) → (u ++ a ++ s) ++ rest ≡ u ++ (a ++ (s ++ rest))
ledger_chain u a s rest = simp append_assoc

-- a next id is read from its bytes
pub next_id_back : (n : ℕ) (rest : List ℕ) → 1 ≤ n → n < 2 ^ 64 → next_id_at (u64_bytes n ++ rest) ≡ Ok (n, rest)
next_id_back n rest some small =
    let positive : leb 1 n ≡ true = le-leb 1 n some in
    then _ _ _ _ (u64_back Truncated n rest small) (rw positive refl)

-- a countable ledger that keeps the rules is read from its bytes, whatever stands behind them
pub ledger_back : (l : Ledger) (rest : List ℕ) → KeepsRules l → IsCountable l → ledger_front (ledger_bytes l ++ rest) ≡ Ok (l, rest)
ledger_back l rest keeps count =
    let states = flat_map local_state_bytes l.local_states ++ rest in
    let more = u32_bytes (length l.local_states) ++ states in
    let apps = flat_map application_bytes l.applications ++ more in
    ap ledger_front parts
    ∙ then _ _ _ _ (next_id_back l.next_id (u32_bytes (length l.applications) ++ apps) keeps.next_id keeps.small)
    (then _ _ _ _ (u32_back Truncated (length l.applications) apps count.applications)
    (then _ _ _ _ (applications_back l.applications 0 l.next_id more (all_positive l.applications l.next_id keeps.applications) keeps.rising_ids keeps.applications keeps.small)
    (then _ _ _ _ (u32_back Truncated (length l.local_states) states count.local_states)
    (then _ _ _ _ (local_states_back l.local_states None l.next_id l.applications rest tt keeps.rising_accounts keeps.local_states keeps.applications keeps.small) refl))))
  where
    parts : ledger_bytes l ++ rest ≡ u64_bytes l.next_id ++ (u32_bytes (length l.applications) ++ (flat_map application_bytes l.applications ++ (u32_bytes (length l.local_states) ++ (flat_map local_state_bytes l.local_states ++ rest))))
    parts = ledger_chain (u64_bytes l.next_id) (counted_bytes u32_bytes application_bytes l.applications) (counted_bytes u32_bytes local_state_bytes l.local_states) rest

    all_positive : (apps : List (ℕ × StoredApplication)) (next : ℕ) → All (IsApplicationBelow next) apps → AreAbove 0 apps
    all_positive [] next all = tt
    all_positive (e ∷ es) next all = omega (arith, (All-head (IsApplicationBelow next) e es all).positive)

-- a countable ledger that keeps the rules is what its bytes are read as
pub ledger_back_alone : (l : Ledger) → KeepsRules l → IsCountable l → ledger_at (ledger_bytes l) ≡ Ok l
ledger_back_alone l keeps count =
    ap ledger_at (sym (append-nil (ledger_bytes l))) ∙ then (ledger_front (ledger_bytes l ++ [])) (l, []) (alone Rest) (Ok l) (ledger_back l [] keeps count) refl

-- no bytes begin with the encodings of two different countable ledgers that keep the rules
pub none_begins : (l m : Ledger) (x y : List ℕ) → KeepsRules l → IsCountable l → KeepsRules m → IsCountable m → ledger_bytes l ++ x ≡ ledger_bytes m ++ y → (l ≡ m) × (x ≡ y)
none_begins l m x y keeps count keeps' count' e =
    let same = sym (ledger_back l x keeps count) ∙ ap ledger_front e ∙ ledger_back m y keeps' count' in
    let pair : ◌≡◌ {A = Ledger × List ℕ} (l, x) (m, y) = cc in
    (ap (λ p. p.0) pair, ap (λ p. p.1) pair)
