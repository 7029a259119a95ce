-- The parts of what is encoded in bytes are of bytes.
use Rattle.std.proofs.Common.{ℕ, ◌<◌, List, [], ◌∷◌, ◌++◌, length, All}
use Rattle.std.specs.List.{flat_map}
use Rattle.std.proofs.lemmas.List.Elements.{All-nil, All-cons, All-tail}
use Rattle.teal_value.specs.declared.address.Address.{Address}
use Rattle.teal_value.specs.declared.value.Value.{Value}
use Rattle.teal_value.specs.declared.value.Value.TheVariants.{Uint, Bytes}
use Rattle.avm_states.specs.Entries.{Entries}
use Rattle.avm_ledger.specs.declared.application.StoredApplication.{StoredApplication}
use Rattle.avm_ledger.specs.Ledgers.{Ledger}
use Rattle.avm_ledger.specs.Encodings.{u8_bytes, u16_bytes, u32_bytes, u64_bytes, short_string_bytes, string_bytes, counted_bytes, value_bytes, entry_bytes, state_bytes, schema_bytes, application_bytes, local_state_bytes, row_bytes, ledger_bytes}
use Rattle.avm_rule_laws.specs.Rules.{AreBytes, IsRowOfBytes}
use Rattle.json_laws.specs.OfBytes.{IsApplicationOfBytes, IsEntryOfBytes, IsLocalStateOfBytes, IsValueOfBytes, IsWholeLedgerOfBytes}
use Rattle.avm_rule_laws.proofs.ProgramValues.{front_all, rest_all}
use Rattle.avm_rule_laws.proofs.SoundReading.{parts}

-- one behind another
abbrev pub joined : List ℕ → List (List ℕ) → List ℕ
joined front [] = front
joined front (p ∷ ps) = joined (front ++ p) ps

-- the front of a list of bytes is of bytes
pub front_part : (x y : List ℕ) → AreBytes (x ++ y) → AreBytes x
front_part x y all = front_all (λ b. b < 256) x y all

rest_part : (x y : List ℕ) → AreBytes (x ++ y) → AreBytes y
rest_part x y all = rest_all (λ b. b < 256) x y all

-- of each where all are of bytes, one behind another
each_part : {A : Type 0} (encoding : A → List ℕ) (P : A → Type 0) (xs : List A) → ((x : A) → AreBytes (encoding x) → P x) → AreBytes (flat_map encoding xs) → All P xs
each_part encoding P [] f all = All-nil P
each_part encoding P (x ∷ xs) f all =
    All-cons P x xs (f x (front_part (encoding x) (flat_map encoding xs) all)) (each_part encoding P xs f (rest_part (encoding x) (flat_map encoding xs) all))

-- what holds of each element encoded in bytes holds of all in a counted list encoded in bytes
pub counted_part : {A : Type 0} (count : ℕ → List ℕ) (encoding : A → List ℕ) (P : A → Type 0) (xs : List A) → ((x : A) → AreBytes (encoding x) → P x) → AreBytes (counted_bytes count encoding xs) → All P xs
counted_part count encoding P xs f all = each_part encoding P xs f (rest_part (count (length xs)) (flat_map encoding xs) all)

-- a string whose encoding is of bytes is of bytes
pub string_part : (s : List ℕ) → AreBytes (string_bytes s) → AreBytes s
string_part s all = rest_part (u16_bytes (length s)) s all

short_string_part : (s : List ℕ) → AreBytes (short_string_bytes s) → AreBytes s
short_string_part s all = rest_part (u8_bytes (length s)) s all

-- ---- ledgers

value_part : (v : Value) → AreBytes (value_bytes v) → IsValueOfBytes v
value_part (Uint n) all = tt
value_part (Bytes s) all = short_string_part s (All-tail (λ b. b < 256) 2 (short_string_bytes s) all)

entry_part : (e : List ℕ × Value) → AreBytes (entry_bytes e) → IsEntryOfBytes e
entry_part e all =
    (short_string_part e.0 (front_part (short_string_bytes e.0) (value_bytes e.1) all), value_part e.1 (rest_part (short_string_bytes e.0) (value_bytes e.1) all))

state_part : (state : Entries) → AreBytes (state_bytes state) → All IsEntryOfBytes state
state_part state all = counted_part u8_bytes entry_bytes IsEntryOfBytes state entry_part all

application_part : (e : ℕ × StoredApplication) → AreBytes (application_bytes e) → IsApplicationOfBytes e
application_part (id, app) all =
    let p = parts (u64_bytes id) (row_bytes app.row ∷ state_bytes app.state ∷ []) all in
    let r = parts app.row.creator.0 (string_bytes app.row.approval ∷ string_bytes app.row.clear ∷ schema_bytes app.row.global_schema ∷ schema_bytes app.row.local_schema ∷ []) p.1.0 in
    let row : IsRowOfBytes app.row = record { creator = r.0; approval = string_part app.row.approval r.1.0; clear = string_part app.row.clear r.1.1.0 } in
    record { row = row; state = state_part app.state p.1.1.0 }

local_state_part : (e : (Address × ℕ) × Entries) → AreBytes (local_state_bytes e) → IsLocalStateOfBytes e
local_state_part e all =
    let p = parts e.0.0.0 (u64_bytes e.0.1 ∷ state_bytes e.1 ∷ []) all in
    record { account = p.0; state = state_part e.1 p.1.1.0 }

-- a ledger is of bytes where its encoding is
pub ledger_parts : (l : Ledger) → AreBytes (ledger_bytes l) → IsWholeLedgerOfBytes l
ledger_parts l all =
    let p = parts (u64_bytes l.next_id) (counted_bytes u32_bytes application_bytes l.applications ∷ counted_bytes u32_bytes local_state_bytes l.local_states ∷ []) all in
    record {
      applications = counted_part u32_bytes application_bytes IsApplicationOfBytes l.applications application_part p.1.0;
      local_states = counted_part u32_bytes local_state_bytes IsLocalStateOfBytes l.local_states local_state_part p.1.1.0;
    }
