-- Ledgers and calls that are read from bytes are of bytes.
use Rattle.std.proofs.Common.{◌≡◌, ℕ, ◌<◌, List, [], ◌∷◌, ◌++◌, length, Ok, sym, subst, arith}
use Rattle.std.specs.Prelude.{All}
use Rattle.std.specs.List.{AllByRecursion, flat_map}
use Rattle.std.proofs.lemmas.List.Elements.{All-nil, All-cons, All-head, All-tail}
use Rattle.teal_value.specs.declared.address.Address.{Address}
use Rattle.teal_value.specs.declared.value.Value.{Value}
use Rattle.teal_value.specs.declared.value.Value.TheVariants.{Uint, Bytes}
use Rattle.avm_ledger.specs.declared.application.StoredApplication.{StoredApplication}
use Rattle.avm_states.specs.Entries.{Entries}
use Rattle.avm_ledger.specs.Ledgers.{Ledger, empty_ledger}
use Rattle.avm_ledger.specs.LedgerReader.{ledger_at}
use Rattle.avm_ledger.specs.LedgerRules.{IsStateValue, IsStateEntry, IsApplicationBelow, IsLocalStateBelow}
use Rattle.avm_ledger.specs.Encodings.{u8_bytes, u16_bytes, u32_bytes, u64_bytes, short_string_bytes, string_bytes, counted_bytes, value_bytes, entry_bytes, state_bytes, schema_bytes, application_bytes, local_state_bytes, row_bytes}
use Rattle.avm_ledger.proofs.LedgerEncoded.{ledger_encoded}
use Rattle.avm_ledger.proofs.LedgerKept.{ledger_kept}
use Rattle.avm_items.specs.declared.call_data.CallData.{CallData}
use Rattle.avm_items.specs.CallFields.{completion_number}
use Rattle.avm_call_codec.specs.CallReader.{call_front}
use Rattle.avm_call_codec.specs.CallRoundTrip.{HasFields}
use Rattle.avm_call_codec.specs.CallEncoding.{address_bytes, terms_bytes, target_bytes, lists_bytes, programs_bytes, call_bytes}
use Rattle.avm_call_codec.proofs.CallEncoded.{front_encodes}
use Rattle.avm_items.proofs.RulesKept.{empty_keeps}
use Rattle.avm_rule_laws.specs.Rules.{AreBytes, IsMachineValue, AreMachineValues, IsStoredOfBytes, IsCallOfBytes, IsSound}
use Rattle.avm_rule_laws.proofs.ProgramValues.{front_all, rest_all}

-- ---- parts of encodings

abbrev joined : List ℕ → List (List ℕ) → List ℕ
joined front [] = front
joined front (p ∷ ps) = joined (front ++ p) ps

-- where parts joined behind a front are bytes, the front and each part are
pub parts : (front : List ℕ) (ps : List (List ℕ)) → AreBytes (joined front ps) → AreBytes front × AllByRecursion AreBytes ps
parts front [] all = (all, tt)
parts front (p ∷ ps) all =
    let rest = parts (front ++ p) ps all in
    (front_all (λ b. b < 256) front p rest.0, (rest_all (λ b. b < 256) front p rest.0, rest.1))

string_part : (s : List ℕ) → AreBytes (string_bytes s) → AreBytes s
string_part s all = rest_all (λ b. b < 256) (u16_bytes (length s)) s all

each_part : {A : Type 0} (encoding : A → List ℕ) (xs : List A) → AreBytes (flat_map encoding xs) → All (λ x. AreBytes (encoding x)) xs
each_part encoding [] all = All-nil (λ x. AreBytes (encoding x))
each_part encoding (x ∷ xs) all =
    All-cons (λ y. AreBytes (encoding y)) x xs (front_all (λ b. b < 256) (encoding x) (flat_map encoding xs) all) (each_part encoding xs (rest_all (λ b. b < 256) (encoding x) (flat_map encoding xs) all))

-- where a list encoded behind its count is bytes, the encoding of each element is
pub counted_parts : {A : Type 0} (count : ℕ → List ℕ) (encoding : A → List ℕ) (xs : List A) → AreBytes (counted_bytes count encoding xs) → All (λ x. AreBytes (encoding x)) xs
counted_parts count encoding xs all = each_part encoding xs (rest_all (λ b. b < 256) (count (length xs)) (flat_map encoding xs) all)

together : {A : Type 0} (P Q R : A → Type 0) (xs : List A) → ((x : A) → P x → Q x → R x) → All P xs → All Q xs → All R xs
together P Q R [] f p q = All-nil R
together P Q R (x ∷ xs) f p q = All-cons R x xs (f x (All-head P x xs p) (All-head Q x xs q)) (together P Q R xs f (All-tail P x xs p) (All-tail Q x xs q))

each : {A : Type 0} (P R : A → Type 0) (xs : List A) → ((x : A) → P x → R x) → All P xs → All R xs
each P R [] f p = All-nil R
each P R (x ∷ xs) f p = All-cons R x xs (f x (All-head P x xs p)) (each P R xs f (All-tail P x xs p))

-- ---- ledgers

value_part : (v : Value) → IsStateValue v → AreBytes (value_bytes v) → IsMachineValue v
value_part (Uint n) small all = small
value_part (Bytes s) short all =
    (omega (arith, short), rest_all (λ b. b < 256) (u8_bytes (length s)) s (All-tail (λ b. b < 256) 2 (short_string_bytes s) all))

state_part : (state : Entries) → All IsStateEntry state → AreBytes (state_bytes state) → AreMachineValues state
state_part state entries all =
    together IsStateEntry (λ e. AreBytes (entry_bytes e)) (λ e. IsMachineValue e.1) state (λ e is bytes. value_part e.1 is.1 (rest_all (λ b. b < 256) (short_string_bytes e.0) (value_bytes e.1) bytes))
    entries (counted_parts u8_bytes entry_bytes state all)

application_part : (next : ℕ) (e : ℕ × StoredApplication) → IsApplicationBelow next e → AreBytes (application_bytes e) → IsStoredOfBytes e
application_part next (id, app) is all =
    let p = parts (u64_bytes id) (row_bytes app.row ∷ state_bytes app.state ∷ []) all in
    let r = parts app.row.creator.0 (string_bytes app.row.approval ∷ string_bytes app.row.clear ∷ schema_bytes app.row.global_schema ∷ schema_bytes app.row.local_schema ∷ []) p.1.0 in
    (record { creator = r.0; approval = string_part app.row.approval r.1.0; clear = string_part app.row.clear r.1.1.0 }, state_part app.state is.state.entries p.1.1.0)

local_part : (next : ℕ) (apps : List (ℕ × StoredApplication)) (e : (Address × ℕ) × Entries) → IsLocalStateBelow next apps e → AreBytes (local_state_bytes e) → AreMachineValues e.1
local_part next apps e is all =
    let p = parts e.0.0.0 (u64_bytes e.0.1 ∷ state_bytes e.1 ∷ []) all in
    state_part e.1 is.state.entries p.1.1.0

-- a ledger read from bytes keeps the rules, and holds bytes and machine values
pub ledger_sound : (bytes : List ℕ) (l : Ledger) → AreBytes bytes → ledger_at bytes ≡ Ok l → IsSound l
ledger_sound bytes l all e =
    let rules = (ledger_kept bytes l all e).0 in
    let p = parts (u64_bytes l.next_id) (counted_bytes u32_bytes application_bytes l.applications ∷ counted_bytes u32_bytes local_state_bytes l.local_states ∷ []) (subst AreBytes (sym (ledger_encoded bytes l all e)) all) in
    record {
      rules = rules;
      of_bytes = record {
        applications = together (IsApplicationBelow l.next_id) (λ x. AreBytes (application_bytes x)) IsStoredOfBytes l.applications (application_part l.next_id) rules.applications (counted_parts u32_bytes application_bytes l.applications p.1.0);
        local_states = together (IsLocalStateBelow l.next_id l.applications) (λ x. AreBytes (local_state_bytes x)) (λ x. AreMachineValues x.1) l.local_states (local_part l.next_id l.applications) rules.local_states (counted_parts u32_bytes local_state_bytes l.local_states p.1.1.0);
      };
    }

pub empty_sound : IsSound empty_ledger
empty_sound = record { rules = empty_keeps; of_bytes = record { applications = All-nil IsStoredOfBytes; local_states = All-nil (λ e. AreMachineValues e.1) } }

-- ---- calls

-- a call whose bytes are bytes
pub encoded_call : (c : CallData) → HasFields c → AreBytes (call_bytes c) → IsCallOfBytes c
encoded_call c fields whole =
    let groups = parts (terms_bytes c) (target_bytes c ∷ lists_bytes c ∷ programs_bytes c ∷ []) whole in
    let terms = parts c.sender.0 (u64_bytes c.fee ∷ u64_bytes c.first_valid ∷ u64_bytes c.last_valid ∷ string_bytes c.note ∷ []) groups.0 in
    let target = parts c.lease (c.rekey_to.0 ∷ u64_bytes c.application ∷ u8_bytes (completion_number c.completion) ∷ []) groups.1.0 in
    let lists = parts (counted_bytes u8_bytes string_bytes c.arguments) (counted_bytes u8_bytes address_bytes c.accounts ∷ counted_bytes u8_bytes u64_bytes c.foreign_applications ∷ []) groups.1.1.0 in
    let programs = parts (string_bytes c.approval) (string_bytes c.clear ∷ schema_bytes c.global_schema ∷ schema_bytes c.local_schema ∷ []) groups.1.1.1.0 in
    record {
      fields = fields;
      sender = terms.0;
      note = string_part c.note terms.1.1.1.1.0;
      lease = target.0;
      rekey_to = target.1.0;
      arguments = each (λ s. AreBytes (string_bytes s)) AreBytes c.arguments string_part (counted_parts u8_bytes string_bytes c.arguments lists.0);
      accounts = counted_parts u8_bytes address_bytes c.accounts lists.1.0;
      approval = string_part c.approval programs.0;
      clear = string_part c.clear programs.1.0;
    }

-- a call read from bytes has fields within their sizes, and its byte strings are of bytes
pub call_of_bytes : (bytes : List ℕ) (c : CallData) (rest : List ℕ) → AreBytes bytes → call_front bytes ≡ Ok (c, rest) → IsCallOfBytes c
call_of_bytes bytes c rest all e =
    let encoded = front_encodes bytes c rest all e in
    encoded_call c encoded.1 (front_all (λ b. b < 256) (call_bytes c) rest (subst AreBytes (sym encoded.0) all))
