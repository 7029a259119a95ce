-- What is encoded of bytes is bytes.
use Rattle.std.proofs.Common.{ℕ, zero, suc, ◌<◌, ◌/◌, ◌%◌, ◌^◌, List, [], ◌∷◌, ◌++◌, length, arith}
use Rattle.std.specs.Prelude.{All}
use Rattle.std.specs.Int.{Width, w8, w16, w32, w64, byte_at, byte_len, bytes_high_first, to_be_bytes}
use Rattle.std.specs.List.{AllByRecursion, flat_map}
use Rattle.std.proofs.lemmas.List.Elements.{All-nil, All-cons, All-head, All-tail, All-append}
use Rattle.teal_value.specs.declared.address.Address.{Address}
use Rattle.teal_value.specs.declared.value.Value.{Value}
use Rattle.teal_value.specs.declared.value.Value.TheVariants.{Uint, Bytes}
use Rattle.avm_states.specs.Entries.{Entries}
use Rattle.avm_ledger.specs.declared.application.StoredApplication.{StoredApplication}
use Rattle.avm_ledger.specs.declared.header.Header.{Header}
use Rattle.avm_ledger.specs.Ledgers.{Ledger}
use Rattle.avm_ledger.specs.Encodings.{application_bytes, counted_bytes, entry_bytes, header_bytes, ledger_bytes, local_state_bytes, row_bytes, schema_bytes, short_string_bytes, state_bytes, string_bytes, u16_bytes, u32_bytes, u64_bytes, u8_bytes, value_bytes}
use Rattle.avm_states.specs.declared.schema.Schema.{Schema}
use Rattle.avm_items.specs.declared.call_data.CallData.{CallData}
use Rattle.avm_items.specs.CallFields.{completion_number}
use Rattle.avm_call_codec.specs.CallEncoding.{address_bytes, call_bytes, lists_bytes, programs_bytes, target_bytes, terms_bytes}
use Rattle.avm_rule_laws.specs.Rules.{AreBytes, IsCallOfBytes}
use Rattle.json_laws.specs.OfBytes.{IsEntryOfBytes, IsWholeLedgerOfBytes, IsLocalStateOfBytes, IsApplicationOfBytes, IsValueOfBytes}
use Rattle.json_laws.proofs.EncodedParts.{joined}

-- ---- parts

and : (s t : List ℕ) → AreBytes s → AreBytes t → AreBytes (s ++ t)
and s t a b = All-append (λ x. x < 256) s t a b

all : (front : List ℕ) (ps : List (List ℕ)) → AreBytes front → AllByRecursion AreBytes ps → AreBytes (joined front ps)
all front [] first more = first
all front (p ∷ ps) first more = all (front ++ p) ps (and front p first more.0) more.1

rest_small : (n : ℕ) → n % 256 < 256
rest_small n = omega arith

byte_small : (k n : ℕ) → byte_at k n < 256
byte_small zero n = rest_small n
byte_small (suc k) n = rest_small (n / 256 ^ suc k)

high_first : (k n : ℕ) → AreBytes (bytes_high_first k n)
high_first zero n = All-nil (λ x. x < 256)
high_first (suc k) n = All-cons (λ x. x < 256) (byte_at k n) (bytes_high_first k n) (byte_small k n) (high_first k n)

-- the big-endian encoding of a number is of bytes
pub number : (w : Width) (n : ℕ) → AreBytes (to_be_bytes w n)
number w n = high_first (byte_len w) n

each : {A : Type 0} (encoding : A → List ℕ) (xs : List A) → All (λ x. AreBytes (encoding x)) xs → AreBytes (flat_map encoding xs)
each encoding [] all = All-nil (λ x. x < 256)
each encoding (x ∷ xs) all = and (encoding x) (flat_map encoding xs) (All-head (λ y. AreBytes (encoding y)) x xs all) (each encoding xs (All-tail (λ y. AreBytes (encoding y)) x xs all))

-- what is encoded of all that keeps P
each_of : {A : Type 0} (P : A → Type 0) (encoding : A → List ℕ) (xs : List A) → ((x : A) → P x → AreBytes (encoding x)) → All P xs → AreBytes (flat_map encoding xs)
each_of P encoding [] one all = All-nil (λ x. x < 256)
each_of P encoding (x ∷ xs) one all = and (encoding x) (flat_map encoding xs) (one x (All-head P x xs all)) (each_of P encoding xs one (All-tail P x xs all))

short_string : (s : List ℕ) → AreBytes s → AreBytes (short_string_bytes s)
short_string s all = and (u8_bytes (length s)) s (number w8 (length s)) all

string : (s : List ℕ) → AreBytes s → AreBytes (string_bytes s)
string s all = and (u16_bytes (length s)) s (number w16 (length s)) all

schema : (s : Schema) → AreBytes (schema_bytes s)
schema s = and (u8_bytes s.uints) (u8_bytes s.bytes) (number w8 s.uints) (number w8 s.bytes)

-- ---- ledgers

value : (v : Value) → IsValueOfBytes v → AreBytes (value_bytes v)
value (Uint n) is = All-cons (λ x. x < 256) 1 (u64_bytes n) (omega arith) (number w64 n)
value (Bytes s) is = All-cons (λ x. x < 256) 2 (short_string_bytes s) (omega arith) (short_string s is)

entry : (e : List ℕ × Value) → IsEntryOfBytes e → AreBytes (entry_bytes e)
entry e is = and (short_string_bytes e.0) (value_bytes e.1) (short_string e.0 is.0) (value e.1 is.1)

state : (es : Entries) → All IsEntryOfBytes es → AreBytes (state_bytes es)
state es all = and (u8_bytes (length es)) (flat_map entry_bytes es) (number w8 (length es)) (each_of IsEntryOfBytes entry_bytes es entry all)

application : (e : ℕ × StoredApplication) → IsApplicationOfBytes e → AreBytes (application_bytes e)
application (id, app) is =
    let row : AreBytes (row_bytes app.row) =
    all app.row.creator.0 (string_bytes app.row.approval ∷ string_bytes app.row.clear ∷ schema_bytes app.row.global_schema ∷ schema_bytes app.row.local_schema ∷ []) is.row.creator
    (string app.row.approval is.row.approval, (string app.row.clear is.row.clear, (schema app.row.global_schema, (schema app.row.local_schema, tt)))) in
    all (u64_bytes id) (row_bytes app.row ∷ state_bytes app.state ∷ []) (number w64 id) (row, (state app.state is.state, tt))

local_state : (e : (Address × ℕ) × Entries) → IsLocalStateOfBytes e → AreBytes (local_state_bytes e)
local_state e is = all e.0.0.0 (u64_bytes e.0.1 ∷ state_bytes e.1 ∷ []) is.account (number w64 e.0.1, (state e.1 is.state, tt))

counted : {A : Type 0} (w : Width) (encoding : A → List ℕ) (xs : List A) → AreBytes (flat_map encoding xs) → AreBytes (counted_bytes (to_be_bytes w) encoding xs)
counted w encoding xs are = and (to_be_bytes w (length xs)) (flat_map encoding xs) (number w (length xs)) are

-- the encoding of a ledger of bytes is of bytes
pub ledger_is_bytes : (l : Ledger) → IsWholeLedgerOfBytes l → AreBytes (ledger_bytes l)
ledger_is_bytes l is =
    all (u64_bytes l.next_id) (counted_bytes u32_bytes application_bytes l.applications ∷ counted_bytes u32_bytes local_state_bytes l.local_states ∷ []) (number w64 l.next_id) (
      counted w32 application_bytes l.applications (each_of IsApplicationOfBytes application_bytes l.applications application is.applications),
      (counted w32 local_state_bytes l.local_states (each_of IsLocalStateOfBytes local_state_bytes l.local_states local_state is.local_states), tt),
    )

-- ---- headers and calls

-- the encoding of each header is of bytes
pub header_is_bytes : (h : Header) → AreBytes (header_bytes h)
header_is_bytes h =
    all (u64_bytes h.round) (u64_bytes h.latest_timestamp ∷ u64_bytes h.min_fee ∷ u64_bytes h.min_balance ∷ u64_bytes h.max_life ∷ []) (number w64 h.round)
    (number w64 h.latest_timestamp, (number w64 h.min_fee, (number w64 h.min_balance, (number w64 h.max_life, tt))))

terms : (c : CallData) → IsCallOfBytes c → AreBytes (terms_bytes c)
terms c is =
    all c.sender.0 (u64_bytes c.fee ∷ u64_bytes c.first_valid ∷ u64_bytes c.last_valid ∷ string_bytes c.note ∷ []) is.sender
    (number w64 c.fee, (number w64 c.first_valid, (number w64 c.last_valid, (string c.note is.note, tt))))

target : (c : CallData) → IsCallOfBytes c → AreBytes (target_bytes c)
target c is =
    all c.lease (c.rekey_to.0 ∷ u64_bytes c.application ∷ u8_bytes (completion_number c.completion) ∷ []) is.lease
    (is.rekey_to, (number w64 c.application, (number w8 (completion_number c.completion), tt)))

words : (ns : List ℕ) → AreBytes (flat_map u64_bytes ns)
words [] = All-nil (λ x. x < 256)
words (n ∷ ns) = and (u64_bytes n) (flat_map u64_bytes ns) (number w64 n) (words ns)

lists : (c : CallData) → IsCallOfBytes c → AreBytes (lists_bytes c)
lists c is =
    all (counted_bytes u8_bytes string_bytes c.arguments) (counted_bytes u8_bytes address_bytes c.accounts ∷ counted_bytes u8_bytes u64_bytes c.foreign_applications ∷ [])
    (counted w8 string_bytes c.arguments (each_of AreBytes string_bytes c.arguments string is.arguments))
    (counted w8 address_bytes c.accounts (each address_bytes c.accounts is.accounts), (counted w8 u64_bytes c.foreign_applications (words c.foreign_applications), tt))

programs : (c : CallData) → IsCallOfBytes c → AreBytes (programs_bytes c)
programs c is =
    all (string_bytes c.approval) (string_bytes c.clear ∷ schema_bytes c.global_schema ∷ schema_bytes c.local_schema ∷ []) (string c.approval is.approval)
    (string c.clear is.clear, (schema c.global_schema, (schema c.local_schema, tt)))

-- the encoding of a call of bytes is of bytes
pub call_is_bytes : (c : CallData) → IsCallOfBytes c → AreBytes (call_bytes c)
call_is_bytes c is = all (terms_bytes c) (target_bytes c ∷ lists_bytes c ∷ programs_bytes c ∷ []) (terms c is) (target c is, (lists c is, (programs c is, tt)))
