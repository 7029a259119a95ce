-- That no encoding of an outcome, a header, a value, a state or a schema begins another of its kind.
use Rattle.std.proofs.Common.{◌≡◌, ℕ, ◌%◌, ◌^◌, ◌<◌, ◌≤◌, if◌then◌else◌, List, [], ◌∷◌, ◌++◌, length, refl, sym, ap, ◌∙◌, append_assoc, arith}
use Rattle.std.specs.Prelude.{◌==◌, All, unwrap_or}
use Rattle.std.specs.List.{flat_map}
use Rattle.std.proofs.Math.Nat.{mod-eq_of_lt}
use Rattle.std.proofs.lemmas.List.Elements.{All-head, All-tail}
use Rattle.teal_value.specs.declared.value.Value.{Value}
use Rattle.teal_value.specs.declared.value.Value.TheVariants.{Uint, Bytes}
use Rattle.std.specs.Int.{w16, w64, from_be_bytes}
use Rattle.std.proofs.lemmas.Nat.{from_be_bytes-to_be_bytes_2, from_be_bytes-to_be_bytes_8}
use Rattle.teal_value.specs.declared.fault.Fault.{Fault}
use Rattle.teal_value.specs.FaultNumbers.{fault_number, faults, numbered}
use Rattle.teal_value.proofs.FaultsNumbered.{fault_of_number}
use Rattle.avm_ledger.specs.declared.header.Header.{Header}
use Rattle.avm_states.specs.declared.schema.Schema.{Schema}
use Rattle.avm_states.specs.Entries.{Entries}
use Rattle.avm_ledger.specs.LedgerRules.{IsStateValue, IsStateEntry}
use Rattle.avm_ledger.specs.Encodings.{u16_bytes, u64_bytes, short_string_bytes, value_bytes, entry_bytes, state_bytes, schema_bytes, header_bytes}
use Rattle.avm_call.specs.declared.outcome.Why.{Why}
use Rattle.avm_call.specs.declared.outcome.Why.TheVariants as why
use Rattle.avm_call.specs.declared.outcome.Cause.TheVariants as cause
use Rattle.avm_call.specs.declared.outcome.Outcome.{Outcome}
use Rattle.avm_call.specs.declared.outcome.Outcome.TheVariants as outcome
use Rattle.avm_call.specs.OutcomeEncoding.{why_number, outcome_bytes}
use Rattle.avm_rule_laws.specs.Rules.{HasWords}
use Rattle.avm_rule_laws.specs.Encodings.{HasShortPlace, HasSmallNumbers}
use Rattle.avm_items.proofs.Puts.{heads}

-- ---- parts of one length

fronts : (a b x y : List ℕ) → length a ≡ length b → a ++ x ≡ b ++ y → (a ≡ b) × (x ≡ y)
fronts [] [] x y long e = (refl, e)
fronts [] (c ∷ b) x y long e = absurd (omega (arith, long))
fronts (c ∷ a) [] x y long e = absurd (omega (arith, long))
fronts (c ∷ a) (d ∷ b) x y long e =
    let parts = heads e in
    let rest = fronts a b x y (omega (arith, long)) parts.1 in
    ((λ i. parts.0 i ∷ rest.0 i), rest.1)

same_place : (a b : ℕ) → a < 2 ^ 16 → b < 2 ^ 16 → u16_bytes a ≡ u16_bytes b → a ≡ b
same_place a b p q e = sym (from_be_bytes-to_be_bytes_2 a p) ∙ ap (from_be_bytes w16) e ∙ from_be_bytes-to_be_bytes_2 b q

same_word : (a b : ℕ) → a < 2 ^ 64 → b < 2 ^ 64 → u64_bytes a ≡ u64_bytes b → a ≡ b
same_word a b p q e = sym (from_be_bytes-to_be_bytes_8 a p) ∙ ap (from_be_bytes w64) e ∙ from_be_bytes-to_be_bytes_8 b q

-- ---- numbers of faults and refusals

same_fault : (f g : Fault) → fault_number f ≡ fault_number g → f ≡ g
same_fault f g e = ap (λ o. unwrap_or o f) (sym (fault_of_number f) ∙ ap (λ n. numbered fault_number n faults) e ∙ fault_of_number g)

why_numbered : ℕ → Why
why_numbered n =
    if n == 1 then why.NoApp
    else if n == 2 then why.AlreadyIn
    else if n == 3 then why.NotIn
    else why.IdsEnd

why_back : (w : Why) → why_numbered (why_number w) ≡ w
unfolding why_numbered
why_back why.NoApp = refl
why_back why.AlreadyIn = refl
why_back why.NotIn = refl
why_back why.IdsEnd = refl

same_why : (v w : Why) → why_number v ≡ why_number w → v ≡ w
same_why v w e = sym (why_back v) ∙ ap why_numbered e ∙ why_back w

-- ---- outcomes

fault_place : (f g : Fault) (a b : ℕ) (x y : List ℕ) → a < 2 ^ 16 → b < 2 ^ 16 → fault_number f ∷ (u16_bytes a ++ x) ≡ fault_number g ∷ (u16_bytes b ++ y) → (f ≡ g) × (a ≡ b) × (x ≡ y)
fault_place f g a b x y p q e =
    let first = heads e in
    let rest = fronts (u16_bytes a) (u16_bytes b) x y refl first.1 in
    (same_fault f g first.0, same_place a b p q rest.0, rest.1)

-- two outcomes with short places whose encodings begin the same bytes are the same, as is the rest
pub outcomes_apart : (o p : Outcome) (x y : List ℕ) → HasShortPlace o → HasShortPlace p → outcome_bytes o ++ x ≡ outcome_bytes p ++ y → (o ≡ p) × (x ≡ y)
outcomes_apart outcome.Approved outcome.Approved x y h n e = (refl, (heads e).1)
outcomes_apart outcome.Approved outcome.Rejected x y h n e = absurd (omega (arith, (heads e).0))
outcomes_apart outcome.Approved (outcome.Faulted g b) x y h n e = absurd (omega (arith, (heads e).0))
outcomes_apart outcome.Approved (outcome.Refused v) x y h n e = absurd (omega (arith, (heads e).0))
outcomes_apart outcome.Approved (outcome.ClearedAnyway cause.Gone) x y h n e = absurd (omega (arith, (heads e).0))
outcomes_apart outcome.Approved (outcome.ClearedAnyway cause.Rejected) x y h n e = absurd (omega (arith, (heads e).0))
outcomes_apart outcome.Approved (outcome.ClearedAnyway (cause.Faulted g b)) x y h n e = absurd (omega (arith, (heads e).0))
outcomes_apart outcome.Rejected outcome.Approved x y h n e = absurd (omega (arith, (heads e).0))
outcomes_apart outcome.Rejected outcome.Rejected x y h n e = (refl, (heads e).1)
outcomes_apart outcome.Rejected (outcome.Faulted g b) x y h n e = absurd (omega (arith, (heads e).0))
outcomes_apart outcome.Rejected (outcome.Refused v) x y h n e = absurd (omega (arith, (heads e).0))
outcomes_apart outcome.Rejected (outcome.ClearedAnyway cause.Gone) x y h n e = absurd (omega (arith, (heads e).0))
outcomes_apart outcome.Rejected (outcome.ClearedAnyway cause.Rejected) x y h n e = absurd (omega (arith, (heads e).0))
outcomes_apart outcome.Rejected (outcome.ClearedAnyway (cause.Faulted g b)) x y h n e = absurd (omega (arith, (heads e).0))
outcomes_apart (outcome.Faulted f a) outcome.Approved x y h n e = absurd (omega (arith, (heads e).0))
outcomes_apart (outcome.Faulted f a) outcome.Rejected x y h n e = absurd (omega (arith, (heads e).0))
outcomes_apart (outcome.Faulted f a) (outcome.Faulted g b) x y h n e = let parts = fault_place f g a b x y h n (heads e).1 in ((λ i. outcome.Faulted (parts.0 i) (parts.1 i)), parts.2)
outcomes_apart (outcome.Faulted f a) (outcome.Refused v) x y h n e = absurd (omega (arith, (heads e).0))
outcomes_apart (outcome.Faulted f a) (outcome.ClearedAnyway cause.Gone) x y h n e = absurd (omega (arith, (heads e).0))
outcomes_apart (outcome.Faulted f a) (outcome.ClearedAnyway cause.Rejected) x y h n e = absurd (omega (arith, (heads e).0))
outcomes_apart (outcome.Faulted f a) (outcome.ClearedAnyway (cause.Faulted g b)) x y h n e = absurd (omega (arith, (heads e).0))
outcomes_apart (outcome.Refused w) outcome.Approved x y h n e = absurd (omega (arith, (heads e).0))
outcomes_apart (outcome.Refused w) outcome.Rejected x y h n e = absurd (omega (arith, (heads e).0))
outcomes_apart (outcome.Refused w) (outcome.Faulted g b) x y h n e = absurd (omega (arith, (heads e).0))
outcomes_apart (outcome.Refused w) (outcome.Refused v) x y h n e = let parts = heads (heads e).1 in (ap outcome.Refused (same_why w v parts.0), parts.1)
outcomes_apart (outcome.Refused w) (outcome.ClearedAnyway cause.Gone) x y h n e = absurd (omega (arith, (heads e).0))
outcomes_apart (outcome.Refused w) (outcome.ClearedAnyway cause.Rejected) x y h n e = absurd (omega (arith, (heads e).0))
outcomes_apart (outcome.Refused w) (outcome.ClearedAnyway (cause.Faulted g b)) x y h n e = absurd (omega (arith, (heads e).0))
outcomes_apart (outcome.ClearedAnyway cause.Gone) outcome.Approved x y h n e = absurd (omega (arith, (heads e).0))
outcomes_apart (outcome.ClearedAnyway cause.Gone) outcome.Rejected x y h n e = absurd (omega (arith, (heads e).0))
outcomes_apart (outcome.ClearedAnyway cause.Gone) (outcome.Faulted g b) x y h n e = absurd (omega (arith, (heads e).0))
outcomes_apart (outcome.ClearedAnyway cause.Gone) (outcome.Refused v) x y h n e = absurd (omega (arith, (heads e).0))
outcomes_apart (outcome.ClearedAnyway cause.Gone) (outcome.ClearedAnyway cause.Gone) x y h n e = (refl, (heads (heads e).1).1)
outcomes_apart (outcome.ClearedAnyway cause.Gone) (outcome.ClearedAnyway cause.Rejected) x y h n e = absurd (omega (arith, (heads (heads e).1).0))
outcomes_apart (outcome.ClearedAnyway cause.Gone) (outcome.ClearedAnyway (cause.Faulted g b)) x y h n e = absurd (omega (arith, (heads (heads e).1).0))
outcomes_apart (outcome.ClearedAnyway cause.Rejected) outcome.Approved x y h n e = absurd (omega (arith, (heads e).0))
outcomes_apart (outcome.ClearedAnyway cause.Rejected) outcome.Rejected x y h n e = absurd (omega (arith, (heads e).0))
outcomes_apart (outcome.ClearedAnyway cause.Rejected) (outcome.Faulted g b) x y h n e = absurd (omega (arith, (heads e).0))
outcomes_apart (outcome.ClearedAnyway cause.Rejected) (outcome.Refused v) x y h n e = absurd (omega (arith, (heads e).0))
outcomes_apart (outcome.ClearedAnyway cause.Rejected) (outcome.ClearedAnyway cause.Gone) x y h n e = absurd (omega (arith, (heads (heads e).1).0))
outcomes_apart (outcome.ClearedAnyway cause.Rejected) (outcome.ClearedAnyway cause.Rejected) x y h n e = (refl, (heads (heads e).1).1)
outcomes_apart (outcome.ClearedAnyway cause.Rejected) (outcome.ClearedAnyway (cause.Faulted g b)) x y h n e = absurd (omega (arith, (heads (heads e).1).0))
outcomes_apart (outcome.ClearedAnyway (cause.Faulted f a)) outcome.Approved x y h n e = absurd (omega (arith, (heads e).0))
outcomes_apart (outcome.ClearedAnyway (cause.Faulted f a)) outcome.Rejected x y h n e = absurd (omega (arith, (heads e).0))
outcomes_apart (outcome.ClearedAnyway (cause.Faulted f a)) (outcome.Faulted g b) x y h n e = absurd (omega (arith, (heads e).0))
outcomes_apart (outcome.ClearedAnyway (cause.Faulted f a)) (outcome.Refused v) x y h n e = absurd (omega (arith, (heads e).0))
outcomes_apart (outcome.ClearedAnyway (cause.Faulted f a)) (outcome.ClearedAnyway cause.Gone) x y h n e = absurd (omega (arith, (heads (heads e).1).0))
outcomes_apart (outcome.ClearedAnyway (cause.Faulted f a)) (outcome.ClearedAnyway cause.Rejected) x y h n e = absurd (omega (arith, (heads (heads e).1).0))
outcomes_apart (outcome.ClearedAnyway (cause.Faulted f a)) (outcome.ClearedAnyway (cause.Faulted g b)) x y h n e = let parts = fault_place f g a b x y h n (heads (heads e).1).1 in ((λ i. outcome.ClearedAnyway (cause.Faulted (parts.0 i) (parts.1 i))), parts.2)

-- ---- headers

pub headers_apart : (h k : Header) (x y : List ℕ) → HasWords h → HasWords k → h.profile ≡ k.profile → header_bytes h ++ x ≡ header_bytes k ++ y → (h ≡ k) × (x ≡ y)
headers_apart h k x y p q profile e =
    let all = fronts (header_bytes h) (header_bytes k) x y refl e in
    let life = fronts (u64_bytes h.round ++ u64_bytes h.latest_timestamp ++ u64_bytes h.min_fee ++ u64_bytes h.min_balance) (u64_bytes k.round ++ u64_bytes k.latest_timestamp ++ u64_bytes k.min_fee ++ u64_bytes k.min_balance)
    (u64_bytes h.max_life) (u64_bytes k.max_life) refl all.0 in
    let balance = fronts (u64_bytes h.round ++ u64_bytes h.latest_timestamp ++ u64_bytes h.min_fee) (u64_bytes k.round ++ u64_bytes k.latest_timestamp ++ u64_bytes k.min_fee) (u64_bytes h.min_balance) (u64_bytes k.min_balance) refl life.0 in
    let fee = fronts (u64_bytes h.round ++ u64_bytes h.latest_timestamp) (u64_bytes k.round ++ u64_bytes k.latest_timestamp) (u64_bytes h.min_fee) (u64_bytes k.min_fee) refl balance.0 in
    let time = fronts (u64_bytes h.round) (u64_bytes k.round) (u64_bytes h.latest_timestamp) (u64_bytes k.latest_timestamp) refl fee.0 in
    let round = same_word h.round k.round p.round q.round time.0 in
    let timestamp = same_word h.latest_timestamp k.latest_timestamp p.latest_timestamp q.latest_timestamp time.1 in
    let min_fee = same_word h.min_fee k.min_fee p.min_fee q.min_fee fee.1 in
    let min_balance = same_word h.min_balance k.min_balance p.min_balance q.min_balance balance.1 in
    let max_life = same_word h.max_life k.max_life p.max_life q.max_life life.1 in
    ((λ i. record { profile = profile i; round = round i; latest_timestamp = timestamp i; min_fee = min_fee i; min_balance = min_balance i; max_life = max_life i }), all.1)

-- ---- values, states and schemas

same_byte : (a b : ℕ) → a < 256 → b < 256 → a % 256 ≡ b % 256 → a ≡ b
same_byte a b p q e = sym (mod-eq_of_lt p) ∙ e ∙ mod-eq_of_lt q

strings_apart : (s t x y : List ℕ) → length s ≤ 64 → length t ≤ 64 → short_string_bytes s ++ x ≡ short_string_bytes t ++ y → (s ≡ t) × (x ≡ y)
strings_apart s t x y p q e =
    let parts = heads e in
    fronts s t x y (same_byte (length s) (length t) (omega (arith, p)) (omega (arith, q)) parts.0) parts.1

pub values_apart : (v w : Value) (x y : List ℕ) → IsStateValue v → IsStateValue w → value_bytes v ++ x ≡ value_bytes w ++ y → (v ≡ w) × (x ≡ y)
values_apart (Uint n) (Uint m) x y p q e =
    let parts = fronts (u64_bytes n) (u64_bytes m) x y refl (heads e).1 in (ap Uint (same_word n m p q parts.0), parts.1)
values_apart (Bytes s) (Bytes t) x y p q e = let parts = strings_apart s t x y p q (heads e).1 in (ap Bytes parts.0, parts.1)
values_apart (Uint n) (Bytes t) x y p q e = absurd (omega (arith, (heads e).0))
values_apart (Bytes s) (Uint m) x y p q e = absurd (omega (arith, (heads e).0))

entry_apart : (d e : List ℕ × Value) (x y : List ℕ) → IsStateEntry d → IsStateEntry e → entry_bytes d ++ x ≡ entry_bytes e ++ y → (d ≡ e) × (x ≡ y)
entry_apart d e x y p q same =
    let keys = strings_apart d.0 e.0 (value_bytes d.1 ++ x) (value_bytes e.1 ++ y) p.0 q.0
    (sym (append_assoc (short_string_bytes d.0) (value_bytes d.1) x) ∙ same ∙ append_assoc (short_string_bytes e.0) (value_bytes e.1) y) in
    let values = values_apart d.1 e.1 x y p.1 q.1 keys.1 in
    ((λ i. (keys.0 i, values.0 i)), values.1)

entries_apart : (s t : Entries) (x y : List ℕ) → All IsStateEntry s → All IsStateEntry t → length s ≡ length t → flat_map entry_bytes s ++ x ≡ flat_map entry_bytes t ++ y → (s ≡ t) × (x ≡ y)
entries_apart [] [] x y p q long e = (refl, e)
entries_apart [] (d ∷ t) x y p q long e = absurd (omega (arith, long))
entries_apart (c ∷ s) [] x y p q long e = absurd (omega (arith, long))
entries_apart (c ∷ s) (d ∷ t) x y p q long e =
    let one = entry_apart c d (flat_map entry_bytes s ++ x) (flat_map entry_bytes t ++ y) (All-head IsStateEntry c s p) (All-head IsStateEntry d t q)
    (sym (append_assoc (entry_bytes c) (flat_map entry_bytes s) x) ∙ e ∙ append_assoc (entry_bytes d) (flat_map entry_bytes t) y) in
    let rest = entries_apart s t x y (All-tail IsStateEntry c s p) (All-tail IsStateEntry d t q) (omega (arith, long)) one.1 in
    ((λ i. one.0 i ∷ rest.0 i), rest.1)

pub states_apart : (s t : Entries) (x y : List ℕ) → All IsStateEntry s → All IsStateEntry t → length s < 256 → length t < 256 → state_bytes s ++ x ≡ state_bytes t ++ y → (s ≡ t) × (x ≡ y)
states_apart s t x y p q few less e =
    let parts = heads e in
    entries_apart s t x y p q (same_byte (length s) (length t) few less parts.0) parts.1

pub schemas_apart : (s t : Schema) (x y : List ℕ) → HasSmallNumbers s → HasSmallNumbers t → schema_bytes s ++ x ≡ schema_bytes t ++ y → (s ≡ t) × (x ≡ y)
schemas_apart s t x y p q e =
    let first = heads e in
    let second = heads first.1 in
    let uints = same_byte s.uints t.uints p.uints q.uints first.0 in
    let bytes = same_byte s.bytes t.bytes p.bytes q.bytes second.0 in
    ((λ i. record { uints = uints i; bytes = bytes i }), second.1)
