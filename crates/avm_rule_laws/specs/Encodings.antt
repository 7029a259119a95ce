-- That no encoding of an outcome, a header, a value, a state or a schema begins another of its kind. The statements of the laws.
use Rattle.std.specs.Prelude.{◌≡◌, ℕ, ◌^◌, ◌<◌, List, ◌++◌, length, All}
use Rattle.teal_value.specs.declared.value.Value.{Value}
use Rattle.avm_ledger.specs.declared.header.Header.{Header}
use Rattle.avm_states.specs.declared.schema.Schema.{Schema}
use Rattle.avm_states.specs.Entries.{Entries}
use Rattle.avm_ledger.specs.LedgerRules.{IsStateValue, IsStateEntry}
use Rattle.avm_ledger.specs.Encodings.{header_bytes, schema_bytes, state_bytes, value_bytes}
use Rattle.avm_call.specs.declared.outcome.Cause.TheVariants as cause
use Rattle.avm_call.specs.declared.outcome.Outcome.{Outcome}
use Rattle.avm_call.specs.declared.outcome.Outcome.TheVariants as outcome
use Rattle.avm_call.specs.OutcomeEncoding.{outcome_bytes}
use Rattle.avm_rule_laws.specs.Rules.{HasWords}

-- a fault at a place of two bytes
abbrev pub HasShortPlace : Outcome → Type 0
HasShortPlace (outcome.Faulted f place) = place < 2 ^ 16
HasShortPlace (outcome.ClearedAnyway (cause.Faulted f place)) = place < 2 ^ 16
HasShortPlace _ = Unit {0}

abbrev pub OutcomesApart : Type 0
OutcomesApart = (o p : Outcome) (x y : List ℕ) → HasShortPlace o → HasShortPlace p → outcome_bytes o ++ x ≡ outcome_bytes p ++ y → (o ≡ p) × (x ≡ y)

-- The profile stands elsewhere.
abbrev pub HeadersApart : Type 0
HeadersApart = (h k : Header) (x y : List ℕ) → HasWords h → HasWords k → h.profile ≡ k.profile → header_bytes h ++ x ≡ header_bytes k ++ y → (h ≡ k) × (x ≡ y)

abbrev pub ValuesApart : Type 0
ValuesApart = (v w : Value) (x y : List ℕ) → IsStateValue v → IsStateValue w → value_bytes v ++ x ≡ value_bytes w ++ y → (v ≡ w) × (x ≡ y)

abbrev pub StatesApart : Type 0
StatesApart =
    (s t : Entries) (x y : List ℕ) → All IsStateEntry s → All IsStateEntry t → length s < 256 → length t < 256 → state_bytes s ++ x ≡ state_bytes t ++ y → (s ≡ t) × (x ≡ y)

-- a schema whose numbers have a byte each
pub record HasSmallNumbers (s : Schema) : Type 0 where
  pub uints : s.uints < 256
  pub bytes : s.bytes < 256

abbrev pub SchemasApart : Type 0
SchemasApart = (s t : Schema) (x y : List ℕ) → HasSmallNumbers s → HasSmallNumbers t → schema_bytes s ++ x ≡ schema_bytes t ++ y → (s ≡ t) × (x ≡ y)
