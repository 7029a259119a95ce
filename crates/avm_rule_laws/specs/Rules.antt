-- That calls keep the rules of ledgers, whatever the calls are. The statements of the laws.
use Rattle.std.specs.Prelude.{◌≡◌, ℕ, ◌+◌, ◌^◌, ◌<◌, ◌≤◌, true, List, length, All, Ok, Some, None}
use Rattle.teal_value.specs.declared.value.Value.{Value}
use Rattle.teal_value.specs.declared.value.Value.TheVariants.{Uint, Bytes}
use Rattle.avm_ledger.specs.declared.application.Application.{Application}
use Rattle.avm_ledger.specs.declared.application.StoredApplication.{StoredApplication}
use Rattle.avm_ledger.specs.declared.header.Header.{Header}
use Rattle.avm_states.specs.Entries.{Entries}
use Rattle.avm_states.specs.Schemas.{most_global_entries, most_local_entries}
use Rattle.avm_ledger.specs.Ledgers.{Ledger, empty_ledger}
use Rattle.avm_ledger.specs.Encodings.{ledger_bytes}
use Rattle.avm_ledger.specs.LedgerReader.{ledger_at}
use Rattle.avm_ledger.specs.LedgerRules.{IsCountable, KeepsRules}
use Rattle.avm_items.specs.declared.call_data.Completion.TheVariants as completion
use Rattle.avm_items.specs.declared.call_data.CallData.{CallData}
use Rattle.avm_items.specs.CallFields.{creates}
use Rattle.avm_call_codec.specs.CallReader.{call_front}
use Rattle.avm_call_codec.specs.CallRoundTrip.{HasFields}
use Rattle.avm_items.specs.LedgerItems.{at, put}
use Rattle.avm_items.specs.Asks.{result_over}
use Rattle.avm_call.specs.CallRules.{call_fault}
use Rattle.avm_call.specs.Calls.{Target, admitted}
use Rattle.avm_call.specs.Ends.{is_program}
use Rattle.avm_call.specs.Replay.{ledger_after, replayed}
use Rattle.avm_laws.specs.Calls.{written_after}

-- ---- the numbers that lists and values hold are those of their types

abbrev pub AreBytes : List ℕ → Type 0
AreBytes s = All (λ b. b < 256) s

-- a uint64, or bytes that a uint64 counts
abbrev pub IsMachineValue : Value → Type 0
IsMachineValue (Uint n) = n < 2 ^ 64
IsMachineValue (Bytes s) = (length s < 2 ^ 64) × AreBytes s

abbrev pub AreMachineValues : Entries → Type 0
AreMachineValues state = All (λ e. IsMachineValue e.1) state

pub record IsRowOfBytes (row : Application) : Type 0 where
  pub creator : AreBytes row.creator.0
  pub approval : AreBytes row.approval
  pub clear : AreBytes row.clear

abbrev pub IsStoredOfBytes : ℕ × StoredApplication → Type 0
IsStoredOfBytes e = IsRowOfBytes e.1.row × AreMachineValues e.1.state

pub record IsLedgerOfBytes (l : Ledger) : Type 0 where
  pub applications : All IsStoredOfBytes l.applications
  pub local_states : All (λ e. AreMachineValues e.1) l.local_states

pub record IsCallOfBytes (c : CallData) : Type 0 where
  pub fields : HasFields c
  pub sender : AreBytes c.sender.0
  pub note : AreBytes c.note
  pub lease : AreBytes c.lease
  pub rekey_to : AreBytes c.rekey_to.0
  pub arguments : All AreBytes c.arguments
  pub accounts : All (λ who. AreBytes who.0) c.accounts
  pub approval : AreBytes c.approval
  pub clear : AreBytes c.clear

pub record HasWords (h : Header) : Type 0 where
  pub round : h.round < 2 ^ 64
  pub latest_timestamp : h.latest_timestamp < 2 ^ 64
  pub min_fee : h.min_fee < 2 ^ 64
  pub min_balance : h.min_balance < 2 ^ 64
  pub max_life : h.max_life < 2 ^ 64

-- ---- what a call brings

-- A creation brings programs and schemas within their limits, an update programs.
pub record BringsPrograms (c : CallData) : Type 0 where
  pub approval : creates c ≡ true → is_program c.approval ≡ true
  pub clear : creates c ≡ true → is_program c.clear ≡ true
  pub global_schema : creates c ≡ true → c.global_schema.uints + c.global_schema.bytes ≤ most_global_entries
  pub local_schema : creates c ≡ true → c.local_schema.uints + c.local_schema.bytes ≤ most_local_entries
  pub new_approval : c.completion ≡ completion.UpdateApplication → is_program c.approval ≡ true
  pub new_clear : c.completion ≡ completion.UpdateApplication → is_program c.clear ≡ true

-- a call that may be made, in a block with this header
pub record MayCall (call : CallData) (header : Header) : Type 0 where
  pub call_of_bytes : IsCallOfBytes call
  pub programs : BringsPrograms call
  pub words : HasWords header

-- a ledger that keeps the rules, of numbers of its types
pub record IsSound (l : Ledger) : Type 0 where
  pub rules : KeepsRules l
  pub of_bytes : IsLedgerOfBytes l

-- ---- the laws

-- Whatever a run has written, after so many steps, the ledger with its writes keeps the rules: integers are below 2^64, byte
-- strings and keys have at most 64 bytes, and states are within their schemas.
abbrev pub WritesKeepTheRules : Type 0
WritesKeepTheRules =
    (l : Ledger) (call : CallData) (header : Header) (t : Target) (row : Application) (steps : ℕ) → IsSound l → MayCall call header → result_over (at l) (admitted call) ≡ Ok t → t.row ≡ Some row
    → IsSound (put l (written_after l call header t row steps))

-- Every call keeps the rules, whatever its outcome.
abbrev pub EveryCallKeepsTheRules : Type 0
EveryCallKeepsTheRules = (l : Ledger) (call : CallData) (header : Header) → IsSound l → MayCall call header → IsSound (ledger_after l call header)

-- So does every list of calls, one after another.
abbrev pub ReplaysKeepTheRules : Type 0
ReplaysKeepTheRules = (l : Ledger) (header : Header) (calls : List CallData) → IsSound l → All (λ call. MayCall call header) calls → IsSound (replayed l header calls)

-- So the ledger that calls lead to is read back from its bytes, where its applications and local states can be counted in 32 bits.
abbrev pub ReplayedLedgersReadBack : Type 0
ReplayedLedgersReadBack =
    (l : Ledger) (header : Header) (calls : List CallData) → IsSound l → All (λ call. MayCall call header) calls → IsCountable (replayed l header calls)
    → ledger_at (ledger_bytes (replayed l header calls)) ≡ Ok (replayed l header calls)

-- ---- where calls and ledgers come from

-- The ledger without applications keeps the rules,
abbrev pub EmptyIsSound : Type 0
EmptyIsSound = IsSound empty_ledger

-- and so does every ledger that is read from bytes.
abbrev pub ReadLedgersAreSound : Type 0
ReadLedgersAreSound = (bytes : List ℕ) (l : Ledger) → AreBytes bytes → ledger_at bytes ≡ Ok l → IsSound l

-- A call that is read from bytes is of bytes.
abbrev pub ReadCallsAreOfBytes : Type 0
ReadCallsAreOfBytes = (bytes : List ℕ) (c : CallData) (rest : List ℕ) → AreBytes bytes → call_front bytes ≡ Ok (c, rest) → IsCallOfBytes c

-- A call that breaks no rule of calls brings programs where it has to, and schemas within their limits.
abbrev pub CheckedCallsBringPrograms : Type 0
CheckedCallsBringPrograms = (c : CallData) → call_fault c ≡ None → BringsPrograms c
