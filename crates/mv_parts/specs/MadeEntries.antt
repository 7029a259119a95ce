-- How the block of a seal is made from the journal's entries.
use Rattle.std.specs.Prelude.{◌≡◌, ℕ, List, [], ◌∷◌, None, Some}
use Rattle.std.specs.List.{AllByRecursion}
use Rattle.avm_ledger.specs.declared.header.Header.{Header}
use Rattle.avm_ledger.specs.Ledgers.{Ledger}
use Rattle.avm_ledger.specs.Encodings.{ledger_digest}
use Rattle.avm_items.specs.declared.call_data.CallData.{CallData}
use Rattle.avm_items.specs.LedgerItems.{put}
use Rattle.avm_call.specs.CallRules.{call_fault}
use Rattle.avm_call.specs.Places.{HasPlace}
use Rattle.avm_call.specs.Replay.{ledger_after, outcome_on}
use Rattle.avm_block.specs.declared.entry.Entry as block
use Rattle.avm_block.specs.Blocks.{Block, Replays}
use Rattle.mv_parts.specs.CallHistory.{CallEntry}
use Rattle.mv_parts.specs.CallNumbers.{call_of}
use Rattle.mv_parts.specs.EntryWrites.{ledger_with}

-- A committed call on the ledger before it: it is one of the calls, ends as its entry says, and changes what its entry
-- writes.
pub record IsMadeOn (l : Ledger) (header : Header) (calls : List CallData) (e : CallEntry) : Type 0 where
  pub call : CallData
  pub is_call : call_of calls e.number ≡ Some call
  pub ends : outcome_on l call header ≡ e.outcome
  pub after : ledger_after l call header ≡ put l e.writes

-- each of these was made on the ledger that those before it leave
abbrev pub AreMadeOn : Ledger → Header → List CallData → List CallEntry → Type 0
AreMadeOn l header calls [] = Unit {0}
AreMadeOn l header calls (e ∷ es) = IsMadeOn l header calls e × AreMadeOn (put l e.writes) header calls es

-- a committed call as an entry of a block
pub record IsBlockEntry (calls : List CallData) (e : CallEntry) (made : block.Entry) : Type 0 where
  pub timestamp : made.timestamp ≡ e.timestamp
  pub call : call_of calls e.number ≡ Some made.call
  pub outcome : made.outcome ≡ e.outcome
  pub keeps_rules : call_fault made.call ≡ None

abbrev pub AreBlockEntries : List CallData → List CallEntry → List block.Entry → Type 0
AreBlockEntries calls [] [] = Unit {0}
AreBlockEntries calls (e ∷ es) (m ∷ ms) = IsBlockEntry calls e m × AreBlockEntries calls es ms
AreBlockEntries calls _ _ = ⊥

-- The digest of the ledger that the writes of entries leave. Their faults are all at places of programs.
pub record IsDigestAfter (base : Ledger) (es : List CallEntry) (digest : List ℕ) : Type 0 where
  pub digest_is : digest ≡ ledger_digest (ledger_with base es)
  pub places : AllByRecursion (λ (e : CallEntry). HasPlace e.outcome) es

-- a block of entries that replays
pub record IsBlockOf (base : Ledger) (header : Header) (calls : List CallData) (es : List CallEntry) (b : Block) : Type 0 where
  pub header_same : b.header ≡ header
  pub entries : AreBlockEntries calls es b.entries
  pub replays : Replays base b
