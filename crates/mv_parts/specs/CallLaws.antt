-- Calls over look-ups of a ledger, and histories of them over ledgers. The statements of the laws.
use Rattle.std.specs.Prelude.{◌≡◌, ℕ, List, [], ◌∷◌, map, Some}
use Rattle.avm_ledger.specs.declared.header.Header.{Header}
use Rattle.avm_ledger.specs.Ledgers.{Ledger}
use Rattle.avm_items.specs.declared.call_data.CallData.{CallData}
use Rattle.avm_items.specs.Items.{Look}
use Rattle.avm_call.specs.Replay.{outcome_on, changes_on, ledger_after, outcomes, replayed}
use Rattle.avm_laws.specs.LedgerLooks.{IsLookOf, IsOfLedger}
use Rattle.avm_run.specs.Results.{CallRecord, IsFinishedCall}
use Rattle.mv_history.specs.History as history
use Rattle.mv_history.specs.History.{IsEquality, lookup_after, Replays, state_after}
use Rattle.mv_parts.specs.CallHistory.{CallEntry, same_item, result_in, meaning_of}
use Rattle.mv_parts.specs.CallNumbers.{call_of}
use Rattle.mv_parts.specs.EntryWrites.{ledger_with}

-- the test of items says exactly which are the same
abbrev pub ItemsHaveAnEquality : Type 0
ItemsHaveAnEquality = IsEquality same_item

-- A call over a look-up of a ledger ends as over the ledger and changes the same, and these changes, set in the look-up,
-- leave a look-up of the ledger after.
pub record LeavesLookup (l : Ledger) (look : Look) (call : CallData) (header : Header) : Type 0 where
  pub result : result_in header look (Some call) ≡ (outcome_on l call header, changes_on l call header)
  pub after : IsLookOf (ledger_after l call header) (lookup_after same_item (changes_on l call header) look)

abbrev pub CallsLeaveLookups : Type 0
CallsLeaveLookups = (l : Ledger) (look : Look) (call : CallData) (header : Header) → IsLookOf l look → LeavesLookup l look call header

-- a finished call, at a timestamp, as the call of a number
abbrev pub entry_of : ℕ → ℕ → CallRecord → CallEntry
entry_of timestamp number f = record { timestamp = timestamp; number = number; outcome = f.outcome; reads = f.reads; writes = f.writes }

-- What a finished call keeps is what the order theorem asks of an entry.
abbrev pub FinishedCallsAreEntries : Type 0
FinishedCallsAreEntries =
    (calls : List CallData) (f : CallRecord) (timestamp number : ℕ) → IsFinishedCall f → call_of calls number ≡ Some f.call
    → history.IsFinished same_item IsOfLedger (meaning_of f.header calls) (entry_of timestamp number f)

-- the entry has the number of a call
abbrev pub HasCall : List CallData → CallEntry → CallData → Type 0
HasCall calls e call = call_of calls e.number ≡ Some call

-- entries and their calls
abbrev pub AreCallsOf : List CallData → List CallEntry → List CallData → Type 0
AreCallsOf calls [] [] = Unit {0}
AreCallsOf calls (e ∷ es) (c ∷ cs) = HasCall calls e c × AreCallsOf calls es cs
AreCallsOf calls _ _ = ⊥

-- A history that replays over a look-up of a ledger is the replay of its calls on the ledger: the same outcomes, the state
-- that it leaves is a look-up of the ledger after, and the writes put into the ledger lead there too.
pub record IsReplayOf (l : Ledger) (look : Look) (header : Header) (calls : List CallData) (es : List CallEntry) (made : List CallData) : Type 0 where
  pub ends : outcomes l header made ≡ map (λ (e : CallEntry). e.outcome) es
  pub after : IsLookOf (replayed l header made) (state_after same_item (meaning_of header calls) look es)
  pub puts : ledger_with l es ≡ replayed l header made

abbrev pub HistoriesAreReplays : Type 0
HistoriesAreReplays =
    (l : Ledger) (look : Look) (header : Header) (calls : List CallData) (es : List CallEntry) (made : List CallData) → IsLookOf l look → Replays same_item (meaning_of header calls) look es
    → AreCallsOf calls es made → IsReplayOf l look header calls es made
