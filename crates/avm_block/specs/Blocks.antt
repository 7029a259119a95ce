-- Blocks: calls in the order of their timestamps, how each ended, and the ledgers before and after them.
use Rattle.std.specs.Prelude.{◌≡◌, ℕ, ◌<◌, List, [], ◌∷◌, map}
use Rattle.avm_ledger.specs.declared.header.Header.{Header}
use Rattle.avm_ledger.specs.Ledgers.{Ledger}
use Rattle.avm_ledger.specs.Encodings.{ledger_digest}
use Rattle.avm_items.specs.declared.call_data.CallData.{CallData}
use Rattle.avm_call.specs.declared.outcome.Outcome.{Outcome}
use Rattle.avm_call.specs.Replay.{outcomes, replayed}
use Rattle.avm_block.specs.declared.entry.Entry.{Entry}

-- how many calls a block has at most
abbrev pub most_calls : ℕ
most_calls = 4096

pub record Block : Type 0 where
  pub base : List ℕ
  pub header : Header
  pub entries : List Entry
  pub after : List ℕ

-- Each timestamp is above the one before, and the first above this one.
abbrev pub RisesAbove : ℕ → List Entry → Type 0
RisesAbove before [] = Unit {0}
RisesAbove before (e ∷ es) = (before < e.timestamp) × RisesAbove e.timestamp es

abbrev pub calls_in : List Entry → List CallData
calls_in = map (λ (e : Entry). e.call)

abbrev pub outcomes_in : List Entry → List Outcome
outcomes_in = map (λ (e : Entry). e.outcome)

abbrev pub calls_of : Block → List CallData
calls_of b = calls_in b.entries

abbrev pub outcomes_of : Block → List Outcome
outcomes_of b = outcomes_in b.entries

-- Over the ledger before, the calls end as the block says, one after another, and lead to the ledger after.
pub record Replays (l : Ledger) (b : Block) : Type 0 where
  pub base : b.base ≡ ledger_digest l
  pub outcomes : outcomes l b.header (calls_of b) ≡ outcomes_of b
  pub after : b.after ≡ ledger_digest (replayed l b.header (calls_of b))
