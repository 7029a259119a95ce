-- Blocks of calls made one after another.
use Rattle.std.specs.Prelude.{◌≡◌, ℕ, ◌+◌, List, [], ◌∷◌, map, All}
use Rattle.avm_ledger.specs.declared.header.Header.{Header}
use Rattle.avm_ledger.specs.Ledgers.{Ledger}
use Rattle.avm_items.specs.declared.call_data.CallData.{CallData}
use Rattle.avm_call.specs.Places.{HasPlace}
use Rattle.avm_call.specs.Replay.{outcomes, replayed}
use Rattle.avm_block.specs.declared.entry.Entry.{Entry}
use Rattle.avm_block.specs.Blocks.{Block, Replays, calls_in, calls_of, outcomes_in}

-- so many timestamps, one after another
abbrev pub timestamps_from : ℕ → List CallData → List ℕ
timestamps_from first [] = []
timestamps_from first (call ∷ calls) = first ∷ timestamps_from (first + 1) calls

-- The block has these calls in this order, by the timestamps 1, 2, 3 and so on, and it replays over the ledger.
pub record IsPlainBlock (l : Ledger) (header : Header) (calls : List CallData) (b : Block) : Type 0 where
  pub same_header : b.header ≡ header
  pub same_calls : calls_of b ≡ calls
  pub timestamps : map (λ (e : Entry). e.timestamp) b.entries ≡ timestamps_from 1 calls
  pub replays : Replays l b

-- the entries of calls that were made on a ledger, which led to another
pub record AreMade (old : Ledger) (header : Header) (calls : List CallData) (entries : List Entry) (new : Ledger) : Type 0 where
  pub same_calls : calls_in entries ≡ calls
  pub timestamps : map (λ (e : Entry). e.timestamp) entries ≡ timestamps_from 1 calls
  pub places : All (λ (e : Entry). HasPlace e.outcome) entries
  pub ends : outcomes old header calls ≡ outcomes_in entries
  pub after : new ≡ replayed old header calls
