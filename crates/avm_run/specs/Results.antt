-- What a call that has ended keeps.
use Rattle.std.specs.Prelude.{◌≡◌, Ok}
use Rattle.avm_ledger.specs.declared.header.Header.{Header}
use Rattle.avm_items.specs.declared.call_data.CallData.{CallData}
use Rattle.avm_items.specs.Items.{ItemMap, Known, Look, value_in}
use Rattle.avm_items.specs.Asks.{answer_from, result_over}
use Rattle.avm_items.specs.LedgerItems.{pruned, value_before}
use Rattle.avm_items.specs.Locality.{LookAgrees, Extends, then}
use Rattle.avm_call.specs.declared.outcome.Outcome.{Outcome}
use Rattle.avm_call.specs.Calls.{CallResult, call_result}
use Rattle.avm_call.specs.AskedFor.{AreAskedFor}

-- a call with the items that it read and wrote, and its outcome
pub record CallRecord : Type 0 where
  pub call : CallData
  pub header : Header
  pub reads : ItemMap
  pub writes : ItemMap
  pub outcome : Outcome

-- the result with the writes that change something, where the items had these values before
abbrev pub with_changes : ItemMap → CallResult → CallResult
with_changes reads r = (r.0, pruned (value_before (value_in reads)) r.1)

-- The definition of the call, over these reads alone, gives this outcome, and writes of which these change something.
abbrev pub IsResult : CallData → Header → ItemMap → Outcome → ItemMap → Type 0
IsResult call header reads outcome writes = then (λ r. Ok (with_changes reads r)) (answer_from (value_in reads) (call_result call header)) ≡ Ok (outcome, writes)

-- So it does over all that is known beside them,
abbrev pub ResultOverMore : CallRecord → Type 0
ResultOverMore f = (known : Known) → Extends (value_in f.reads) known → then (λ r. Ok (with_changes f.reads r)) (answer_from known (call_result f.call f.header)) ≡ Ok (f.outcome, f.writes)

-- and on every ledger that agrees with them.
abbrev pub ResultOnLedgers : CallRecord → Type 0
ResultOnLedgers f = (look : Look) → LookAgrees (value_in f.reads) look → with_changes f.reads (result_over look (call_result f.call f.header)) ≡ (f.outcome, f.writes)

-- what the type of a call that has ended keeps
pub record IsFinishedCall (f : CallRecord) : Type 0 where
  pub result : IsResult f.call f.header f.reads f.outcome f.writes
  pub asked : AreAskedFor f.reads f.call f.header
