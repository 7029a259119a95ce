-- A call that has ended, on each ledger that has what it read.
use Rattle.std.proofs.Common.{◌≡◌, Ok, Err, refl, sym, ap, ◌∙◌}
use Rattle.avm_ledger.specs.Ledgers.{IsOrderly, Ledger}
use Rattle.avm_items.specs.Items.{value_in}
use Rattle.avm_items.specs.LedgerItems.{put, AgreesWithReads}
use Rattle.avm_items.specs.Asks.{Answer, answer_from}
use Rattle.avm_items.specs.Locality.{then}
use Rattle.avm_call.specs.Calls.{CallResult, call_result}
use Rattle.avm_call.specs.AskedFor.{AreAskedFor}
use Rattle.avm_call.specs.Replay.{outcome_on, changes_on}
use Rattle.avm_run.specs.Results.{CallRecord, IsResult, with_changes}
use Rattle.avm_run.specs.FinishedCalls.{IsCallOn, IsCallOnLedgers}
use Rattle.avm_laws.proofs.ReadCalls.{ends_alike, changes_what_it_read}

result_same : {r s : CallResult} → ◌≡◌ {A = Answer CallResult} (Ok r) (Ok s) → r ≡ s
result_same e = cc

on_ledger_by : (f : CallRecord) → AreAskedFor f.reads f.call f.header → (l : Ledger) → IsOrderly l → AgreesWithReads l f.reads → (a : Answer CallResult) → answer_from (value_in f.reads) (call_result f.call f.header) ≡ a
    → then (λ r. Ok (with_changes f.reads r)) a ≡ Ok (f.outcome, f.writes) → IsCallOn l f
on_ledger_by f asked l orderly agrees (Ok r) e is =
    let same : with_changes f.reads r ≡ (f.outcome, f.writes) = result_same is in
    let outcome : outcome_on l f.call f.header ≡ f.outcome = ap (λ (s : CallResult). s.0) (ends_alike l f.reads f.call f.header r orderly agrees e) ∙ ap (λ (s : CallResult). s.0) same in
    let changes : changes_on l f.call f.header ≡ f.writes = sym (changes_what_it_read l f.reads f.call f.header r orderly agrees asked e) ∙ ap (λ (s : CallResult). s.1) same in
    record { outcome = outcome; changes = changes; after = ap (put l) changes }
on_ledger_by f asked l orderly agrees (Err x) e is = absurd cc

-- a call that has ended ends so on each orderly ledger that agrees with what it read
pub on_ledgers : (f : CallRecord) → IsResult f.call f.header f.reads f.outcome f.writes → AreAskedFor f.reads f.call f.header → IsCallOnLedgers f
on_ledgers f is asked = λ l orderly agrees. on_ledger_by f asked l orderly agrees (answer_from (value_in f.reads) (call_result f.call f.header)) refl is
