-- What a call that has ended gives over more than its reads, and on ledgers.
use Rattle.std.proofs.Common.{◌≡◌, Ok, Err, refl, ap, ◌∙◌}
use Rattle.avm_items.specs.Items.{Known, Look, value_in}
use Rattle.avm_items.specs.Asks.{Answer, answer_from, result_over}
use Rattle.avm_items.specs.Locality.{LookAgrees, Extends, then}
use Rattle.avm_items.proofs.Questions.{result_with_more, result_on_ledger}
use Rattle.avm_call.specs.Calls.{CallResult, call_result}
use Rattle.avm_run.specs.Results.{CallRecord, IsResult, ResultOverMore, ResultOnLedgers, with_changes}

over_more_by : (f : CallRecord) (known : Known) → Extends (value_in f.reads) known → (a : Answer CallResult) → answer_from (value_in f.reads) (call_result f.call f.header) ≡ a → then (λ r. Ok (with_changes f.reads r)) a ≡ Ok (f.outcome, f.writes)
    → then (λ r. Ok (with_changes f.reads r)) (answer_from known (call_result f.call f.header)) ≡ Ok (f.outcome, f.writes)
over_more_by f known w (Ok r) e h = ap (then (λ t. Ok (with_changes f.reads t))) (result_with_more (value_in f.reads) known w (call_result f.call f.header) r e) ∙ h
over_more_by f known w (Err x) e h = absurd cc

-- a call that has ended gives the same over more items
pub over_more : (f : CallRecord) → IsResult f.call f.header f.reads f.outcome f.writes → ResultOverMore f
over_more f h = λ known w. over_more_by f known w (answer_from (value_in f.reads) (call_result f.call f.header)) refl h

on_ledgers_by : (f : CallRecord) (look : Look) → LookAgrees (value_in f.reads) look → (a : Answer CallResult) → answer_from (value_in f.reads) (call_result f.call f.header) ≡ a → then (λ r. Ok (with_changes f.reads r)) a ≡ Ok (f.outcome, f.writes)
    → with_changes f.reads (result_over look (call_result f.call f.header)) ≡ (f.outcome, f.writes)
on_ledgers_by f look w (Ok r) e h =
    let same : with_changes f.reads r ≡ (f.outcome, f.writes) = cc in
    ap (with_changes f.reads) (result_on_ledger (value_in f.reads) look (call_result f.call f.header) r w e) ∙ same
on_ledgers_by f look w (Err x) e h = absurd cc

-- a call that has ended gives the same on each ledger that has what it read
pub on_ledgers : (f : CallRecord) → IsResult f.call f.header f.reads f.outcome f.writes → ResultOnLedgers f
on_ledgers f h = λ look w. on_ledgers_by f look w (answer_from (value_in f.reads) (call_result f.call f.header)) refl h
