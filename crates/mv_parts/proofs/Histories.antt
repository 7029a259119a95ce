-- Finished calls as entries, and histories of calls as replays.
use Rattle.std.proofs.Common.{◌≡◌, ℕ, Bool, true, false, cond, List, [], ◌∷◌, Some, refl, sym, ap, ◌∙◌, subst}
use Rattle.std.specs.Prelude.{◌&&◌}
use Rattle.std.specs.Ordering.{is_eq}
use Rattle.avm_ledger.specs.Ledgers.{Ledger}
use Rattle.avm_ledger.specs.declared.header.Header.{Header}
use Rattle.avm_items.specs.declared.call_data.CallData.{CallData}
use Rattle.avm_items.specs.declared.item.Item.{Item}
use Rattle.avm_items.specs.declared.item_value.ItemValue.{ItemValue}
use Rattle.avm_items.specs.Items.{ItemMap, Look, item_cmp, value_in}
use Rattle.avm_items.specs.LedgerItems.{AgreesWithReads, put}
use Rattle.avm_call.specs.Calls.{CallResult}
use Rattle.avm_call.specs.Replay.{outcome_on, changes_on, ledger_after, replayed}
use Rattle.avm_run.specs.Results.{CallRecord, IsFinishedCall}
use Rattle.avm_laws.specs.LedgerLooks.{IsLookOf, IsOfLedger, was_given}
use Rattle.avm_run.proofs.FinishedCalls.{on_ledgers}
use Rattle.avm_laws.proofs.Given.{item_same}
use Rattle.mv_history.specs.History as history
use Rattle.mv_history.specs.History.{Agrees, Replays, lookup_after, state_after}
use Rattle.mv_parts.specs.CallHistory.{CallEntry, meaning_of, result_in, same_item}
use Rattle.mv_parts.specs.CallNumbers.{call_of}
use Rattle.mv_parts.specs.CallLaws.{AreCallsOf, IsReplayOf, entry_of}
use Rattle.mv_parts.specs.EntryWrites.{ledger_with}
use Rattle.mv_parts.proofs.LookupsAfter.{calls_leave_lookups}

-- ---- what was read of a look-up

found_by : (r : Item × ItemValue) (rs : ItemMap) (look : Look) (x : Item) (v : ItemValue) → look r.0 ≡ r.1 → (value_in rs x ≡ Some v → look x ≡ v) → (b : Bool) → is_eq (item_cmp x r.0) ≡ b → cond b (Some r.1) (value_in rs x) ≡ Some v → look x ≡ v
found_by r rs look x v here rest true tied is = let same : r.1 ≡ v = cc in ap look (item_same x r.0 tied) ∙ here ∙ same
found_by r rs look x v here rest false apart is = rest is

found_read : (reads : ItemMap) (look : Look) → Agrees reads look → (x : Item) (v : ItemValue) → value_in reads x ≡ Some v → look x ≡ v
found_read [] look agrees x v e = absurd cc
found_read (r ∷ rs) look agrees x v e = found_by r rs look x v agrees.0 (found_read rs look agrees.1 x v) (is_eq (item_cmp x r.0)) refl e

-- reads that agree with a look-up of a ledger agree with the ledger
pub reads_agree : (l : Ledger) (look : Look) (reads : ItemMap) → IsLookOf l look → Agrees reads look → AgreesWithReads l reads
reads_agree l look reads is agrees x v there stands = sym (is.same x (ap (λ b. b && was_given l x) stands)) ∙ found_read reads look agrees x v there

-- ---- a finished call over a look-up of a ledger

pub finished_calls_are_entries : (calls : List CallData) (f : CallRecord) (timestamp number : ℕ) → IsFinishedCall f → call_of calls number ≡ Some f.call
    → history.IsFinished same_item IsOfLedger (meaning_of f.header calls) (entry_of timestamp number f)
finished_calls_are_entries calls f timestamp number is numbered look (l, of) agrees =
    let over = on_ledgers f is.result is.asked l of.orderly (reads_agree l look f.reads of agrees) in
    let leaves = calls_leave_lookups l look f.call f.header of in (
      ap (result_in f.header look) numbered ∙ leaves.result ∙ (λ i. (over.outcome i, over.changes i)),
      (ledger_after l f.call f.header, subst (λ w. IsLookOf (ledger_after l f.call f.header) (lookup_after same_item w look)) over.changes leaves.after),
    )

-- ---- histories

pub histories_are_replays : (l : Ledger) (look : Look) (header : Header) (calls : List CallData) (es : List CallEntry) (made : List CallData) → IsLookOf l look → Replays same_item (meaning_of header calls) look es
    → AreCallsOf calls es made → IsReplayOf l look header calls es made
histories_are_replays l look header calls [] [] is replays are = record { ends = refl; after = is; puts = refl }
histories_are_replays l look header calls (e ∷ es) (c ∷ cs) is (here, later) (numbered, rest) =
    let leaves = calls_leave_lookups l look c header is in
    let given : (e.outcome, e.writes) ≡ (outcome_on l c header, changes_on l c header) = sym here ∙ ap (result_in header look) numbered ∙ leaves.result in
    let writes : e.writes ≡ changes_on l c header = ap (λ (r : CallResult). r.1) given in
    let next = histories_are_replays (ledger_after l c header) (lookup_after same_item e.writes look) header calls es cs
    (subst (λ w. IsLookOf (ledger_after l c header) (lookup_after same_item w look)) (sym writes) leaves.after) later rest in
    record {
      ends = λ i. sym (ap (λ (r : CallResult). r.0) given) i ∷ next.ends i;
      after = subst (λ (r : CallResult). IsLookOf (replayed (ledger_after l c header) header cs) (state_after same_item (meaning_of header calls) (lookup_after same_item r.1 look) es)) (sym here) next.after;
      puts = ap (λ w. ledger_with (put l w) es) writes ∙ next.puts;
    }
histories_are_replays l look header calls [] (c ∷ cs) is replays are = absurd are
histories_are_replays l look header calls (e ∷ es) [] is replays are = absurd are
