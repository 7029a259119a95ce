-- What a run knows of an item is the value that the ledger with its own writes has.
use Rattle.std.proofs.Common.{◌≡◌, ℕ, false, Option, None, Some, Ok, refl, sym, ap, ◌∙◌, subst}
use Rattle.std.specs.Prelude.{is_none, unwrap_or}
use Rattle.teal_value.specs.Choice.{or_else}
use Rattle.avm_ledger.specs.Ledgers.{IsOrderly, Ledger, application_at}
use Rattle.avm_items.specs.declared.item.Item.{Item}
use Rattle.avm_items.specs.declared.item.Item.TheVariants as item
use Rattle.avm_items.specs.declared.item_value.ItemValue.{ItemValue}
use Rattle.avm_items.specs.declared.item_value.ItemValue.TheVariants as value
use Rattle.avm_items.specs.CallFields.{creates, new_keys}
use Rattle.avm_items.specs.Items.{value_in, over}
use Rattle.avm_items.specs.Environments.{Environment, known_to}
use Rattle.avm_items.specs.LedgerItems.{at, put, is_of_gone, AgreesWithReads}
use Rattle.avm_items.specs.Asks.{result_over}
use Rattle.avm_call.specs.Runs.{path}
use Rattle.avm_call.specs.Calls.{Target, admitted, prepared, execution}
use Rattle.avm_laws.specs.KnownValues.{IsOfRun, KnowsRow, MayBeLookedAt}
use Rattle.avm_ops.proofs.Questions.{along-asked}
use Rattle.avm_ops.proofs.WrittenItems.{IsThere}
use Rattle.avm_laws.proofs.Following.{Follows}
use Rattle.avm_laws.proofs.FollowedRuns.{Stands, known_has, row_stands}
use Rattle.avm_laws.proofs.FollowedCalls.{IsTarget, OnTarget, admitted_is}
use Rattle.avm_laws.proofs.CallChanges.{Any, AnyAt, all_kept, path_stands, put_followed, written_over}
use Rattle.avm_laws.proofs.ReadCalls.{alike}

-- ---- the run over the ledger is the run over what it read

-- the ledger before with the run's own writes put into it
pub record OverLedger (l : Ledger) (e : Environment) : Type 0 where
  pub ledger : Ledger
  pub follows : Follows (new_keys e.call e.current) l e.writes ledger
  pub is : put l e.writes ≡ ledger

over_ledger : (l : Ledger) (e : Environment) → IsOrderly l → AgreesWithReads l e.reads → IsOfRun e → OverLedger l e
over_ledger l e orderly agrees run =
    let known = value_in e.reads in
    let t : Target = record { id = e.current; row = Some run.row } in
    let program = execution e.call e.header e.current run.row in
    let begins = path program (prepared e.call e.current) run.steps in
    let admits : result_over (at l) (admitted e.call) ≡ Ok t =
    (alike l known (admitted e.call) (Ok t) agrees (along-asked (at l) (IsThere l) (OnTarget (IsTarget l e.call (creates e.call))) (admitted e.call) (admitted_is l e.call)) run.admits).result in
    let there = path_stands l e.call e.header t run.row run.steps Any AnyAt (all_kept e.call e.header) orderly tt admits refl in
    let comes : result_over (at l) begins ≡ run.reached =
    (alike l known begins run.reached agrees (along-asked (at l) (IsThere l) (λ end. Stands program run.row l AnyAt end.0) begins there) run.comes).result in
    let o = written_over l e.call e.header t run.row run.steps Any AnyAt (all_kept e.call e.header) orderly tt admits refl in
    let writes = ap (λ end. end.0.writes) comes ∙ sym run.writes in
    let follows : Follows (new_keys e.call e.current) l e.writes o.ledger = subst (λ w. Follows (new_keys e.call e.current) l w o.ledger) writes o.follows in
    record { ledger = o.ledger; follows = follows; is = put_followed (new_keys e.call e.current) l e.writes o.ledger orderly follows }

-- ---- what is known

value_same : {u v : ItemValue} → Some u ≡ Some v → u ≡ v
value_same e = cc

known_by : (l m : Ledger) (x : Item) (v : ItemValue) (own read : Option ItemValue) → at m x ≡ unwrap_or own (at l x) → (own ≡ None → read ≡ Some v → at l x ≡ v) → or_else own read ≡ Some v → at m x ≡ v
known_by l m x v (Some u) read has reads is = has ∙ value_same is
known_by l m x v None read has reads is = has ∙ reads refl is

known_there : (l : Ledger) (e : Environment) (o : OverLedger l e) → AgreesWithReads l e.reads → (x : Item) (v : ItemValue) → is_of_gone o.ledger x ≡ false → known_to e x ≡ Some v → at o.ledger x ≡ v
known_there l e o agrees x v stands is =
    known_by l o.ledger x v (over (value_in e.writes) (new_keys e.call e.current) x) (value_in e.reads x) (known_has (new_keys e.call e.current) l e.writes o.ledger o.follows x)
    (λ none read. agrees x v read (o.follows.asked x none stands)) is

row_known : (l : Ledger) (e : Environment) (o : OverLedger l e) → AgreesWithReads l e.reads → (id : ℕ) → KnowsRow (known_to e) id → is_none (application_at o.ledger id) ≡ false
row_known l e o agrees id (row, is) = row_stands (application_at o.ledger id) row (known_there l e o agrees (item.App id) (value.App row) refl is)

looked_at : (l : Ledger) (e : Environment) (o : OverLedger l e) → AgreesWithReads l e.reads → (x : Item) → MayBeLookedAt (known_to e) x → is_of_gone o.ledger x ≡ false
looked_at l e o agrees item.NextApp h = refl
looked_at l e o agrees (item.App id) h = refl
looked_at l e o agrees (item.Counts id) h = row_known l e o agrees id h
looked_at l e o agrees (item.Key id key) h = row_known l e o agrees id h
looked_at l e o agrees (item.Local who id) h = refl

pub knows_the_ledger : (l : Ledger) (e : Environment) (x : Item) (v : ItemValue) → IsOrderly l → AgreesWithReads l e.reads → IsOfRun e → known_to e x ≡ Some v → MayBeLookedAt (known_to e) x → at (put l e.writes) x ≡ v
knows_the_ledger l e x v orderly agrees run is may =
    let o = over_ledger l e orderly agrees run in
    ap (λ m. at m x) o.is ∙ known_there l e o agrees x v (looked_at l e o agrees x may) is
