-- What a call writes that isn't approved.
use Rattle.std.proofs.Common.{◌≡◌, ◌≢◌, ℕ, ◌-◌, ◌^◌, ◌==◌, Bool, IsTrue, true, false, cond, not, ◌||◌, [], ◌∷◌, Option, Some, None, is_some, Result, Ok, Err, refl, sym, subst, ◌∙◌}
use Rattle.avm_ledger.specs.declared.application.Application.{Application}
use Rattle.avm_ledger.specs.declared.header.Header.{Header}
use Rattle.avm_ledger.specs.Ledgers.{Ledger}
use Rattle.avm_ledger.specs.LedgerRules.{KeepsRules}
use Rattle.avm_items.specs.declared.call_data.Completion.{Completion}
use Rattle.avm_items.specs.declared.call_data.Completion.TheVariants as completion
use Rattle.avm_items.specs.declared.call_data.CallData.{CallData}
use Rattle.avm_items.specs.declared.item.Item.{Item}
use Rattle.avm_items.specs.declared.item.Item.TheVariants as item
use Rattle.avm_items.specs.declared.item_value.ItemValue.{ItemValue}
use Rattle.avm_items.specs.declared.item_value.ItemValue.TheVariants as value
use Rattle.avm_items.specs.CallFields.{creates, clears}
use Rattle.avm_items.specs.Items.{ItemMap, Look, next_id_in, application_in, local_state_in}
use Rattle.avm_items.specs.Asks.{Gives, and_then, result_over}
use Rattle.avm_items.specs.Acts.{Act, done, on_ok, test, ◌>>=◌}
use Rattle.avm_items.specs.SameValues.{is_same_value}
use Rattle.avm_items.specs.LedgerItems.{at, put, pruned}
use Rattle.avm_items.proofs.Questions.{result_over-and_then}
use Rattle.avm_items.proofs.RulesKept.{rules_stay}
use Rattle.avm_call.specs.declared.outcome.Ended.{Ended}
use Rattle.avm_call.specs.declared.outcome.Ended.TheVariants as ended
use Rattle.avm_call.specs.declared.outcome.Why.{Why}
use Rattle.avm_call.specs.declared.outcome.Why.TheVariants as why
use Rattle.avm_call.specs.declared.outcome.Cause.{Cause}
use Rattle.avm_call.specs.declared.outcome.Cause.TheVariants as cause
use Rattle.avm_call.specs.declared.outcome.Outcome.{Outcome}
use Rattle.avm_call.specs.declared.outcome.Outcome.TheVariants as outcome
use Rattle.avm_call.specs.Runs.{program_result}
use Rattle.avm_call.specs.Calls.{CallResult, Target, created, new_target, called_target, target, sender_item, is_opted_in, opt_in_test, admitted, prepared, execution, cleared, ending, runs, runs_on, goes_on, call_result}
use Rattle.avm_call.specs.Replay.{outcome_on}
use Rattle.avm_call.specs.RuleLaws.{application_of, writes_unapproved, may_end_so, UnapprovedWritesLittle, EndsByCompletion, UnapprovedChangesLittle, UnapprovedKeepsRules}

-- ---- the application of an admitted call

-- said of what passes a test
abbrev Passes : {A : Type 0} → (A → Type 0) → Result A Why → Type 0
Passes P (Ok a) = P a
Passes P (Err w) = Unit {0}

-- A creation has the next id, and only a call that clears may find its application gone.
record IsTarget (look : Look) (call : CallData) (makes : Bool) (t : Target) : Type 0 where
  id : t.id ≡ cond makes (next_id_in (look item.NextApp)) call.application
  gone : t.row ≡ None → clears call.completion ≡ true

-- Who clears is in.
abbrev IsIn : Look → CallData → Completion → ℕ → Type 0
IsIn look call c id = clears c ≡ true → is_some (local_state_in (look (sender_item call id))) ≡ true

record IsAdmitted (look : Look) (call : CallData) (t : Target) : Type 0 where
  own : IsTarget look call (creates call) t
  there : IsIn look call call.completion t.id

tested : (P : Target → Type 0) (look : Look) (b : Bool) (w : Why) (t : Target) → (b ≡ true → P t) → Passes P (result_over look (and_then (test b w) (on_ok (λ _. done t))))
tested P look true w t h = h refl
tested P look false w t h = tt

gone_clears : (row : Option Application) (b : Bool) → (is_some row || b) ≡ true → row ≡ None → b ≡ true
gone_clears None b h none = h
gone_clears (Some row) b h none = cc

target_is : (look : Look) (call : CallData) (b : Bool) → Passes (IsTarget look call b) (result_over look (elim b [ true ↦ new_target call | false ↦ called_target call ]))
target_is look call true =
    let id = next_id_in (look item.NextApp) in
    tested (IsTarget look call true) look (not (id == 2 ^ 64 - 1)) why.IdsEnd (record { id = id; row = Some (created call) }) (λ h. record { id = refl; gone = λ none. cc })
target_is look call false =
    let row = application_in (look (item.App call.application)) in
    tested (IsTarget look call false) look (is_some row || clears call.completion) why.NoApp (record { id = call.application; row = row })
    (λ h. record { id = refl; gone = gone_clears row (clears call.completion) h })

passed : (P : Type 0) (look : Look) (b : Bool) (w : Why) → (b ≡ true → P) → Passes {A = Unit {0}} (λ _. P) (result_over look (test b w))
passed P look true w h = h refl
passed P look false w h = tt

is_in_by : (look : Look) (call : CallData) (id : ℕ) (c : Completion) → Passes {A = Unit {0}} (λ _. IsIn look call c id) (result_over look (elim c as (λ _. Act Why (Unit {0})) [
  | completion.OptIn ↦ is_opted_in call id >>= λ in_already. test (not in_already) why.AlreadyIn
  | completion.CloseOut ↦ is_opted_in call id >>= λ is_in. test is_in why.NotIn
  | completion.ClearState ↦ is_opted_in call id >>= λ is_in. test is_in why.NotIn
  | _ ↦ done tt
]))
is_in_by look call id completion.NoOp = λ h. cc
is_in_by look call id completion.OptIn = passed (IsIn look call completion.OptIn id) look (not (is_some (local_state_in (look (sender_item call id))))) why.AlreadyIn (λ _ h. cc)
is_in_by look call id completion.CloseOut = passed (IsIn look call completion.CloseOut id) look (is_some (local_state_in (look (sender_item call id)))) why.NotIn (λ _ h. cc)
is_in_by look call id completion.ClearState = passed (IsIn look call completion.ClearState id) look (is_some (local_state_in (look (sender_item call id)))) why.NotIn (λ b _. b)
is_in_by look call id completion.UpdateApplication = λ h. cc
is_in_by look call id completion.DeleteApplication = λ h. cc

admits : (look : Look) (call : CallData) (t : Target) → IsTarget look call (creates call) t → (r : Result (Unit {0}) Why) → Passes {A = Unit {0}} (λ _. IsIn look call call.completion t.id) r
    → Passes (IsAdmitted look call) (result_over look (on_ok (λ _. done t) r))
admits look call t own (Ok u) h = record { own = own; there = h }
admits look call t own (Err w) h = tt

admitted_from : (look : Look) (call : CallData) (r : Result Target Why) → Passes (IsTarget look call (creates call)) r
    → Passes (IsAdmitted look call) (result_over look (on_ok (λ t. and_then (opt_in_test call t.id) (on_ok (λ _. done t))) r))
admitted_from look call (Ok t) own =
    subst (Passes (IsAdmitted look call)) (sym (result_over-and_then look (opt_in_test call t.id) (on_ok (λ _. done t))))
    (admits look call t own (result_over look (opt_in_test call t.id)) (is_in_by look call t.id call.completion))
admitted_from look call (Err w) own = tt

is_admitted : (look : Look) (call : CallData) → Passes (IsAdmitted look call) (result_over look (admitted call))
is_admitted look call =
    subst (Passes (IsAdmitted look call)) (sym (result_over-and_then look (target call) _)) (admitted_from look call (result_over look (target call)) (target_is look call (creates call)))

-- ---- the end of a call

-- what is said of a result: its writes where it isn't approved, that each of them changes something, and its kind
record IsLittle (look : Look) (call : CallData) (r : CallResult) : Type 0 where
  writes : r.0 ≢ outcome.Approved → r.1 ≡ writes_unapproved look call r.0
  changes : r.0 ≢ outcome.Approved → pruned look r.1 ≡ r.1
  kind : IsTrue (may_end_so (clears call.completion) r.0)

pruned-removal : (v : ItemValue) (x : Item) → is_some (local_state_in v) ≡ true → cond {A = ItemMap} (not (is_same_value v value.Absent)) ((x, value.Absent) ∷ []) [] ≡ (x, value.Absent) ∷ []
pruned-removal (value.Local state) x h = refl
pruned-removal value.Absent x h = cc
pruned-removal (value.NextApp id) x h = cc
pruned-removal (value.App row) x h = cc
pruned-removal (value.Counts n) x h = cc
pruned-removal (value.Key v) x h = cc

-- a call that clears removes the local state,
cleared_little : (look : Look) (call : CallData) (t : Target) → IsAdmitted look call t → (c : Cause) → clears call.completion ≡ true → IsLittle look call (cleared call t.id c)
cleared_little look call t is c clear = record {
  writes = λ _. rw (clear, is.own.id) refl;
  changes = λ _. pruned-removal (look (sender_item call t.id)) (sender_item call t.id) (is.there clear);
  kind = clear;
}

-- and another writes nothing
abbrev EndsOtherwise : Look → CallData → Outcome → Type 0
EndsOtherwise look call o = clears call.completion ≡ false → IsLittle look call (o, [])

unless_cleared : (look : Look) (call : CallData) (t : Target) → IsAdmitted look call t → (c : Cause) (o : Outcome) → EndsOtherwise look call o
    → (b : Bool) → clears call.completion ≡ b → IsLittle look call (cond {A = CallResult} b (cleared call t.id c) (o, []))
unless_cleared look call t is c o other true clear = cleared_little look call t is c clear
unless_cleared look call t is c o other false clear = other clear

ending_little : (look : Look) (call : CallData) (t : Target) → IsAdmitted look call t → (row : Application) (writes : ItemMap) (end : Ended) → IsLittle look call (ending call t.id row (writes, end))
ending_little look call t is row writes ended.Approved = record { writes = λ other. absurd (other refl); changes = λ other. absurd (other refl); kind = refl }
ending_little look call t is row writes ended.Rejected =
    unless_cleared look call t is cause.Rejected outcome.Rejected (λ clear. record { writes = λ _. rw clear refl; changes = λ _. refl; kind = rw clear refl }) (clears call.completion) refl
ending_little look call t is row writes (ended.Faulted f place) =
    unless_cleared look call t is (cause.Faulted f place) (outcome.Faulted f place) (λ clear. record { writes = λ _. rw clear refl; changes = λ _. refl; kind = rw clear refl }) (clears call.completion) refl

runs_little : (look : Look) (call : CallData) (header : Header) (t : Target) → IsAdmitted look call t → (row : Application) → IsLittle look call (result_over look (runs call header t.id row))
runs_little look call header t is row =
    let end = result_over look (program_result (execution call header t.id row) (prepared call t.id)) in
    subst (IsLittle look call) (sym (result_over-and_then look (program_result (execution call header t.id row) (prepared call t.id)) (λ e. Gives (ending call t.id row e))))
    (ending_little look call t is row end.0 end.1)

runs_on_little : (look : Look) (call : CallData) (header : Header) (t : Target) → IsAdmitted look call t → (row : Option Application) → t.row ≡ row → IsLittle look call (result_over look (runs_on call header t row))
runs_on_little look call header t is None gone = cleared_little look call t is cause.Gone (is.own.gone gone)
runs_on_little look call header t is (Some row) there = runs_little look call header t is row

goes_on_little : (look : Look) (call : CallData) (header : Header) (r : Result Target Why) → Passes (IsAdmitted look call) r → IsLittle look call (result_over look (goes_on call header r))
goes_on_little look call header (Ok t) is = runs_on_little look call header t is t.row refl
goes_on_little look call header (Err w) is = record { writes = λ _. refl; changes = λ _. refl; kind = refl }

call_little : (look : Look) (call : CallData) (header : Header) → IsLittle look call (result_over look (call_result call header))
call_little look call header =
    subst (IsLittle look call) (sym (result_over-and_then look (admitted call) (goes_on call header)))
    (goes_on_little look call header (result_over look (admitted call)) (is_admitted look call))

-- a call that isn't approved writes nothing but the removal of a local state that it clears
pub unapproved_writes : UnapprovedWritesLittle
unapproved_writes look call header = (call_little look call header).writes

-- a call that clears is never rejected or faulted, and another is never cleared anyway
pub ends_by_completion : EndsByCompletion
ends_by_completion look call header = (call_little look call header).kind

-- the changes on a ledger of a call that isn't approved are what it writes
pub unapproved_changes : UnapprovedChangesLittle
unapproved_changes l call header other = (call_little (at l) call header).changes other ∙ (call_little (at l) call header).writes other

-- ---- the rules of the ledger after it

writes_keep : (l : Ledger) (call : CallData) (o : Outcome) → KeepsRules l → KeepsRules (put l (writes_unapproved (at l) call o))
writes_keep l call (outcome.Refused w) keeps = keeps
writes_keep l call o keeps = at_kind (clears call.completion)
  where
    at_kind : (b : Bool) → KeepsRules (put l (cond b ((sender_item call (application_of (at l) call), value.Absent) ∷ []) []))
    at_kind true = rules_stay l (sender_item call (application_of (at l) call)) value.Absent keeps tt
    at_kind false = keeps

-- after a call that isn't approved, a ledger that kept its rules still keeps them
pub unapproved_keeps : UnapprovedKeepsRules
unapproved_keeps l call header keeps other =
    subst (λ w. KeepsRules (put l w)) (sym (unapproved_changes l call header other)) (writes_keep l call (outcome_on l call header) keeps)
