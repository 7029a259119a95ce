-- That a call writes no item but those that it has asked for, and those of a new application: before its program, and after.
use Rattle.std.proofs.Common.{◌≡◌, ℕ, ◌+◌, ◌-◌, ◌^◌, Bool, true, false, cond, [], Option, None, Some, Result, Ok, Err, refl, sym, ap, ◌∙◌}
use Rattle.std.specs.Prelude.{◌==◌, ◌&&◌, ◌||◌, filter, is_some, not}
use Rattle.avm_ledger.specs.declared.application.Application.{Application}
use Rattle.avm_ledger.specs.declared.header.Header.{Header}
use Rattle.avm_states.specs.Schemas.{no_entries}
use Rattle.avm_ledger.specs.Ledgers.{Ledger, application_at}
use Rattle.avm_items.specs.declared.call_data.Completion.{Completion}
use Rattle.avm_items.specs.declared.call_data.Completion.TheVariants as completion
use Rattle.avm_items.specs.declared.call_data.CallData.{CallData}
use Rattle.avm_items.specs.declared.item.Item.{Item}
use Rattle.avm_items.specs.declared.item.Item.TheVariants as item
use Rattle.avm_items.specs.declared.item_value.ItemValue.{ItemValue}
use Rattle.avm_items.specs.declared.item_value.ItemValue.TheVariants as value
use Rattle.avm_items.specs.CallFields.{creates, clears, new_keys}
use Rattle.avm_items.specs.Items.{ItemMap, value_in, with_item, application_in, local_state_in, is_global_of}
use Rattle.avm_items.specs.LedgerItems.{at, row_value, counts_value}
use Rattle.avm_items.specs.Asks.{Gives, and_then}
use Rattle.avm_items.specs.Acts.{Act, done, on_ok, test, ◌>>=◌}
use Rattle.avm_ops.proofs.ActParts as part
use Rattle.avm_call.specs.declared.outcome.Ended.{Ended}
use Rattle.avm_call.specs.declared.outcome.Ended.TheVariants as ended
use Rattle.avm_call.specs.declared.outcome.Why.{Why}
use Rattle.avm_call.specs.declared.outcome.Why.TheVariants as why
use Rattle.avm_call.specs.declared.outcome.Cause.{Cause}
use Rattle.avm_call.specs.declared.outcome.Cause.TheVariants as cause
use Rattle.avm_call.specs.declared.outcome.Outcome.{Outcome}
use Rattle.avm_call.specs.declared.outcome.Outcome.TheVariants as outcome
use Rattle.avm_call.specs.Runs.{program_result}
use Rattle.avm_call.specs.Calls.{CallResult, Target, created, new_target, called_target, target, sender_item, is_opted_in, opt_in_test, admitted, new_application, prepared, execution, deleted, updated, cleared, ending, runs_on, goes_on, call_result, completed_by}
use Rattle.avm_laws.proofs.FollowedCalls.{OnTarget, kept_value, kept_only, old_fresh, new_fresh}
use Rattle.avm_laws.proofs.Accounted.{If, if-then, Accounted, accounted_with, none_accounted, result_accounted}

-- ---- before the program

-- what a call has asked for, where it isn't new
record Named (R : Item → Type 0) (l : Ledger) (call : CallData) (t : Target) : Type 0 where
  next : creates call ≡ true → R item.NextApp
  row : R (item.App t.id)
  id : creates call ≡ true → t.id ≡ l.next_id
  there : (is_some t.row || clears call.completion) ≡ true

abbrev SenderRead : (Item → Type 0) → Item → Completion → Type 0
SenderRead R x completion.OptIn = R x
SenderRead R x completion.CloseOut = R x
SenderRead R x completion.ClearState = R x
SenderRead R x _ = Unit {0}

abbrev Touched : (Item → Type 0) → Ledger → CallData → Target → Type 0
Touched R l call t = Named R l call t × SenderRead R (sender_item call t.id) call.completion

-- items of an application that isn't there are accounted for
abbrev Absents : (Item → Type 0) → Ledger → Type 0
Absents R l = (x : Item) → at l x ≡ value.Absent → R x

target_by : (l : Ledger) (R : Item → Type 0) → Absents R l → application_at l l.next_id ≡ None → (call : CallData) (b : Bool) → creates call ≡ b
    → If (at l) R (OnTarget (Named R l call)) (elim b [ true ↦ new_target call | false ↦ called_target call ])
target_by l R absent none call true new =
    λ r. part.then_test (If (at l) R (OnTarget (Named R l call))) (not (l.next_id == 2 ^ 64 - 1)) why.IdsEnd (λ _. done (record { id = l.next_id; row = Some (created call) })) tt
    (λ few. record { next = λ e. r; row = absent (item.App l.next_id) (ap row_value none); id = λ e. refl; there = refl })
target_by l R absent none call false old =
    λ r. part.then_test (If (at l) R (OnTarget (Named R l call))) (is_some (application_in (at l (item.App call.application))) || clears call.completion) why.NoApp
    (λ _. done (record { id = call.application; row = application_in (at l (item.App call.application)) })) tt
    (λ there. record { next = λ e. let no : true ≡ false = sym e ∙ old in absurd cc; row = r; id = λ e. let no : true ≡ false = sym e ∙ old in absurd cc; there = there })

abbrev Tested : (Item → Type 0) → Item → Completion → Result (Unit {0}) Why → Type 0
Tested R x c (Ok u) = SenderRead R x c
Tested R x c (Err w) = Unit {0}

test_any : (l : Ledger) (R : Item → Type 0) (P : Result (Unit {0}) Why → Type 0) (b : Bool) (w : Why) → P (Ok tt) → P (Err w) → If (at l) R P (test b w)
test_any l R P true w h g = h
test_any l R P false w h g = g

opt_in_by : (l : Ledger) (R : Item → Type 0) (call : CallData) (id : ℕ) (c : Completion) → If (at l) R (Tested R (sender_item call id) c) (elim c as (λ _. Act Why (Unit {0})) [
  | completion.OptIn ↦ is_opted_in call id >>= λ in_already. test (not in_already) why.AlreadyIn
  | completion.CloseOut ↦ is_opted_in call id >>= λ is_in. test is_in why.NotIn
  | completion.ClearState ↦ is_opted_in call id >>= λ is_in. test is_in why.NotIn
  | _ ↦ done tt
])
opt_in_by l R call id completion.NoOp = tt
opt_in_by l R call id completion.OptIn = λ r. test_any l R (Tested R (sender_item call id) completion.OptIn) (not (is_some (local_state_in (at l (sender_item call id))))) why.AlreadyIn r tt
opt_in_by l R call id completion.CloseOut = λ r. test_any l R (Tested R (sender_item call id) completion.CloseOut) (is_some (local_state_in (at l (sender_item call id)))) why.NotIn r tt
opt_in_by l R call id completion.ClearState = λ r. test_any l R (Tested R (sender_item call id) completion.ClearState) (is_some (local_state_in (at l (sender_item call id)))) why.NotIn r tt
opt_in_by l R call id completion.UpdateApplication = tt
opt_in_by l R call id completion.DeleteApplication = tt

admits : (l : Ledger) (R : Item → Type 0) (call : CallData) (r : Result Target Why) → OnTarget (Named R l call) r → If (at l) R (OnTarget (Touched R l call)) (on_ok (λ t. opt_in_test call t.id >>= λ _. done t) r)
admits l R call (Ok t) h =
    if-then (at l) R (Tested R (sender_item call t.id) call.completion) (OnTarget (Touched R l call)) (opt_in_test call t.id) (on_ok (λ _. done t)) (opt_in_by l R call t.id call.completion) after
  where
    after : (r : Result (Unit {0}) Why) → Tested R (sender_item call t.id) call.completion r → If (at l) R (OnTarget (Touched R l call)) (on_ok (λ _. done t) r)
    after (Ok u) g = (h, g)
    after (Err w) g = tt
admits l R call (Err w) h = tt

admitted_touches : (l : Ledger) (R : Item → Type 0) → Absents R l → application_at l l.next_id ≡ None → (call : CallData) → If (at l) R (OnTarget (Touched R l call)) (admitted call)
admitted_touches l R absent none call = if-then (at l) R (OnTarget (Named R l call)) (OnTarget (Touched R l call)) (target call) _ (target_by l R absent none call (creates call) refl) (admits l R call)

-- ---- what is prepared

opting_accounted : (R : Item → Type 0) (call : CallData) (id : ℕ) (w : ItemMap) → Accounted R w → (c : Completion) → SenderRead R (sender_item call id) c
    → Accounted R (elim c as (λ _. ItemMap) [ completion.OptIn ↦ with_item w (sender_item call id) (value.Local []) | _ ↦ w ])
opting_accounted R call id w all completion.NoOp h = all
opting_accounted R call id w all completion.OptIn h = accounted_with R w (sender_item call id) (value.Local []) all h
opting_accounted R call id w all completion.CloseOut h = all
opting_accounted R call id w all completion.ClearState h = all
opting_accounted R call id w all completion.UpdateApplication h = all
opting_accounted R call id w all completion.DeleteApplication h = all

creation_by : (l : Ledger) (R : Item → Type 0) → Absents R l → application_at l l.next_id ≡ None → (call : CallData) (t : Target) → Named R l call t → (b : Bool) → creates call ≡ b → Accounted R (cond b (new_application call t.id) [])
creation_by l R absent none call t n true new =
    let counts : at l (item.Counts t.id) ≡ value.Absent = ap (λ id. counts_value (application_at l id)) (n.id new) ∙ ap counts_value none in
    let one = with_item [] item.NextApp (value.NextApp (t.id + 1)) in
    accounted_with R (with_item one (item.App t.id) (value.App (created call))) (item.Counts t.id) (value.Counts no_entries)
    (accounted_with R one (item.App t.id) (value.App (created call)) (accounted_with R [] item.NextApp (value.NextApp (t.id + 1)) (none_accounted R) (n.next new)) n.row)
    (absent (item.Counts t.id) counts)
creation_by l R absent none call t n false old = none_accounted R

-- ---- what is known of a new application

absent_key : (call : CallData) (id : ℕ) (x : Item) (v : ItemValue) → new_keys call id x ≡ Some v → v ≡ value.Absent
absent_key call id item.NextApp v e = absurd cc
absent_key call id (item.App other) v e = absurd cc
absent_key call id (item.Counts other) v e = absurd cc
absent_key call id (item.Key other key) v e = by (creates call && (other == id)) e
  where
    by : (b : Bool) → cond b (Some value.Absent) None ≡ Some v → v ≡ value.Absent
    by true is = sym (cc)
    by false is = absurd cc
absent_key call id (item.Local who other) v e = absurd cc

fresh_by : (l : Ledger) (R : Item → Type 0) → Absents R l → application_at l l.next_id ≡ None → (call : CallData) (t : Target) → Named R l call t → (b : Bool) → creates call ≡ b → (x : Item) (v : ItemValue) → new_keys call t.id x ≡ Some v → R x
fresh_by l R absent none call t n true new x v e = absent x (new_fresh l call t.id new (ap (application_at l) (n.id new) ∙ none) x v e ∙ absent_key call t.id x v e)
fresh_by l R absent none call t n false old x v e = absent x (old_fresh l call t.id old x v e ∙ absent_key call t.id x v e)

-- ---- after the program

deleted_accounted : (R : Item → Type 0) (id : ℕ) (w : ItemMap) → Accounted R w → R (item.App id) → Accounted R (deleted id w)
deleted_accounted R id w all r =
    accounted_with R (filter (λ e. not (is_global_of id e.0)) w) (item.App id) value.Absent (λ x v there. all x v (kept_only (is_global_of id x) (value_in w x) v (sym (kept_value id w x) ∙ there)).1) r

completed_accounted : (R : Item → Type 0) (call : CallData) (id : ℕ) (row : Application) (w : ItemMap) → Accounted R w → R (item.App id) → (c : Completion) → SenderRead R (sender_item call id) c
    → Accounted R (completed_by c call id row w)
completed_accounted R call id row w all r completion.NoOp h = all
completed_accounted R call id row w all r completion.OptIn h = all
completed_accounted R call id row w all r completion.CloseOut h = accounted_with R w (sender_item call id) value.Absent all h
completed_accounted R call id row w all r completion.ClearState h = accounted_with R w (sender_item call id) value.Absent all h
completed_accounted R call id row w all r completion.UpdateApplication h = accounted_with R w (item.App id) (value.App (updated call row)) all r
completed_accounted R call id row w all r completion.DeleteApplication h = deleted_accounted R id w all r

clears_sender : (R : Item → Type 0) (x : Item) (c : Completion) → clears c ≡ true → SenderRead R x c → R x
clears_sender R x completion.ClearState e h = h
clears_sender R x completion.NoOp e h = absurd cc
clears_sender R x completion.OptIn e h = absurd cc
clears_sender R x completion.CloseOut e h = absurd cc
clears_sender R x completion.UpdateApplication e h = absurd cc
clears_sender R x completion.DeleteApplication e h = absurd cc

cleared_accounted : (R : Item → Type 0) (call : CallData) (id : ℕ) → SenderRead R (sender_item call id) call.completion → (c : Cause) (o : Outcome) (b : Bool) → clears call.completion ≡ b
    → Accounted R (cond {A = CallResult} b (cleared call id c) (o, [])).1
cleared_accounted R call id h c o true e = accounted_with R [] (sender_item call id) value.Absent (none_accounted R) (clears_sender R (sender_item call id) call.completion e h)
cleared_accounted R call id h c o false e = none_accounted R

ending_accounted : (R : Item → Type 0) (call : CallData) (id : ℕ) (row : Application) → R (item.App id) → SenderRead R (sender_item call id) call.completion → (end : ItemMap × Ended) → Accounted R end.0 → Accounted R (ending call id row end).1
ending_accounted R call id row r h (w, ended.Approved) all = completed_accounted R call id row w all r call.completion h
ending_accounted R call id row r h (w, ended.Rejected) all = cleared_accounted R call id h cause.Rejected outcome.Rejected (clears call.completion) refl
ending_accounted R call id row r h (w, ended.Faulted f place) all = cleared_accounted R call id h (cause.Faulted f place) (outcome.Faulted f place) (clears call.completion) refl

-- ---- the whole call

runs_on_accounted : (l : Ledger) (R : Item → Type 0) → Absents R l → application_at l l.next_id ≡ None → (call : CallData) (header : Header) (t : Target) → Touched R l call t → (row : Option Application) → t.row ≡ row
    → If (at l) R (λ r. Accounted R r.1) (runs_on call header t row)
runs_on_accounted l R absent none call header t h None is =
    let e : clears call.completion ≡ true = ap (λ o. is_some o || clears call.completion) (sym is) ∙ h.0.there in
    accounted_with R [] (sender_item call t.id) value.Absent (none_accounted R) (clears_sender R (sender_item call t.id) call.completion e h.1)
runs_on_accounted l R absent none call header t h (Some row) is =
    if-then (at l) R (λ end. Accounted R end.0) (λ r. Accounted R r.1) (program_result (execution call header t.id row) (prepared call t.id)) (λ end. Gives (ending call t.id row end))
    (result_accounted (at l) R (execution call header t.id row) (fresh_by l R absent none call t h.0 (creates call) refl) (prepared call t.id)
    (opting_accounted R call t.id (cond (creates call) (new_application call t.id) []) (creation_by l R absent none call t h.0 (creates call) refl) call.completion h.1))
    (ending_accounted R call t.id row h.0.row h.1)

goes_on_accounted : (l : Ledger) (R : Item → Type 0) → Absents R l → application_at l l.next_id ≡ None → (call : CallData) (header : Header) (r : Result Target Why) → OnTarget (Touched R l call) r → If (at l) R (λ r. Accounted R r.1) (goes_on call header r)
goes_on_accounted l R absent none call header (Ok t) h = runs_on_accounted l R absent none call header t h t.row refl
goes_on_accounted l R absent none call header (Err w) h = none_accounted R

-- Where R holds of each item that is asked for, and of those that are absent, it holds of each item written.
pub call_accounted : (l : Ledger) (R : Item → Type 0) → Absents R l → application_at l l.next_id ≡ None → (call : CallData) (header : Header) → If (at l) R (λ r. Accounted R r.1) (call_result call header)
call_accounted l R absent none call header =
    if-then (at l) R (OnTarget (Touched R l call)) (λ r. Accounted R r.1) (admitted call) (goes_on call header) (admitted_touches l R absent none call) (goes_on_accounted l R absent none call header)
