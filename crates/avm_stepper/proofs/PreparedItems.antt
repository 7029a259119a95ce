-- What is prepared for a program changes no item that the call doesn't know by itself.
use Rattle.std.proofs.Common.{◌≡◌, ℕ, Bool, true, false, eqb, cond, List, [], ◌∷◌, if◌then◌else◌, Option, None, Some, refl, sym, ap, ◌∙◌}
use Rattle.std.specs.Prelude.{◌&&◌, ◌+◌, All}
use Rattle.std.specs.Ordering.{is_eq}
use Rattle.std.specs.Map.{keys_of}
use Rattle.std.proofs.lemmas.Bool.{eqb-true}
use Rattle.std.proofs.lemmas.List.Elements.{All-head, All-nil, All-tail}
use Rattle.std.proofs.lemmas.Map.Views.{All-keys-insert_entry}
use Rattle.teal_value.specs.Choice.{or_else}
use Rattle.avm_ledger.specs.Ledgers.{Ledger}
use Rattle.avm_states.specs.Schemas.{no_entries}
use Rattle.avm_states.proofs.Maps.{lookup-inserted_other}
use Rattle.avm_items.specs.declared.call_data.Completion.{Completion}
use Rattle.avm_items.specs.declared.call_data.Completion.TheVariants as completion
use Rattle.avm_items.specs.declared.call_data.CallData.{CallData}
use Rattle.avm_items.specs.declared.item.Item.{Item}
use Rattle.avm_items.specs.declared.item.Item.TheVariants as item
use Rattle.avm_items.specs.declared.item_value.ItemValue.{ItemValue}
use Rattle.avm_items.specs.declared.item_value.ItemValue.TheVariants as value
use Rattle.avm_items.specs.CallFields.{creates, new_keys}
use Rattle.avm_items.specs.Items.{ItemMap, item_cmp, over, value_in, with_item}
use Rattle.avm_items.specs.LedgerItems.{at, put, put_one}
use Rattle.avm_items.specs.PutLaws.{changes_with}
use Rattle.avm_items.proofs.Puts.{item_total, keeps_others}
use Rattle.avm_call.specs.Calls.{created, new_application, prepared, sender_item}
use Rattle.avm_items.proofs.OneMore.{is_there}

abbrev Spares : Item → Item → Type 0
Spares y x = changes_with x y ≡ false

abbrev SparedBy : ItemMap → Item → Type 0
SparedBy items y = All (Spares y) (keys_of items)

first_apart : (b : Bool) (v : ItemValue) (o : Option ItemValue) → cond b (Some v) o ≡ None → (b ≡ false) × (o ≡ None)
first_apart true v o e = absurd cc
first_apart false v o e = (refl, e)

-- an item that isn't among those put
put_spares : (l : Ledger) (items : ItemMap) (y : Item) → value_in items y ≡ None → SparedBy items y → at (put l items) y ≡ at l y
put_spares l [] y none spared = refl
put_spares l (e ∷ es) y none spared =
    let apart = first_apart (is_eq (item_cmp y e.0)) e.1 (value_in es y) none in
    put_spares (put_one l e.0 e.1) es y apart.1 (All-tail (Spares y) e.0 (keys_of es) spared) ∙ keeps_others l e.0 y e.1 apart.0 (All-head (Spares y) e.0 (keys_of es) spared)

-- ---- what a creation and an opting in prepare

local_spares : (y : Item) (call : CallData) (id : ℕ) → Spares y (sender_item call id)
local_spares item.NextApp call id = refl
local_spares (item.App other) call id = refl
local_spares (item.Counts other) call id = refl
local_spares (item.Key other key) call id = refl
local_spares (item.Local who other) call id = refl

next_spares : (y : Item) → Spares y item.NextApp
next_spares item.NextApp = refl
next_spares (item.App other) = refl
next_spares (item.Counts other) = refl
next_spares (item.Key other key) = refl
next_spares (item.Local who other) = refl

counts_spares : (y : Item) (id : ℕ) → Spares y (item.Counts id)
counts_spares item.NextApp id = refl
counts_spares (item.App other) id = refl
counts_spares (item.Counts other) id = refl
counts_spares (item.Key other key) id = refl
counts_spares (item.Local who other) id = refl

creation_spares : (call : CallData) (id : ℕ) (y : Item) → Spares y (item.App id) → SparedBy (new_application call id) y
creation_spares call id y app =
    let next = value.NextApp (id + 1) in
    let row = value.App (created call) in
    All-keys-insert_entry item_cmp (item.Counts id) (value.Counts no_entries) (Spares y) (with_item (with_item [] item.NextApp next) (item.App id) row)
    (All-keys-insert_entry item_cmp (item.App id) row (Spares y) (with_item [] item.NextApp next)
    (All-keys-insert_entry item_cmp item.NextApp next (Spares y) [] (All-nil (Spares y)) (next_spares y)) app) (counts_spares y id)

abbrev opted : CallData → ℕ → ItemMap → Completion → ItemMap
opted call id writes c = elim c [
  | completion.OptIn ↦ with_item writes (sender_item call id) (value.Local [])
  | _ ↦ writes
]

opting_spares : (call : CallData) (id : ℕ) (writes : ItemMap) (y : Item) (c : Completion) → SparedBy writes y → SparedBy (opted call id writes c) y
opting_spares call id writes y completion.OptIn spared = All-keys-insert_entry item_cmp (sender_item call id) (value.Local []) (Spares y) writes spared (local_spares y call id)
opting_spares call id writes y completion.NoOp spared = spared
opting_spares call id writes y completion.CloseOut spared = spared
opting_spares call id writes y completion.ClearState spared = spared
opting_spares call id writes y completion.UpdateApplication spared = spared
opting_spares call id writes y completion.DeleteApplication spared = spared

abbrev before_counts : CallData → ℕ → ItemMap
before_counts call id = with_item (with_item [] item.NextApp (value.NextApp (id + 1))) (item.App id) (value.App (created call))

counts_there : (call : CallData) (id : ℕ) (c : Completion) → value_in (opted call id (new_application call id) c) (item.Counts id) ≡ Some (value.Counts no_entries)
counts_there call id completion.OptIn = lookup-inserted_other item_total (item.Counts id) (sender_item call id) (value.Local []) (new_application call id) refl ∙ is_there (before_counts call id) (item.Counts id) (value.Counts no_entries)
counts_there call id completion.NoOp = is_there (before_counts call id) (item.Counts id) (value.Counts no_entries)
counts_there call id completion.CloseOut = is_there (before_counts call id) (item.Counts id) (value.Counts no_entries)
counts_there call id completion.ClearState = is_there (before_counts call id) (item.Counts id) (value.Counts no_entries)
counts_there call id completion.UpdateApplication = is_there (before_counts call id) (item.Counts id) (value.Counts no_entries)
counts_there call id completion.DeleteApplication = is_there (before_counts call id) (item.Counts id) (value.Counts no_entries)

-- the keys and the counts of a new application are known
app_spares : (call : CallData) (id : ℕ) (y : Item) → value_in (opted call id (new_application call id) call.completion) y ≡ None → ((other : ℕ) (key : List ℕ) → y ≡ item.Key other key → eqb other id ≡ false) → Spares y (item.App id)
app_spares call id item.NextApp none keys = refl
app_spares call id (item.App other) none keys = refl
app_spares call id (item.Key other key) none keys = keys other key refl
app_spares call id (item.Local who other) none keys = refl
app_spares call id (item.Counts other) none keys = by (eqb other id) refl
  where
    by : (b : Bool) → eqb other id ≡ b → b ≡ false
    by false e = refl
    by true e =
        let both : None ≡ Some (value.Counts no_entries) = sym none ∙ ap (λ n. value_in (opted call id (new_application call id) call.completion) (item.Counts n)) (eqb-true other id e) ∙ counts_there call id call.completion in
        absurd cc

parts_none : (a b : Option ItemValue) → or_else a b ≡ None → (a ≡ None) × (b ≡ None)
parts_none (Some v) b e = absurd cc
parts_none None b e = (refl, e)

key_apart : (b : Bool) → (if b then Some value.Absent else None) ≡ None → b ≡ false
key_apart true e = absurd cc
key_apart false e = refl

spared_by : (call : CallData) (id : ℕ) (y : Item) (new : Bool) → creates call ≡ new → value_in (opted call id (if new then new_application call id else []) call.completion) y ≡ None → new_keys call id y ≡ None
    → SparedBy (opted call id (if new then new_application call id else []) call.completion) y
spared_by call id y false is none keys = opting_spares call id [] y call.completion (All-nil (Spares y))
spared_by call id y true is none keys =
    opting_spares call id (new_application call id) y call.completion (creation_spares call id y (app_spares call id y none (λ other key same. apart other key (ap (new_keys call id) (sym same) ∙ keys))))
  where
    apart : (other : ℕ) (key : List ℕ) → new_keys call id (item.Key other key) ≡ None → eqb other id ≡ false
    apart other key e = key_apart (eqb other id) (ap (λ b. if (b && eqb other id) then Some value.Absent else None) (sym is) ∙ e)

-- an item neither prepared nor known without a look keeps its value
pub prepared_alike : (l : Ledger) (call : CallData) (id : ℕ) (y : Item) → over (value_in (prepared call id)) (new_keys call id) y ≡ None → at (put l (prepared call id)) y ≡ at l y
prepared_alike l call id y e =
    let none = parts_none (value_in (prepared call id) y) (new_keys call id y) e in
    put_spares l (prepared call id) y none.0 (spared_by call id y (creates call) refl none.0 none.1)
