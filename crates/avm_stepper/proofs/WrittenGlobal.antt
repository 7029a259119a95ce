-- The global state of an application, in a ledger into which items are put.
use Rattle.std.proofs.Common.{◌≡◌, ℕ, ◌==◌, Bool, true, false, if◌then◌else◌, List, [], ◌∷◌, Option, None, Some, refl, sym, ap, ◌∙◌, eq-eqb}
use Rattle.std.specs.Prelude.{option_map, unwrap_or}
use Rattle.teal_value.specs.declared.value.Value.{Value}
use Rattle.std.specs.Ordering.{is_eq, nat_cmp}
use Rattle.std.proofs.lemmas.Bool.{eqb-true}
use Rattle.std.proofs.lemmas.Cmp.{nat_cmp_total}
use Rattle.avm_states.specs.Entries.{Entries, with_entry, without_entry}
use Rattle.avm_states.proofs.Maps.{lookup-removed}
use Rattle.avm_ledger.specs.declared.application.Application.{Application}
use Rattle.avm_ledger.specs.declared.application.StoredApplication.{StoredApplication}
use Rattle.avm_ledger.specs.Ledgers.{Ledger, IsInOrder, application_at, with_application, with_row, with_state, without_application}
use Rattle.avm_ledger.proofs.Changes.{set_application}
use Rattle.avm_items.specs.declared.item.Item.{Item}
use Rattle.avm_items.specs.declared.item.Item.TheVariants as item
use Rattle.avm_items.specs.declared.item_value.ItemValue.{ItemValue}
use Rattle.avm_items.specs.declared.item_value.ItemValue.TheVariants as value
use Rattle.avm_items.specs.Items.{ItemMap}
use Rattle.avm_items.specs.LedgerItems.{put, put_one}
use Rattle.avm_items.proofs.Puts.{ids_apart, other_application, other_without, stays_in_order}
use Rattle.avm_stepper.specs.Changes.{global_entries}
use Rattle.avm_stepper.specs.WrittenStates.{with_item_set, with_items_set, with_key_set, with_row_set}

-- the global state of an application, if it stands
abbrev pub state_at : Ledger → ℕ → Option Entries
state_at l id = option_map (λ app. app.state) (application_at l id)

-- a ledger is in order after puts
pub puts_in_order : (l : Ledger) (items : ItemMap) → IsInOrder l → IsInOrder (put l items)
puts_in_order l [] o = o
puts_in_order l (e ∷ es) o = puts_in_order (put_one l e.0 e.1) es (stays_in_order l e.0 e.1 o)

apart_from : (other id : ℕ) → (other == id) ≡ false → is_eq (nat_cmp id other) ≡ false
apart_from other id differs = ids_apart id other (λ e. let same : (other == id) ≡ true = eq-eqb other id (sym e) in cc)

row_keeps_state : (a : Option StoredApplication) (row : Application) → Some (with_row a row).state ≡ with_row_set (option_map (λ app. app.state) a) (value.App row)
row_keeps_state None row = refl
row_keeps_state (Some app) row = refl

row_set : (l : Ledger) (id other : ℕ) (row : Application) (b : Bool) → (other == id) ≡ b
    → state_at (with_application l other (with_row (application_at l other) row)) id ≡ (if b then with_row_set (state_at l id) (value.App row) else state_at l id)
row_set l id other row true same =
    let is : other ≡ id = eqb-true other id same in
    ap (λ n. state_at (with_application l n (with_row (application_at l n) row)) id) is
    ∙ ap (option_map (λ app. app.state)) (set_application l id (with_row (application_at l id) row))
    ∙ row_keeps_state (application_at l id) row
row_set l id other row false differs =
    ap (option_map (λ app. app.state)) (other_application l other id (with_row (application_at l other) row) (apart_from other id differs))

gone : (s : Option Entries) → None ≡ with_row_set s value.Absent
gone None = refl
gone (Some state) = refl

row_gone : (l : Ledger) (id other : ℕ) → IsInOrder l → (b : Bool) → (other == id) ≡ b
    → state_at (without_application l other) id ≡ (if b then with_row_set (state_at l id) value.Absent else state_at l id)
row_gone l id other o true same =
    ap (λ n. state_at (without_application l n) id) (eqb-true other id same)
    ∙ ap (option_map (λ app. app.state)) (lookup-removed nat_cmp_total id l.applications o.applications)
    ∙ gone (state_at l id)
row_gone l id other o false differs = ap (option_map (λ app. app.state)) (other_without l other id (apart_from other id differs))

-- a change of the state of an application that stands
abbrev changed : (Entries → Entries) → Option Entries → Option Entries
changed = option_map

state_changed_by : (l : Ledger) (id other : ℕ) (change : Entries → Entries) (a : Option StoredApplication) → application_at l other ≡ a → (b : Bool) → (other == id) ≡ b
    → state_at (with_state l other change a) id ≡ (if b then changed change (state_at l id) else state_at l id)
state_changed_by l id other change None is true same =
    let none : application_at l id ≡ None = ap (application_at l) (sym (eqb-true other id same)) ∙ is in
    ap (option_map (λ app. app.state)) none ∙ sym (ap (λ a. changed change (option_map (λ app. app.state) a)) none)
state_changed_by l id other change None is false differs = refl
state_changed_by l id other change (Some app) is true same =
    let e : other ≡ id = eqb-true other id same in
    let there : application_at l id ≡ Some app = ap (application_at l) (sym e) ∙ is in
    ap (λ n. state_at (with_application l n (record app { state = change app.state })) id) e
    ∙ ap (option_map (λ app. app.state)) (set_application l id (record app { state = change app.state }))
    ∙ sym (ap (λ a. changed change (option_map (λ app. app.state) a)) there)
state_changed_by l id other change (Some app) is false differs =
    ap (option_map (λ app. app.state)) (other_application l other id (record app { state = change app.state }) (apart_from other id differs))

key_given : (s : Option Entries) (key : List ℕ) (v : Value) → changed (λ state. with_entry state key v) s ≡ with_key_set s key (value.Key v)
key_given None key v = refl
key_given (Some state) key v = refl

key_taken : (s : Option Entries) (key : List ℕ) → changed (λ state. without_entry state key) s ≡ with_key_set s key value.Absent
key_taken None key = refl
key_taken (Some state) key = refl

-- a value of another kind sets nothing
kept : (b : Bool) (s t : Option Entries) → s ≡ t → s ≡ (if b then t else s)
kept true s t e = e
kept false s t e = refl

-- setting an item in the ledger sets it in the application's global state
pub state_put_one : (l : Ledger) (id : ℕ) (x : Item) (v : ItemValue) → IsInOrder l → state_at (put_one l x v) id ≡ with_item_set id (state_at l id) x v
state_put_one l id (item.App other) (value.App row) o = row_set l id other row (other == id) refl
state_put_one l id (item.App other) value.Absent o = row_gone l id other o (other == id) refl
state_put_one l id (item.App other) v o = kept (other == id) (state_at l id) (with_row_set (state_at l id) v) (ignored (state_at l id))
  where
    ignored : (s : Option Entries) → s ≡ with_row_set s v
    ignored None = refl
    ignored (Some state) = refl
state_put_one l id (item.Key other key) (value.Key v) o =
    state_changed_by l id other (λ state. with_entry state key v) (application_at l other) refl (other == id) refl
    ∙ ap (λ s. if other == id then s else state_at l id) (key_given (state_at l id) key v)
state_put_one l id (item.Key other key) value.Absent o =
    state_changed_by l id other (λ state. without_entry state key) (application_at l other) refl (other == id) refl
    ∙ ap (λ s. if other == id then s else state_at l id) (key_taken (state_at l id) key)
state_put_one l id (item.Key other key) v o = kept (other == id) (state_at l id) (with_key_set (state_at l id) key v) (ignored (state_at l id))
  where
    ignored : (s : Option Entries) → s ≡ with_key_set s key v
    ignored None = refl
    ignored (Some state) = refl
state_put_one l id item.NextApp (value.NextApp next) o = refl
state_put_one l id item.NextApp v o = refl
state_put_one l id (item.Local who other) (value.Local state) o = refl
state_put_one l id (item.Local who other) value.Absent o = refl
state_put_one l id x v o = refl

-- the global state of an application after puts is its state of before with the items set
pub state_put : (l : Ledger) (id : ℕ) (items : ItemMap) → IsInOrder l → state_at (put l items) id ≡ with_items_set id (state_at l id) items
state_put l id [] o = refl
state_put l id (e ∷ es) o =
    state_put (put_one l e.0 e.1) id es (stays_in_order l e.0 e.1 o) ∙ ap (λ s. with_items_set id s es) (state_put_one l id e.0 e.1 o)

-- an application that doesn't stand has no entries
pub entries_of : (a : Option StoredApplication) → global_entries a ≡ unwrap_or (option_map (λ app. app.state) a) []
entries_of None = refl
entries_of (Some app) = refl
