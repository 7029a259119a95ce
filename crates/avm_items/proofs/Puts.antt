-- The laws of setting and reading the items of a ledger, by the laws of finite maps.
use Rattle.std.proofs.Common.{◌≡◌, ℕ, ◌==◌, Bool, true, false, List, [], ◌∷◌, ◌++◌, Option, None, Some, refl, sym, ap, ◌∙◌, subst, cond, eq-eqb}
use Rattle.std.specs.Prelude.{is_none}
use Rattle.std.specs.Ordering.{is_eq, nat_cmp}
use Rattle.std.specs.declared.cmp.Ordering.TheVariants.{Less, Equal}
use Rattle.std.specs.Cmp.{IsTotalOrder, on_total, tied_itself}
use Rattle.std.proofs.lemmas.Cmp.{nat_cmp_total, nat_list_cmp_total}
use Rattle.std.specs.FinMap.{nat_cmp-IsAntisymmetric}
use Rattle.std.specs.Map.{lookup, keys_of}
use Rattle.std.specs.BTreeMap.{is_at}
use Rattle.std.specs.List.Sorted.{IsStrictlySortedBy}
use Rattle.teal_value.specs.declared.address.Address.{Address}
use Rattle.teal_value.specs.declared.value.Value.{Value}
use Rattle.avm_ledger.specs.declared.application.Application.{Application}
use Rattle.avm_states.specs.Entries.{Entries, byte_cmp, value_of_key, with_entry, without_entry, IsInKeyOrder}
use Rattle.avm_ledger.specs.declared.application.StoredApplication.{StoredApplication}
use Rattle.avm_ledger.specs.Ledgers.{Ledger, account_cmp, application_at, with_application, without_application, local_state_at, with_local_state, without_local_state, with_row, with_state, IsInOrder}
use Rattle.avm_states.proofs.KeyOrder.{byte_total, byte_same}
use Rattle.avm_ledger.proofs.Changes.{account_total, account_same, address_is, set_application, with_application_in_order, without_application_in_order}
use Rattle.avm_states.proofs.Maps.{lookup-inserted, lookup-inserted_other, lookup-removed, lookup-removed_other, is_Equal, above_tied, below_none, sorted-inserted, sorted-removed, same_map}
use Rattle.avm_items.specs.declared.item.Item.{Item}
use Rattle.avm_items.specs.declared.item.Item.TheVariants as item
use Rattle.avm_items.specs.declared.item_value.ItemValue.{ItemValue}
use Rattle.avm_items.specs.declared.item_value.ItemValue.TheVariants as value
use Rattle.avm_items.specs.Items.{item_cmp, sort_key, key_value}
use Rattle.avm_items.specs.LedgerItems.{at, put_one, row_value, counts_value, entry_value, local_value}
use Rattle.std.specs.Prelude.{length, unwrap_or}
use Rattle.std.specs.List.{AllByRecursion}
use Rattle.std.proofs.Common.{arith, length-append}
use Rattle.std.proofs.lemmas.Bool.{or_parts}
use Rattle.avm_items.specs.Items.{ItemMap, value_in}
use Rattle.avm_items.specs.LedgerItems.{put}
use Rattle.avm_items.specs.PutLaws.{MaySet, changes_with, is_counts, deletes, is_deleted_by, MayPut, MayPutAll}

-- ---- what was put is there

set_key : (l : Ledger) (id : ℕ) (key : List ℕ) (v : Value) (a : Option StoredApplication) → application_at l id ≡ a → is_none a ≡ false → at (with_state l id (λ s. with_entry s key v) a) (item.Key id key) ≡ value.Key v
set_key l id key v None e stands = absurd cc
set_key l id key v (Some app) e stands =
    ap (λ a. entry_value a key) (set_application l id (record app { state = with_entry app.state key v }))
    ∙ ap key_value (lookup-inserted byte_total key v app.state)

unset_key : (l : Ledger) (id : ℕ) (key : List ℕ) → IsInOrder l → (a : Option StoredApplication) → application_at l id ≡ a → is_none a ≡ false → at (with_state l id (λ s. without_entry s key) a) (item.Key id key) ≡ value.Absent
unset_key l id key o None e stands = absurd cc
unset_key l id key o (Some app) e stands =
    ap (λ a. entry_value a key) (set_application l id (record app { state = without_entry app.state key }))
    ∙ ap key_value (lookup-removed byte_total key app.state (o.global_states id app e))

row_of_with_row : (a : Option StoredApplication) (row : Application) → value.App (with_row a row).row ≡ value.App row
row_of_with_row None row = refl
row_of_with_row (Some app) row = refl

-- in a ledger in order, an item set to a value it may be set to has that value
pub has_what_was_put : (l : Ledger) (x : Item) (v : ItemValue) → IsInOrder l → MaySet l x v → at (put_one l x v) x ≡ v
has_what_was_put l item.NextApp (value.NextApp id) o m = refl
has_what_was_put l (item.App id) (value.App row) o m = ap row_value (set_application l id (with_row (application_at l id) row)) ∙ row_of_with_row (application_at l id) row
has_what_was_put l (item.App id) value.Absent o m = ap row_value (lookup-removed nat_cmp_total id l.applications o.applications)
has_what_was_put l (item.Key id key) (value.Key v) o m = set_key l id key v (application_at l id) refl m
has_what_was_put l (item.Key id key) value.Absent o m = unset_key l id key o (application_at l id) refl m
has_what_was_put l (item.Local who id) (value.Local state) o m = ap local_value (lookup-inserted account_total (who, id) state l.local_states)
has_what_was_put l (item.Local who id) value.Absent o m = ap local_value (lookup-removed account_total (who, id) l.local_states o.local_states)
has_what_was_put l x v o m = absurd m

-- ---- the order stays

row_in_order : (l : Ledger) (id : ℕ) (row : Application) → IsInOrder l → (a : Option StoredApplication) → application_at l id ≡ a → IsInKeyOrder (with_row a row).state
unfolding IsStrictlySortedBy
row_in_order l id row o None e = tt
row_in_order l id row o (Some app) e = o.global_states id app e

state_set_in_order : (l : Ledger) (id : ℕ) (change : Entries → Entries) → ((s : Entries) → IsInKeyOrder s → IsInKeyOrder (change s)) → IsInOrder l
    → (a : Option StoredApplication) → application_at l id ≡ a → IsInOrder (with_state l id change a)
state_set_in_order l id change keeps o None e = o
state_set_in_order l id change keeps o (Some app) e =
    with_application_in_order l id (record app { state = change app.state }) o (keeps app.state (o.global_states id app e))

-- the maps of a ledger stay in order when an item is set
pub stays_in_order : (l : Ledger) (x : Item) (v : ItemValue) → IsInOrder l → IsInOrder (put_one l x v)
stays_in_order l item.NextApp (value.NextApp id) o = record { applications = o.applications; global_states = o.global_states; local_states = o.local_states }
stays_in_order l (item.App id) (value.App row) o = with_application_in_order l id (with_row (application_at l id) row) o (row_in_order l id row o (application_at l id) refl)
stays_in_order l (item.App id) value.Absent o = without_application_in_order l id o
stays_in_order l (item.Key id key) (value.Key v) o =
    state_set_in_order l id (λ s. with_entry s key v) (λ s. sorted-inserted byte_total key v s) o (application_at l id) refl
stays_in_order l (item.Key id key) value.Absent o =
    state_set_in_order l id (λ s. without_entry s key) (λ s. sorted-removed byte_total key s) o (application_at l id) refl
stays_in_order l (item.Local who id) (value.Local state) o =
    record { applications = o.applications; global_states = o.global_states; local_states = sorted-inserted account_total (who, id) state l.local_states o.local_states }
stays_in_order l (item.Local who id) value.Absent o =
    record { applications = o.applications; global_states = o.global_states; local_states = sorted-removed account_total (who, id) l.local_states o.local_states }
stays_in_order l x v o = o

-- ---- two ledgers with the same items

-- the value of a key is determined by the value of its item
pub key_values : (a b : Option Value) → key_value a ≡ key_value b → a ≡ b
key_values None None e = refl
key_values None (Some w) e = absurd cc
key_values (Some v) None e = absurd cc
key_values (Some v) (Some w) e = ap Some (cc)

pub local_values : (a b : Option Entries) → local_value a ≡ local_value b → a ≡ b
local_values None None e = refl
local_values None (Some t) e = absurd cc
local_values (Some s) None e = absurd cc
local_values (Some s) (Some t) e = ap Some (cc)

-- in two ledgers in order, an application is the same where its row and its keys are the same
pub same_application : (l m : Ledger) (id : ℕ) → IsInOrder l → IsInOrder m → (a b : Option StoredApplication) → application_at l id ≡ a → application_at m id ≡ b
    → row_value a ≡ row_value b → (is_none b ≡ false → (key : List ℕ) → entry_value a key ≡ entry_value b key) → a ≡ b
same_application l m id o p None None d e rows entries = refl
same_application l m id o p None (Some b) d e rows entries = absurd cc
same_application l m id o p (Some a) None d e rows entries = absurd cc
same_application l m id o p (Some a) (Some b) d e rows entries =
    let row : a.row ≡ b.row = cc in
    let state = same_map byte_total byte_same a.state b.state (o.global_states id a d) (p.global_states id b e)
    (λ key. key_values (value_of_key a.state key) (value_of_key b.state key) (entries refl key)) in
    λ i. Some (record { row = row i; state = state i })

next_ids : {n m : ℕ} → value.NextApp n ≡ value.NextApp m → n ≡ m
next_ids e = cc

-- two ledgers in order are the same where each item has the same value in both
pub is_its_items : (l m : Ledger) → IsInOrder l → IsInOrder m → ((x : Item) → at l x ≡ at m x) → l ≡ m
is_its_items l m o p same =
    let next : l.next_id ≡ m.next_id = next_ids (same item.NextApp) in
    let apps = same_map nat_cmp_total nat_cmp-IsAntisymmetric l.applications m.applications o.applications p.applications
    (λ id. same_application l m id o p (application_at l id) (application_at m id) refl refl (same (item.App id)) (λ _ key. same (item.Key id key))) in
    let locals = same_map account_total account_same l.local_states m.local_states o.local_states p.local_states
    (λ x. local_values (local_state_at l x.0 x.1) (local_state_at m x.0 x.1) (same (item.Local x.0 x.1))) in
    λ i. record { next_id = next i; applications = apps i; local_states = locals i }

-- ---- the other items

pub item_total : IsTotalOrder item_cmp
item_total = on_total sort_key nat_list_cmp_total

-- items that do not tie are different
pub differ : (x y : Item) → is_eq (item_cmp y x) ≡ false → y ≡ x → ⊥
differ x y n e = let same : is_eq (item_cmp y x) ≡ true = ap (λ z. is_eq (item_cmp z x)) e ∙ ap is_eq (tied_itself item_total x) in cc

apart : (b : Bool) → (b ≡ true → ⊥) → b ≡ false
apart true h = absurd (h refl)
apart false h = refl

-- different ids do not tie
pub ids_apart : (other id : ℕ) → (other ≡ id → ⊥) → is_eq (nat_cmp other id) ≡ false
ids_apart other id h = apart (is_eq (nat_cmp other id)) (λ e. h (nat_cmp-IsAntisymmetric other id (is_Equal (nat_cmp other id) e)))

not_the_id : (other id : ℕ) → (other == id) ≡ false → is_eq (nat_cmp other id) ≡ false
not_the_id other id h = ids_apart other id (λ e. let same : (other == id) ≡ true = eq-eqb other id e in cc)

-- different pairs of an account and an application do not tie
pub accounts_apart : (x y : Address × ℕ) → (y ≡ x → ⊥) → is_eq (account_cmp y x) ≡ false
accounts_apart x y h = apart (is_eq (account_cmp y x)) (λ e. h (account_same y x (is_Equal (account_cmp y x) e)))

-- another application, after one is set
pub other_application : (l : Ledger) (id other : ℕ) (app : StoredApplication) → is_eq (nat_cmp other id) ≡ false → application_at (with_application l id app) other ≡ application_at l other
other_application l id other app n = lookup-inserted_other nat_cmp_total other id app l.applications n

-- taking an application away leaves every other one as it was
pub other_without : (l : Ledger) (id other : ℕ) → is_eq (nat_cmp other id) ≡ false → application_at (without_application l id) other ≡ application_at l other
other_without l id other n = lookup-removed_other nat_cmp_total other id l.applications n

app_keeps : (l m : Ledger) (id : ℕ) → m.next_id ≡ l.next_id → m.local_states ≡ l.local_states → ((other : ℕ) → is_eq (nat_cmp other id) ≡ false → application_at m other ≡ application_at l other)
    → (y : Item) → is_eq (item_cmp y (item.App id)) ≡ false → changes_with (item.App id) y ≡ false → at m y ≡ at l y
app_keeps l m id next locals others item.NextApp n c = ap value.NextApp next
app_keeps l m id next locals others (item.App other) n c = ap row_value (others other (ids_apart other id (λ e. differ (item.App id) (item.App other) n (ap item.App e))))
app_keeps l m id next locals others (item.Counts other) n c = ap counts_value (others other (not_the_id other id c))
app_keeps l m id next locals others (item.Key other key) n c = ap (λ a. entry_value a key) (others other (not_the_id other id c))
app_keeps l m id next locals others (item.Local who other) n c = ap (λ states. local_value (lookup (is_at (account_cmp (who, other))) states)) locals

-- another key of the same state
key_by : (l : Ledger) (id other : ℕ) (key key' : List ℕ) (app : StoredApplication) (change : Entries → Entries) → application_at l id ≡ Some app
    → (is_eq (byte_cmp key' key) ≡ false → value_of_key (change app.state) key' ≡ value_of_key app.state key') → is_eq (item_cmp (item.Key other key') (item.Key id key)) ≡ false
    → (b : Bool) → is_eq (nat_cmp other id) ≡ b → at (with_application l id (record app { state = change app.state })) (item.Key other key') ≡ at l (item.Key other key')
key_by l id other key key' app change e keeps n true same =
    let other_is : other ≡ id = nat_cmp-IsAntisymmetric other id (is_Equal (nat_cmp other id) same) in
    let keys_apart : is_eq (byte_cmp key' key) ≡ false = apart (is_eq (byte_cmp key' key)) (λ k. differ (item.Key id key) (item.Key other key') n (λ i. item.Key (other_is i) (byte_same key' key (is_Equal (byte_cmp key' key) k) i))) in
    ap (λ q. at (with_application l id (record app { state = change app.state })) (item.Key q key')) other_is
    ∙ ap (λ a. entry_value a key') (set_application l id (record app { state = change app.state }))
    ∙ ap key_value (keeps keys_apart)
    ∙ sym (ap (λ a. entry_value a key') e)
    ∙ sym (ap (λ q. at l (item.Key q key')) other_is)
key_by l id other key key' app change e keeps n false differs = ap (λ a. entry_value a key') (other_application l id other (record app { state = change app.state }) differs)

row_by : (l : Ledger) (id other : ℕ) (app : StoredApplication) (change : Entries → Entries) → application_at l id ≡ Some app
    → (b : Bool) → is_eq (nat_cmp other id) ≡ b → at (with_application l id (record app { state = change app.state })) (item.App other) ≡ at l (item.App other)
row_by l id other app change e true same =
    let other_is : other ≡ id = nat_cmp-IsAntisymmetric other id (is_Equal (nat_cmp other id) same) in
    ap (λ q. at (with_application l id (record app { state = change app.state })) (item.App q)) other_is
    ∙ ap row_value (set_application l id (record app { state = change app.state }))
    ∙ sym (ap row_value e)
    ∙ sym (ap (λ q. at l (item.App q)) other_is)
row_by l id other app change e false differs = ap row_value (other_application l id other (record app { state = change app.state }) differs)

key_keeps : (l : Ledger) (id : ℕ) (key : List ℕ) (change : Entries → Entries)
    → ((state : Entries) (key' : List ℕ) → is_eq (byte_cmp key' key) ≡ false → value_of_key (change state) key' ≡ value_of_key state key')
    → (a : Option StoredApplication) → application_at l id ≡ a → (y : Item) → is_eq (item_cmp y (item.Key id key)) ≡ false → changes_with (item.Key id key) y ≡ false
    → at (with_state l id change a) y ≡ at l y
key_keeps l id key change keeps None e y n c = refl
key_keeps l id key change keeps (Some app) e item.NextApp n c = refl
key_keeps l id key change keeps (Some app) e (item.App other) n c = row_by l id other app change e (is_eq (nat_cmp other id)) refl
key_keeps l id key change keeps (Some app) e (item.Counts other) n c = ap counts_value (other_application l id other (record app { state = change app.state }) (not_the_id other id c))
key_keeps l id key change keeps (Some app) e (item.Key other key') n c = key_by l id other key key' app change e (keeps app.state key') n (is_eq (nat_cmp other id)) refl
key_keeps l id key change keeps (Some app) e (item.Local who other) n c = refl

local_keeps : (l m : Ledger) (who : Address) (id : ℕ) → m.next_id ≡ l.next_id → m.applications ≡ l.applications
    → ((x : Address × ℕ) → is_eq (account_cmp x (who, id)) ≡ false → local_state_at m x.0 x.1 ≡ local_state_at l x.0 x.1)
    → (y : Item) → is_eq (item_cmp y (item.Local who id)) ≡ false → at m y ≡ at l y
local_keeps l m who id next apps others item.NextApp n = ap value.NextApp next
local_keeps l m who id next apps others (item.App other) n = ap (λ a. row_value (lookup (is_at (nat_cmp other)) a)) apps
local_keeps l m who id next apps others (item.Counts other) n = ap (λ a. counts_value (lookup (is_at (nat_cmp other)) a)) apps
local_keeps l m who id next apps others (item.Key other key) n = ap (λ a. entry_value (lookup (is_at (nat_cmp other)) a) key) apps
local_keeps l m who id next apps others (item.Local who' other) n =
    ap local_value (others (who', other) (accounts_apart (who, id) (who', other) (λ e. differ (item.Local who id) (item.Local who' other) n (ap (λ x. item.Local x.0 x.1) e))))

next_keeps : (l m : Ledger) → m.applications ≡ l.applications → m.local_states ≡ l.local_states → (y : Item) → is_eq (item_cmp y item.NextApp) ≡ false → at m y ≡ at l y
next_keeps l m apps locals item.NextApp n = absurd (differ item.NextApp item.NextApp n refl)
next_keeps l m apps locals (item.App other) n = ap (λ a. row_value (lookup (is_at (nat_cmp other)) a)) apps
next_keeps l m apps locals (item.Counts other) n = ap (λ a. counts_value (lookup (is_at (nat_cmp other)) a)) apps
next_keeps l m apps locals (item.Key other key) n = ap (λ a. entry_value (lookup (is_at (nat_cmp other)) a) key) apps
next_keeps l m apps locals (item.Local who other) n = ap (λ states. local_value (lookup (is_at (account_cmp (who, other))) states)) locals

-- a put leaves the value of each other item that does not change with the one put
pub keeps_others : (l : Ledger) (x y : Item) (v : ItemValue) → is_eq (item_cmp y x) ≡ false → changes_with x y ≡ false → at (put_one l x v) y ≡ at l y
keeps_others l item.NextApp y (value.NextApp id) n c = next_keeps l (record l { next_id = id }) refl refl y n
keeps_others l (item.App id) y (value.App row) n c =
    let app = with_row (application_at l id) row in
    app_keeps l (with_application l id app) id refl refl (λ other. other_application l id other app) y n c
keeps_others l (item.App id) y value.Absent n c = app_keeps l (without_application l id) id refl refl (λ other. other_without l id other) y n c
keeps_others l (item.Key id key) y (value.Key v) n c =
    key_keeps l id key (λ s. with_entry s key v) (λ state key' m. lookup-inserted_other byte_total key' key v state m) (application_at l id) refl y n c
keeps_others l (item.Key id key) y value.Absent n c =
    key_keeps l id key (λ s. without_entry s key) (λ state key' m. lookup-removed_other byte_total key' key state m) (application_at l id) refl y n c
keeps_others l (item.Local who id) y (value.Local state) n c =
    local_keeps l (with_local_state l who id state) who id refl refl (λ x m. lookup-inserted_other account_total x (who, id) state l.local_states m) y n
keeps_others l (item.Local who id) y value.Absent n c =
    local_keeps l (without_local_state l who id) who id refl refl (λ x m. lookup-removed_other account_total x (who, id) l.local_states m) y n
keeps_others l x y v n c = refl

-- ---- many puts

-- lists that are the same have the same first element and the same rest
pub heads : {x y : ℕ} {xs ys : List ℕ} → x ∷ xs ≡ y ∷ ys → (x ≡ y) × (xs ≡ ys)
heads e = (cc, cc)

snoc_inj : (xs ys : List ℕ) (a b : ℕ) → xs ++ a ∷ [] ≡ ys ++ b ∷ [] → (xs ≡ ys) × (a ≡ b)
snoc_inj [] [] a b e = (refl, (heads e).0)
snoc_inj [] (y ∷ ys) a b e = let n : length (a ∷ []) ≡ length ((y ∷ ys) ++ b ∷ []) = ap length e in absurd (omega (arith, length-append ys (b ∷ [])))
snoc_inj (x ∷ xs) [] a b e = let n : length ((x ∷ xs) ++ a ∷ []) ≡ length (b ∷ []) = ap length e in absurd (omega (arith, length-append xs (a ∷ [])))
snoc_inj (x ∷ xs) (y ∷ ys) a b e =
    let parts = heads e in
    let rest = snoc_inj xs ys a b parts.1 in
    ((λ i. parts.0 i ∷ rest.0 i), rest.1)

keys_same : (x y : Item) → sort_key x ≡ sort_key y → x ≡ y
keys_same item.NextApp item.NextApp e = refl
keys_same (item.App a) (item.App b) e = ap item.App (heads (heads e).1).0
keys_same (item.Counts a) (item.Counts b) e = ap item.Counts (heads (heads e).1).0
keys_same (item.Key a k) (item.Key b l) e = let both = heads (heads e).1 in λ i. item.Key (both.0 i) (both.1 i)
keys_same (item.Local who a) (item.Local other b) e =
    let both = snoc_inj who.0 other.0 a b (heads e).1 in
    let account = address_is who other both.0 in
    λ i. item.Local (account i) (both.1 i)
keys_same x y e = absurd (omega (arith, (heads e).0))

-- items that tie are the same
pub item_same : (x y : Item) → item_cmp x y ≡ Equal → x ≡ y
item_same x y e = keys_same x y (byte_same (sort_key x) (sort_key y) e)

-- a new row keeps the keys of its application
row_keeps_by : (l : Ledger) (id other : ℕ) (row : Application) (key : List ℕ) → (a : Option StoredApplication) → application_at l id ≡ a → (b : Bool) → is_eq (nat_cmp other id) ≡ b
    → at (with_application l id (with_row a row)) (item.Key other key) ≡ at l (item.Key other key)
row_keeps_by l id other row key a e false n = ap (λ x. entry_value x key) (other_application l id other (with_row a row) n)
row_keeps_by l id other row key a e true same =
    let other_is : other ≡ id = nat_cmp-IsAntisymmetric other id (is_Equal (nat_cmp other id) same) in
    ap (λ q. at (with_application l id (with_row a row)) (item.Key q key)) other_is
    ∙ ap (λ x. entry_value x key) (set_application l id (with_row a row))
    ∙ kept a
    ∙ sym (ap (λ x. entry_value x key) e)
    ∙ sym (ap (λ q. at l (item.Key q key)) other_is)
  where
    kept : (a : Option StoredApplication) → entry_value (Some (with_row a row)) key ≡ entry_value a key
    kept None = refl
    kept (Some app) = refl

is_key : Item → Bool
is_key (item.Key id key) = true
is_key _ = false

changes_no_other : (y x : Item) → is_counts x ≡ false → is_key x ≡ false → changes_with y x ≡ false
unfolding is_key
changes_no_other (item.App id) (item.Counts other) c k = absurd cc
changes_no_other (item.App id) (item.Key other key) c k = absurd cc
changes_no_other (item.Key id key) (item.Counts other) c k = absurd cc
changes_no_other y x c k = refl

keeps_under : (l : Ledger) (y : Item) (v : ItemValue) (x : Item) → is_eq (item_cmp x y) ≡ false → is_counts x ≡ false → deletes y v x ≡ false → at (put_one l y v) x ≡ at l x
unfolding is_key
keeps_under l (item.App id) (value.App row) (item.Key other key) n c d = row_keeps_by l id other row key (application_at l id) refl (is_eq (nat_cmp other id)) refl
keeps_under l (item.App id) value.Absent (item.Key other key) n c d = keeps_others l (item.App id) (item.Key other key) value.Absent n d
keeps_under l (item.App id) v (item.Key other key) n c d = refl
keeps_under l item.NextApp v (item.Key other key) n c d = keeps_others l item.NextApp (item.Key other key) v n refl
keeps_under l (item.Counts id) v (item.Key other key) n c d = keeps_others l (item.Counts id) (item.Key other key) v n refl
keeps_under l (item.Key id own) v (item.Key other key) n c d = keeps_others l (item.Key id own) (item.Key other key) v n refl
keeps_under l (item.Local who id) v (item.Key other key) n c d = keeps_others l (item.Local who id) (item.Key other key) v n refl
keeps_under l y v item.NextApp n c d = keeps_others l y item.NextApp v n (changes_no_other y item.NextApp c refl)
keeps_under l y v (item.App other) n c d = keeps_others l y (item.App other) v n (changes_no_other y (item.App other) c refl)
keeps_under l y v (item.Local who other) n c d = keeps_others l y (item.Local who other) v n (changes_no_other y (item.Local who other) c refl)
keeps_under l y v (item.Counts other) n c d = absurd cc

was_put : (l : Ledger) (y : Item) (v : ItemValue) → IsInOrder l → is_counts y ≡ false → MayPut l y v → at (put_one l y v) y ≡ v
was_put l (item.Counts id) v o c m = absurd cc
was_put l item.NextApp v o c m = has_what_was_put l item.NextApp v o m
was_put l (item.App id) v o c m = has_what_was_put l (item.App id) v o m
was_put l (item.Key id key) v o c m = has_what_was_put l (item.Key id key) v o m
was_put l (item.Local who id) v o c m = has_what_was_put l (item.Local who id) v o m

entry_by : (l : Ledger) (e : Item × ItemValue) (es : ItemMap) (x : Item) → IsInOrder l → AllByRecursion (λ y. item_cmp e.0 y ≡ Less) (keys_of es) → MayPut l e.0 e.1
    → is_counts x ≡ false → deletes e.0 e.1 x ≡ false → (b : Bool) → is_eq (item_cmp x e.0) ≡ b
    → unwrap_or (value_in es x) (at (put_one l e.0 e.1) x) ≡ unwrap_or (cond b (Some e.1) (value_in es x)) (at l x)
entry_by l e es x o above m c d true same =
    let tied = is_Equal (item_cmp x e.0) same in
    let is : x ≡ e.0 = item_same x e.0 tied in
    let none : value_in es x ≡ None = below_none item_total x es (above_tied item_total x e.0 (keys_of es) tied above) in
    ap (λ found. unwrap_or found (at (put_one l e.0 e.1) x)) none ∙ ap (at (put_one l e.0 e.1)) is ∙ was_put l e.0 e.1 o (subst (λ z. is_counts z ≡ false) is c) m
entry_by l e es x o above m c d false apart = ap (unwrap_or (value_in es x)) (keeps_under l e.0 e.1 x apart c d)

-- after allowed puts, any item but counts and deleted keys has the value put, or else its old one
pub has_what_was_put_last : (l : Ledger) (items : ItemMap) (x : Item) → IsInOrder l → IsStrictlySortedBy item_cmp (keys_of items) → MayPutAll l items
    → is_counts x ≡ false → is_deleted_by items x ≡ false → at (put l items) x ≡ unwrap_or (value_in items x) (at l x)
unfolding IsStrictlySortedBy
has_what_was_put_last l [] x o s m c d = refl
has_what_was_put_last l (e ∷ es) x o s m c d =
    let none = or_parts (deletes e.0 e.1 x) (is_deleted_by es x) d in
    has_what_was_put_last (put_one l e.0 e.1) es x (stays_in_order l e.0 e.1 o) s.1 m.1 c none.1
    ∙ entry_by l e es x o s.0 m.0 c none.0 (is_eq (item_cmp x e.0)) refl
