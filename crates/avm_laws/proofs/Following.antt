-- A call's own writes over a ledger, and the ledger that has them: what each put does to both.
use Rattle.std.proofs.Common.{◌≡◌, ℕ, ◌==◌, Bool, true, false, List, Option, None, Some, refl, sym, ap, ◌∙◌, subst, cond}
use Rattle.std.specs.Prelude.{is_none, unwrap_or}
use Rattle.std.specs.Ordering.{is_eq}
use Rattle.std.proofs.lemmas.Bool.{eqb-true}
use Rattle.teal_value.specs.declared.value.Value.{Value}
use Rattle.avm_ledger.specs.declared.application.Application.{Application}
use Rattle.avm_ledger.specs.declared.application.StoredApplication.{StoredApplication}
use Rattle.avm_states.specs.declared.schema.Schema.{Schema}
use Rattle.avm_states.specs.Entries.{Entries, value_of_key, with_entry, without_entry, IsInKeyOrder}
use Rattle.avm_states.specs.Schemas.{counts_in, no_entries, keeps_kind, counts_after}
use Rattle.avm_ledger.specs.Ledgers.{Ledger, application_at, with_row, with_state, IsInOrder}
use Rattle.avm_ledger.proofs.Changes.{set_application}
use Rattle.avm_states.proofs.Counts.{follow_puts, follow_deletes, stay_with_kind}
use Rattle.avm_states.proofs.Maps.{lookup-inserted, lookup-inserted_other, sorted-inserted}
use Rattle.avm_items.specs.declared.item.Item.{Item}
use Rattle.avm_items.specs.declared.item.Item.TheVariants as item
use Rattle.avm_items.specs.declared.item_value.ItemValue.{ItemValue}
use Rattle.avm_items.specs.declared.item_value.ItemValue.TheVariants as value
use Rattle.avm_items.specs.Items.{ItemMap, Known, IsInItemOrder, item_cmp, value_in, with_item, over, entry_in, key_value, kept_counts_in}
use Rattle.avm_items.specs.LedgerItems.{at, put_one, row_value, counts_value, entry_value, is_of_gone}
use Rattle.avm_items.specs.PutLaws.{MaySet, MayPut, is_counts, deletes}
use Rattle.avm_items.proofs.Puts.{stays_in_order, keeps_others, item_total}
use Rattle.teal_value.specs.declared.address.Address.{Address}
use Rattle.teal_value.specs.Choice.{or_else}
use Rattle.std.proofs.Common.{eq-eqb}
use Rattle.std.specs.Cmp.{tied_itself}
use Rattle.avm_laws.proofs.Given.{item_same, one_put}
use Rattle.avm_ops.proofs.WrittenItems.{old_entry, old_counts}

-- ---- the written items, with one more

with_by : (w : ItemMap) (x : Item) (v : ItemValue) (y : Item) (b : Bool) → is_eq (item_cmp y x) ≡ b → value_in (with_item w x v) y ≡ cond b (Some v) (value_in w y)
with_by w x v y true tied = ap (value_in (with_item w x v)) (item_same y x tied) ∙ lookup-inserted item_total x v w
with_by w x v y false apart = lookup-inserted_other item_total y x v w apart

-- one more item written has the value written, and every other item what it had
pub value_with : (w : ItemMap) (x : Item) (v : ItemValue) (y : Item) → value_in (with_item w x v) y ≡ cond (is_eq (item_cmp y x)) (Some v) (value_in w y)
value_with w x v y = with_by w x v y (is_eq (item_cmp y x)) refl

apart_value : (w : ItemMap) (x : Item) (v : ItemValue) (y : Item) → is_eq (item_cmp y x) ≡ false → value_in (with_item w x v) y ≡ value_in w y
apart_value w x v y apart = value_with w x v y ∙ ap (λ b. cond b (Some v) (value_in w y)) apart

-- ---- the ledger that has what was written

-- the written items where there are any, else the items of the first ledger
abbrev pub Has : Ledger → ItemMap → Ledger → Item → Type 0
Has l w m x = at m x ≡ unwrap_or (value_in w x) (at l x)

has_by : (b : Bool) (v u : ItemValue) (o : Option ItemValue) → unwrap_or (cond b (Some v) None) (unwrap_or o u) ≡ unwrap_or (cond b (Some v) o) u
has_by true v u o = refl
has_by false v u o = refl

-- an item other than counts, after one is put of which no key goes
pub has_put : (l m : Ledger) (w : ItemMap) (x : Item) (v : ItemValue) (y : Item) → IsInOrder m → MayPut m x v → is_counts y ≡ false → deletes x v y ≡ false → Has l w m y → Has l (with_item w x v) (put_one m x v) y
has_put l m w x v y o may c d has =
    one_put m (x, v) y o may c d
    ∙ ap (unwrap_or (cond (is_eq (item_cmp y x)) (Some v) None)) has
    ∙ has_by (is_eq (item_cmp y x)) v (at l y) (value_in w y)
    ∙ ap (λ f. unwrap_or f (at l y)) (sym (value_with w x v y))

-- counts that a put leaves, of which it is none
pub counts_put : (l m : Ledger) (w : ItemMap) (x : Item) (v : ItemValue) (id : ℕ) → is_counts x ≡ false → at (put_one m x v) (item.Counts id) ≡ at m (item.Counts id) → Has l w m (item.Counts id)
    → Has l (with_item w x v) (put_one m x v) (item.Counts id)
counts_put l m w x v id c same has =
    same ∙ has ∙ ap (λ f. unwrap_or f (at l (item.Counts id))) (sym (apart_value w x v (item.Counts id) (no_counts x c)))
  where
    no_counts : (x : Item) → is_counts x ≡ false → is_eq (item_cmp (item.Counts id) x) ≡ false
    no_counts item.NextApp c = refl
    no_counts (item.App other) c = refl
    no_counts (item.Counts other) c = absurd cc
    no_counts (item.Key other key) c = refl
    no_counts (item.Local who other) c = refl

-- counts written beside
other_than_counts : (w : ItemMap) (id : ℕ) (n : Schema) (y : Item) → is_counts y ≡ false → value_in (with_item w (item.Counts id) (value.Counts n)) y ≡ value_in w y
other_than_counts w id n item.NextApp c = apart_value w (item.Counts id) (value.Counts n) item.NextApp refl
other_than_counts w id n (item.App other) c = apart_value w (item.Counts id) (value.Counts n) (item.App other) refl
other_than_counts w id n (item.Counts other) c = absurd cc
other_than_counts w id n (item.Key other key) c = apart_value w (item.Counts id) (value.Counts n) (item.Key other key) refl
other_than_counts w id n (item.Local who other) c = apart_value w (item.Counts id) (value.Counts n) (item.Local who other) refl

-- ---- what a run's own writes say, with the ledger that has them

-- What a call knows of keys without a look is so in the ledger. It has, of each item, what was written or else what was
-- there; what isn't known, and isn't gone, wasn't gone; nothing is written of an application that is gone.
pub record Follows (new : Known) (l : Ledger) (w : ItemMap) (m : Ledger) : Type 0 where
  pub fresh : (x : Item) (v : ItemValue) → new x ≡ Some v → at l x ≡ v
  pub order : IsInOrder m
  pub sorted : IsInItemOrder w
  pub has : (x : Item) → Has l w m x
  pub asked : (x : Item) → over (value_in w) new x ≡ None → is_of_gone m x ≡ false → is_of_gone l x ≡ false
  pub stands : (x : Item) (v : ItemValue) → value_in w x ≡ Some v → is_of_gone m x ≡ false

-- no application comes or goes
abbrev pub KeepsApplications : Ledger → Ledger → Type 0
KeepsApplications m n = (x : Item) → is_of_gone n x ≡ is_of_gone m x

known_before : (new : Known) (w : ItemMap) (x : Item) (v : ItemValue) (y : Item) → over (value_in (with_item w x v)) new y ≡ None → (over (value_in w) new y ≡ None)
known_before new w x v y none = by (is_eq (item_cmp y x)) (ap (λ f. or_else f (new y)) (sym (value_with w x v y)) ∙ none)
  where
    by : (b : Bool) → or_else (cond b (Some v) (value_in w y)) (new y) ≡ None → or_else (value_in w y) (new y) ≡ None
    by true e = absurd cc
    by false e = e

-- an item that ties with one that isn't gone
pub tied_stands : (m : Ledger) (y x : Item) → is_eq (item_cmp y x) ≡ true → is_of_gone m x ≡ false → is_of_gone m y ≡ false
tied_stands m y x tied stands = subst (λ z. is_of_gone m z ≡ false) (sym (item_same y x tied)) stands

stands_with : (m n : Ledger) (w : ItemMap) (x : Item) (v : ItemValue) → ((y : Item) → is_of_gone m y ≡ false → is_of_gone n y ≡ false) → ((y : Item) (u : ItemValue) → value_in w y ≡ Some u → is_of_gone m y ≡ false) → is_of_gone n x ≡ false
    → (y : Item) (u : ItemValue) → value_in (with_item w x v) y ≡ Some u → is_of_gone n y ≡ false
stands_with m n w x v more before here y u there = by (is_eq (item_cmp y x)) refl (sym (value_with w x v y) ∙ there)
  where
    by : (b : Bool) → is_eq (item_cmp y x) ≡ b → cond b (Some v) (value_in w y) ≡ Some u → is_of_gone n y ≡ false
    by true tied e = tied_stands n y x tied here
    by false apart e = more y (before y u e)

-- an item put that brings and takes no application, counts as before
pub follows_put : (new : Known) (l : Ledger) (w : ItemMap) (m : Ledger) (x : Item) (v : ItemValue) → Follows new l w m → MayPut m x v → is_counts x ≡ false
    → ((y : Item) → deletes x v y ≡ false) → KeepsApplications m (put_one m x v) → ((id : ℕ) → at (put_one m x v) (item.Counts id) ≡ at m (item.Counts id)) → is_of_gone m x ≡ false
    → Follows new l (with_item w x v) (put_one m x v)
follows_put new l w m x v f may c none apps counts here = record {
  fresh = f.fresh;
  order = stays_in_order m x v f.order;
  sorted = sorted-inserted item_total x v w f.sorted;
  has = has;
  asked = λ y unknown stands. f.asked y (known_before new w x v y unknown) (sym (apps y) ∙ stands);
  stands = stands_with m (put_one m x v) w x v (λ y h. apps y ∙ h) f.stands (apps x ∙ here);
}
  where
    has : (y : Item) → Has l (with_item w x v) (put_one m x v) y
    has item.NextApp = has_put l m w x v item.NextApp f.order may refl (none item.NextApp) (f.has item.NextApp)
    has (item.App id) = has_put l m w x v (item.App id) f.order may refl (none (item.App id)) (f.has (item.App id))
    has (item.Counts id) = counts_put l m w x v id c (counts id) (f.has (item.Counts id))
    has (item.Key id key) = has_put l m w x v (item.Key id key) f.order may refl (none (item.Key id key)) (f.has (item.Key id key))
    has (item.Local who id) = has_put l m w x v (item.Local who id) f.order may refl (none (item.Local who id)) (f.has (item.Local who id))

-- ---- applications that stand

same_none : (a b : Option StoredApplication) → row_value a ≡ row_value b → is_none a ≡ is_none b
same_none None None e = refl
same_none None (Some b) e = absurd cc
same_none (Some a) None e = absurd cc
same_none (Some a) (Some b) e = refl

-- where the counts have the same value, both applications stand or neither does
pub same_counts : (a b : Option StoredApplication) → counts_value a ≡ counts_value b → is_none a ≡ is_none b
same_counts None None e = refl
same_counts None (Some b) e = absurd cc
same_counts (Some a) None e = absurd cc
same_counts (Some a) (Some b) e = refl

rows_keep : (m n : Ledger) → ((id : ℕ) → at n (item.App id) ≡ at m (item.App id)) → KeepsApplications m n
rows_keep m n same item.NextApp = refl
rows_keep m n same (item.App id) = refl
rows_keep m n same (item.Counts id) = same_none (application_at n id) (application_at m id) (same id)
rows_keep m n same (item.Key id key) = same_none (application_at n id) (application_at m id) (same id)
rows_keep m n same (item.Local who id) = refl

-- ---- local states, and the next id

-- the ledger still has what is written after a local state is set or taken away in both
pub follows_local : (new : Known) (l : Ledger) (w : ItemMap) (m : Ledger) (who : Address) (id : ℕ) (v : ItemValue) → Follows new l w m → MaySet m (item.Local who id) v
    → Follows new l (with_item w (item.Local who id) v) (put_one m (item.Local who id) v)
follows_local new l w m who id v f may =
    let x = item.Local who id in
    follows_put new l w m x v f may refl (λ y. refl) (rows_keep m (put_one m x v) (λ other. keeps_others m x (item.App other) v refl refl))
    (λ other. keeps_others m x (item.Counts other) v refl refl) refl

-- the ledger still has what is written after the next id is set in both
pub follows_next : (new : Known) (l : Ledger) (w : ItemMap) (m : Ledger) (id : ℕ) → Follows new l w m
    → Follows new l (with_item w item.NextApp (value.NextApp id)) (put_one m item.NextApp (value.NextApp id))
follows_next new l w m id f =
    follows_put new l w m item.NextApp (value.NextApp id) f tt refl (λ y. refl) (λ y. same y) (λ other. refl) refl
  where
    same : KeepsApplications m (put_one m item.NextApp (value.NextApp id))
    same item.NextApp = refl
    same (item.App other) = refl
    same (item.Counts other) = refl
    same (item.Key other key) = refl
    same (item.Local who other) = refl

-- ---- keys

may_key : (m : Ledger) (id : ℕ) (key : List ℕ) (new : Option Value) → is_none (application_at m id) ≡ false → MaySet m (item.Key id key) (key_value new)
may_key m id key None stands = stands
may_key m id key (Some v) stands = stands

entry_of : (o : Option Value) → entry_in (key_value o) ≡ o
entry_of None = refl
entry_of (Some v) = refl

-- the change of a state that sets a key
abbrev set_key : List ℕ → Option Value → Entries → Entries
set_key key None s = without_entry s key
set_key key (Some v) s = with_entry s key v

put_key : (m : Ledger) (id : ℕ) (key : List ℕ) (new : Option Value) → put_one m (item.Key id key) (key_value new) ≡ with_state m id (set_key key new) (application_at m id)
put_key m id key None = refl
put_key m id key (Some v) = refl

counts_follow : (state : Entries) (key : List ℕ) (new : Option Value) → IsInKeyOrder state → counts_in (set_key key new state) ≡ counts_after (value_of_key state key) new (counts_in state)
counts_follow state key None o = follow_deletes state key
counts_follow state key (Some v) o = follow_puts state key v o

-- the application that stands
stored : {P : Type 0} (m : Ledger) (id : ℕ) (a : Option StoredApplication) → application_at m id ≡ a → is_none a ≡ false → ((app : StoredApplication) → application_at m id ≡ Some app → P) → P
stored m id None is stands h = absurd cc
stored m id (Some app) is stands h = h app is

-- an application that isn't gone is stored in the ledger
pub the_application : {P : Type 0} (m : Ledger) (id : ℕ) → is_none (application_at m id) ≡ false → ((app : StoredApplication) → application_at m id ≡ Some app → P) → P
the_application m id stands h = stored m id (application_at m id) refl stands h

-- the old value of a key is its value in the application's global state
pub entry_there : (m : Ledger) (id : ℕ) (key : List ℕ) (app : StoredApplication) → application_at m id ≡ Some app → old_entry m id key ≡ value_of_key app.state key
entry_there m id key app is = ap (λ a. entry_in (entry_value a key)) is ∙ entry_of (value_of_key app.state key)

pub counts_there : (m : Ledger) (id : ℕ) (app : StoredApplication) → application_at m id ≡ Some app → old_counts m id ≡ counts_in app.state
counts_there m id app is = ap (λ a. unwrap_or (kept_counts_in (counts_value a)) no_entries) is

put_key_counts : (m : Ledger) (id : ℕ) (key : List ℕ) (new : Option Value) (app : StoredApplication) → application_at m id ≡ Some app
    → at (put_one m (item.Key id key) (key_value new)) (item.Counts id) ≡ value.Counts (counts_in (set_key key new app.state))
put_key_counts m id key new app is =
    ap (λ n. at n (item.Counts id)) (put_key m id key new ∙ ap (with_state m id (set_key key new)) is)
    ∙ ap counts_value (set_application m id (record app { state = set_key key new app.state }))

key_counts : (m : Ledger) (id : ℕ) (key : List ℕ) (new : Option Value) → IsInOrder m → is_none (application_at m id) ≡ false
    → at (put_one m (item.Key id key) (key_value new)) (item.Counts id) ≡ value.Counts (counts_after (old_entry m id key) new (old_counts m id))
key_counts m id key new o stands =
    the_application m id stands (λ app is.
    put_key_counts m id key new app is
    ∙ ap value.Counts (counts_follow app.state key new (o.global_states id app is) ∙ sym (λ i. counts_after (entry_there m id key app is i) new (counts_there m id app is i))))

same_kind_counts : (m : Ledger) (id : ℕ) (key : List ℕ) (v : Value) → IsInOrder m → is_none (application_at m id) ≡ false → keeps_kind (old_entry m id key) (Some v) ≡ true
    → at (put_one m (item.Key id key) (value.Key v)) (item.Counts id) ≡ at m (item.Counts id)
same_kind_counts m id key v o stands same =
    the_application m id stands (λ app is.
    put_key_counts m id key (Some v) app is
    ∙ ap value.Counts (stay_with_kind app.state key v (o.global_states id app is) (ap (λ e. keeps_kind e (Some v)) (sym (entry_there m id key app is)) ∙ same))
    ∙ sym (ap counts_value is))

keeps_apps_of_key : (m : Ledger) (id : ℕ) (key : List ℕ) (v : ItemValue) → KeepsApplications m (put_one m (item.Key id key) v)
keeps_apps_of_key m id key v = rows_keep m (put_one m (item.Key id key) v) (λ other. keeps_others m (item.Key id key) (item.App other) v refl refl)

-- the ledger still has what is written after a key is set in both to a value of the same kind
pub follows_same_kind : (new : Known) (l : Ledger) (w : ItemMap) (m : Ledger) (id : ℕ) (key : List ℕ) (v : Value) → Follows new l w m → is_none (application_at m id) ≡ false → keeps_kind (old_entry m id key) (Some v) ≡ true
    → Follows new l (with_item w (item.Key id key) (value.Key v)) (put_one m (item.Key id key) (value.Key v))
follows_same_kind new l w m id key v f stands same =
    follows_put new l w m (item.Key id key) (value.Key v) f stands refl (λ y. refl) (keeps_apps_of_key m id key (value.Key v)) (λ other. by other (other == id) refl)
    stands
  where
    by : (other : ℕ) (b : Bool) → (other == id) ≡ b → at (put_one m (item.Key id key) (value.Key v)) (item.Counts other) ≡ at m (item.Counts other)
    by other true e = subst (λ n. at (put_one m (item.Key id key) (value.Key v)) (item.Counts n) ≡ at m (item.Counts n)) (sym (eqb-true other id e)) (same_kind_counts m id key v f.order stands same)
    by other false e = keeps_others m (item.Key id key) (item.Counts other) (value.Key v) refl e

-- ---- a put with the counts that follow from it

counts_ids : {a b : ℕ} → item.Counts a ≡ item.Counts b → a ≡ b
counts_ids e = cc

counts_apart : (other id : ℕ) → (other == id) ≡ false → (b : Bool) → is_eq (item_cmp (item.Counts other) (item.Counts id)) ≡ b → b ≡ false
counts_apart other id differ true tied =
    let same : other ≡ id = counts_ids (item_same (item.Counts other) (item.Counts id) tied) in
    sym (eq-eqb other id same) ∙ differ
counts_apart other id differ false apart = refl

record IsCounted (m : Ledger) (x : Item) (v : ItemValue) (id : ℕ) (n : Schema) : Type 0 where
  may : MayPut m x v
  no_counts : is_counts x ≡ false
  none : (y : Item) → deletes x v y ≡ false
  own : at (put_one m x v) (item.Counts id) ≡ value.Counts n
  others : (other : ℕ) → (other == id) ≡ false → at (put_one m x v) (item.Counts other) ≡ at m (item.Counts other)

has_beside : (l m : Ledger) (w : ItemMap) (x : Item) (v : ItemValue) (id : ℕ) (n : Schema) → IsInOrder m → IsCounted m x v id n → (y : Item) → is_counts y ≡ false → Has l w m y
    → Has l (with_item (with_item w x v) (item.Counts id) (value.Counts n)) (put_one m x v) y
has_beside l m w x v id n o is y c has =
    has_put l m w x v y o is.may c (is.none y) has ∙ ap (λ f. unwrap_or f (at l y)) (sym (other_than_counts (with_item w x v) id n y c))

has_counts : (l m : Ledger) (w : ItemMap) (x : Item) (v : ItemValue) (id : ℕ) (n : Schema) → IsCounted m x v id n → (other : ℕ) → Has l w m (item.Counts other) → (b : Bool) → (other == id) ≡ b
    → Has l (with_item (with_item w x v) (item.Counts id) (value.Counts n)) (put_one m x v) (item.Counts other)
has_counts l m w x v id n is other has true e =
    subst (Has l (with_item (with_item w x v) (item.Counts id) (value.Counts n)) (put_one m x v)) (sym (ap item.Counts (eqb-true other id e)))
    (is.own ∙ ap (λ f. unwrap_or f (at l (item.Counts id))) (sym (value_with (with_item w x v) (item.Counts id) (value.Counts n) (item.Counts id) ∙ ap (λ r. cond (is_eq r) (Some (value.Counts n)) (value_in (with_item w x v) (item.Counts id))) (tied_itself item_total (item.Counts id)))))
has_counts l m w x v id n is other has false e =
    counts_put l m w x v other is.no_counts (is.others other e) has
    ∙ ap (λ f. unwrap_or f (at l (item.Counts other))) (sym (apart_value (with_item w x v) (item.Counts id) (value.Counts n) (item.Counts other) (counts_apart other id e (is_eq (item_cmp (item.Counts other) (item.Counts id))) refl)))

has_counted : (l m : Ledger) (w : ItemMap) (x : Item) (v : ItemValue) (id : ℕ) (n : Schema) → IsInOrder m → IsCounted m x v id n → ((y : Item) → Has l w m y)
    → (y : Item) → Has l (with_item (with_item w x v) (item.Counts id) (value.Counts n)) (put_one m x v) y
has_counted l m w x v id n o is has item.NextApp = has_beside l m w x v id n o is item.NextApp refl (has item.NextApp)
has_counted l m w x v id n o is has (item.App other) = has_beside l m w x v id n o is (item.App other) refl (has (item.App other))
has_counted l m w x v id n o is has (item.Counts other) = has_counts l m w x v id n is other (has (item.Counts other)) (other == id) refl
has_counted l m w x v id n o is has (item.Key other key) = has_beside l m w x v id n o is (item.Key other key) refl (has (item.Key other key))
has_counted l m w x v id n o is has (item.Local who other) = has_beside l m w x v id n o is (item.Local who other) refl (has (item.Local who other))

-- the ledger still has what is written after a key is changed in both and its counts are written
pub follows_key : (new : Known) (l : Ledger) (w : ItemMap) (m : Ledger) (id : ℕ) (key : List ℕ) (v : Option Value) → Follows new l w m → is_none (application_at m id) ≡ false
    → Follows new l (with_item (with_item w (item.Key id key) (key_value v)) (item.Counts id) (value.Counts (counts_after (old_entry m id key) v (old_counts m id)))) (put_one m (item.Key id key) (key_value v))
follows_key new l w m id key v f stands =
    let x = item.Key id key in
    let u = key_value v in
    let n = counts_after (old_entry m id key) v (old_counts m id) in
    let apps = keeps_apps_of_key m id key u in
    let one = stands_with m m w x u (λ y h. h) f.stands stands in
    record {
      fresh = f.fresh;
      order = stays_in_order m x u f.order;
      sorted = sorted-inserted item_total (item.Counts id) (value.Counts n) (with_item w x u) (sorted-inserted item_total x u w f.sorted);
      has = has_counted l m w x u id n f.order (record {
        may = may_key m id key v stands;
        no_counts = refl;
        none = λ y. refl;
        own = key_counts m id key v f.order stands;
        others = λ other differs. keeps_others m x (item.Counts other) u refl differs;
      }) f.has;
      asked = λ y unknown there. f.asked y (known_before new w x u y (known_before new (with_item w x u) (item.Counts id) (value.Counts n) y unknown)) (sym (apps y) ∙ there);
      stands = stands_with m (put_one m x u) (with_item w x u) (item.Counts id) (value.Counts n) (λ y h. apps y ∙ h) one (apps (item.Counts id) ∙ stands);
    }

-- ---- rows

row_counts : (m : Ledger) (id : ℕ) (row : Application) (other : ℕ) → (other == id) ≡ false → at (put_one m (item.App id) (value.App row)) (item.Counts other) ≡ at m (item.Counts other)
row_counts m id row other differs = keeps_others m (item.App id) (item.Counts other) (value.App row) refl differs

-- an application that is there after a row is set: the one whose row it is, and any that was there
row_there : (m : Ledger) (id : ℕ) (row : Application) → is_none (application_at (put_one m (item.App id) (value.App row)) id) ≡ false
row_there m id row = ap is_none (set_application m id (with_row (application_at m id) row))

row_by : (m : Ledger) (id : ℕ) (row : Application) (other : ℕ) → is_none (application_at m other) ≡ false → (b : Bool) → (other == id) ≡ b → is_none (application_at (put_one m (item.App id) (value.App row)) other) ≡ false
row_by m id row other there true e = subst (λ n. is_none (application_at (put_one m (item.App id) (value.App row)) n) ≡ false) (sym (eqb-true other id e)) (row_there m id row)
row_by m id row other there false e = same_counts (application_at (put_one m (item.App id) (value.App row)) other) (application_at m other) (row_counts m id row other e) ∙ there

more_there : (m : Ledger) (id : ℕ) (row : Application) (y : Item) → is_of_gone m y ≡ false → is_of_gone (put_one m (item.App id) (value.App row)) y ≡ false
more_there m id row item.NextApp there = refl
more_there m id row (item.App other) there = refl
more_there m id row (item.Counts other) there = row_by m id row other there (other == id) refl
more_there m id row (item.Key other key) there = row_by m id row other there (other == id) refl
more_there m id row (item.Local who other) there = refl

-- a new application, with its counts
pub follows_create : (new : Known) (l : Ledger) (w : ItemMap) (m : Ledger) (id : ℕ) (row : Application) → Follows new l w m → application_at m id ≡ None → ((key : List ℕ) → new (item.Key id key) ≡ Some value.Absent)
    → Follows new l (with_item (with_item w (item.App id) (value.App row)) (item.Counts id) (value.Counts no_entries)) (put_one m (item.App id) (value.App row))
follows_create new l w m id row f none keys =
    let x = item.App id in
    let v = value.App row in
    let c = item.Counts id in
    let n = value.Counts no_entries in
    let there = row_there m id row in
    record {
      fresh = f.fresh;
      order = stays_in_order m x v f.order;
      sorted = sorted-inserted item_total c n (with_item w x v) (sorted-inserted item_total x v w f.sorted);
      has = has_counted l m w x v id no_entries f.order (record {
        may = tt;
        no_counts = refl;
        none = λ y. refl;
        own = ap counts_value (set_application m id (with_row (application_at m id) row) ∙ ap (λ a. Some (with_row a row)) none);
        others = row_counts m id row;
      }) f.has;
      asked = asked;
      stands = stands_with (put_one m x v) (put_one m x v) (with_item w x v) c n (λ y h. h) (stands_with m (put_one m x v) w x v (more_there m id row) f.stands refl) there;
    }
  where
    before : (y : Item) → over (value_in (with_item (with_item w (item.App id) (value.App row)) (item.Counts id) (value.Counts no_entries))) new y ≡ None → over (value_in w) new y ≡ None
    before y unknown = known_before new w (item.App id) (value.App row) y (known_before new (with_item w (item.App id) (value.App row)) (item.Counts id) (value.Counts no_entries) y unknown)

    others : (other : ℕ) (y : Item) → over (value_in w) new y ≡ None → is_of_gone m y ≡ is_none (application_at m other) → is_none (application_at (put_one m (item.App id) (value.App row)) other) ≡ false → (other == id) ≡ false → is_of_gone l y ≡ false
    others other y unknown of there differs =
        f.asked y unknown (of ∙ sym (same_counts (application_at (put_one m (item.App id) (value.App row)) other) (application_at m other) (row_counts m id row other differs)) ∙ there)

    by_counts : (other : ℕ) → over (value_in (with_item (with_item w (item.App id) (value.App row)) (item.Counts id) (value.Counts no_entries))) new (item.Counts other) ≡ None
        → is_none (application_at (put_one m (item.App id) (value.App row)) other) ≡ false → (b : Bool) → (other == id) ≡ b → is_of_gone l (item.Counts other) ≡ false
    by_counts other unknown there false differs = others other (item.Counts other) (before (item.Counts other) unknown) refl there differs
    by_counts other unknown there true e =
        let w2 = with_item (with_item w (item.App id) (value.App row)) (item.Counts id) (value.Counts no_entries) in
        let some : value_in w2 (item.Counts other) ≡ Some (value.Counts no_entries) = ap (λ k. value_in w2 (item.Counts k)) (eqb-true other id e) ∙ lookup-inserted item_total (item.Counts id) (value.Counts no_entries) (with_item w (item.App id) (value.App row)) in
        let no : Some (value.Counts no_entries) ≡ None = ap (λ o. or_else o (new (item.Counts other))) (sym some) ∙ unknown in
        absurd cc

    by_key : (other : ℕ) (key : List ℕ) → over (value_in w) new (item.Key other key) ≡ None
        → is_none (application_at (put_one m (item.App id) (value.App row)) other) ≡ false → (b : Bool) → (other == id) ≡ b → is_of_gone l (item.Key other key) ≡ false
    by_key other key unknown there false differs = others other (item.Key other key) unknown refl there differs
    by_key other key unknown there true e = unknown_key (value_in w (item.Key other key)) (new (item.Key other key)) (ap (λ k. new (item.Key k key)) (eqb-true other id e) ∙ keys key) unknown
      where
        unknown_key : {P : Type 0} (o p : Option ItemValue) → p ≡ Some value.Absent → or_else o p ≡ None → P
        unknown_key (Some u) p is e = absurd cc
        unknown_key None p is e = let no : Some value.Absent ≡ None = sym is ∙ e in absurd cc

    asked : (y : Item) → over (value_in (with_item (with_item w (item.App id) (value.App row)) (item.Counts id) (value.Counts no_entries))) new y ≡ None → is_of_gone (put_one m (item.App id) (value.App row)) y ≡ false → is_of_gone l y ≡ false
    asked item.NextApp unknown there = refl
    asked (item.App other) unknown there = refl
    asked (item.Counts other) unknown there = by_counts other unknown there (other == id) refl
    asked (item.Key other key) unknown there = by_key other key (before (item.Key other key) unknown) there (other == id) refl
    asked (item.Local who other) unknown there = refl

-- the row of an application that stands
pub follows_row : (new : Known) (l : Ledger) (w : ItemMap) (m : Ledger) (id : ℕ) (row : Application) → Follows new l w m → is_none (application_at m id) ≡ false
    → Follows new l (with_item w (item.App id) (value.App row)) (put_one m (item.App id) (value.App row))
follows_row new l w m id row f stands = follows_put new l w m (item.App id) (value.App row) f tt refl (λ y. refl) (λ y. apps y) (λ other. counts other (other == id) refl) refl
  where
    counts : (other : ℕ) (b : Bool) → (other == id) ≡ b → at (put_one m (item.App id) (value.App row)) (item.Counts other) ≡ at m (item.Counts other)
    counts other false differs = row_counts m id row other differs
    counts other true e =
        the_application m id stands (λ app is.
        subst (λ n. at (put_one m (item.App id) (value.App row)) (item.Counts n) ≡ at m (item.Counts n)) (sym (eqb-true other id e))
        (ap counts_value (set_application m id (with_row (application_at m id) row) ∙ ap (λ a. Some (with_row a row)) is) ∙ sym (ap counts_value is)))

    apps : KeepsApplications m (put_one m (item.App id) (value.App row))
    apps item.NextApp = refl
    apps (item.App other) = refl
    apps (item.Counts other) = same_counts (application_at (put_one m (item.App id) (value.App row)) other) (application_at m other) (counts other (other == id) refl)
    apps (item.Key other key) = same_counts (application_at (put_one m (item.App id) (value.App row)) other) (application_at m other) (counts other (other == id) refl)
    apps (item.Local who other) = refl
