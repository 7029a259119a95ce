-- The rules of a ledger after a put.
use Rattle.std.proofs.Common.{◌≡◌, ℕ, ◌+◌, ◌^◌, ◌<◌, ◌≤◌, Bool, true, false, cond, ◌&&◌, List, [], ◌∷◌, length, Option, Some, None, All, refl, sym, ap, subst, ◌∙◌, arith}
use Rattle.std.specs.Ordering.{nat_cmp, is_eq, match_ordering}
use Rattle.std.specs.declared.cmp.Ordering.{Ordering}
use Rattle.std.specs.declared.cmp.Ordering.TheVariants.{Less, Equal, Greater}
use Rattle.std.specs.Map.{lookup, remove_entry}
use Rattle.std.specs.BTreeMap.{insert_entry, is_at}
use Rattle.std.specs.List.Sorted.{IsStrictlySortedBy}
use Rattle.std.proofs.lemmas.Bool.{leb-true}
use Rattle.std.specs.FinMap.{nat_cmp-IsAntisymmetric}
use Rattle.std.proofs.lemmas.Cmp.{nat_cmp_total, nat_list_cmp_total}
use Rattle.std.proofs.lemmas.List.Elements.{All-nil, All-cons, All-head, All-tail}
use Rattle.teal_value.specs.declared.address.Address.{Address}
use Rattle.teal_value.specs.declared.value.Value.{Value}
use Rattle.teal_value.specs.declared.value.Value.TheVariants.{Uint, Bytes}
use Rattle.avm_ledger.specs.declared.application.Application.{Application}
use Rattle.avm_states.specs.declared.schema.Schema.{Schema}
use Rattle.avm_states.specs.Entries.{Entries, byte_cmp, value_of_key, with_entry, without_entry}
use Rattle.avm_ledger.specs.declared.application.StoredApplication.{StoredApplication}
use Rattle.avm_ledger.specs.Ledgers.{Ledger, account_cmp, application_at, with_application, without_application, with_local_state, without_local_state, with_row, with_state, empty_ledger}
use Rattle.avm_states.specs.Schemas.{counts_in, uncounted, counts_after, is_within}
use Rattle.avm_ledger.specs.LedgerReader.{local_room, room_of_schema, stored_in}
use Rattle.avm_ledger.specs.LedgerRules.{IsStateValue, IsStateEntry, IsStateIn, IsApplicationBelow, IsLocalStateBelow, KeepsRules}
use Rattle.avm_ledger.proofs.Changes.{account_total}
use Rattle.avm_states.proofs.Maps.{is_Equal, lookup-inserted, lookup-inserted_other, lookup-removed, lookup-removed_other, sorted-inserted, sorted-removed}
use Rattle.avm_states.proofs.Counts.{follow_puts, follow_deletes}
use Rattle.avm_items.specs.declared.item.Item.{Item}
use Rattle.avm_items.specs.declared.item.Item.TheVariants as item
use Rattle.avm_items.specs.declared.item_value.ItemValue.{ItemValue}
use Rattle.avm_items.specs.declared.item_value.ItemValue.TheVariants as value
use Rattle.avm_items.specs.Items.{ItemMap}
use Rattle.avm_items.specs.LedgerItems.{put_one, put}
use Rattle.avm_items.specs.RuleLaws.{IsRowFor, MayKeep, MayKeepAll}
use Rattle.avm_states.proofs.KeyOrder.{byte_same}
use Rattle.avm_ledger.proofs.Changes.{account_same}

-- ---- all entries

each : {A : Type 0} (P Q : A → Type 0) (xs : List A) → ((x : A) → P x → Q x) → All P xs → All Q xs
each P Q [] change all = All-nil Q
each P Q (x ∷ xs) change all = All-cons Q x xs (change x (All-head P x xs all)) (each P Q xs change (All-tail P x xs all))

all_inserted : {K X : Type 0} (R : K → K → Ordering) (P : K × X → Type 0) → ((x y : K) → R x y ≡ Equal → x ≡ y) → (k : K) (v : X) (es : List (K × X)) → P (k, v) → All P es → All P (insert_entry R es k v)
all_inserted R P same k v [] p all = All-cons P (k, v) [] p (All-nil P)
all_inserted R P same k v (e ∷ es) p all = at_order (R k e.0) refl (all_inserted R P same k v es p (All-tail P e es all))
  where
    at_order : (r : Ordering) → R k e.0 ≡ r → All P (insert_entry R es k v) → All P (match_ordering r ((k, v) ∷ e ∷ es) ((e.0, v) ∷ es) (e ∷ insert_entry R es k v))
    at_order Less is later = All-cons P (k, v) (e ∷ es) p all
    at_order Equal is later = All-cons P (e.0, v) es (subst (λ x. P (x, v)) (same k e.0 is) p) (All-tail P e es all)
    at_order Greater is later = All-cons P e (insert_entry R es k v) (All-head P e es all) later

all_removed : {K X : Type 0} (test : K → Bool) (P : K × X → Type 0) (es : List (K × X)) → All P es → All P (remove_entry test es)
all_removed test P [] all = all
all_removed test P (e ∷ es) all = at_test (test e.0) (all_removed test P es (All-tail P e es all))
  where
    at_test : (b : Bool) → All P (remove_entry test es) → All P (cond b es (e ∷ remove_entry test es))
    at_test true later = All-tail P e es all
    at_test false later = All-cons P e (remove_entry test es) (All-head P e es all) later

-- what is found is one of the entries
found : {K X : Type 0} (R : K → K → Ordering) (P : K × X → Type 0) → ((x y : K) → R x y ≡ Equal → x ≡ y) → (k : K) (v : X) (es : List (K × X)) → lookup (is_at (R k)) es ≡ Some v → All P es → P (k, v)
found R P same k v [] e all = absurd cc
found R P same k v (x ∷ xs) e all = at_test (is_eq (R k x.0)) refl (found R P same k v xs) e
  where
    at_test : (b : Bool) → is_eq (R k x.0) ≡ b → (lookup (is_at (R k)) xs ≡ Some v → All P xs → P (k, v)) → cond b (Some x.1) (lookup (is_at (R k)) xs) ≡ Some v → P (k, v)
    at_test true test later e =
        let key : k ≡ x.0 = same k x.0 (is_Equal (R k x.0) test) in
        let value : x.1 ≡ v = cc in
        subst (λ w. P (k, w)) value (subst (λ y. P (y, x.1)) (sym key) (All-head P x xs all))
    at_test false test later e = later e (All-tail P x xs all)

-- ---- states

-- a state has as many entries as it counts
length_counts : (es : Entries) → length es ≡ (counts_in es).uints + (counts_in es).bytes
length_counts [] = refl
length_counts ((k, Uint n) ∷ es) = omega (arith, length_counts es)
length_counts ((k, Bytes s) ∷ es) = omega (arith, length_counts es)

within : (a b : Bool) → (a && b) ≡ true → (a ≡ true) × (b ≡ true)
within true b e = (refl, e)
within false b e = absurd cc

state_put : (limit : Schema) (state : Entries) (key : List ℕ) (v : Value) → length key ≤ 64 → IsStateValue v → IsStateIn (room_of_schema limit) state → is_within (counts_after (value_of_key state key) (Some v) (counts_in state)) limit ≡ true
    → IsStateIn (room_of_schema limit) (with_entry state key v)
state_put limit state key v short fits is room =
    let counts : counts_in (with_entry state key v) ≡ counts_after (value_of_key state key) (Some v) (counts_in state) = follow_puts state key v is.rising in
    let tests = within _ _ room in
    let uints : (counts_in (with_entry state key v)).uints ≤ limit.uints = subst (λ n. n.uints ≤ limit.uints) (sym counts) (leb-true _ limit.uints tests.0) in
    let strings : (counts_in (with_entry state key v)).bytes ≤ limit.bytes = subst (λ n. n.bytes ≤ limit.bytes) (sym counts) (leb-true _ limit.bytes tests.1) in
    record {
      rising = sorted-inserted nat_list_cmp_total key v state is.rising;
      entries = all_inserted byte_cmp IsStateEntry byte_same key v state (short, fits) is.entries;
      few = omega (arith, length_counts (with_entry state key v), uints, strings);
      uints = uints;
      strings = strings;
    }

fewer : (old : Option Value) (n : Schema) → ((uncounted old n).uints ≤ n.uints) × ((uncounted old n).bytes ≤ n.bytes)
fewer None n = (omega arith, omega arith)
fewer (Some (Uint m)) n = (omega arith, omega arith)
fewer (Some (Bytes s)) n = (omega arith, omega arith)

-- a state within its schema stays within it when a key is deleted
pub state_deleted : (limit : Schema) (state : Entries) (key : List ℕ) → IsStateIn (room_of_schema limit) state → IsStateIn (room_of_schema limit) (without_entry state key)
state_deleted limit state key is =
    let counts : counts_in (without_entry state key) ≡ uncounted (value_of_key state key) (counts_in state) = follow_deletes state key in
    let less = fewer (value_of_key state key) (counts_in state) in
    let uints : (counts_in (without_entry state key)).uints ≤ limit.uints = subst (λ n. n.uints ≤ limit.uints) (sym counts) (omega (arith, less.0, is.uints)) in
    let strings : (counts_in (without_entry state key)).bytes ≤ limit.bytes = subst (λ n. n.bytes ≤ limit.bytes) (sym counts) (omega (arith, less.1, is.strings)) in
    record {
      rising = sorted-removed nat_list_cmp_total key state is.rising;
      entries = all_removed (is_at (byte_cmp key)) IsStateEntry state is.entries;
      few = omega (arith, length_counts (without_entry state key), uints, strings);
      uints = uints;
      strings = strings;
    }

-- where the application goes, there is room for what its schema held
gone_room : (limit : Schema) (state : Entries) → limit.uints + limit.bytes ≤ 16 → IsStateIn (room_of_schema limit) state → IsStateIn (local_room None) state
gone_room limit state small is = record { rising = is.rising; entries = is.entries; few = omega (arith, is.few); uints = omega (arith, is.uints); strings = omega (arith, is.strings) }

-- ---- applications

apart : (a b : ℕ) → is_eq (nat_cmp a b) ≡ true → a ≡ b
apart a b e = nat_cmp-IsAntisymmetric a b (is_Equal (nat_cmp a b) e)

keeps_with_application : (l : Ledger) (id : ℕ) (app : StoredApplication) → KeepsRules l → IsApplicationBelow l.next_id (id, app) → All (λ e. e.0.1 ≡ id → IsStateIn (room_of_schema app.row.local_schema) e.1) l.local_states
    → KeepsRules (with_application l id app)
keeps_with_application l id app keeps one states = record {
  next_id = keeps.next_id;
  small = keeps.small;
  rising_ids = sorted-inserted nat_cmp_total id app l.applications keeps.rising_ids;
  applications = all_inserted nat_cmp (IsApplicationBelow l.next_id) nat_cmp-IsAntisymmetric id app l.applications one keeps.applications;
  rising_accounts = keeps.rising_accounts;
  local_states = both l.local_states keeps.local_states states;
}
  where
    room : (e : (Address × ℕ) × Entries) (b : Bool) → is_eq (nat_cmp e.0.1 id) ≡ b → (e.0.1 ≡ id → IsStateIn (room_of_schema app.row.local_schema) e.1) → IsStateIn (local_room (stored_in l.applications e.0.1)) e.1
        → IsStateIn (local_room (stored_in (insert_entry nat_cmp l.applications id app) e.0.1)) e.1
    room e true test own other =
        let same : e.0.1 ≡ id = apart e.0.1 id test in
        let there : stored_in (insert_entry nat_cmp l.applications id app) e.0.1 ≡ Some app = ap (λ i. stored_in (insert_entry nat_cmp l.applications id app) i) same ∙ lookup-inserted nat_cmp_total id app l.applications in
        subst (λ a. IsStateIn (local_room a) e.1) (sym there) (own same)
    room e false test own other =
        let there : stored_in (insert_entry nat_cmp l.applications id app) e.0.1 ≡ stored_in l.applications e.0.1 = lookup-inserted_other nat_cmp_total e.0.1 id app l.applications test in
        subst (λ a. IsStateIn (local_room a) e.1) (sym there) other

    both : (es : List ((Address × ℕ) × Entries)) → All (IsLocalStateBelow l.next_id l.applications) es → All (λ e. e.0.1 ≡ id → IsStateIn (room_of_schema app.row.local_schema) e.1) es
        → All (IsLocalStateBelow l.next_id (insert_entry nat_cmp l.applications id app)) es
    both [] kept own = All-nil (IsLocalStateBelow l.next_id (insert_entry nat_cmp l.applications id app))
    both (e ∷ es) kept own =
        let here = All-head (IsLocalStateBelow l.next_id l.applications) e es kept in
        All-cons (IsLocalStateBelow l.next_id (insert_entry nat_cmp l.applications id app)) e es
        (record { positive = here.positive; below = here.below; account = here.account; state = room e (is_eq (nat_cmp e.0.1 id)) refl (All-head (λ f. f.0.1 ≡ id → IsStateIn (room_of_schema app.row.local_schema) f.1) e es own) here.state })
        (both es (All-tail (IsLocalStateBelow l.next_id l.applications) e es kept) (All-tail (λ f. f.0.1 ≡ id → IsStateIn (room_of_schema app.row.local_schema) f.1) e es own))

keeps_without_application : (l : Ledger) (id : ℕ) → KeepsRules l → KeepsRules (without_application l id)
keeps_without_application l id keeps = record {
  next_id = keeps.next_id;
  small = keeps.small;
  rising_ids = sorted-removed nat_cmp_total id l.applications keeps.rising_ids;
  applications = all_removed (is_at (nat_cmp id)) (IsApplicationBelow l.next_id) l.applications keeps.applications;
  rising_accounts = keeps.rising_accounts;
  local_states = each (IsLocalStateBelow l.next_id l.applications) (IsLocalStateBelow l.next_id (remove_entry (is_at (nat_cmp id)) l.applications)) l.local_states
      (λ e is. record { positive = is.positive; below = is.below; account = is.account; state = room e (is_eq (nat_cmp e.0.1 id)) refl (stored_in l.applications e.0.1) refl is.state }) keeps.local_states;
}
  where
    gone : (e : (Address × ℕ) × Entries) (a : Option StoredApplication) → stored_in l.applications e.0.1 ≡ a → IsStateIn (local_room a) e.1 → IsStateIn (local_room None) e.1
    gone e None is state = state
    gone e (Some app) is state = gone_room app.row.local_schema e.1 (found nat_cmp (IsApplicationBelow l.next_id) nat_cmp-IsAntisymmetric e.0.1 app l.applications is keeps.applications).row.local_schema state

    room : (e : (Address × ℕ) × Entries) (b : Bool) → is_eq (nat_cmp e.0.1 id) ≡ b → (a : Option StoredApplication) → stored_in l.applications e.0.1 ≡ a → IsStateIn (local_room (stored_in l.applications e.0.1)) e.1
        → IsStateIn (local_room (stored_in (remove_entry (is_at (nat_cmp id)) l.applications) e.0.1)) e.1
    room e true test a is state =
        let none : stored_in (remove_entry (is_at (nat_cmp id)) l.applications) e.0.1 ≡ None =
        ap (λ i. stored_in (remove_entry (is_at (nat_cmp id)) l.applications) i) (apart e.0.1 id test) ∙ lookup-removed nat_cmp_total id l.applications keeps.rising_ids in
        subst (λ b. IsStateIn (local_room b) e.1) (sym none) (gone e a is (subst (λ b. IsStateIn (local_room b) e.1) is state))
    room e false test a is state =
        subst (λ b. IsStateIn (local_room b) e.1) (sym (lookup-removed_other nat_cmp_total e.0.1 id l.applications test)) state

-- an application that stands, with another global state
keeps_with_state : (l : Ledger) (id : ℕ) (change : Entries → Entries) (a : Option StoredApplication) → application_at l id ≡ a → KeepsRules l
    → ((app : StoredApplication) → application_at l id ≡ Some app → IsStateIn (room_of_schema app.row.global_schema) app.state → IsStateIn (room_of_schema app.row.global_schema) (change app.state)) → KeepsRules (with_state l id change a)
keeps_with_state l id change None is keeps changed = keeps
keeps_with_state l id change (Some app) is keeps changed =
    let one = found nat_cmp (IsApplicationBelow l.next_id) nat_cmp-IsAntisymmetric id app l.applications is keeps.applications in
    keeps_with_application l id (record app { state = change app.state }) keeps
    (record {
      positive = one.positive;
      below = one.below;
      row = one.row;
      state = changed app is one.state;
    })
    (each (IsLocalStateBelow l.next_id l.applications) (λ e. e.0.1 ≡ id → IsStateIn (room_of_schema app.row.local_schema) e.1) l.local_states
    (λ e kept same. subst (λ b. IsStateIn (local_room b) e.1) (ap (λ i. stored_in l.applications i) same ∙ is) kept.state) keeps.local_states)

-- ---- puts

next_raised : (l : Ledger) (id : ℕ) → KeepsRules l → l.next_id ≤ id → id < 2 ^ 64 → KeepsRules (record l { next_id = id })
next_raised l id keeps higher small = record {
  next_id = omega (arith, keeps.next_id);
  small = small;
  rising_ids = keeps.rising_ids;
  applications = each (IsApplicationBelow l.next_id) (IsApplicationBelow id) l.applications
      (λ e is. record { positive = is.positive; below = omega (arith, is.below); row = is.row; state = is.state }) keeps.applications;
  rising_accounts = keeps.rising_accounts;
  local_states = each (IsLocalStateBelow l.next_id l.applications) (IsLocalStateBelow id l.applications) l.local_states
      (λ e is. record { positive = is.positive; below = omega (arith, is.below); account = is.account; state = is.state }) keeps.local_states;
}

local_put : (l : Ledger) (who : Address) (id : ℕ) (state : Entries) → KeepsRules l → MayKeep l (item.Local who id) (value.Local state) → KeepsRules (with_local_state l who id state)
local_put l who id state keeps may = record {
  next_id = keeps.next_id;
  small = keeps.small;
  rising_ids = keeps.rising_ids;
  applications = keeps.applications;
  rising_accounts = sorted-inserted account_total (who, id) state l.local_states keeps.rising_accounts;
  local_states = all_inserted account_cmp (IsLocalStateBelow l.next_id l.applications) account_same (who, id) state l.local_states
      (record { positive = may.1; below = may.2; account = may.0; state = may.3 }) keeps.local_states;
}

local_removed : (l : Ledger) (who : Address) (id : ℕ) → KeepsRules l → KeepsRules (without_local_state l who id)
local_removed l who id keeps = record {
  next_id = keeps.next_id;
  small = keeps.small;
  rising_ids = keeps.rising_ids;
  applications = keeps.applications;
  rising_accounts = sorted-removed account_total (who, id) l.local_states keeps.rising_accounts;
  local_states = all_removed (is_at (account_cmp (who, id))) (IsLocalStateBelow l.next_id l.applications) l.local_states keeps.local_states;
}

same_row : (a : Option StoredApplication) (row : Application) → (with_row a row).row ≡ row
same_row None row = refl
same_row (Some app) row = refl

row_put : (l : Ledger) (id : ℕ) (row : Application) → KeepsRules l → IsRowFor l id row → KeepsRules (with_application l id (with_row (application_at l id) row))
row_put l id row keeps may =
    keeps_with_application l id (with_row (application_at l id) row) keeps may.application
    (subst (λ r. All (λ e. e.0.1 ≡ id → IsStateIn (room_of_schema r.local_schema) e.1) l.local_states) (sym (same_row (application_at l id) row)) may.local_states)

-- a ledger that keeps the rules keeps them after a put that they allow
pub rules_stay : (l : Ledger) (x : Item) (v : ItemValue) → KeepsRules l → MayKeep l x v → KeepsRules (put_one l x v)
rules_stay l item.NextApp (value.NextApp id) keeps may = next_raised l id keeps may.0 may.1
rules_stay l (item.App id) (value.App row) keeps may = row_put l id row keeps may
rules_stay l (item.App id) value.Absent keeps may = keeps_without_application l id keeps
rules_stay l (item.Key id key) (value.Key v) keeps may =
    keeps_with_state l id (λ s. with_entry s key v) (application_at l id) refl keeps (λ app is state. state_put app.row.global_schema app.state key v may.key_length may.value state (may.room app is))
rules_stay l (item.Key id key) value.Absent keeps may =
    keeps_with_state l id (λ s. without_entry s key) (application_at l id) refl keeps (λ app is state. state_deleted app.row.global_schema app.state key state)
rules_stay l (item.Local who id) (value.Local state) keeps may = local_put l who id state keeps may
rules_stay l (item.Local who id) value.Absent keeps may = local_removed l who id keeps
rules_stay l _ _ keeps may = keeps

-- a ledger that keeps the rules keeps them after many puts, each allowed where it is made
pub all_stay : (l : Ledger) (items : ItemMap) → KeepsRules l → MayKeepAll l items → KeepsRules (put l items)
all_stay l [] keeps may = keeps
all_stay l (e ∷ es) keeps may = all_stay (put_one l e.0 e.1) es (rules_stay l e.0 e.1 keeps may.0) may.1

-- the ledger without applications and local states, with next id 1, keeps the rules
pub empty_keeps : KeepsRules empty_ledger
unfolding IsStrictlySortedBy
empty_keeps = record {
  next_id = omega arith;
  small = omega arith;
  rising_ids = tt;
  applications = All-nil (IsApplicationBelow 1);
  rising_accounts = tt;
  local_states = All-nil (IsLocalStateBelow 1 []);
}
