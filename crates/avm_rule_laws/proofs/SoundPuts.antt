-- A ledger that keeps the rules and is of bytes is so after each put of a call.
use Rattle.std.proofs.Common.{◌≡◌, ℕ, ◌+◌, ◌≤◌, Bool, true, false, cond, ◌&&◌, List, [], ◌∷◌, length, Option, None, Some, refl, sym, ap, ◌∙◌, subst, arith, nat_le}
use Rattle.std.specs.Prelude.{◌||◌, All, IfSome}
use Rattle.std.specs.Ordering.{nat_cmp, match_ordering}
use Rattle.std.specs.declared.cmp.Ordering.{Ordering}
use Rattle.std.specs.declared.cmp.Ordering.TheVariants.{Less, Equal, Greater}
use Rattle.std.specs.Map.{keys_of, remove_entry}
use Rattle.std.specs.BTreeMap.{insert_entry, is_at}
use Rattle.std.specs.List.Sorted.{IsStrictlySortedBy}
use Rattle.std.proofs.lemmas.Bool.{le-leb, leb-true, and_parts}
use Rattle.std.proofs.lemmas.Cmp.{nat_list_cmp_total}
use Rattle.std.proofs.lemmas.List.Elements.{All-nil, All-cons, All-head, All-tail, All-contains}
use Rattle.std.proofs.lemmas.Map.Views.{Contains-from_lookup}
use Rattle.teal_value.specs.declared.address.Address.{Address}
use Rattle.teal_value.specs.declared.value.Value.{Value}
use Rattle.teal_value.specs.declared.value.Value.TheVariants.{Uint, Bytes}
use Rattle.avm_ledger.specs.declared.application.Application.{Application}
use Rattle.avm_ledger.specs.declared.application.StoredApplication.{StoredApplication}
use Rattle.avm_states.specs.declared.schema.Schema.{Schema}
use Rattle.avm_states.specs.Entries.{Entries, byte_cmp, value_of_key, with_entry, without_entry}
use Rattle.avm_states.specs.Schemas.{counts_in, counts_after, is_within, keeps_kind}
use Rattle.avm_ledger.specs.Ledgers.{Ledger, account_cmp, application_at, local_state_at, with_application, with_row, with_state}
use Rattle.avm_ledger.specs.LedgerReader.{local_room, room_of_schema}
use Rattle.avm_ledger.specs.LedgerRules.{IsStateValue, IsStateEntry, IsStateIn, IsLocalStateBelow, KeepsRules}
use Rattle.avm_ledger.proofs.Changes.{account_same}
use Rattle.avm_states.proofs.Counts.{follow_puts, stay_with_kind}
use Rattle.avm_states.proofs.Maps.{is_Equal, sorted-inserted}
use Rattle.avm_items.specs.declared.item.Item.{Item}
use Rattle.avm_items.specs.declared.item.Item.TheVariants as item
use Rattle.avm_items.specs.declared.item_value.ItemValue.{ItemValue}
use Rattle.avm_items.specs.declared.item_value.ItemValue.TheVariants as value
use Rattle.avm_items.specs.Items.{ItemMap, application_in, local_state_in}
use Rattle.avm_items.specs.LedgerItems.{at, put_one, row_value, local_value}
use Rattle.avm_items.specs.RuleLaws.{IsEntryFor, MayKeep}
use Rattle.avm_items.proofs.RulesKept.{rules_stay, state_deleted}
use Rattle.avm_ops.specs.Frame.{Context}
use Rattle.avm_ops.specs.States.{value_length, schema_in}
use Rattle.avm_rule_laws.specs.Rules.{IsMachineValue, AreMachineValues, IsRowOfBytes, IsStoredOfBytes, IsLedgerOfBytes, IsSound}
use Rattle.avm_ops.proofs.WrittenItems.{Writes, Nothing, SameKind, Counted, Deleted, LocalPut, LocalDeleted, IsPut, limit_of}
use Rattle.avm_laws.proofs.Following.{the_application, entry_there, counts_there}
use Rattle.avm_laws.proofs.FollowedRuns.{led}
use Rattle.avm_rule_laws.proofs.FittingRows.{Fits, stored_fits, local_fits}
use Rattle.avm_ledger.proofs.KeptOrder.{application_rules}

-- ---- all entries, after an insertion and a removal

with_by : {K X : Type 0} (P : K × X → Type 0) (k : K) (v : X) (e : K × X) (es fs : List (K × X)) → P (k, v) → ((d : K × X) → P d → P (d.0, v)) → All P (e ∷ es) → All P fs
    → (r : Ordering) → All P (match_ordering r ((k, v) ∷ e ∷ es) ((e.0, v) ∷ es) (e ∷ fs))
with_by P k v e es fs p more all later Less = All-cons P (k, v) (e ∷ es) p all
with_by P k v e es fs p more all later Equal = All-cons P (e.0, v) es (more e (All-head P e es all)) (All-tail P e es all)
with_by P k v e es fs p more all later Greater = All-cons P e fs (All-head P e es all) later

all_with : {K X : Type 0} (R : K → K → Ordering) (P : K × X → Type 0) (k : K) (v : X) (es : List (K × X)) → P (k, v) → ((d : K × X) → P d → P (d.0, v)) → All P es → All P (insert_entry R es k v)
all_with R P k v [] p more all = All-cons P (k, v) [] p (All-nil P)
all_with R P k v (e ∷ es) p more all = with_by P k v e es (insert_entry R es k v) p more all (all_with R P k v es p more (All-tail P e es all)) (R k e.0)

without_by : {X : Type 0} (P : X → Type 0) (e : X) (es fs : List X) → All P (e ∷ es) → All P fs → (b : Bool) → All P (cond b es (e ∷ fs))
without_by P e es fs all later true = All-tail P e es all
without_by P e es fs all later false = All-cons P e fs (All-head P e es all) later

all_without : {K X : Type 0} (test : K → Bool) (P : K × X → Type 0) (es : List (K × X)) → All P es → All P (remove_entry test es)
all_without test P [] all = all
all_without test P (e ∷ es) all = without_by P e es (remove_entry test es) all (all_without test P es (All-tail P e es all)) (test e.0)

-- ---- bytes stay bytes

-- what is put holds bytes and machine values alone
abbrev pub BringsBytes : Item → ItemValue → Type 0
BringsBytes (item.App id) (value.App row) = IsRowOfBytes row
BringsBytes (item.Key id key) (value.Key v) = IsMachineValue v
BringsBytes (item.Local who id) (value.Local state) = AreMachineValues state
BringsBytes _ _ = Unit {0}

values_with : (state : Entries) (key : List ℕ) (v : Value) → IsMachineValue v → AreMachineValues state → AreMachineValues (with_entry state key v)
values_with state key v h all = all_with byte_cmp (λ e. IsMachineValue e.1) key v state h (λ e g. h) all

values_without : (state : Entries) (key : List ℕ) → AreMachineValues state → AreMachineValues (without_entry state key)
values_without state key all = all_without (is_at (byte_cmp key)) (λ e. IsMachineValue e.1) state all

application_of_bytes : (l : Ledger) (id : ℕ) (app : StoredApplication) → IsLedgerOfBytes l → IsRowOfBytes app.row × AreMachineValues app.state → IsLedgerOfBytes (with_application l id app)
application_of_bytes l id app b h = record { applications = all_with nat_cmp IsStoredOfBytes id app l.applications h (λ e g. h) b.applications; local_states = b.local_states }

row_of_bytes : (row : Application) (a : Option StoredApplication) → IsRowOfBytes row → IfSome a (λ app. IsRowOfBytes app.row × AreMachineValues app.state) → IsRowOfBytes (with_row a row).row × AreMachineValues (with_row a row).state
row_of_bytes row None h g = (h, All-nil (λ e. IsMachineValue e.1))
row_of_bytes row (Some app) h g = (h, g.1)

state_of_bytes : (l : Ledger) (id : ℕ) (change : Entries → Entries) → ((state : Entries) → AreMachineValues state → AreMachineValues (change state)) → IsLedgerOfBytes l → (a : Option StoredApplication) → IfSome a (λ app. IsRowOfBytes app.row × AreMachineValues app.state)
    → IsLedgerOfBytes (with_state l id change a)
state_of_bytes l id change keeps b None h = b
state_of_bytes l id change keeps b (Some app) h = application_of_bytes l id (record app { state = change app.state }) b (h.0, keeps app.state h.1)

bytes_put : (l : Ledger) (x : Item) (v : ItemValue) → IsSound l → BringsBytes x v → IsLedgerOfBytes (put_one l x v)
bytes_put l item.NextApp (value.NextApp id) s h = record { applications = s.of_bytes.applications; local_states = s.of_bytes.local_states }
bytes_put l (item.App id) (value.App row) s h = application_of_bytes l id (with_row (application_at l id) row) s.of_bytes (row_of_bytes row (application_at l id) h (stored_fits l s id))
bytes_put l (item.App id) value.Absent s h = record { applications = all_without (is_at (nat_cmp id)) IsStoredOfBytes l.applications s.of_bytes.applications; local_states = s.of_bytes.local_states }
bytes_put l (item.Key id key) (value.Key v) s h = state_of_bytes l id (λ t. with_entry t key v) (λ t all. values_with t key v h all) s.of_bytes (application_at l id) (stored_fits l s id)
bytes_put l (item.Key id key) value.Absent s h = state_of_bytes l id (λ t. without_entry t key) (λ t all. values_without t key all) s.of_bytes (application_at l id) (stored_fits l s id)
bytes_put l (item.Local who id) (value.Local state) s h =
    record { applications = s.of_bytes.applications; local_states = all_with account_cmp (λ e. AreMachineValues e.1) (who, id) state l.local_states h (λ e g. h) s.of_bytes.local_states }
bytes_put l (item.Local who id) value.Absent s h =
    record { applications = s.of_bytes.applications; local_states = all_without (is_at (account_cmp (who, id))) (λ e. AreMachineValues e.1) l.local_states s.of_bytes.local_states }
bytes_put l _ _ s h = s.of_bytes

-- a put that the rules allow, of bytes and machine values, keeps a sound ledger sound
pub sound_put : (l : Ledger) (x : Item) (v : ItemValue) → IsSound l → MayKeep l x v → BringsBytes x v → IsSound (put_one l x v)
sound_put l x v s may brings = record { rules = rules_stay l x v s.rules may; of_bytes = bytes_put l x v s brings }

-- ---- states within their schemas

length_counts : (es : Entries) → length es ≡ (counts_in es).uints + (counts_in es).bytes
length_counts [] = refl
length_counts ((k, Uint n) ∷ es) = omega (arith, length_counts es)
length_counts ((k, Bytes s) ∷ es) = omega (arith, length_counts es)

state_within : (limit : Schema) (state : Entries) → IsStrictlySortedBy byte_cmp (keys_of state) → All IsStateEntry state → is_within (counts_in state) limit ≡ true → IsStateIn (room_of_schema limit) state
state_within limit state rising entries room =
    let parts = and_parts (nat_le (counts_in state).uints limit.uints) (nat_le (counts_in state).bytes limit.bytes) room in
    let uints = leb-true (counts_in state).uints limit.uints parts.0 in
    let strings = leb-true (counts_in state).bytes limit.bytes parts.1 in
    record { rising = rising; entries = entries; few = omega (arith, length_counts state, uints, strings); uints = uints; strings = strings }

within_room : (limit : Schema) (state : Entries) → IsStateIn (room_of_schema limit) state → is_within (counts_in state) limit ≡ true
within_room limit state is = λ i. le-leb (counts_in state).uints limit.uints is.uints i && le-leb (counts_in state).bytes limit.bytes is.strings i

-- ---- keys of the application that runs

operand_fits : (m : Ledger) (c : Context) → Fits m c → (key : List ℕ) (v : Value) → IsPut c key v → IsMachineValue v
operand_fits m c f key v put = All-contains IsMachineValue c.machine.stack v f.stack put.operand

state_value : (v : Value) → IsMachineValue v → nat_le (value_length v) 64 ≡ true → IsStateValue v
state_value (Uint n) h short = h
state_value (Bytes s) h short = leb-true (length s) 64 short

limit_there : (part : Application → Schema) (m : Ledger) (id : ℕ) (app : StoredApplication) → application_at m id ≡ Some app → limit_of part m id ≡ part app.row
limit_there part m id app is = ap (λ a. schema_in part (application_in (row_value a))) is

entry_for : (m : Ledger) (c : Context) → Fits m c → (key : List ℕ) (v : Value) → IsPut c key v
    → ((app : StoredApplication) → application_at m c.current ≡ Some app → is_within (counts_after (value_of_key app.state key) (Some v) (counts_in app.state)) app.row.global_schema ≡ true) → IsEntryFor m c.current key v
entry_for m c f key v put room = record {
  key_length = leb-true (length key) 64 put.key_length;
  value = state_value v (operand_fits m c f key v put) put.value_length;
  room = room;
}

same_kind_room : (m : Ledger) (id : ℕ) (key : List ℕ) (v : Value) → IsSound m → (app : StoredApplication) → application_at m id ≡ Some app → keeps_kind (value_of_key app.state key) (Some v) ≡ true
    → is_within (counts_after (value_of_key app.state key) (Some v) (counts_in app.state)) app.row.global_schema ≡ true
same_kind_room m id key v s app is same =
    let state = (application_rules m id app s.rules is).state in
    ap (λ n. is_within n app.row.global_schema) (sym (follow_puts app.state key v state.rising) ∙ stay_with_kind app.state key v state.rising same) ∙ within_room app.row.global_schema app.state state

-- ---- local states

local_there : (a : Option Entries) (state : Entries) → local_state_in (local_value a) ≡ Some state → a ≡ Some state
local_there None state e = absurd cc
local_there (Some t) state e = e

same_pair : (x y : Address × ℕ) → is_at (account_cmp x) y ≡ true → x ≡ y
same_pair x y e = account_same x y (is_Equal (account_cmp x y) e)

local_rules : (m : Ledger) (who : Address) (id : ℕ) (state : Entries) → KeepsRules m → local_state_at m who id ≡ Some state → IsLocalStateBelow m.next_id m.applications ((who, id), state)
local_rules m who id state keeps is =
    All-contains (IsLocalStateBelow m.next_id m.applications) m.local_states ((who, id), state) keeps.local_states (Contains-from_lookup {eq = λ x y. is_at (account_cmp x) y} same_pair (who, id) state m.local_states is)

-- a local state of the application that runs, and another one in its place
local_may : (m : Ledger) (c : Context) → Fits m c → (who : Address) (state new : Entries) → local_state_in (at m (item.Local who c.current)) ≡ Some state
    → ((app : StoredApplication) → application_at m c.current ≡ Some app → IsStateIn (room_of_schema app.row.local_schema) state → IsStateIn (room_of_schema app.row.local_schema) new) → MayKeep m (item.Local who c.current) (value.Local new)
local_may m c f who state new there change =
    let rules = local_rules m who c.current state f.ledger.rules (local_there (local_state_at m who c.current) state there) in (
      rules.account,
      rules.positive,
      rules.below,
      the_application m c.current f.stands (λ app is.
          subst (λ a. IsStateIn (local_room a) new) (sym is) (change app is (subst (λ a. IsStateIn (local_room a) state) is rules.state))),
    )

entries_with : (state : Entries) (key : List ℕ) (v : Value) → length key ≤ 64 → IsStateValue v → All IsStateEntry state → All IsStateEntry (with_entry state key v)
entries_with state key v short h all = all_with byte_cmp IsStateEntry key v state (short, h) (λ e g. (g.0, h)) all

put_room : (limit : Schema) (state : Entries) (key : List ℕ) (v : Value) → IsStateIn (room_of_schema limit) state → (b : Bool) → keeps_kind (value_of_key state key) (Some v) ≡ b
    → (b || is_within (counts_in (with_entry state key v)) limit) ≡ true → is_within (counts_in (with_entry state key v)) limit ≡ true
put_room limit state key v is true same room = ap (λ n. is_within n limit) (stay_with_kind state key v is.rising same) ∙ within_room limit state is
put_room limit state key v is false other room = room

local_with : (limit : Schema) (state : Entries) (key : List ℕ) (v : Value) → length key ≤ 64 → IsStateValue v → (keeps_kind (value_of_key state key) (Some v) || is_within (counts_in (with_entry state key v)) limit) ≡ true
    → IsStateIn (room_of_schema limit) state → IsStateIn (room_of_schema limit) (with_entry state key v)
local_with limit state key v short h room is =
    state_within limit (with_entry state key v) (sorted-inserted nat_list_cmp_total key v state is.rising) (entries_with state key v short h is.entries)
    (put_room limit state key v is (keeps_kind (value_of_key state key) (Some v)) refl room)

-- ---- what an instruction writes

-- where what an instruction is given fits, the ledger after its writes is sound
pub led_sound : (m : Ledger) (c : Context) (w : ItemMap) → Fits m c → (h : Writes m c w) → IsSound (led m c w h)
led_sound m c w f (Nothing is) = f.ledger
led_sound m c w f (SameKind key v put same is) =
    sound_put m (item.Key c.current key) (value.Key v) f.ledger
    (entry_for m c f key v put (λ app there. same_kind_room m c.current key v f.ledger app there (ap (λ o. keeps_kind o (Some v)) (sym (entry_there m c.current key app there)) ∙ same)))
    (operand_fits m c f key v put)
led_sound m c w f (Counted key v put room is) =
    sound_put m (item.Key c.current key) (value.Key v) f.ledger
    (entry_for m c f key v put (λ app there.
    sym (λ i. is_within (counts_after (entry_there m c.current key app there i) (Some v) (counts_there m c.current app there i)) (limit_there (λ row. row.global_schema) m c.current app there i)) ∙ room))
    (operand_fits m c f key v put)
led_sound m c w f (Deleted key is) = sound_put m (item.Key c.current key) value.Absent f.ledger tt tt
led_sound m c w f (LocalPut who state key v there put room is) =
    sound_put m (item.Local who c.current) (value.Local (with_entry state key v)) f.ledger
    (local_may m c f who state (with_entry state key v) there (λ app here.
    local_with app.row.local_schema state key v (leb-true (length key) 64 put.key_length) (state_value v (operand_fits m c f key v put) put.value_length)
    (sym (ap (λ limit. keeps_kind (value_of_key state key) (Some v) || is_within (counts_in (with_entry state key v)) limit) (limit_there (λ row. row.local_schema) m c.current app here)) ∙ room)))
    (values_with state key v (operand_fits m c f key v put) (local_fits m f.ledger who c.current state there))
led_sound m c w f (LocalDeleted who state key there is) =
    sound_put m (item.Local who c.current) (value.Local (without_entry state key)) f.ledger
    (local_may m c f who state (without_entry state key) there (λ app here. state_deleted app.row.local_schema state key))
    (values_without state key (local_fits m f.ledger who c.current state there))
