-- What an instruction writes and asks for over a ledger: each row that asks, and then all others.
use Rattle.std.proofs.Common.{rules, ◌≡◌, ℕ, Bool, true, false, nat_lt, nat_le, if◌then◌else◌, List, [], ◌∷◌, length, Option, None, Some, Result, Ok, Err, refl, sym, ap, ◌∙◌, subst, arith}
use Rattle.std.specs.Prelude.{◌||◌, is_none, is_some, unwrap_or}
use Rattle.std.specs.List.{Contains}
use Rattle.std.proofs.lemmas.List.Elements.{Contains-append_left, Contains-push}
use Rattle.teal_value.specs.declared.address.Address.{Address}
use Rattle.teal_value.specs.declared.value.Value.{Value}
use Rattle.teal_value.specs.declared.value.Value.TheVariants.{Uint, Bytes}
use Rattle.teal_value.specs.declared.fault.Fault.{Fault}
use Rattle.teal_value.specs.declared.fault.Fault.TheVariants as fault
use Rattle.teal_value.specs.Keys.{most_key_bytes}
use Rattle.teal_table.specs.declared.opcode.Opcode.{Opcode}
use Rattle.teal_table.specs.declared.opcode.Opcode.TheVariants as op
use Rattle.teal_table.specs.declared.global_fields.GlobalField.{GlobalField}
use Rattle.teal_table.specs.declared.global_fields.GlobalField.TheVariants as global
use Rattle.teal_table.specs.Fields.{global_field_at}
use Rattle.teal_code.specs.declared.instr.Immediates.{Immediates}
use Rattle.avm_ledger.specs.declared.application.Application.{Application}
use Rattle.avm_states.specs.declared.schema.Schema.{Schema}
use Rattle.avm_ledger.specs.declared.application.StoredApplication.{StoredApplication}
use Rattle.avm_states.specs.Entries.{Entries, value_of_key, with_entry, without_entry, most_value_bytes}
use Rattle.avm_states.specs.Schemas.{no_entries, counts_in, is_within, keeps_kind, counts_after}
use Rattle.avm_ledger.specs.Ledgers.{Ledger, application_at}
use Rattle.avm_items.specs.declared.item.Item.{Item}
use Rattle.avm_items.specs.declared.item.Item.TheVariants as item
use Rattle.avm_items.specs.declared.item_value.ItemValue.TheVariants as value
use Rattle.avm_items.specs.Items.{ItemMap, Look, with_item, application_in, entry_in, local_state_in, kept_counts_in}
use Rattle.avm_items.specs.LedgerItems.{at, row_value, is_of_gone}
use Rattle.avm_items.specs.Asks.{Ask, Gives, Asks, and_then}
use Rattle.avm_items.specs.Acts.{Act, on_ok, found, test, done}
use Rattle.avm_items.specs.CallFields.{account}
use Rattle.avm_cpu.specs.Operands.{bytes_and_value, uint_and_bytes, uint_bytes_and_value, one_bytes}
use Rattle.avm_cpu.specs.Machine.{most_values}
use Rattle.avm_ops.specs.Frame.{Context, After, Stepped, pushes, next_with_stack, replaces, replaces_pair, flag}
use Rattle.avm_ops.specs.Immediates.{field_of}
use Rattle.avm_ops.specs.Fields.{global_at}
use Rattle.avm_ops.specs.States.{value_length, foreign_of, global_entry, may_put, global_put_over, global_delete_of, schema_in, key_written, counts_written, leaves, local_limit, the_account, the_local_state, application, or_zero}
use Rattle.avm_ops.specs.Effect.{effect}
use Rattle.avm_items.specs.Counting.{AsksAtMost, Any}
use Rattle.avm_ops.proofs.ActParts as part
use Rattle.avm_ops.proofs.RowFacts.{OnOk, FactsOf, questions, writes_items, row_facts, at_most-each}
use Rattle.avm_ops.proofs.Questions.{Along, along-each}

-- ---- what may be written

-- what a ledger has of an application: the entry of a key, the counts, and the limit of a schema
abbrev pub old_entry : Ledger → ℕ → List ℕ → Option Value
old_entry m id key = entry_in (at m (item.Key id key))

abbrev pub old_counts : Ledger → ℕ → Schema
old_counts m id = unwrap_or (kept_counts_in (at m (item.Counts id))) no_entries

abbrev pub limit_of : (Application → Schema) → Ledger → ℕ → Schema
limit_of part m id = schema_in part (application_in (at m (item.App id)))

-- a key and a value that pass the tests of every put; the value is an operand
pub record IsPut (c : Context) (key : List ℕ) (v : Value) : Type 0 where
  pub key_length : nat_le (length key) most_key_bytes ≡ true
  pub value_length : nat_le (value_length v) most_value_bytes ≡ true
  pub operand : Contains c.machine.stack v

-- another value of the kind of the old one; a value that counts, within the limit; no value
pub data Writes (m : Ledger) (c : Context) (writes : ItemMap) : Type 0 where
  Nothing : writes ≡ c.writes → Writes m c writes
  SameKind : (key : List ℕ) (v : Value) → IsPut c key v → keeps_kind (old_entry m c.current key) (Some v) ≡ true → writes ≡ key_written c key (Some v) c.writes → Writes m c writes
  Counted : (key : List ℕ) (v : Value) → IsPut c key v → is_within (counts_after (old_entry m c.current key) (Some v) (old_counts m c.current)) (limit_of (λ row. row.global_schema) m c.current) ≡ true
      → writes ≡ counts_written c (counts_after (old_entry m c.current key) (Some v) (old_counts m c.current)) (key_written c key (Some v) c.writes) → Writes m c writes
  Deleted : (key : List ℕ) → writes ≡ counts_written c (counts_after (old_entry m c.current key) None (old_counts m c.current)) (key_written c key None c.writes) → Writes m c writes
  LocalPut : (who : Address) (state : Entries) (key : List ℕ) (v : Value) → local_state_in (at m (item.Local who c.current)) ≡ Some state → IsPut c key v
      → (keeps_kind (value_of_key state key) (Some v) || is_within (counts_in (with_entry state key v)) (limit_of (λ row. row.local_schema) m c.current)) ≡ true
      → writes ≡ with_item c.writes (item.Local who c.current) (value.Local (with_entry state key v)) → Writes m c writes
  LocalDeleted : (who : Address) (state : Entries) (key : List ℕ) → local_state_in (at m (item.Local who c.current)) ≡ Some state
      → writes ≡ with_item c.writes (item.Local who c.current) (value.Local (without_entry state key)) → Writes m c writes

-- ---- what holds where an instruction doesn't fault

-- the item is no key and no count of an application that is gone
abbrev pub IsThere : Ledger → Item → Type 0
IsThere m x = is_of_gone m x ≡ false

-- it asks for no key or count of a gone application, and R holds where there is no fault
abbrev pub Row : Ledger → (After → Type 0) → Act Fault After → Type 0
Row m R t = Along (at m) (IsThere m) (OnOk R) t

-- the items written stay as they were
abbrev pub Same : Context → After → Type 0
Same c after = after.writes ≡ c.writes

-- an instruction that doesn't write items leaves those written as they were
pub effect_same : (c : Context) (o : Opcode) (i : Immediates) → writes_items o ≡ false → AsksAtMost Any (questions o) (OnOk (Same c)) (effect c o i)
effect_same c o i quiet = at_most-each (questions o) (questions o) (OnOk (FactsOf c o i)) (OnOk (Same c)) (effect c o i) (omega arith) same (row_facts c o i).leaves
  where
    same : (r : Stepped) → OnOk (FactsOf c o i) r → OnOk (Same c) r
    same (Ok after) h = h.same quiet
    same (Err f) h = tt

-- ---- rows that ask

then_act : {A : Type 0} (m : Ledger) (R : After → Type 0) (r : Result A Fault) (f : A → Act Fault After) → ((a : A) → Row m R (f a)) → Row m R (on_ok f r)
then_act m R r f h = part.then_act (Row m R) (λ e. tt) r f (λ a _. h a)

-- where a value must be there, R holds if it holds of what follows
pub then_found : {A : Type 0} (m : Ledger) (R : After → Type 0) (o : Option A) (e : Fault) (f : A → Act Fault After) → ((a : A) → Row m R (f a)) → Row m R (and_then (found o e) (on_ok f))
then_found m R o e f h = part.then_found (Row m R) o e f tt (λ a _. h a)

entry_read : (m : Ledger) (R : After → Type 0) (id : ℕ) (key : List ℕ) (f : Option Value → Act Fault After) → is_none (application_at m id) ≡ false → ((v : Option Value) → Row m R (f v)) → Row m R (and_then (global_entry id key) (on_ok f))
entry_read m R id key f stands h = part.entry_by (Row m R) (item.Key id key) f (nat_le (length key) most_key_bytes) (λ _. (stands, h (old_entry m id key))) (λ _. h None)

-- an application that has a row is there
pub stands_if_row : (m : Ledger) (id : ℕ) (a : Option StoredApplication) → is_some (application_in (row_value a)) ≡ true → is_none a ≡ false
stands_if_row m id None e = absurd cc
stands_if_row m id (Some app) e = refl

pushed : (c : Context) (v : Value) → OnOk (Same c) (pushes c v)
pushed c v = either (nat_lt (length c.machine.stack) most_values)
  where
    either : (b : Bool) → OnOk (Same c) (if b then Ok (next_with_stack c (v ∷ c.machine.stack)) else Err fault.StackFull)
    either true = refl
    either false = tt

global_reads : (m : Ledger) (c : Context) (f : Option GlobalField) → Row m (Same c) (and_then (global_at c f) (on_ok (λ v. Gives (pushes c v))))
global_reads m c None = tt
global_reads m c (Some global.CreatorAddress) = (refl, pushed c _)
global_reads m c (Some global.MinTxnFee) = pushed c _
global_reads m c (Some global.MinBalance) = pushed c _
global_reads m c (Some global.MaxTxnLife) = pushed c _
global_reads m c (Some global.ZeroAddress) = pushed c _
global_reads m c (Some global.GroupSize) = pushed c _
global_reads m c (Some global.LogicSigVersion) = pushed c _
global_reads m c (Some global.Round) = pushed c _
global_reads m c (Some global.LatestTimestamp) = pushed c _
global_reads m c (Some global.CurrentApplicationId) = pushed c _

-- where an instruction names an application, R holds if it holds for each application
pub foreign_by : (m : Ledger) (R : After → Type 0) (f : ℕ → Act Fault After) → ((id : ℕ) → Row m R (f id)) → (r : Result ℕ Fault) → Row m R (on_ok f r)
foreign_by m R f h (Ok id) = h id
foreign_by m R f h (Err e) = tt

-- ---- rows that write nothing

quiet : (m : Ledger) (c : Context) (t : Act Fault After) → Row m (Same c) t → Row m (λ after. Writes m c after.writes) t
quiet m c t h = along-each (at m) (IsThere m) (OnOk (Same c)) (OnOk (λ after. Writes m c after.writes)) t each h
  where
    each : (r : Stepped) → OnOk (Same c) r → OnOk (λ after. Writes m c after.writes) r
    each (Ok after) e = Nothing e
    each (Err f) e = tt

along-none : {A : Type 0} (look : Look) (Q : Item → Type 0) (P : A → Type 0) (n : ℕ) (t : Ask A) → n ≡ 0 → AsksAtMost Any n P t → Along look Q P t
along-none look Q P n (Gives a) none h = h
along-none look Q P n (Asks x k) none h = absurd (omega (arith, h.0, none))

-- a row that asks nothing
silent : (m : Ledger) (c : Context) (o : Opcode) (i : Immediates) → questions o ≡ 0 → writes_items o ≡ false → Row m (λ after. Writes m c after.writes) (effect c o i)
silent m c o i none same = quiet m c (effect c o i) (along-none (at m) (IsThere m) (OnOk (Same c)) (questions o) (effect c o i) none (effect_same c o i same))

-- ---- rows that write

on_top : {A : Type 0} (x : A) (xs : List A) → Contains (x ∷ xs) x
on_top x xs = Contains-append_left (x ∷ []) xs x (Contains-push [] x)

second_on_top : (stack : List Value) (a : List ℕ × Value) → bytes_and_value stack ≡ Ok a → Contains stack a.1
second_on_top (b ∷ Bytes s ∷ rest) a e = subst (λ x. Contains (b ∷ Bytes s ∷ rest) x.1) (is e) (on_top b (Bytes s ∷ rest))
  where
    is : ◌≡◌ {A = Result (List ℕ × Value) Fault} (Ok (s, b)) (Ok a) → ◌≡◌ {A = List ℕ × Value} (s, b) a
    is e = cc
second_on_top (b ∷ Uint n ∷ rest) a e = absurd cc
second_on_top (b ∷ []) a e = absurd cc
second_on_top [] a e = absurd cc

third_on_top : (stack : List Value) (a : ℕ × List ℕ × Value) → uint_bytes_and_value stack ≡ Ok a → Contains stack a.2
third_on_top (b ∷ Bytes s ∷ Uint n ∷ rest) a e = subst (λ x. Contains (b ∷ Bytes s ∷ Uint n ∷ rest) x.2) (is e) (on_top b (Bytes s ∷ Uint n ∷ rest))
  where
    is : ◌≡◌ {A = Result (ℕ × List ℕ × Value) Fault} (Ok (n, s, b)) (Ok a) → ◌≡◌ {A = ℕ × List ℕ × Value} (n, s, b) a
    is e = cc
third_on_top (b ∷ Bytes s ∷ Bytes t ∷ rest) a e = absurd cc
third_on_top (b ∷ Uint k ∷ c ∷ rest) a e = absurd cc
third_on_top (b ∷ Bytes s ∷ []) a e = absurd cc
third_on_top (b ∷ Uint k ∷ []) a e = absurd cc
third_on_top (b ∷ []) a e = absurd cc
third_on_top [] a e = absurd cc

put_row : (m : Ledger) (c : Context) (key : List ℕ) (v : Value) → IsPut c key v → (b : Bool) → keeps_kind (old_entry m c.current key) (Some v) ≡ b → is_none (application_at m c.current) ≡ false
    → Row m (λ after. Writes m c after.writes) (global_put_over c key v (old_entry m c.current key) b)
put_row m c key v is true same stands = SameKind key v is same refl
put_row m c key v is false other stands = (
  stands,
  (
    refl,
    part.then_test (Row m (λ after. Writes m c after.writes)) (is_within (counts_after (old_entry m c.current key) (Some v) (old_counts m c.current)) (limit_of (λ row. row.global_schema) m c.current)) fault.Schema _ tt
        (λ room. Counted key v is room refl),
  ),
)

delete_row : (m : Ledger) (c : Context) (key : List ℕ) (old : Option Value) → old_entry m c.current key ≡ old → is_none (application_at m c.current) ≡ false → Row m (λ after. Writes m c after.writes) (global_delete_of c key old)
delete_row m c key None is stands = Nothing refl
delete_row m c key (Some v) is stands =
    (stands, Deleted key (ap (λ o. counts_written c (counts_after o None (old_counts m c.current)) (key_written c key None c.writes)) (sym is)))

local_delete_by : (m : Ledger) (c : Context) (who : Address) (state : Entries) (key : List ℕ) → local_state_in (at m (item.Local who c.current)) ≡ Some state → (b : Bool)
    → Writes m c (if b then with_item c.writes (item.Local who c.current) (value.Local (without_entry state key)) else c.writes)
local_delete_by m c who state key is true = LocalDeleted who state key is refl
local_delete_by m c who state key is false = Nothing refl

global_put_row : (m : Ledger) (c : Context) → is_none (application_at m c.current) ≡ false → (r : Result (List ℕ × Value) Fault) → ((a : List ℕ × Value) → r ≡ Ok a → Contains c.machine.stack a.1)
    → Row m (λ after. Writes m c after.writes) (on_ok (λ operands. and_then (may_put operands.0 operands.1) (on_ok (λ _. and_then (global_entry c.current operands.0) (on_ok (λ old. global_put_over c operands.0 operands.1 old (keeps_kind old (Some operands.1))))))) r)
global_put_row m c stands (Err f) operand = tt
global_put_row m c stands (Ok a) operand =
    part.may_put_by (Row m (λ after. Writes m c after.writes)) (λ e. tt) _ (nat_le (length a.0) most_key_bytes) (nat_le (value_length a.1) most_value_bytes) (λ short small.
    part.entry_by (Row m (λ after. Writes m c after.writes)) (item.Key c.current a.0) _ (nat_le (length a.0) most_key_bytes)
    (λ _. (stands, put_row m c a.0 a.1 (record { key_length = short; value_length = small; operand = operand a refl }) (keeps_kind (old_entry m c.current a.0) (Some a.1)) refl stands))
    (λ long. let no : true ≡ false = sym short ∙ long in absurd cc))

-- what is left of a put into a local state, once the account and then its state are known
abbrev put_in : Context → ℕ × List ℕ × Value → Address → Entries → Act Fault After
put_in c a who state =
    and_then (may_put a.1 a.2) (on_ok (λ _. and_then (local_limit c) (on_ok (λ limit.
    and_then (test (keeps_kind (value_of_key state a.1) (Some a.2) || is_within (counts_in (with_entry state a.1 a.2)) limit) fault.Schema)
    (on_ok (λ _. done (leaves c 3 (with_item c.writes (item.Local who c.current) (value.Local (with_entry state a.1 a.2))))))))))

abbrev put_of : Context → ℕ × List ℕ × Value → Address → Act Fault After
put_of c a who = and_then (the_local_state who c.current) (on_ok (put_in c a who))

put_in_row : (m : Ledger) (c : Context) (a : ℕ × List ℕ × Value) → Contains c.machine.stack a.2 → (who : Address) (state : Entries) → local_state_in (at m (item.Local who c.current)) ≡ Some state
    → Row m (λ after. Writes m c after.writes) (put_in c a who state)
put_in_row m c a operand who state is =
    part.may_put_by (Row m (λ after. Writes m c after.writes)) (λ e. tt) _ (nat_le (length a.1) most_key_bytes) (nat_le (value_length a.2) most_value_bytes) (λ short small. (
      refl,
      part.then_test (Row m (λ after. Writes m c after.writes)) (keeps_kind (value_of_key state a.1) (Some a.2) || is_within (counts_in (with_entry state a.1 a.2)) (limit_of (λ row. row.local_schema) m c.current)) fault.Schema _ tt (λ room.
          LocalPut who state a.1 a.2 is (record { key_length = short; value_length = small; operand = operand }) room refl),
    ))

put_of_row : (m : Ledger) (c : Context) (a : ℕ × List ℕ × Value) → Contains c.machine.stack a.2 → (who : Address) → Row m (λ after. Writes m c after.writes) (put_of c a who)
put_of_row m c a operand who =
    (refl, part.then_found (Row m (λ after. Writes m c after.writes)) (local_state_in (at m (item.Local who c.current))) fault.NotOptedIn (put_in c a who) tt (put_in_row m c a operand who))

abbrev delete_of : Context → ℕ × List ℕ → Address → Act Fault After
delete_of c a who =
    and_then (the_local_state who c.current) (on_ok (λ state.
    done (leaves c 2 (if is_some (value_of_key state a.1) then with_item c.writes (item.Local who c.current) (value.Local (without_entry state a.1)) else c.writes))))

delete_of_row : (m : Ledger) (c : Context) (a : ℕ × List ℕ) (who : Address) → Row m (λ after. Writes m c after.writes) (delete_of c a who)
delete_of_row m c a who =
    (refl, part.then_found (Row m (λ after. Writes m c after.writes)) (local_state_in (at m (item.Local who c.current))) fault.NotOptedIn _ tt (λ state is. local_delete_by m c who state a.1 is (is_some (value_of_key state a.1))))

get_ex_row : (m : Ledger) (c : Context) (key : List ℕ) (f : Option Value → Act Fault After) → ((v : Option Value) → Row m (Same c) (f v)) → (id : ℕ)
    → Row m (Same c) (and_then (application id) (on_ok (λ row. and_then (test (is_some row) fault.NoSuchApp) (on_ok (λ _. and_then (global_entry id key) (on_ok f))))))
get_ex_row m c key f h id =
    (refl, part.then_test (Row m (Same c)) (is_some (application_in (at m (item.App id)))) fault.NoSuchApp _ tt (λ there. entry_read m (Same c) id key f (stands_if_row m id (application_at m id) there) h))

-- ---- row by row

-- Over a ledger where the application stands, an instruction asks for no key and no count of an application that is gone, and
-- writes nothing, a key with the counts that follow, or a local state.
pub effect_writes : (m : Ledger) (c : Context) → is_none (application_at m c.current) ≡ false → (o : Opcode) (i : Immediates) → Row m (λ after. Writes m c after.writes) (effect c o i)
unfolding effect
effect_writes m c stands op.Global i = quiet m c (effect c op.Global i) (global_reads m c (global_field_at (field_of i)))
effect_writes m c stands op.AppOptedIn i = quiet m c (effect c op.AppOptedIn i) (search (rules, then_act, then_found))
effect_writes m c stands op.AppLocalGet i = quiet m c (effect c op.AppLocalGet i) (search (rules, then_act, then_found))
effect_writes m c stands op.AppLocalGetEx i = quiet m c (effect c op.AppLocalGetEx i) (search (rules, then_act, then_found))
effect_writes m c stands op.AppGlobalGet i = quiet m c (effect c op.AppGlobalGet i) (then_act m (Same c) (one_bytes c.machine.stack) (λ key. and_then (global_entry c.current key) (on_ok (λ v. Gives (replaces c 1 (or_zero v))))) (λ key. entry_read m (Same c) c.current key (λ v. Gives (replaces c 1 (or_zero v))) stands (λ v. refl)))
effect_writes m c stands op.AppGlobalGetEx i = quiet m c (effect c op.AppGlobalGetEx i) (then_act m (Same c) (uint_and_bytes c.machine.stack) _ (λ a. foreign_by m (Same c) _ (get_ex_row m c a.1 (λ v. Gives (replaces_pair c 2 (or_zero v) (flag (is_some v)))) (λ v. refl)) (foreign_of c.call c.current a.0)))
effect_writes m c stands op.AppLocalPut i = part.then_act (Row m (λ after. Writes m c after.writes)) (λ e. tt) (uint_bytes_and_value c.machine.stack) (λ a. and_then (the_account c a.0) (on_ok (put_of c a))) (λ a is. then_found m (λ after. Writes m c after.writes) (account c.call a.0) fault.NoAccount (put_of c a) (put_of_row m c a (third_on_top c.machine.stack a is)))
effect_writes m c stands op.AppGlobalPut i = global_put_row m c stands (bytes_and_value c.machine.stack) (λ a is. second_on_top c.machine.stack a is)
effect_writes m c stands op.AppLocalDel i = then_act m (λ after. Writes m c after.writes) (uint_and_bytes c.machine.stack) (λ a. and_then (the_account c a.0) (on_ok (delete_of c a))) (λ a. then_found m (λ after. Writes m c after.writes) (account c.call a.0) fault.NoAccount (delete_of c a) (delete_of_row m c a))
effect_writes m c stands op.AppGlobalDel i = then_act m (λ after. Writes m c after.writes) (one_bytes c.machine.stack) (λ key. and_then (global_entry c.current key) (on_ok (global_delete_of c key))) (λ key. part.entry_by (Row m (λ after. Writes m c after.writes)) (item.Key c.current key) (global_delete_of c key) (nat_le (length key) most_key_bytes) (λ _. (stands, delete_row m c key (old_entry m c.current key) refl stands)) (λ _. Nothing refl))
effect_writes m c stands o i = silent m c o i refl refl
