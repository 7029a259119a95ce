-- That a call writes no item but those that it has asked for, and those of a new application.
use Rattle.std.proofs.Common.{◌≡◌, ℕ, zero, suc, ◌+◌, ◌-◌, Bool, true, false, cond, List, [], length, if◌then◌else◌, Option, None, Some, Result, Ok, Err, refl, sym, ◌∙◌, subst, nat_le}
use Rattle.std.specs.Prelude.{◌==◌, ◌||◌, All, is_some, unwrap_or}
use Rattle.std.specs.Ordering.{is_eq}
use Rattle.std.proofs.lemmas.List.Elements.{All-head, All-tail}
use Rattle.teal_value.specs.declared.address.Address.{Address}
use Rattle.teal_value.specs.declared.value.Value.{Value}
use Rattle.teal_value.specs.declared.fault.Fault.{Fault}
use Rattle.teal_value.specs.declared.fault.Fault.TheVariants as fault
use Rattle.teal_value.specs.Keys.{most_key_bytes}
use Rattle.teal_value.specs.Choice.{or_else}
use Rattle.teal_table.specs.declared.opcode.Opcode.{Opcode}
use Rattle.teal_table.specs.declared.opcode.Opcode.TheVariants as op
use Rattle.teal_code.specs.declared.decode.CodeFault.{CodeFault}
use Rattle.teal_code.specs.declared.instr.Immediates.{Immediates}
use Rattle.teal_code.specs.declared.instr.Instr.{Instr}
use Rattle.avm_states.specs.Entries.{Entries, value_of_key, with_entry, without_entry, most_value_bytes}
use Rattle.avm_states.specs.Schemas.{no_entries, counts_in, counts_after, is_within, keeps_kind}
use Rattle.avm_items.specs.declared.item.Item.{Item}
use Rattle.avm_items.specs.declared.item.Item.TheVariants as item
use Rattle.avm_items.specs.declared.item_value.ItemValue.{ItemValue}
use Rattle.avm_items.specs.declared.item_value.ItemValue.TheVariants as value
use Rattle.avm_items.specs.CallFields.{account, new_keys}
use Rattle.avm_items.specs.Items.{ItemMap, Known, Look, item_cmp, value_in, with_item, over, application_in, entry_in, local_state_in, kept_counts_in}
use Rattle.avm_items.specs.Asks.{Ask, Gives, Asks, and_then, result_over, items_asked, remaining_at, remaining_questions}
use Rattle.avm_items.specs.Acts.{Act, found, on_ok, reads, test}
use Rattle.avm_items.specs.Counting.{AsksAtMost, Any}
use Rattle.avm_cpu.specs.Operands.{one_bytes, bytes_and_value, uint_and_bytes, uint_bytes_and_value}
use Rattle.avm_ops.specs.Frame.{Context, After, Stepped}
use Rattle.avm_ops.specs.States.{value_length, schema_in, global_put_over, global_delete_of}
use Rattle.avm_ops.specs.Effect.{effect}
use Rattle.avm_call.specs.declared.outcome.Ended.{Ended}
use Rattle.avm_call.specs.Runs.{Execution, Position, instruction_at, context_at, known_itself, result_at_end, stepped, executed, step, start, run_from, whole_path, ended_at, program_result}
use Rattle.avm_call.proofs.Paths.{goes_on as path_goes_on}
use Rattle.avm_laws.proofs.Given.{item_same}
use Rattle.avm_ops.proofs.ActParts as part
use Rattle.avm_ops.proofs.RowFacts.{OnOk, questions, writes_items}
use Rattle.avm_ops.proofs.WrittenItems.{Same, effect_same}
use Rattle.avm_laws.proofs.Following.{value_with}

-- ---- what holds of the result where R holds of each item that is asked for

abbrev pub If : {A : Type 0} → Look → (Item → Type 0) → (A → Type 0) → Ask A → Type 0
If look R P (Gives a) = P a
If look R P (Asks x k) = R x → If look R P (k (look x))

pub if-result : {A : Type 0} (look : Look) (R : Item → Type 0) (P : A → Type 0) (t : Ask A) → All R (items_asked look t) → If look R P t → P (result_over look t)
if-result look R P (Gives a) all h = h
if-result look R P (Asks x k) all h =
    if-result look R P (k (look x)) (All-tail R x (items_asked look (k (look x))) all) (h (All-head R x (items_asked look (k (look x))) all))

pub if-then : {A B : Type 0} (look : Look) (R : Item → Type 0) (P : A → Type 0) (S : B → Type 0) (t : Ask A) (f : A → Ask B) → If look R P t → ((a : A) → P a → If look R S (f a)) → If look R S (and_then t f)
if-then look R P S (Gives a) f h g = g a h
if-then look R P S (Asks x k) f h g = λ r. if-then look R P S (k (look x)) f (h r) g

if-at_most : {A : Type 0} (look : Look) (R : Item → Type 0) (n : ℕ) (P S : A → Type 0) (t : Ask A) → ((a : A) → P a → S a) → AsksAtMost Any n P t → If look R S t
if-at_most look R n P S (Gives a) f h = f a h
if-at_most look R n P S (Asks x k) f h = λ r. if-at_most look R (n - 1) P S (k (look x)) f (h.1 (look x) tt)

-- a ledger under what is known
abbrev under : Known → Look → Look
under known look x = unwrap_or (known x) (look x)

left_at : {A : Type 0} (look : Look) (R : Item → Type 0) (P : A → Type 0) (x : Item) (f g : ItemValue → Ask A) (m : Look) → ((v : ItemValue) → If m R P (f v) → If look R P (g v)) → (o : Option ItemValue) → ((v : ItemValue) → o ≡ Some v → R x)
    → (R x → If m R P (f (unwrap_or o (look x)))) → If look R P (remaining_at x g o)
left_at look R P x f g m next (Some v) known h = next v (h (known v refl))
left_at look R P x f g m next None known h = λ r. next (look x) (h r)

if-remaining : {A : Type 0} (look : Look) (R : Item → Type 0) (P : A → Type 0) (known : Known) → ((x : Item) (v : ItemValue) → known x ≡ Some v → R x) → (t : Ask A) → If (under known look) R P t → If look R P (remaining_questions known t)
if-remaining look R P known all (Gives a) h = h
if-remaining look R P known all (Asks x k) h = left_at look R P x k _ (under known look) (λ v. if-remaining look R P known all (k v)) (known x) (all x) h

-- ---- the items written

-- R holds of each item that is written
abbrev pub Accounted : (Item → Type 0) → ItemMap → Type 0
Accounted R w = (x : Item) (v : ItemValue) → value_in w x ≡ Some v → R x

pub accounted_with : (R : Item → Type 0) (w : ItemMap) (x : Item) (v : ItemValue) → Accounted R w → R x → Accounted R (with_item w x v)
accounted_with R w x v all r y u there = by (is_eq (item_cmp y x)) refl (sym (value_with w x v y) ∙ there)
  where
    by : (b : Bool) → is_eq (item_cmp y x) ≡ b → cond b (Some v) (value_in w y) ≡ Some u → R y
    by true tied e = subst R (sym (item_same y x tied)) r
    by false apart e = all y u e

pub none_accounted : (R : Item → Type 0) → Accounted R []
none_accounted R x v e = absurd cc

-- ---- rows

abbrev Writing : (Item → Type 0) → After → Type 0
Writing R after = Accounted R after.writes

abbrev Row : Look → (Item → Type 0) → Act Fault After → Type 0
Row look R t = If look R (OnOk (Writing R)) t

put_over : (look : Look) (R : Item → Type 0) (c : Context) → Accounted R c.writes → (key : List ℕ) (v : Value) (old : Option Value) (b : Bool) → R (item.Key c.current key) → Row look R (global_put_over c key v old b)
put_over look R c all key v old true r = accounted_with R c.writes (item.Key c.current key) (value.Key v) all r
put_over look R c all key v old false r =
    λ counted limited.
    let n = counts_after old (Some v) (unwrap_or (kept_counts_in (look (item.Counts c.current))) no_entries) in
    part.then_test (Row look R) (is_within n (schema_in (λ row. row.global_schema) (application_in (look (item.App c.current))))) fault.Schema _ tt
    (λ _. accounted_with R (with_item c.writes (item.Key c.current key) (value.Key v)) (item.Counts c.current) (value.Counts n) (accounted_with R c.writes (item.Key c.current key) (value.Key v) all r) counted)

delete_of : (look : Look) (R : Item → Type 0) (c : Context) → Accounted R c.writes → (key : List ℕ) (old : Option Value) → R (item.Key c.current key) → Row look R (global_delete_of c key old)
delete_of look R c all key None r = all
delete_of look R c all key (Some v) r =
    λ counted. accounted_with R (with_item c.writes (item.Key c.current key) value.Absent) (item.Counts c.current) _ (accounted_with R c.writes (item.Key c.current key) value.Absent all r) counted

local_delete_by : (R : Item → Type 0) (c : Context) → Accounted R c.writes → (who : Address) (state : Entries) → R (item.Local who c.current) → (b : Bool)
    → Accounted R (if b then with_item c.writes (item.Local who c.current) (value.Local state) else c.writes)
local_delete_by R c all who state r true = accounted_with R c.writes (item.Local who c.current) (value.Local state) all r
local_delete_by R c all who state r false = all

effect_by : (look : Look) (R : Item → Type 0) (c : Context) → Accounted R c.writes → (o : Opcode) (i : Immediates) → (b : Bool) → writes_items o ≡ b → Row look R (effect c o i)
unfolding effect
effect_by look R c all o i false quiet = if-at_most look R (questions o) (OnOk (Same c)) (OnOk (Writing R)) (effect c o i) same (effect_same c o i quiet)
  where
    same : (r : Stepped) → OnOk (Same c) r → OnOk (Writing R) r
    same (Ok after) e = subst (Accounted R) (sym e) all
    same (Err f) e = tt
effect_by look R c all op.AppGlobalPut i true loud =
    part.then_act (Row look R) (λ e. tt) (bytes_and_value c.machine.stack) _ (λ a _.
    part.may_put_by (Row look R) (λ e. tt) _ (nat_le (length a.0) most_key_bytes) (nat_le (value_length a.1) most_value_bytes) (λ short _.
    part.entry_by (Row look R) (item.Key c.current a.0) _ (nat_le (length a.0) most_key_bytes)
    (λ _ r. let old = entry_in (look (item.Key c.current a.0)) in put_over look R c all a.0 a.1 old (keeps_kind old (Some a.1)) r) (λ long. let no : true ≡ false = sym short ∙ long in absurd cc)))
effect_by look R c all op.AppGlobalDel i true loud =
    part.then_act (Row look R) (λ e. tt) (one_bytes c.machine.stack) _ (λ key _.
    part.entry_by (Row look R) (item.Key c.current key) _ (nat_le (length key) most_key_bytes) (λ _ r. delete_of look R c all key (entry_in (look (item.Key c.current key))) r) (λ long. all))
effect_by look R c all op.AppLocalPut i true loud =
    part.then_act (Row look R) (λ e. tt) (uint_bytes_and_value c.machine.stack) _ (λ a _.
    part.then_found (Row look R) (account c.call a.0) fault.NoAccount _ tt (λ who _.
    λ r. part.then_found (Row look R) (local_state_in (look (item.Local who c.current))) fault.NotOptedIn _ tt (λ state _.
    part.may_put_by (Row look R) (λ e. tt) _ (nat_le (length a.1) most_key_bytes) (nat_le (value_length a.2) most_value_bytes) (λ short _.
    λ limited.
    let limit = schema_in (λ row. row.local_schema) (application_in (look (item.App c.current))) in
    part.then_test (Row look R) (keeps_kind (value_of_key state a.1) (Some a.2) || is_within (counts_in (with_entry state a.1 a.2)) limit) fault.Schema _ tt
    (λ _. accounted_with R c.writes (item.Local who c.current) (value.Local (with_entry state a.1 a.2)) all r)))))
effect_by look R c all op.AppLocalDel i true loud =
    part.then_act (Row look R) (λ e. tt) (uint_and_bytes c.machine.stack) _ (λ a _.
    part.then_found (Row look R) (account c.call a.0) fault.NoAccount _ tt (λ who _.
    λ r. part.then_found (Row look R) (local_state_in (look (item.Local who c.current))) fault.NotOptedIn _ tt (λ state _.
    local_delete_by R c all who (without_entry state a.1) r (is_some (value_of_key state a.1)))))
effect_by look R c all o i true loud = absurd cc

effect_accounted : (look : Look) (R : Item → Type 0) (c : Context) → Accounted R c.writes → (o : Opcode) (i : Immediates) → Row look R (effect c o i)
effect_accounted look R c all o i = effect_by look R c all o i (writes_items o) refl

-- ---- paths

abbrev OnNext : (Item → Type 0) → Result Position Ended → Type 0
OnNext R (Ok p) = Accounted R p.writes
OnNext R (Err end) = Unit {0}

known_accounted : (R : Item → Type 0) (w : ItemMap) (new : Known) → Accounted R w → ((x : Item) (v : ItemValue) → new x ≡ Some v → R x) → (x : Item) (v : ItemValue) → over (value_in w) new x ≡ Some v → R x
known_accounted R w new all fresh x v e = by (value_in w x) (all x) (fresh x) e
  where
    by : (o : Option ItemValue) → ((u : ItemValue) → o ≡ Some u → R x) → ((u : ItemValue) → new x ≡ Some u → R x) → or_else o (new x) ≡ Some v → R x
    by (Some u) own other e = own u refl
    by None own other e = other v e

executed_accounted : (look : Look) (R : Item → Type 0) (e : Execution) → ((x : Item) (v : ItemValue) → new_keys e.call e.current x ≡ Some v → R x) → (p : Position) → Accounted R p.writes → (r : Result (Instr × ℕ) CodeFault) → If look R (OnNext R) (executed e p r)
executed_accounted look R e fresh p all (Err f) = tt
executed_accounted look R e fresh p all (Ok (i, next)) =
    if-then look R (OnOk (Writing R)) (OnNext R) (remaining_questions (known_itself e p.writes) (effect (context_at e p) i.opcode i.immediates)) (λ r. Gives (stepped e p next r))
    (if-remaining look R (OnOk (Writing R)) (known_itself e p.writes) (known_accounted R p.writes (new_keys e.call e.current) all fresh) (effect (context_at e p) i.opcode i.immediates)
    (effect_accounted (under (known_itself e p.writes) look) R (context_at e p) all i.opcode i.immediates)) after
  where
    after : (r : Stepped) → OnOk (Writing R) r → OnNext R (stepped e p next r)
    after (Ok a) h = h
    after (Err f) h = tt

step_by : (look : Look) (R : Item → Type 0) (e : Execution) → ((x : Item) (v : ItemValue) → new_keys e.call e.current x ≡ Some v → R x) → (p : Position) → Accounted R p.writes → (b : Bool)
    → If look R (OnNext R) (if b then Gives (Err (result_at_end (length e.program) p.stack)) else executed e p (instruction_at e.program p.place))
step_by look R e fresh p all true = tt
step_by look R e fresh p all false = executed_accounted look R e fresh p all (instruction_at e.program p.place)

rest_accounted : (look : Look) (R : Item → Type 0) (e : Execution) (n : ℕ) (p : Position) → Accounted R p.writes → ((q : Position) → Accounted R q.writes → If look R (λ end. Accounted R end.0.writes) (run_from e n q))
    → (r : Result Position Ended) → OnNext R r → If look R (λ end. Accounted R end.0.writes) (path_goes_on e n p r)
rest_accounted look R e n p all next (Ok q) h = next q h
rest_accounted look R e n p all next (Err end) h = all

run_accounted : (look : Look) (R : Item → Type 0) (e : Execution) → ((x : Item) (v : ItemValue) → new_keys e.call e.current x ≡ Some v → R x) → (n : ℕ) (p : Position) → Accounted R p.writes → If look R (λ end. Accounted R end.0.writes) (run_from e n p)
run_accounted look R e fresh zero p all = all
run_accounted look R e fresh (suc n) p all =
    if-then look R (OnNext R) (λ end. Accounted R end.0.writes) (step e p) (path_goes_on e n p) (step_by look R e fresh p all (p.place == length e.program)) (rest_accounted look R e n p all (run_accounted look R e fresh n))

-- R holds of all that a program writes, if it does of all asked for, known or already written
pub result_accounted : (look : Look) (R : Item → Type 0) (e : Execution) → ((x : Item) (v : ItemValue) → new_keys e.call e.current x ≡ Some v → R x) → (w : ItemMap) → Accounted R w → If look R (λ end. Accounted R end.0) (program_result e w)
result_accounted look R e fresh w all =
    if-then look R (λ end. Accounted R end.0.writes) (λ end. Accounted R end.0) (whole_path e w) (λ end. Gives (ended_at end)) (run_accounted look R e fresh (length e.program + 1) (start e.program w) all) after
  where
    after : (end : Position × Option Ended) → Accounted R end.0.writes → Accounted R (ended_at end).0
    after (p, Some end) h = h
    after (p, None) h = h
