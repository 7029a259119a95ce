-- Rows in parts: what an instruction answers once its operands and the items that it asks for first are known.
use Rattle.std.proofs.Common.{◌≡◌, ◌∙◌, ◌||◌, drop, ℕ, Bool, true, false, nat_le, List, length, Option, Some, None, Result, Ok, Err, refl, sym, ap, subst}
use Rattle.std.specs.Result.{IsErrAnd}
use Rattle.teal_value.specs.declared.address.Address.{Address}
use Rattle.teal_value.specs.declared.value.Value.{Value}
use Rattle.teal_value.specs.declared.fault.Fault.{Fault}
use Rattle.teal_value.specs.declared.fault.Fault.TheVariants as fault
use Rattle.avm_states.specs.Entries.{Entries, value_of_key, with_entry}
use Rattle.avm_states.specs.Schemas.{counts_in, counts_after, is_within, keeps_kind}
use Rattle.avm_ledger.specs.declared.application.Application.{Application}
use Rattle.avm_states.specs.declared.schema.Schema.{Schema}
use Rattle.avm_items.specs.declared.item.Item.{Item}
use Rattle.avm_items.specs.declared.item.Item.TheVariants as item
use Rattle.avm_items.specs.declared.item_value.ItemValue.{ItemValue}
use Rattle.avm_items.specs.declared.item_value.ItemValue.TheVariants as value
use Rattle.avm_items.specs.CallFields.{account}
use Rattle.avm_items.specs.Asks.{Answer, Gives, and_then, answer_at, answer_from}
use Rattle.avm_items.specs.Acts.{Act, on_ok, test, done, found, reads}
use Rattle.avm_items.specs.Items.{Known, application_in, local_state_in, with_item}
use Rattle.avm_items.specs.Locality.{then}
use Rattle.avm_items.specs.Environments.{Environment, known_to, with_state_written}
use Rattle.avm_items.proofs.Questions.{answer_from-and_then}
use Rattle.avm_cpu.specs.declared.flow.Flow.{Flow}
use Rattle.avm_cpu.specs.declared.flow.Flow.TheVariants as flow
use Rattle.avm_cpu.specs.Machine.{Machine, with_stack}
use Rattle.avm_cpu.specs.Operands.{one_bytes, bytes_and_value, uint_bytes_and_value}
use Rattle.avm_ops.specs.declared.op.Stop.{Stop}
use Rattle.avm_ops.specs.declared.op.Stop.TheVariants as stop
use Rattle.avm_ops.specs.Frame.{After, Stepped, must, there}
use Rattle.avm_ops.specs.Objects.{Does, context_of}
use Rattle.avm_ops.specs.States.{application, counts_written, global_counts, global_delete, global_delete_of, global_entry, global_limit, global_put, global_put_over, key_written, leaves, local_limit, local_put, local_state, may_put, schema_in, the_local_state, value_length}
use Rattle.avm_state_ops.specs.Parts.{Answers, StopsFor, known_row, schema_test}

-- what follows a part whose value is known
pub then_answer : {A B : Type 0} (k : Known) (t : Act Fault A) (f : A → Act Fault B) (a : A) → answer_from k t ≡ Ok (Ok a) → answer_from k (and_then t (on_ok f)) ≡ answer_from k (f a)
then_answer k t f a is = answer_from-and_then k t (on_ok f) ∙ ap (then (λ r. answer_from k (on_ok f r))) is

-- a part that stops stops the instruction
pub stopped : {A : Type 0} (view : A → After) (s : Stop) (m : Machine) (e : Environment) (t u : Answer Stepped) → t ≡ u → Answers view (Err s) u → Does (Err s) m e t
stopped view (stop.Fault f) m e t u same h = same ∙ h
stopped view (stop.Need x) m e t u same h = same ∙ h
stopped view stop.Memory m e t u same h = tt

-- a part that stops for an item asks for it
pub stops_for : {A B : Type 0} (view : A → B) (x : Item) (s : Stop) (o : Option ItemValue) (k : ItemValue → Answer (Result B Fault)) → StopsFor o x s → Answers view (Err s) (answer_at x k o)
stops_for view x (stop.Need y) (Some v) k h = absurd cc
stops_for view x (stop.Need y) None k h = ap Err (sym h.1)
stops_for view x (stop.Fault f) o k h = absurd h
stops_for view x stop.Memory o k h = tt

-- an error that is handed on is the same error
pub passed_on : (r : Result Flow Stop) (s : Stop) (m : Machine) (e : Environment) (t : Answer Stepped) → IsErrAnd r (λ x. x ≡ s) → Does (Err s) m e t → Does r m e t
passed_on (Ok flow) s m e t same h = absurd same
passed_on (Err x) s m e t same h = subst (λ y. Does (Err y) m e t) (sym same) h

-- an error that is handed on is the same error in what a part answers
pub passed_answer : {A B : Type 0} (view : A → B) (r : Result A Stop) (s : Stop) (t : Answer (Result B Fault)) → IsErrAnd r (λ x. x ≡ s) → Answers view (Err s) t → Answers view r t
passed_answer view (Ok a) s t same h = absurd same
passed_answer view (Err x) s t same h = subst (λ y. Answers view (Err y) t) (sym same) h

-- what another reading of an item's value says
pub read_again : {A B : Type 0} (k : Known) (x : Item) (f : ItemValue → A) (g : A → B) (a : A) → answer_from {A = Result A Fault} k (reads f x) ≡ Ok (Ok a)
    → answer_from {A = Result B Fault} k (reads (λ v. g (f v)) x) ≡ Ok (Ok (g a))
read_again {A = A} {B = B} k x f g a e = at_value (k x) e
  where
    at_value : (o : Option ItemValue) → ◌≡◌ {A = Answer (Result A Fault)} (answer_at x (λ v. Ok (Ok (f v))) o) (Ok (Ok a)) → ◌≡◌ {A = Answer (Result B Fault)} (answer_at x (λ v. Ok (Ok (g (f v)))) o) (Ok (Ok (g a)))
    at_value (Some v) is = let same : f v ≡ a = cc in ap (λ y. Ok (Ok (g y))) same
    at_value None is = absurd cc

there_is : {A : Type 0} (o : Option A) (f : Fault) (a : A) → there o f ≡ Ok a → found {E = Fault} o f ≡ done a
there_is (Some b) f a e = let same : b ≡ a = cc in ap done same
there_is None f a e = absurd cc

-- a delete from the global state, once the key and its entry are known
pub global_delete_row : (m : Machine) (e : Environment) (key : List ℕ) (old : Option Value) (app : ℕ) → one_bytes m.stack ≡ Ok key → app ≡ e.current → answer_from (known_to e) (global_entry app key) ≡ Ok (Ok old)
    → known_row global_delete m e ≡ answer_from (known_to e) (global_delete_of (context_of m e) key old)
global_delete_row m e key old app operands current entry =
    ap (λ r. answer_from (known_to e) (on_ok (λ k. and_then (global_entry e.current k) (on_ok (global_delete_of (context_of m e) k))) r)) operands
    ∙ then_answer (known_to e) (global_entry e.current key) (global_delete_of (context_of m e) key) old (subst (λ n. answer_from (known_to e) (global_entry n key) ≡ Ok (Ok old)) current entry)

may_put_passes : (key : List ℕ) (v : Value) → nat_le (length key) 64 ≡ true → nat_le (value_length v) 64 ≡ true → may_put key v ≡ done tt
may_put_passes key v short small = ap (λ b. and_then (test b fault.KeyLength) (on_ok (λ _. test (nat_le (value_length v) 64) fault.TooLong))) short ∙ ap (λ b. test b fault.TooLong) small

-- a put into the global state that passes the length tests, once operands and entry are known
pub global_put_row : (m : Machine) (e : Environment) (key : List ℕ) (v : Value) (old : Option Value) (app : ℕ) → bytes_and_value m.stack ≡ Ok (key, v)
    → nat_le (length key) 64 ≡ true → nat_le (value_length v) 64 ≡ true → app ≡ e.current → answer_from (known_to e) (global_entry app key) ≡ Ok (Ok old)
    → known_row global_put m e ≡ answer_from (known_to e) (global_put_over (context_of m e) key v old (keeps_kind old (Some v)))
global_put_row m e key v old app operands short small current entry =
    let over : Option Value → Act Fault After = λ o. global_put_over (context_of m e) key v o (keeps_kind o (Some v)) in
    ap (λ r. answer_from (known_to e) (on_ok (λ (p : List ℕ × Value). and_then (may_put p.0 p.1) (on_ok (λ _. and_then (global_entry e.current p.0) (on_ok (λ o. global_put_over (context_of m e) p.0 p.1 o (keeps_kind o (Some p.1))))))) r)) operands
    ∙ ap (λ t. answer_from (known_to e) (and_then t (on_ok (λ _. and_then (global_entry e.current key) (on_ok over))))) (may_put_passes key v short small)
    ∙ then_answer (known_to e) (global_entry e.current key) over old (subst (λ n. answer_from (known_to e) (global_entry n key) ≡ Ok (Ok old)) current entry)

-- a put that would pass the schema
pub put_over_schema : (m : Machine) (e : Environment) (key : List ℕ) (v : Value) (old : Option Value) (n : Schema) (row : Option Application) (app : ℕ) → keeps_kind old (Some v) ≡ false
    → answer_from (known_to e) (global_counts e.current) ≡ Ok (Ok n) → app ≡ e.current → answer_from (known_to e) (application app) ≡ Ok (Ok row)
    → is_within (counts_after old (Some v) n) (schema_in (λ a. a.global_schema) row) ≡ false
    → answer_from (known_to e) (global_put_over (context_of m e) key v old (keeps_kind old (Some v))) ≡ Ok (Err fault.Schema)
put_over_schema m e key v old n row app differs counts current there_row out =
    let c = context_of m e in
    let k = known_to e in
    let put : Schema → Act Fault After = λ new. done (leaves c 2 (counts_written c new (key_written c key (Some v) c.writes))) in
    let tested : Schema → Schema → Act Fault After = λ count limit. and_then (test (is_within (counts_after old (Some v) count) limit) fault.Schema) (on_ok (λ _. put (counts_after old (Some v) count))) in
    let limit_is = read_again k (item.App e.current) application_in (schema_in (λ a. a.global_schema)) row (subst (λ a. answer_from k (application a) ≡ Ok (Ok row)) current there_row) in
    ap (λ b. answer_from k (global_put_over c key v old b)) differs
    ∙ then_answer k (global_counts e.current) (λ count. and_then (global_limit c) (on_ok (tested count))) n counts
    ∙ then_answer k (global_limit c) (tested n) (schema_in (λ a. a.global_schema) row) limit_is
    ∙ ap (λ b. answer_from k (and_then (test b fault.Schema) (on_ok (λ _. put (counts_after old (Some v) n))))) out

test_is : (b : Bool) (f : Fault) → test b f ≡ Gives (must b f)
test_is true f = refl
test_is false f = refl

-- a put into a local state, up to the test of the schema
pub local_put_row : (m : Machine) (e : Environment) (index : ℕ) (key : List ℕ) (v : Value) (who : Address) (state : Entries) (row : Option Application) (app : ℕ)
    → uint_bytes_and_value m.stack ≡ Ok (index, key, v) → there (account e.call index) fault.NoAccount ≡ Ok who → app ≡ e.current
    → answer_from (known_to e) (local_state who app) ≡ Ok (Ok (Some state)) → nat_le (length key) 64 ≡ true → nat_le (value_length v) 64 ≡ true
    → answer_from (known_to e) (application app) ≡ Ok (Ok row)
    → known_row local_put m e ≡ answer_from (known_to e) (on_ok
    (λ _. done (leaves (context_of m e) 3 (with_item e.writes (item.Local who e.current) (value.Local (with_entry state key v)))))
    (schema_test state key v (schema_in (λ a. a.local_schema) row)))
local_put_row m e index key v who state row app operands account_is current state_is short small row_is =
    let c = context_of m e in
    let k = known_to e in
    let put : Address → List ℕ → Value → Entries → Schema → Act Fault After = λ who' key' v' state' limit. and_then
    (test (keeps_kind (value_of_key state' key') (Some v') || is_within (counts_in (with_entry state' key' v')) limit) fault.Schema)
    (on_ok (λ _. done (leaves c 3 (with_item e.writes (item.Local who' e.current) (value.Local (with_entry state' key' v')))))) in
    let from_state : Address → List ℕ → Value → Entries → Act Fault After = λ who' key' v' state'. and_then (may_put key' v') (on_ok (λ _. and_then (local_limit c) (on_ok (put who' key' v' state')))) in
    let from_account : ℕ × List ℕ × Value → Act Fault After = λ p. and_then (found (account e.call p.0) fault.NoAccount) (on_ok (λ who'. and_then (the_local_state who' e.current) (on_ok (from_state who' p.1 p.2)))) in
    let opted : answer_from k (the_local_state who e.current) ≡ Ok (Ok state) =
    then_answer k (local_state who e.current) (λ s. found s fault.NotOptedIn) (Some state) (subst (λ a. answer_from k (local_state who a) ≡ Ok (Ok (Some state))) current state_is) in
    let limit_is = read_again k (item.App e.current) application_in (schema_in (λ a. a.local_schema)) row (subst (λ a. answer_from k (application a) ≡ Ok (Ok row)) current row_is) in
    ap (λ r. answer_from k (on_ok from_account r)) operands
    ∙ ap (λ t. answer_from k (and_then t (on_ok (λ who'. and_then (the_local_state who' e.current) (on_ok (from_state who' key v)))))) (there_is (account e.call index) fault.NoAccount who account_is)
    ∙ then_answer k (the_local_state who e.current) (from_state who key v) state opted
    ∙ ap (λ t. answer_from k (and_then t (on_ok (λ _. and_then (local_limit c) (on_ok (put who key v state)))))) (may_put_passes key v short small)
    ∙ then_answer k (local_limit c) (put who key v state) (schema_in (λ a. a.local_schema) row) limit_is
    ∙ ap (λ t. answer_from k (and_then t (on_ok (λ _. done (leaves c 3 (with_item e.writes (item.Local who e.current) (value.Local (with_entry state key v))))))))
    (test_is (keeps_kind (value_of_key state key) (Some v) || is_within (counts_in (with_entry state key v)) (schema_in (λ a. a.local_schema) row)) fault.Schema)

-- the local state that is known
pub known_state : (k : Known) (x : Item) (state : Entries) → answer_from {A = Result (Option Entries) Fault} k (reads local_state_in x) ≡ Ok (Ok (Some state)) → k x ≡ Some (value.Local state)
known_state k x state e = at_value (k x) e
  where
    at_value : (o : Option ItemValue) → ◌≡◌ {A = Answer (Result (Option Entries) Fault)} (answer_at x (λ v. Ok (Ok (local_state_in v))) o) (Ok (Ok (Some state))) → o ≡ Some (value.Local state)
    at_value (Some (value.Local s)) is = let same : s ≡ state = cc in ap (λ t. Some (value.Local t)) same
    at_value (Some _) is = absurd cc
    at_value None is = absurd cc

-- what a put into a local state leaves, by the parts that the code computes
pub local_put_left : (m m' : Machine) (e e' : Environment) (key k : List ℕ) (v w : Value) (who : Address) (state : Entries) (app : ℕ) → app ≡ e.current → k ≡ key → w ≡ v
    → answer_from (known_to e) (local_state who app) ≡ Ok (Ok (Some state)) → m' ≡ with_stack m (drop 3 m.stack)
    → e' ≡ with_state_written (λ s. with_entry s k w) e (item.Local who app) (known_to e (item.Local who app))
    → leaves (context_of m e) 3 (with_item e.writes (item.Local who e.current) (value.Local (with_entry state key v))) ≡ record { flow = flow.Next; machine = m'; writes = e'.writes }
local_put_left m m' e e' key k v w who state app current key_is value_is state_is machine_is env_is =
    let known = known_state (known_to e) (item.Local who app) state state_is in
    ap (λ a. leaves (context_of m e) 3 (with_item e.writes (item.Local who a) (value.Local (with_entry state key v)))) (sym current)
    ∙ ap (λ x. leaves (context_of m e) 3 (with_item e.writes (item.Local who app) (value.Local (with_entry state x v)))) (sym key_is)
    ∙ ap (λ x. leaves (context_of m e) 3 (with_item e.writes (item.Local who app) (value.Local (with_entry state k x)))) (sym value_is)
    ∙ ap (λ x. record { flow = flow.Next; machine = x; writes = with_item e.writes (item.Local who app) (value.Local (with_entry state k w)) }) (sym machine_is)
    ∙ ap (λ (x : Environment). record { flow = flow.Next; machine = m'; writes = x.writes }) (sym (env_is ∙ ap (with_state_written (λ s. with_entry s k w) e (item.Local who app)) known))
