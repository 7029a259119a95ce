-- What a call knows of an item by itself it goes on to know, whatever its program does.
use Rattle.std.proofs.Common.{◌≡◌, ℕ, ◌-◌, Bool, true, false, if◌then◌else◌, List, Option, None, Some, Ok, Err, refl, sym, ap, ◌∙◌, arith}
use Rattle.std.specs.Prelude.{◌||◌, is_some, unwrap_or}
use Rattle.teal_value.specs.declared.value.Value.{Value}
use Rattle.teal_value.specs.declared.fault.Fault.TheVariants as fault
use Rattle.teal_table.specs.declared.opcode.Opcode.{Opcode}
use Rattle.teal_table.specs.declared.opcode.Opcode.TheVariants as op
use Rattle.teal_code.specs.declared.instr.Immediates.{Immediates}
use Rattle.avm_states.specs.Entries.{value_of_key, with_entry, without_entry}
use Rattle.avm_states.specs.Schemas.{count_without, counts_after, counts_in, is_within, keeps_kind, no_entries}
use Rattle.avm_states.proofs.Maps.{lookup-inserted_other}
use Rattle.avm_items.specs.declared.item.Item.{Item}
use Rattle.avm_items.specs.declared.item.Item.TheVariants as item
use Rattle.avm_items.specs.declared.item_value.ItemValue.{ItemValue}
use Rattle.avm_items.specs.declared.item_value.ItemValue.TheVariants as value
use Rattle.avm_items.specs.Items.{ItemMap, Known, Look, application_in, key_value, local_state_in, value_in, with_item, kept_counts_in}
use Rattle.avm_items.specs.CallFields.{account}
use Rattle.avm_items.specs.Asks.{Ask, Gives, Asks, remaining_at, remaining_questions, result_over}
use Rattle.avm_items.specs.Counting.{AsksAtMost, Any}
use Rattle.avm_items.proofs.Puts.{item_total}
use Rattle.avm_cpu.specs.Operands.{bytes_and_value, one_bytes, uint_and_bytes, uint_bytes_and_value}
use Rattle.avm_ops.specs.Frame.{After, Context, Stepped}
use Rattle.avm_ops.specs.States.{global_delete_of, global_put_over, schema_in}
use Rattle.avm_ops.specs.Effect.{effect}
use Rattle.avm_ops.proofs.RowFacts.{OnOk, Row, questions, questions_few, at_most-each, entry_asks, may_put_asks, then_act, then_found, then_test}
use Rattle.avm_ops.proofs.WrittenItems.{Same, effect_same}
use Rattle.avm_items.proofs.OneMore.{is_there, same_or_other}

-- what isn't known from the writes afterwards was not known from those before
abbrev pub StaysKnown : ItemMap → ItemMap → Type 0
StaysKnown before after = (x : Item) → value_in after x ≡ None → value_in before x ≡ None

abbrev Keeps : Context → After → Type 0
Keeps c after = StaysKnown c.writes after.writes

with_item_known : (w : ItemMap) (y : Item) (v : ItemValue) → StaysKnown w (with_item w y v)
with_item_known w y v x none =
    same_or_other y x (λ same. let both : Some v ≡ None = sym (is_there w y v) ∙ ap (value_in (with_item w y v)) (sym same) ∙ none in absurd cc)
    (λ other. sym (lookup-inserted_other item_total x y v w other) ∙ none)

two_known : (w : ItemMap) (x y : Item) (u v : ItemValue) → StaysKnown w (with_item (with_item w x u) y v)
two_known w x y u v z none = with_item_known w x u z (with_item_known (with_item w x u) y v z none)

-- ---- rows that write

put_keeps : (c : Context) (key : List ℕ) (v : Value) (old : Option Value) (b : Bool) → Row 2 (Keeps c) (global_put_over c key v old b)
put_keeps c key v old true = with_item_known c.writes (item.Key c.current key) (key_value (Some v))
put_keeps c key v old false = (
  omega arith,
  λ counts _. (
    omega arith,
    λ limit _.
        then_test 0 (Keeps c) (is_within (counts_after old (Some v) (unwrap_or (kept_counts_in counts) no_entries)) (schema_in (λ row. row.global_schema) (application_in limit))) fault.Schema _
        (two_known c.writes (item.Key c.current key) (item.Counts c.current) (key_value (Some v)) (value.Counts (counts_after old (Some v) (unwrap_or (kept_counts_in counts) no_entries)))),
  ),
)

delete_keeps : (c : Context) (key : List ℕ) (old : Option Value) → Row 2 (Keeps c) (global_delete_of c key old)
delete_keeps c key None = λ x none. none
delete_keeps c key (Some v) =
    (omega arith, λ counts _. two_known c.writes (item.Key c.current key) (item.Counts c.current) (key_value None) (value.Counts (count_without v (unwrap_or (kept_counts_in counts) no_entries))))

same_keeps : (c : Context) (r : Stepped) → OnOk (Same c) r → OnOk (Keeps c) r
same_keeps c (Ok after) h = λ x none. sym (ap (λ w. value_in w x) h) ∙ none
same_keeps c (Err f) h = tt

removed_keeps : (w : ItemMap) (x : Item) (v : ItemValue) (b : Bool) → StaysKnown w (if b then with_item w x v else w)
removed_keeps w x v true = with_item_known w x v
removed_keeps w x v false = λ y none. none

effect_keeps : (c : Context) (o : Opcode) (i : Immediates) → Row 3 (Keeps c) (effect c o i)
unfolding effect
effect_keeps c op.AppGlobalPut i =
    then_act 3 (Keeps c) (bytes_and_value c.machine.stack) _ (λ a. may_put_asks 3 (Keeps c) a.0 a.1 _
    (entry_asks 3 (Keeps c) c.current a.0 _ (omega arith) (λ old. put_keeps c a.0 a.1 old (keeps_kind old (Some a.1)))))
effect_keeps c op.AppGlobalDel i =
    then_act 3 (Keeps c) (one_bytes c.machine.stack) _ (λ key. entry_asks 3 (Keeps c) c.current key _ (omega arith) (delete_keeps c key))
effect_keeps c op.AppLocalPut i =
    then_act 3 (Keeps c) (uint_bytes_and_value c.machine.stack) _ (λ a.
    then_found 3 (Keeps c) (account c.call a.0) fault.NoAccount _ (λ who. (
      omega arith,
      λ v _.
          then_found 2 (Keeps c) (local_state_in v) fault.NotOptedIn _ (λ state.
          may_put_asks 2 (Keeps c) a.1 a.2 _ (
            omega arith,
            λ limit _.
                then_test 1 (Keeps c) (keeps_kind (value_of_key state a.1) (Some a.2) || is_within (counts_in (with_entry state a.1 a.2)) (schema_in (λ row. row.local_schema) (application_in limit))) fault.Schema _
                (with_item_known c.writes (item.Local who c.current) (value.Local (with_entry state a.1 a.2))),
          )),
    )))
effect_keeps c op.AppLocalDel i =
    then_act 3 (Keeps c) (uint_and_bytes c.machine.stack) _ (λ a.
    then_found 3 (Keeps c) (account c.call a.0) fault.NoAccount _ (λ who. (
      omega arith,
      λ v _.
          then_found 2 (Keeps c) (local_state_in v) fault.NotOptedIn _ (λ state.
          removed_keeps c.writes (item.Local who c.current) (value.Local (without_entry state a.1)) (is_some (value_of_key state a.1))),
    )))
effect_keeps c o i = at_most-each (questions o) 3 (OnOk (Same c)) (OnOk (Keeps c)) (effect c o i) (questions_few o) (same_keeps c) (effect_same c o i refl)

-- ---- what is left to ask

result_at : {A : Type 0} (look : Look) (own : Known) (P : A → Type 0) (x : Item) (k : ItemValue → Ask A) → ((v : ItemValue) → P (result_over look (remaining_questions own (k v)))) → (o : Option ItemValue)
    → P (result_over look (remaining_at x (λ v. remaining_questions own (k v)) o))
result_at look own P x k h (Some v) = h v
result_at look own P x k h None = h (look x)

-- what holds of the result whatever is answered holds where what is known is not asked for
pub remaining_result : {A : Type 0} (n : ℕ) (look : Look) (own : Known) (P : A → Type 0) (t : Ask A) → AsksAtMost Any n P t → P (result_over look (remaining_questions own t))
remaining_result n look own P (Gives a) h = h
remaining_result n look own P (Asks x k) h = result_at look own P x k (λ v. remaining_result (n - 1) look own P (k v) (h.1 v tt)) (own x)

-- an instruction that doesn't fault leaves known what was known
pub effect_stays_known : (look : Look) (own : Known) (c : Context) (o : Opcode) (i : Immediates) → OnOk (Keeps c) (result_over look (remaining_questions own (effect c o i)))
effect_stays_known look own c o i = remaining_result 3 look own (OnOk (Keeps c)) (effect c o i) (effect_keeps c o i)

alike_at : {A : Type 0} (look other : Look) (own : Known) (x : Item) (k : ItemValue → Ask A) → ((v : ItemValue) → result_over look (remaining_questions own (k v)) ≡ result_over other (remaining_questions own (k v)))
    → (o : Option ItemValue) → (o ≡ None → look x ≡ other x) → result_over look (remaining_at x (λ v. remaining_questions own (k v)) o) ≡ result_over other (remaining_at x (λ v. remaining_questions own (k v)) o)
alike_at look other own x k h (Some v) same = h v
alike_at look other own x k h None same = h (look x) ∙ ap (λ v. result_over other (remaining_questions own (k v))) (same refl)

-- alike on what isn't known, alike in the result
pub remaining_alike : {A : Type 0} (look other : Look) (own : Known) → ((x : Item) → own x ≡ None → look x ≡ other x) → (t : Ask A) → result_over look (remaining_questions own t) ≡ result_over other (remaining_questions own t)
remaining_alike look other own alike (Gives a) = refl
remaining_alike look other own alike (Asks x k) = alike_at look other own x k (λ v. remaining_alike look other own alike (k v)) (own x) (alike x)
