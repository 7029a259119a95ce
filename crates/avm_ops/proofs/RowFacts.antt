-- What every instruction asks for and leaves, row by row. This is the one file of proofs that goes through all opcodes.
use Rattle.std.proofs.Common.{rules, ◌≡◌, ◌≢◌, ◌<◌, ◌≤◌, ◌+◌, ◌-◌, ℕ, Bool, true, false, ◌&&◌, nat_lt, nat_le, if◌then◌else◌, List, [], ◌∷◌, length, Option, None, Some, Result, Ok, Err, refl, ap, subst, arith, length-drop}
use Rattle.std.specs.Prelude.{slice_range, drop, slice_get, unwrap_or}
use Rattle.std.proofs.lemmas.Bool.{leb-true, leb-false}
use Rattle.std.proofs.lemmas.List.{length-set}
use Rattle.teal_value.specs.Answer.{◌>>=◌}
use Rattle.teal_value.specs.declared.value.Value.{Value}
use Rattle.teal_value.specs.declared.value.Value.TheVariants.{Uint, Bytes}
use Rattle.teal_value.specs.declared.fault.Fault.{Fault}
use Rattle.teal_value.specs.declared.fault.Fault.TheVariants as fault
use Rattle.teal_value.specs.Keys.{most_key_bytes}
use Rattle.avm_states.specs.Entries.{most_value_bytes}
use Rattle.teal_table.specs.declared.shape.ValueKind.{ValueKind}
use Rattle.teal_table.specs.declared.shape.ValueKind.TheVariants as kind
use Rattle.teal_table.specs.declared.opcode.Opcode.{Opcode}
use Rattle.teal_table.specs.declared.opcode.Opcode.TheVariants as op
use Rattle.teal_table.specs.declared.global_fields.GlobalField.{GlobalField}
use Rattle.teal_table.specs.declared.global_fields.GlobalField.TheVariants as global
use Rattle.teal_table.specs.Fields.{global_field_at}
use Rattle.teal_table.specs.Table.{row_of}
use Rattle.teal_code.specs.declared.instr.Immediates.{Immediates}
use Rattle.avm_items.specs.declared.item.Item.TheVariants as item
use Rattle.avm_items.specs.Items.{ItemMap, Look, entry_in}
use Rattle.avm_items.specs.Asks.{Ask, Gives, Asks, and_then, result_over}
use Rattle.avm_items.specs.Acts.{Act, on_ok, found, test}
use Rattle.avm_items.specs.Counting.{AsksAtMost, Any}
use Rattle.avm_items.proofs.Counting.{at_most-more}
use Rattle.avm_cpu.specs.declared.flow.Flow.TheVariants as flow
use Rattle.avm_cpu.specs.Operands.{one_uint, one_bytes, one_value, bytes_and_two_uints}
use Rattle.avm_cpu.specs.Machine.{most_values}
use Rattle.avm_ops.specs.Frame.{Context, After, Stepped, pushes, pushes_pair, next_with_stack, flag}
use Rattle.avm_ops.specs.Immediates.{index_of, field_of, start_of, end_of, uint_of, bytes_of}
use Rattle.avm_ops.specs.ByteStrings.{big_endian, number_of_bytes, range_of}
use Rattle.avm_ops.specs.Stack.{jump_by}
use Rattle.avm_ops.specs.Fields.{global_at}
use Rattle.avm_ops.specs.States.{value_length, foreign_of, foreign_application, global_entry, may_put, global_put_over, global_delete_of, leaves}
use Rattle.avm_ops.specs.Effect.{effect}
use Rattle.avm_ops.specs.Steps.{branch_target, uints_after, strings_after, IsFlowTo, RunsOn, AsksLittle}
use Rattle.avm_ops.specs.TakenOperands.{Underflows, TestsTypes, is_kind}
use Rattle.avm_ops.specs.LeftValues.{LeavesValues, LeavesItsRow}
use Rattle.avm_ops.proofs.ActParts as part
use Rattle.avm_ops.proofs.TakenOperands as takes
use Rattle.avm_ops.proofs.TakenOperands.{TestsFirst, takes_none, takes_ok, takes_act}

-- ---- the rows that ask, and those that write

-- how many items an instruction asks for at most
abbrev pub questions : Opcode → ℕ
questions op.Global = 1
questions op.AppOptedIn = 1
questions op.AppLocalGet = 1
questions op.AppLocalGetEx = 1
questions op.AppGlobalGet = 1
questions op.AppGlobalGetEx = 2
questions op.AppLocalPut = 2
questions op.AppGlobalPut = 3
questions op.AppLocalDel = 1
questions op.AppGlobalDel = 2
questions _ = 0

-- whether an instruction may write items
abbrev pub writes_items : Opcode → Bool
writes_items op.AppLocalPut = true
writes_items op.AppGlobalPut = true
writes_items op.AppLocalDel = true
writes_items op.AppGlobalDel = true
writes_items _ = false

-- ---- what holds where an instruction doesn't fault

-- R holds of what an instruction leaves, where it doesn't fault
abbrev pub OnOk : (After → Type 0) → Stepped → Type 0
OnOk R (Ok after) = R after
OnOk R (Err f) = Unit {0}

-- Where a run goes on, with which constants; the scratch space has as many places; whether the items written stay; and
-- which values give way to which.
pub record Facts (c : Context) (target : Option ℕ) (us : List ℕ) (bs : List (List ℕ)) (writes : Bool) (pops pushes : List ValueKind) (after : After) : Type 0 where
  pub goes : IsFlowTo target after.flow
  pub uints : after.machine.uint_constants ≡ us
  pub strings : after.machine.byte_constants ≡ bs
  pub space : length after.machine.scratch ≡ length c.machine.scratch
  pub same : writes ≡ false → after.writes ≡ c.writes
  pub left : length pops ≤ length c.machine.stack → after.flow ≢ flow.End → LeavesValues pops pushes c.machine.stack after.machine.stack

-- those of a row that sets no constants
abbrev Plain : Context → Option ℕ → Bool → List ValueKind → List ValueKind → After → Type 0
Plain c target = Facts c target c.machine.uint_constants c.machine.byte_constants

-- ---- the forms in which rows end

without : (pops : List ValueKind) (before : List Value) → length pops ≤ length before → LeavesValues pops [] before (drop (length pops) before)
without pops before h = record { count = simp length-drop (omega arith); kinds = refl; below = refl }

with_one : (pops : List ValueKind) (k : ValueKind) (before : List Value) (v : Value) → length pops ≤ length before → is_kind k v ≡ true → LeavesValues pops (k ∷ []) before (v ∷ drop (length pops) before)
with_one pops k before v h is = record { count = simp length-drop (omega arith); kinds = rw is refl; below = refl }

with_two : (pops : List ValueKind) (k l : ValueKind) (before : List Value) (v top : Value) → length pops ≤ length before → is_kind k v ≡ true → is_kind l top ≡ true
    → LeavesValues pops (k ∷ l ∷ []) before (top ∷ v ∷ drop (length pops) before)
with_two pops k l before v top h is was = record { count = simp length-drop (omega arith); kinds = rw (was, is) refl; below = refl }

one_above : (before : List Value) (a : Value) → 1 ≤ length before → LeavesValues (kind.Any ∷ []) (kind.Any ∷ kind.Any ∷ []) before (a ∷ before)
one_above [] a few = absurd (omega arith)
one_above (b ∷ s) a few = record { count = omega arith; kinds = refl; below = refl }

two_above : (before : List Value) (a b : Value) → 2 ≤ length before → LeavesValues (kind.Any ∷ kind.Any ∷ []) (kind.Any ∷ kind.Any ∷ kind.Any ∷ kind.Any ∷ []) before (b ∷ a ∷ before)
two_above [] a b few = absurd (omega arith)
two_above (x ∷ []) a b few = absurd (omega arith)
two_above (x ∷ y ∷ s) a b few = record { count = omega arith; kinds = refl; below = refl }

-- another stack, and what it has of this one
restacked : (c : Context) (target : Option ℕ) (pops pushes : List ValueKind) (stack : List Value) → (length pops ≤ length c.machine.stack → LeavesValues pops pushes c.machine.stack stack)
    → Plain c target false pops pushes (next_with_stack c stack)
restacked c target pops pushes stack h = record { goes = tt; uints = refl; strings = refl; space = refl; same = λ quiet. refl; left = λ enough on. h enough }

dropped : (c : Context) (target : Option ℕ) (pops : List ValueKind) → Plain c target false pops [] (next_with_stack c (drop (length pops) c.machine.stack))
dropped c target pops = restacked c target pops [] _ (without pops c.machine.stack)

replaced : (c : Context) (target : Option ℕ) (pops : List ValueKind) (k : ValueKind) (v : Value) → is_kind k v ≡ true → Plain c target false pops (k ∷ []) (next_with_stack c (v ∷ drop (length pops) c.machine.stack))
replaced c target pops k v is = restacked c target pops (k ∷ []) _ (λ h. with_one pops k c.machine.stack v h is)

replaced_pair : (c : Context) (target : Option ℕ) (pops : List ValueKind) (k l : ValueKind) (v top : Value) → is_kind k v ≡ true → is_kind l top ≡ true
    → Plain c target false pops (k ∷ l ∷ []) (next_with_stack c (top ∷ v ∷ drop (length pops) c.machine.stack))
replaced_pair c target pops k l v top is was = restacked c target pops (k ∷ l ∷ []) _ (λ h. with_two pops k l c.machine.stack v top h is was)

either : (R : After → Type 0) (b : Bool) (x y : Stepped) → OnOk R x → OnOk R y → OnOk R (if b then x else y)
either R true x y h g = h
either R false x y h g = g

pushed : (c : Context) (target : Option ℕ) (k : ValueKind) (v : Value) → is_kind k v ≡ true → OnOk (Plain c target false [] (k ∷ [])) (pushes c v)
pushed c target k v is = either (Plain c target false [] (k ∷ [])) (nat_lt (length c.machine.stack) most_values) _ _ (replaced c target [] k v is) tt

doubled : (c : Context) (target : Option ℕ) (a : Value) → OnOk (Plain c target false (kind.Any ∷ []) (kind.Any ∷ kind.Any ∷ [])) (pushes c a)
doubled c target a =
    either (Plain c target false (kind.Any ∷ []) (kind.Any ∷ kind.Any ∷ [])) (nat_lt (length c.machine.stack) most_values) _ _
    (restacked c target (kind.Any ∷ []) (kind.Any ∷ kind.Any ∷ []) (a ∷ c.machine.stack) (one_above c.machine.stack a)) tt

doubled_pair : (c : Context) (target : Option ℕ) (a b : Value) → OnOk (Plain c target false (kind.Any ∷ kind.Any ∷ []) (kind.Any ∷ kind.Any ∷ kind.Any ∷ kind.Any ∷ [])) (pushes_pair c a b)
doubled_pair c target a b =
    either (Plain c target false (kind.Any ∷ kind.Any ∷ []) (kind.Any ∷ kind.Any ∷ kind.Any ∷ kind.Any ∷ [])) (nat_le (length c.machine.stack + 2) most_values) _ _
    (restacked c target (kind.Any ∷ kind.Any ∷ []) (kind.Any ∷ kind.Any ∷ kind.Any ∷ kind.Any ∷ []) (b ∷ a ∷ c.machine.stack) (two_above c.machine.stack a b)) tt

branched : (c : Context) (offset : ℕ) (b : Bool) → Plain c (Some (c.machine.place + 3 + offset)) false (kind.Uint ∷ []) [] (if b then record (next_with_stack c (drop 1 c.machine.stack)) { flow = jump_by c offset } else next_with_stack c (drop 1 c.machine.stack))
branched c offset true = record { goes = refl; uints = refl; strings = refl; space = refl; same = λ quiet. refl; left = λ h on. without (kind.Uint ∷ []) c.machine.stack h }
branched c offset false = dropped c (Some (c.machine.place + 3 + offset)) (kind.Uint ∷ [])

written : (c : Context) (target : Option ℕ) (pops : List ValueKind) (w : ItemMap) → Plain c target true pops [] (leaves c (length pops) w)
written c target pops w = record { goes = tt; uints = refl; strings = refl; space = refl; same = λ quiet. absurd cc; left = λ h on. without pops c.machine.stack h }

-- ---- kinds of values

flag_kind : (b : Bool) → is_kind kind.Uint (flag b) ≡ true
flag_kind true = refl
flag_kind false = refl

abbrev Kind : ValueKind → Result Value Fault → Type 0
Kind k (Ok v) = is_kind k v ≡ true
Kind k (Err f) = Unit {0}

number_kind : (s : List ℕ) (b : Bool) → Kind kind.Uint (if b then Ok (Uint (big_endian s)) else Err fault.BtoiLength)
number_kind s true = refl
number_kind s false = tt

range_kind : (t : List ℕ) (b : Bool) → Kind kind.Bytes (if b then Ok (Bytes t) else Err fault.Range)
range_kind t true = refl
range_kind t false = tt

-- ---- one part of a row after another

-- R holds of a row, where it holds of what follows the first part
pub then_ok : {A : Type 0} (R : After → Type 0) (r : Result A Fault) (f : A → Stepped) → ((a : A) → OnOk R (f a)) → OnOk R (r >>= f)
then_ok R (Ok a) f h = h a
then_ok R (Err e) f h = tt

then_kind : (R : After → Type 0) (k : ValueKind) (r : Result Value Fault) (f : Value → Stepped) → Kind k r → ((v : Value) → is_kind k v ≡ true → OnOk R (f v)) → OnOk R (r >>= f)
then_kind R k (Ok v) f is h = h v is
then_kind R k (Err e) f is h = tt

-- at most n questions, and then R where there is no fault
abbrev pub Row : ℕ → (After → Type 0) → Act Fault After → Type 0
Row n R t = AsksAtMost Any n (OnOk R) t

-- a part that asks nothing leaves the number of questions as it is
pub then_act : {A : Type 0} (n : ℕ) (R : After → Type 0) (r : Result A Fault) (f : A → Act Fault After) → ((a : A) → Row n R (f a)) → Row n R (on_ok f r)
then_act n R r f h = part.then_act (Row n R) (λ e. tt) r f (λ a _. h a)

pub then_found : {A : Type 0} (n : ℕ) (R : After → Type 0) (o : Option A) (e : Fault) (f : A → Act Fault After) → ((a : A) → Row n R (f a)) → Row n R (and_then (found o e) (on_ok f))
then_found n R o e f h = part.then_found (Row n R) o e f tt (λ a _. h a)

pub then_test : (n : ℕ) (R : After → Type 0) (b : Bool) (e : Fault) (f : Unit {0} → Act Fault After) → Row n R (f tt) → Row n R (and_then (test b e) (on_ok f))
then_test n R b e f h = part.then_test (Row n R) b e f tt (λ _. h)

-- an entry of a global state takes one question at most
pub entry_asks : (n : ℕ) (R : After → Type 0) (id : ℕ) (key : List ℕ) (f : Option Value → Act Fault After) → 0 < n → ((v : Option Value) → Row (n - 1) R (f v)) → Row n R (and_then (global_entry id key) (on_ok f))
entry_asks n R id key f some h =
    part.entry_by (Row n R) (item.Key id key) f (nat_le (length key) most_key_bytes) (λ _. (some, λ v _. h (entry_in v))) (λ _. at_most-more Any (n - 1) n (OnOk R) (f None) (omega arith) (h None))

foreign_asks : (n : ℕ) (R : After → Type 0) (c : Context) (i : ℕ) (f : ℕ → Act Fault After) → ((id : ℕ) → Row n R (f id)) → Row n R (and_then (foreign_application c i) (on_ok f))
foreign_asks n R c i f h = then_act n R (foreign_of c.call c.current i) f h

-- the tests before a put ask nothing
pub may_put_asks : (n : ℕ) (R : After → Type 0) (key : List ℕ) (v : Value) (f : Unit {0} → Act Fault After) → Row n R (f tt) → Row n R (and_then (may_put key v) (on_ok f))
may_put_asks n R key v f h = part.may_put_by (Row n R) (λ e. tt) f (nat_le (length key) most_key_bytes) (nat_le (value_length v) most_value_bytes) (λ _ _. h)

put_over_asks : (c : Context) (target : Option ℕ) (key : List ℕ) (v : Value) (old : Option Value) (b : Bool) → Row 2 (Plain c target true (kind.Bytes ∷ kind.Any ∷ []) []) (global_put_over c key v old b)
put_over_asks c target key v old true = written c target (kind.Bytes ∷ kind.Any ∷ []) _
put_over_asks c target key v old false = (omega arith, λ n _. (omega arith, λ l _. search (rules, then_test, written)))

delete_asks : (c : Context) (target : Option ℕ) (key : List ℕ) (old : Option Value) → Row 1 (Plain c target true (kind.Bytes ∷ []) []) (global_delete_of c key old)
delete_asks c target key None = written c target (kind.Bytes ∷ []) _
delete_asks c target key (Some old) = (omega arith, λ n _. written c target (kind.Bytes ∷ []) _)

global_asks : (c : Context) (target : Option ℕ) (f : Option GlobalField) → Row 1 (Plain c target false [] (kind.Any ∷ [])) (and_then (global_at c f) (on_ok (λ v. Gives (pushes c v))))
global_asks c target None = tt
global_asks c target (Some global.CreatorAddress) = (omega arith, λ v _. pushed c target kind.Any _ refl)
global_asks c target (Some global.MinTxnFee) = pushed c target kind.Any _ refl
global_asks c target (Some global.MinBalance) = pushed c target kind.Any _ refl
global_asks c target (Some global.MaxTxnLife) = pushed c target kind.Any _ refl
global_asks c target (Some global.ZeroAddress) = pushed c target kind.Any _ refl
global_asks c target (Some global.GroupSize) = pushed c target kind.Any _ refl
global_asks c target (Some global.LogicSigVersion) = pushed c target kind.Any _ refl
global_asks c target (Some global.Round) = pushed c target kind.Any _ refl
global_asks c target (Some global.LatestTimestamp) = pushed c target kind.Any _ refl
global_asks c target (Some global.CurrentApplicationId) = pushed c target kind.Any _ refl

-- ---- row by row

-- these facts, by the opcode and the immediates of an instruction
abbrev pub FactsOf : Context → Opcode → Immediates → After → Type 0
FactsOf c o i =
    Facts c (branch_target c.machine.place o i) (uints_after o i c.machine.uint_constants) (strings_after o i c.machine.byte_constants) (writes_items o) (row_of o).pops (row_of o).pushes

-- what a row tests first, asks for and leaves
pub record RowFacts (c : Context) (o : Opcode) (i : Immediates) (t : Act Fault After) : Type 0 where
  pub takes : TestsFirst (row_of o).pops c.machine.stack t
  pub leaves : Row (questions o) (FactsOf c o i) t

-- every instruction tests its operands first, and leaves what its row says
pub row_facts : (c : Context) (o : Opcode) (i : Immediates) → RowFacts c o i (effect c o i)
unfolding effect row_of
row_facts c op.Err i = record { takes = takes_none c.machine.stack _; leaves = tt }
row_facts c op.Sha256 i = record { takes = takes_ok _ (takes.one_bytes-takes c.machine.stack); leaves = search (rules, then_ok, replaced) }
row_facts c op.Sha512_256 i = record { takes = takes_ok _ (takes.one_bytes-takes c.machine.stack); leaves = search (rules, then_ok, replaced) }
row_facts c op.Add i = record { takes = takes_ok _ (takes.two_uints-takes c.machine.stack); leaves = search (rules, then_ok, replaced) }
row_facts c op.Subtract i = record { takes = takes_ok _ (takes.two_uints-takes c.machine.stack); leaves = search (rules, then_ok, replaced) }
row_facts c op.Divide i = record { takes = takes_ok _ (takes.two_uints-takes c.machine.stack); leaves = search (rules, then_ok, replaced) }
row_facts c op.Multiply i = record { takes = takes_ok _ (takes.two_uints-takes c.machine.stack); leaves = search (rules, then_ok, replaced) }
row_facts c op.Less i = record { takes = takes_ok _ (takes.two_uints-takes c.machine.stack); leaves = search (rules, then_ok, replaced, flag_kind) }
row_facts c op.Greater i = record { takes = takes_ok _ (takes.two_uints-takes c.machine.stack); leaves = search (rules, then_ok, replaced, flag_kind) }
row_facts c op.LessOrEqual i = record { takes = takes_ok _ (takes.two_uints-takes c.machine.stack); leaves = search (rules, then_ok, replaced, flag_kind) }
row_facts c op.GreaterOrEqual i = record { takes = takes_ok _ (takes.two_uints-takes c.machine.stack); leaves = search (rules, then_ok, replaced, flag_kind) }
row_facts c op.And i = record { takes = takes_ok _ (takes.two_uints-takes c.machine.stack); leaves = search (rules, then_ok, replaced, flag_kind) }
row_facts c op.Or i = record { takes = takes_ok _ (takes.two_uints-takes c.machine.stack); leaves = search (rules, then_ok, replaced, flag_kind) }
row_facts c op.Equal i = record { takes = takes_ok _ (takes.two_values-takes c.machine.stack); leaves = search (rules, then_ok, replaced, flag_kind) }
row_facts c op.NotEqual i = record { takes = takes_ok _ (takes.two_values-takes c.machine.stack); leaves = search (rules, then_ok, replaced, flag_kind) }
row_facts c op.Not i = record { takes = takes_ok _ (takes.one_uint-takes c.machine.stack); leaves = search (rules, then_ok, replaced, flag_kind) }
row_facts c op.Len i = record { takes = takes_ok _ (takes.one_bytes-takes c.machine.stack); leaves = search (rules, then_ok, replaced) }
row_facts c op.Itob i = record { takes = takes_ok _ (takes.one_uint-takes c.machine.stack); leaves = search (rules, then_ok, replaced) }
row_facts c op.Btoi i = record { takes = takes_ok _ (takes.one_bytes-takes c.machine.stack); leaves = then_ok _ (one_bytes c.machine.stack) _ (λ s. then_kind _ kind.Uint (number_of_bytes s) _ (number_kind s (nat_le (length s) 8)) (λ v is. replaced c None (kind.Bytes ∷ []) kind.Uint v is)) }
row_facts c op.Remainder i = record { takes = takes_ok _ (takes.two_uints-takes c.machine.stack); leaves = search (rules, then_ok, replaced) }
row_facts c op.BitOr i = record { takes = takes_ok _ (takes.two_uints-takes c.machine.stack); leaves = search (rules, then_ok, replaced) }
row_facts c op.BitAnd i = record { takes = takes_ok _ (takes.two_uints-takes c.machine.stack); leaves = search (rules, then_ok, replaced) }
row_facts c op.BitXor i = record { takes = takes_ok _ (takes.two_uints-takes c.machine.stack); leaves = search (rules, then_ok, replaced) }
row_facts c op.BitNot i = record { takes = takes_ok _ (takes.one_uint-takes c.machine.stack); leaves = search (rules, then_ok, replaced) }
row_facts c op.Mulw i = record { takes = takes_ok _ (takes.two_uints-takes c.machine.stack); leaves = search (rules, then_ok, replaced_pair) }
row_facts c op.Addw i = record { takes = takes_ok _ (takes.two_uints-takes c.machine.stack); leaves = search (rules, then_ok, replaced_pair) }
row_facts c op.Intcblock i = record { takes = takes_none c.machine.stack _; leaves = record { goes = tt; uints = refl; strings = refl; space = refl; same = λ quiet. refl; left = λ h on. without [] c.machine.stack h } }
row_facts c op.Intc i = record { takes = takes_none c.machine.stack _; leaves = search (rules, then_ok, pushed) }
row_facts c op.Intc0 i = record { takes = takes_none c.machine.stack _; leaves = search (rules, then_ok, pushed) }
row_facts c op.Intc1 i = record { takes = takes_none c.machine.stack _; leaves = search (rules, then_ok, pushed) }
row_facts c op.Intc2 i = record { takes = takes_none c.machine.stack _; leaves = search (rules, then_ok, pushed) }
row_facts c op.Intc3 i = record { takes = takes_none c.machine.stack _; leaves = search (rules, then_ok, pushed) }
row_facts c op.Bytecblock i = record { takes = takes_none c.machine.stack _; leaves = record { goes = tt; uints = refl; strings = refl; space = refl; same = λ quiet. refl; left = λ h on. without [] c.machine.stack h } }
row_facts c op.Bytec i = record { takes = takes_none c.machine.stack _; leaves = search (rules, then_ok, pushed) }
row_facts c op.Bytec0 i = record { takes = takes_none c.machine.stack _; leaves = search (rules, then_ok, pushed) }
row_facts c op.Bytec1 i = record { takes = takes_none c.machine.stack _; leaves = search (rules, then_ok, pushed) }
row_facts c op.Bytec2 i = record { takes = takes_none c.machine.stack _; leaves = search (rules, then_ok, pushed) }
row_facts c op.Bytec3 i = record { takes = takes_none c.machine.stack _; leaves = search (rules, then_ok, pushed) }
row_facts c op.Txn i = record { takes = takes_none c.machine.stack _; leaves = search (rules, then_act, pushed) }
row_facts c op.Global i = record { takes = takes_none c.machine.stack _; leaves = global_asks c None (global_field_at (field_of i)) }
row_facts c op.Gtxn i = record { takes = takes_none c.machine.stack _; leaves = search (rules, then_act, pushed) }
row_facts c op.Load i = record { takes = takes_none c.machine.stack _; leaves = pushed c None kind.Any (unwrap_or (slice_get c.machine.scratch (index_of i)) (Uint 0)) refl }
row_facts c op.Store i = record { takes = takes_ok _ (takes.one_value-takes c.machine.stack); leaves = then_ok _ (one_value c.machine.stack) _ (λ v. record { goes = tt; uints = refl; strings = refl; space = length-set c.machine.scratch (index_of i) v; same = λ quiet. refl; left = λ h on. without (kind.Any ∷ []) c.machine.stack h }) }
row_facts c op.Txna i = record { takes = takes_none c.machine.stack _; leaves = search (rules, then_act, pushed) }
row_facts c op.Gtxna i = record { takes = takes_none c.machine.stack _; leaves = search (rules, then_act, pushed) }
row_facts c op.Gtxns i = record { takes = takes_act _ (takes.one_uint-takes c.machine.stack); leaves = search (rules, then_act, replaced) }
row_facts c op.Gtxnsa i = record { takes = takes_act _ (takes.one_uint-takes c.machine.stack); leaves = search (rules, then_act, replaced) }
row_facts c op.Bnz i = record { takes = takes_ok _ (takes.one_uint-takes c.machine.stack); leaves = search (rules, then_ok, branched) }
row_facts c op.Bz i = record { takes = takes_ok _ (takes.one_uint-takes c.machine.stack); leaves = search (rules, then_ok, branched) }
row_facts c op.B i = record { takes = takes_none c.machine.stack _; leaves = record { goes = refl; uints = refl; strings = refl; space = refl; same = λ quiet. refl; left = λ h on. without [] c.machine.stack h } }
row_facts c op.Return i = record { takes = takes_ok _ (takes.one_uint-takes c.machine.stack); leaves = then_ok _ (one_uint c.machine.stack) _ (λ a. record { goes = tt; uints = refl; strings = refl; space = refl; same = λ quiet. refl; left = λ h on. absurd (on refl) }) }
row_facts c op.Assert i = record { takes = takes_ok _ (takes.one_uint-takes c.machine.stack); leaves = search (rules, then_ok, dropped) }
row_facts c op.Pop i = record { takes = takes_ok _ (takes.one_value-takes c.machine.stack); leaves = search (rules, then_ok, dropped) }
row_facts c op.Dup i = record { takes = takes_ok _ (takes.one_value-takes c.machine.stack); leaves = search (rules, then_ok, doubled) }
row_facts c op.Dup2 i = record { takes = takes_ok _ (takes.two_values-takes c.machine.stack); leaves = search (rules, then_ok, doubled_pair) }
row_facts c op.Dig i = record { takes = takes_none c.machine.stack _; leaves = search (rules, then_ok, pushed) }
row_facts c op.Swap i = record { takes = takes_ok _ (takes.two_values-takes c.machine.stack); leaves = search (rules, then_ok, replaced_pair) }
row_facts c op.Select i = record { takes = takes_ok _ (takes.two_values_and_uint-takes c.machine.stack); leaves = search (rules, then_ok, replaced) }
row_facts c op.Concat i = record { takes = takes_ok _ (takes.two_bytes-takes c.machine.stack); leaves = search (rules, then_ok, replaced) }
row_facts c op.Substring i = record { takes = takes_ok _ (takes.one_bytes-takes c.machine.stack); leaves = then_ok _ (one_bytes c.machine.stack) _ (λ s. then_kind _ kind.Bytes (range_of s (start_of i) (end_of i)) _ (range_kind (slice_range s (start_of i) (end_of i)) (nat_le (start_of i) (end_of i) && nat_le (end_of i) (length s))) (λ v is. replaced c None (kind.Bytes ∷ []) kind.Bytes v is)) }
row_facts c op.Substring3 i = record { takes = takes_ok _ (takes.bytes_and_two_uints-takes c.machine.stack); leaves = then_ok _ (bytes_and_two_uints c.machine.stack) _ (λ x. then_kind _ kind.Bytes (range_of x.0 x.1 x.2) _ (range_kind (slice_range x.0 x.1 x.2) (nat_le x.1 x.2 && nat_le x.2 (length x.0))) (λ v is. replaced c None (kind.Bytes ∷ kind.Uint ∷ kind.Uint ∷ []) kind.Bytes v is)) }
row_facts c op.Getbit i = record { takes = takes_ok _ (takes.value_and_uint-takes c.machine.stack); leaves = search (rules, then_ok, replaced) }
row_facts c op.Setbit i = record { takes = takes_ok _ (takes.value_and_two_uints-takes c.machine.stack); leaves = search (rules, then_ok, replaced) }
row_facts c op.Getbyte i = record { takes = takes_ok _ (takes.bytes_and_uint-takes c.machine.stack); leaves = search (rules, then_ok, replaced) }
row_facts c op.Setbyte i = record { takes = takes_ok _ (takes.bytes_and_two_uints-takes c.machine.stack); leaves = search (rules, then_ok, replaced) }
row_facts c op.AppOptedIn i = record { takes = takes_act _ (takes.two_uints-takes c.machine.stack); leaves = search (rules, then_act, then_found, replaced, flag_kind) }
row_facts c op.AppLocalGet i = record { takes = takes_act _ (takes.uint_and_bytes-takes c.machine.stack); leaves = search (rules, then_act, then_found, replaced) }
row_facts c op.AppLocalGetEx i = record { takes = takes_act _ (takes.two_uints_and_bytes-takes c.machine.stack); leaves = search (rules, then_act, then_found, replaced_pair, flag_kind) }
row_facts c op.AppGlobalGet i = record { takes = takes_act _ (takes.one_bytes-takes c.machine.stack); leaves = search (rules, then_act, entry_asks, replaced) }
row_facts c op.AppGlobalGetEx i = record { takes = takes_act _ (takes.uint_and_bytes-takes c.machine.stack); leaves = search (rules, then_act, foreign_asks, then_test, entry_asks, replaced_pair, flag_kind) }
row_facts c op.AppLocalPut i = record { takes = takes_act _ (takes.uint_bytes_and_value-takes c.machine.stack); leaves = search (rules, then_act, then_found, may_put_asks, then_test, written) }
row_facts c op.AppGlobalPut i = record { takes = takes_act _ (takes.bytes_and_value-takes c.machine.stack); leaves = search (rules, then_act, may_put_asks, entry_asks, put_over_asks) }
row_facts c op.AppLocalDel i = record { takes = takes_act _ (takes.uint_and_bytes-takes c.machine.stack); leaves = search (rules, then_act, then_found, written) }
row_facts c op.AppGlobalDel i = record { takes = takes_act _ (takes.one_bytes-takes c.machine.stack); leaves = search (rules, then_act, entry_asks, delete_asks) }
row_facts c op.Pushbytes i = record { takes = takes_none c.machine.stack _; leaves = pushed c None kind.Bytes (Bytes (bytes_of i)) refl }
row_facts c op.Pushint i = record { takes = takes_none c.machine.stack _; leaves = pushed c None kind.Uint (Uint (uint_of i)) refl }

-- ---- what follows

-- no instruction asks for more than three items
pub questions_few : (o : Opcode) → questions o ≤ 3
questions_few op.Global = omega arith
questions_few op.AppOptedIn = omega arith
questions_few op.AppLocalGet = omega arith
questions_few op.AppLocalGetEx = omega arith
questions_few op.AppGlobalGet = omega arith
questions_few op.AppGlobalGetEx = omega arith
questions_few op.AppLocalPut = omega arith
questions_few op.AppGlobalPut = omega arith
questions_few op.AppLocalDel = omega arith
questions_few op.AppGlobalDel = omega arith
questions_few _ = omega arith

-- at most as many questions, and then what follows from P
pub at_most-each : {A : Type 0} (n m : ℕ) (P S : A → Type 0) (t : Ask A) → n ≤ m → ((a : A) → P a → S a) → AsksAtMost Any n P t → AsksAtMost Any m S t
at_most-each n m P S (Gives a) few f h = f a h
at_most-each n m P S (Asks x k) few f h = (omega (arith, h.0), λ v any. at_most-each (n - 1) (m - 1) P S (k v) (omega arith) f (h.1 v any))

-- what holds of each result holds of the one over these items
pub at_most-result : {A : Type 0} (n : ℕ) (P : A → Type 0) (look : Look) (t : Ask A) → AsksAtMost Any n P t → P (result_over look t)
at_most-result n P look (Gives a) h = h
at_most-result n P look (Asks x k) h = at_most-result (n - 1) P look (k (look x)) (h.1 (look x) tt)

-- an instruction asks for at most three items, and goes on as its opcode and immediates say
pub effect_asks : AsksLittle
effect_asks c o i = at_most-each (questions o) 3 (OnOk (FactsOf c o i)) _ (effect c o i) (questions_few o) goes (row_facts c o i).leaves
  where
    goes : (r : Stepped) → OnOk (FactsOf c o i) r → RunsOn (branch_target c.machine.place o i) (uints_after o i c.machine.uint_constants) (strings_after o i c.machine.byte_constants) r
    goes (Ok after) h = (h.goes, h.uints, h.strings)
    goes (Err f) h = tt

-- fewer values than the row takes are an underflow
pub underflows : Underflows
underflows c o i = (row_facts c o i).takes.underflow

-- where there are enough, a value of another type than the row takes is at fault
pub tests_types : TestsTypes
tests_types c o i = (row_facts c o i).takes.types

-- Where there are fewer values than the row takes, nothing is left.
pub leaves_its_row : LeavesItsRow
leaves_its_row c o i look after is on = by (nat_le (length (row_of o).pops) (length c.machine.stack)) refl
  where
    kept : OnOk (FactsOf c o i) (Ok after)
    kept = subst (OnOk (FactsOf c o i)) is (at_most-result (questions o) (OnOk (FactsOf c o i)) look (effect c o i) (row_facts c o i).leaves)

    by : (b : Bool) → nat_le (length (row_of o).pops) (length c.machine.stack) ≡ b → LeavesValues (row_of o).pops (row_of o).pushes c.machine.stack after.machine.stack
    by true enough = kept.left (leb-true _ _ enough) on
    by false few = let stops : result_over look (effect c o i) ≡ Err fault.Underflow = ap (result_over look) (underflows c o i (leb-false _ _ few)) in absurd cc
