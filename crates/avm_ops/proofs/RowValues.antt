-- That every row leaves values of a kind that is closed under what rows do: those that a machine may have, and those of
-- bounded length.
use Rattle.std.proofs.Common.{◌≡◌, ℕ, ◌+◌, ◌*◌, ◌/◌, ◌%◌, ◌^◌, ◌≤◌, Bool, true, false, nat_lt, nat_le, if◌then◌else◌, List, [], ◌∷◌, ◌++◌, length, Option, None, Some, Result, Ok, Err, refl, subst, arith, length-drop}
use Rattle.std.specs.Prelude.{◌==◌, ◌&&◌, ◌||◌, not, All, IfSome, drop, is_none, is_some, slice_get, slice_index, slice_set}
use Rattle.std.specs.BTreeMap.{is_at}
use Rattle.std.proofs.lemmas.Bool.{leb-true, ltb-true}
use Rattle.std.proofs.lemmas.List.Elements.{All-nil, All-cons, All-drop, All-set}
use Rattle.std.proofs.lemmas.Map.Entries.{All-lookup}
use Rattle.sha2.specs.Sha256.{sha256}
use Rattle.sha2.specs.Sha512.{sha512_256}
use Rattle.teal_value.specs.Answer.{◌>>=◌}
use Rattle.teal_value.specs.declared.address.Address.{Address}
use Rattle.teal_value.specs.declared.value.Value.{Value}
use Rattle.teal_value.specs.declared.value.Value.TheVariants.{Uint, Bytes}
use Rattle.teal_value.specs.declared.fault.Fault.{Fault}
use Rattle.teal_value.specs.declared.fault.Fault.TheVariants as fault
use Rattle.teal_value.specs.Keys.{most_key_bytes}
use Rattle.teal_table.specs.declared.opcode.Opcode.{Opcode}
use Rattle.teal_table.specs.declared.opcode.Opcode.TheVariants as op
use Rattle.teal_table.specs.declared.global_fields.GlobalField.{GlobalField}
use Rattle.teal_table.specs.declared.global_fields.GlobalField.TheVariants as global
use Rattle.teal_table.specs.Fields.{global_field_at}
use Rattle.teal_code.specs.declared.instr.Immediates.{Immediates}
use Rattle.avm_ledger.specs.declared.application.Application.{Application}
use Rattle.avm_states.specs.Entries.{Entries, byte_cmp, value_of_key, with_entry, most_value_bytes}
use Rattle.avm_states.specs.Schemas.{counts_in, counts_after, is_within, keeps_kind}
use Rattle.avm_ledger.specs.Ledgers.{Ledger, application_at}
use Rattle.avm_items.specs.declared.item.Item.{Item}
use Rattle.avm_items.specs.declared.item.Item.TheVariants as item
use Rattle.avm_items.specs.declared.item_value.ItemValue.{ItemValue}
use Rattle.avm_items.specs.declared.item_value.ItemValue.TheVariants as value
use Rattle.avm_items.specs.CallFields.{account}
use Rattle.avm_items.specs.Items.{ItemMap, application_in, entry_in, local_state_in}
use Rattle.avm_items.specs.LedgerItems.{at}
use Rattle.avm_items.specs.Asks.{Gives, and_then, result_over}
use Rattle.avm_items.specs.Acts.{Act, on_ok, test}
use Rattle.avm_cpu.specs.Operands.{one_uint, one_bytes, one_value, two_uints, two_bytes, two_values, uint_and_bytes, bytes_and_uint, bytes_and_value, value_and_uint, value_below, bytes_and_two_uints, value_and_two_uints, two_values_and_uint, two_uints_and_bytes, uint_bytes_and_value}
use Rattle.avm_cpu.specs.Machine.{most_values, most_bytes}
use Rattle.avm_ops.specs.Frame.{Context, After, Stepped, pushes, pushes_pair, must, there, flag, next_with_stack}
use Rattle.avm_ops.specs.Immediates.{index_of, offset_of, field_of, group_index_of, start_of, end_of, uint_of, bytes_of}
use Rattle.avm_ops.specs.Numbers.{of_two_uints, is_less, is_greater, is_at_most, is_at_least, are_both_nonzero, is_either_nonzero, is_nonzero, if_equal, is_zero, inverted, sum_of, difference_of, product_of, quotient_of, remainder_of, bits_or, bits_and, bits_xor, compares, are_equal, equality, wide, wide_product, wide_sum, of_one_uint}
use Rattle.avm_ops.specs.ByteStrings.{of_bytes, length_of, number_of_bytes, bytes_of_number, digest_by, range_of, bit_count, bit_of_value, value_with_bit}
use Rattle.avm_ops.specs.Stack.{jump_by}
use Rattle.avm_ops.specs.Fields.{zero_address_bytes, scalar_field, array_field, is_in_group, value_of_global_field, global_at}
use Rattle.avm_ops.specs.States.{value_length, application, application_named, foreign_of, global_entry, may_put, or_zero, the_local_state, global_put_over, global_delete_of, leaves}
use Rattle.avm_ops.specs.Effect.{effect}
use Rattle.avm_ops.proofs.RowFacts.{OnOk}
use Rattle.avm_ops.proofs.OperandValues as operands
use Rattle.avm_ops.proofs.OperandValues.{OkOf, get_fits, there_fits}
use Rattle.avm_ops.proofs.ActParts as part
use Rattle.avm_ops.proofs.WrittenItems.{Row, old_entry, old_counts, limit_of, then_found, stands_if_row, foreign_by}

-- ---- what a row is given, and what it leaves

-- closed under what rows compute
pub record IsClosed (V : Value → Type 0) : Type 0 where
  pub flag : (b : Bool) → V (flag b)
  pub sum : (a b : ℕ) → V (Uint a) → V (Uint b) → OkOf (λ n. V (Uint n)) (sum_of a b)
  pub difference : (a b : ℕ) → V (Uint a) → V (Uint b) → OkOf (λ n. V (Uint n)) (difference_of a b)
  pub product : (a b : ℕ) → V (Uint a) → V (Uint b) → OkOf (λ n. V (Uint n)) (product_of a b)
  pub quotient : (a b : ℕ) → V (Uint a) → V (Uint b) → OkOf (λ n. V (Uint n)) (quotient_of a b)
  pub remainder : (a b : ℕ) → V (Uint a) → V (Uint b) → OkOf (λ n. V (Uint n)) (remainder_of a b)
  pub or_bits : (a b : ℕ) → V (Uint a) → V (Uint b) → OkOf (λ n. V (Uint n)) (bits_or a b)
  pub and_bits : (a b : ℕ) → V (Uint a) → V (Uint b) → OkOf (λ n. V (Uint n)) (bits_and a b)
  pub xor_bits : (a b : ℕ) → V (Uint a) → V (Uint b) → OkOf (λ n. V (Uint n)) (bits_xor a b)
  pub wide_product : (a b : ℕ) → V (Uint a) → V (Uint b) → V (Uint (a * b / 2 ^ 64)) × V (Uint (a * b % 2 ^ 64))
  pub wide_sum : (a b : ℕ) → V (Uint a) → V (Uint b) → V (Uint ((a + b) / 2 ^ 64)) × V (Uint ((a + b) % 2 ^ 64))
  pub inverted : (a : ℕ) → V (Uint a) → V (inverted a)
  pub bytes : (a : ℕ) → V (Uint a) → V (bytes_of_number a)
  pub number : (s : List ℕ) → V (Bytes s) → OkOf V (number_of_bytes s)
  pub size : (s : List ℕ) → V (Bytes s) → V (Uint (length s))
  pub short_digest : (s : List ℕ) → V (Bytes (sha256 s))
  pub long_digest : (s : List ℕ) → V (Bytes (sha512_256 s))
  pub joined : (s t : List ℕ) → nat_le (length s + length t) most_bytes ≡ true → V (Bytes s) → V (Bytes t) → V (Bytes (s ++ t))
  pub range : (s : List ℕ) (start end : ℕ) → V (Bytes s) → OkOf V (range_of s start end)
  pub byte : (s : List ℕ) (k : ℕ) → V (Bytes s) → V (Uint (slice_index s k))
  pub with_byte : (s : List ℕ) (k b : ℕ) → (nat_lt k (length s) && nat_lt b 256) ≡ true → V (Bytes s) → V (Bytes (slice_set s k b))
  pub bit : (v : Value) (k : ℕ) → V v → V (Uint (bit_of_value v k))
  pub with_bit : (v : Value) (k b : ℕ) → (nat_lt k (bit_count v) && nat_lt b 2) ≡ true → V v → V (value_with_bit v k b)

-- of what an item holds
abbrev pub Holds : (Value → Type 0) → ItemValue → Type 0
Holds V (value.App row) = V (Bytes row.creator.0)
Holds V (value.Key v) = V v
Holds V (value.Local state) = All (λ e. V e.1) state
Holds V _ = Unit {0}

-- V is closed and holds of all that an instruction is given; the application that runs is there
pub record IsGiven (V : Value → Type 0) (m : Ledger) (c : Context) (i : Immediates) : Type 0 where
  pub closed : IsClosed V
  pub stack : All V c.machine.stack
  pub scratch : All V c.machine.scratch
  pub uints : All (λ n. V (Uint n)) c.machine.uint_constants
  pub strings : All (λ s. V (Bytes s)) c.machine.byte_constants
  pub uint : V (Uint (uint_of i))
  pub bytes : V (Bytes (bytes_of i))
  pub scalar : (number : ℕ) → OkOf V (scalar_field c.call number)
  pub element : (number k : ℕ) → OkOf V (array_field c.call number k)
  pub global : (f : GlobalField) → OkOf V (result_over (at m) (value_of_global_field c f))
  pub items : (x : Item) → Holds V (at m x)
  pub stands : is_none (application_at m c.current) ≡ false

-- V holds of the stack and the scratch space left, and a stack within its limit stays so
pub record Leaves (V : Value → Type 0) (c : Context) (after : After) : Type 0 where
  pub height : length c.machine.stack ≤ most_values → length after.machine.stack ≤ most_values
  pub stack : All V after.machine.stack
  pub scratch : All V after.machine.scratch

-- ---- one part of a row after another

then_of : {A : Type 0} (G : A → Type 0) (R : After → Type 0) (r : Result A Fault) (f : A → Stepped) → OkOf G r → ((a : A) → G a → OnOk R (f a)) → OnOk R (r >>= f)
then_of G R (Ok a) f h g = g a h
then_of G R (Err e) f h g = tt

act_of : {A : Type 0} (G : A → Type 0) (m : Ledger) (R : After → Type 0) (r : Result A Fault) (f : A → Act Fault After) → OkOf G r → ((a : A) → G a → Row m R (f a)) → Row m R (on_ok f r)
act_of G m R (Ok a) f h g = g a h
act_of G m R (Err e) f h g = tt

any : {A : Type 0} (r : Result A Fault) → OkOf (λ a. Unit {0}) r
any (Ok a) = tt
any (Err e) = tt

passes : (b : Bool) (f : Fault) → OkOf (λ u. b ≡ true) (must b f)
passes true f = refl
passes false f = tt

-- ---- the forms in which rows end

kept : {V : Value → Type 0} {m : Ledger} {c : Context} {i : Immediates} → IsGiven V m c i → Leaves V c (next_with_stack c c.machine.stack)
kept g = record { height = λ h. h; stack = g.stack; scratch = g.scratch }

dropped : {V : Value → Type 0} {m : Ledger} {c : Context} {i : Immediates} → IsGiven V m c i → (count : ℕ) → Leaves V c (next_with_stack c (drop count c.machine.stack))
dropped {V} {m} {c} g count = record { height = λ h. omega (arith, length-drop count c.machine.stack, h); stack = All-drop V count c.machine.stack g.stack; scratch = g.scratch }

replaced : {V : Value → Type 0} {m : Ledger} {c : Context} {i : Immediates} → IsGiven V m c i → (count : ℕ) (v : Value) → 1 ≤ count → V v → Leaves V c (next_with_stack c (v ∷ drop count c.machine.stack))
replaced {V} {m} {c} g count v some h = record {
  height = λ few. omega (arith, length-drop count c.machine.stack, few, some);
  stack = All-cons V v (drop count c.machine.stack) h (All-drop V count c.machine.stack g.stack);
  scratch = g.scratch;
}

replaced_pair : {V : Value → Type 0} {m : Ledger} {c : Context} {i : Immediates} → IsGiven V m c i → (count : ℕ) (v top : Value) → 2 ≤ count → V v → V top → Leaves V c (next_with_stack c (top ∷ v ∷ drop count c.machine.stack))
replaced_pair {V} {m} {c} g count v top some h k = record {
  height = λ few. omega (arith, length-drop count c.machine.stack, few, some);
  stack = All-cons V top (v ∷ drop count c.machine.stack) k (All-cons V v (drop count c.machine.stack) h (All-drop V count c.machine.stack g.stack));
  scratch = g.scratch;
}

pushed : {V : Value → Type 0} {m : Ledger} {c : Context} {i : Immediates} → IsGiven V m c i → (v : Value) → V v → OnOk (Leaves V c) (pushes c v)
pushed {V} {m} {c} g v h = by (nat_lt (length c.machine.stack) most_values) refl
  where
    by : (room : Bool) → nat_lt (length c.machine.stack) most_values ≡ room → OnOk (Leaves V c) (if room then Ok (next_with_stack c (v ∷ c.machine.stack)) else Err fault.StackFull)
    by true is = record { height = λ few. omega (arith, ltb-true (length c.machine.stack) most_values is); stack = All-cons V v c.machine.stack h g.stack; scratch = g.scratch }
    by false is = tt

pushed_pair : {V : Value → Type 0} {m : Ledger} {c : Context} {i : Immediates} → IsGiven V m c i → (v top : Value) → V v → V top → OnOk (Leaves V c) (pushes_pair c v top)
pushed_pair {V} {m} {c} g v top h k = by (nat_le (length c.machine.stack + 2) most_values) refl
  where
    by : (room : Bool) → nat_le (length c.machine.stack + 2) most_values ≡ room → OnOk (Leaves V c) (if room then Ok (next_with_stack c (top ∷ v ∷ c.machine.stack)) else Err fault.StackFull)
    by true is = record {
      height = λ few. omega (arith, leb-true (length c.machine.stack + 2) most_values is);
      stack = All-cons V top (v ∷ c.machine.stack) k (All-cons V v c.machine.stack h g.stack);
      scratch = g.scratch;
    }
    by false is = tt

branched : {V : Value → Type 0} {m : Ledger} {c : Context} {i : Immediates} → IsGiven V m c i → (offset : ℕ) (b : Bool) → Leaves V c (if b then record (next_with_stack c (drop 1 c.machine.stack)) { flow = jump_by c offset } else next_with_stack c (drop 1 c.machine.stack))
branched {V} {m} {c} g offset true = let d = dropped g 1 in record { height = d.height; stack = d.stack; scratch = d.scratch }
branched g offset false = dropped g 1

-- ---- families

of_two : {V : Value → Type 0} {m : Ledger} {c : Context} {i : Immediates} → IsGiven V m c i → (f : ℕ → ℕ → Result ℕ Fault) → ((a b : ℕ) → V (Uint a) → V (Uint b) → OkOf (λ n. V (Uint n)) (f a b)) → OnOk (Leaves V c) (of_two_uints f c)
of_two {V} {m} {c} g f h =
    then_of _ (Leaves V c) (two_uints c.machine.stack) _ (operands.two_uints_fits V c.machine.stack g.stack) (λ x w.
    then_of (λ n. V (Uint n)) (Leaves V c) (f x.0 x.1) _ (h x.0 x.1 w.0 w.1) (λ n k. replaced g 2 (Uint n) (omega arith) k))

compared : {V : Value → Type 0} {m : Ledger} {c : Context} {i : Immediates} → IsGiven V m c i → (p : ℕ → ℕ → Bool) → OnOk (Leaves V c) (compares p c)
compared {V} {m} {c} g p = then_of _ (Leaves V c) (two_uints c.machine.stack) _ (any (two_uints c.machine.stack)) (λ x w. replaced g 2 (flag (p x.0 x.1)) (omega arith) (g.closed.flag (p x.0 x.1)))

equal : {V : Value → Type 0} {m : Ledger} {c : Context} {i : Immediates} → IsGiven V m c i → (f : Bool → Bool) → OnOk (Leaves V c) (equality f c)
equal {V} {m} {c} g f =
    then_of _ (Leaves V c) (two_values c.machine.stack) _ (any (two_values c.machine.stack)) (λ x w.
    then_of _ (Leaves V c) (are_equal x.0 x.1) _ (any (are_equal x.0 x.1)) (λ t w. replaced g 2 (flag (f t)) (omega arith) (g.closed.flag (f t))))

of_wide : {V : Value → Type 0} {m : Ledger} {c : Context} {i : Immediates} → IsGiven V m c i → (f : ℕ → ℕ → ℕ) → ((a b : ℕ) → V (Uint a) → V (Uint b) → V (Uint (f a b / 2 ^ 64)) × V (Uint (f a b % 2 ^ 64))) → OnOk (Leaves V c) (wide f c)
of_wide {V} {m} {c} g f h =
    then_of _ (Leaves V c) (two_uints c.machine.stack) _ (operands.two_uints_fits V c.machine.stack g.stack) (λ x w.
    let k = h x.0 x.1 w.0 w.1 in replaced_pair g 2 (Uint (f x.0 x.1 / 2 ^ 64)) (Uint (f x.0 x.1 % 2 ^ 64)) (omega arith) k.0 k.1)

of_one : {V : Value → Type 0} {m : Ledger} {c : Context} {i : Immediates} → IsGiven V m c i → (f : ℕ → Value) → ((a : ℕ) → V (Uint a) → V (f a)) → OnOk (Leaves V c) (of_one_uint f c)
of_one {V} {m} {c} g f h = then_of _ (Leaves V c) (one_uint c.machine.stack) _ (operands.one_uint_fits V c.machine.stack g.stack) (λ a w. replaced g 1 (f a) (omega arith) (h a w))

of_string : {V : Value → Type 0} {m : Ledger} {c : Context} {i : Immediates} → IsGiven V m c i → (f : List ℕ → Result Value Fault) → ((s : List ℕ) → V (Bytes s) → OkOf V (f s)) → OnOk (Leaves V c) (of_bytes f c)
of_string {V} {m} {c} g f h =
    then_of _ (Leaves V c) (one_bytes c.machine.stack) _ (operands.one_bytes_fits V c.machine.stack g.stack) (λ s w.
    then_of V (Leaves V c) (f s) _ (h s w) (λ v k. replaced g 1 v (omega arith) k))

uint_constant : {V : Value → Type 0} {m : Ledger} {c : Context} {i : Immediates} → IsGiven V m c i → (k : ℕ) → OnOk (Leaves V c) (there (slice_get c.machine.uint_constants k) fault.NoConstant >>= λ n. pushes c (Uint n))
uint_constant {V} {m} {c} g k =
    then_of (λ n. V (Uint n)) (Leaves V c) (there (slice_get c.machine.uint_constants k) fault.NoConstant) _
    (there_fits (λ n. V (Uint n)) (slice_get c.machine.uint_constants k) fault.NoConstant (get_fits (λ n. V (Uint n)) c.machine.uint_constants k g.uints)) (λ n w. pushed g (Uint n) w)

byte_constant : {V : Value → Type 0} {m : Ledger} {c : Context} {i : Immediates} → IsGiven V m c i → (k : ℕ) → OnOk (Leaves V c) (there (slice_get c.machine.byte_constants k) fault.NoConstant >>= λ s. pushes c (Bytes s))
byte_constant {V} {m} {c} g k =
    then_of (λ s. V (Bytes s)) (Leaves V c) (there (slice_get c.machine.byte_constants k) fault.NoConstant) _
    (there_fits (λ s. V (Bytes s)) (slice_get c.machine.byte_constants k) fault.NoConstant (get_fits (λ s. V (Bytes s)) c.machine.byte_constants k g.strings)) (λ s w. pushed g (Bytes s) w)

chosen : (V : Value → Type 0) (v w : Value) → V v → V w → (b : Bool) → V (if b then v else w)
chosen V v w h g true = h
chosen V v w h g false = g

below : (V : Value → Type 0) (depth : ℕ) (stack : List Value) → All V stack → OkOf V (value_below depth stack)
below V depth stack all = by (slice_get stack depth) (get_fits V stack depth all)
  where
    by : (o : Option Value) → IfSome o V → OkOf V (elim o as (λ _. Result Value Fault) [ Some v ↦ Ok v | None ↦ Err fault.Underflow ])
    by None h = tt
    by (Some v) h = h

-- a value that may be absent, read as 0
or_none : (V : Value → Type 0) → IsClosed V → (o : Option Value) → IfSome o V → V (or_zero o)
or_none V k None h = k.flag false
or_none V k (Some v) h = h

-- ---- fields

pushed_field : {V : Value → Type 0} {m : Ledger} {c : Context} {i : Immediates} → IsGiven V m c i → (r : Result Value Fault) → OkOf V r → Row m (Leaves V c) (on_ok (λ v. Gives (pushes c v)) r)
pushed_field {V} {m} {c} g r h = act_of V m (Leaves V c) r _ h (λ v k. pushed g v k)

replaced_field : {V : Value → Type 0} {m : Ledger} {c : Context} {i : Immediates} → IsGiven V m c i → (r : Result Value Fault) → OkOf V r
    → Row m (Leaves V c) (on_ok (λ t. on_ok (λ u. on_ok (λ v. Gives (Ok (next_with_stack c (v ∷ drop 1 c.machine.stack)))) r) (is_in_group t)) (one_uint c.machine.stack))
replaced_field {V} {m} {c} g r h =
    act_of _ m (Leaves V c) (one_uint c.machine.stack) _ (any (one_uint c.machine.stack)) (λ t w.
    act_of _ m (Leaves V c) (is_in_group t) _ (any (is_in_group t)) (λ u w.
    act_of V m (Leaves V c) r _ h (λ v k. replaced g 1 v (omega arith) k)))

global_row : {V : Value → Type 0} {m : Ledger} {c : Context} {i : Immediates} → IsGiven V m c i → (o : Option GlobalField) → Row m (Leaves V c) (and_then (global_at c o) (on_ok (λ v. Gives (pushes c v))))
global_row g None = tt
global_row g (Some global.CreatorAddress) = (refl, pushed g _ (g.global global.CreatorAddress))
global_row g (Some global.MinTxnFee) = pushed g _ (g.global global.MinTxnFee)
global_row g (Some global.MinBalance) = pushed g _ (g.global global.MinBalance)
global_row g (Some global.MaxTxnLife) = pushed g _ (g.global global.MaxTxnLife)
global_row g (Some global.ZeroAddress) = pushed g _ (g.global global.ZeroAddress)
global_row g (Some global.GroupSize) = pushed g _ (g.global global.GroupSize)
global_row g (Some global.LogicSigVersion) = pushed g _ (g.global global.LogicSigVersion)
global_row g (Some global.Round) = pushed g _ (g.global global.Round)
global_row g (Some global.LatestTimestamp) = pushed g _ (g.global global.LatestTimestamp)
global_row g (Some global.CurrentApplicationId) = pushed g _ (g.global global.CurrentApplicationId)

-- ---- states

abbrev pub creator_of : Option Application → Value
creator_of (Some row) = Bytes row.creator.0
creator_of None = Bytes zero_address_bytes

pub creator_holds : (V : Value → Type 0) → V (Bytes zero_address_bytes) → (v : ItemValue) → Holds V v → V (creator_of (application_in v))
creator_holds V zero (value.App row) h = h
creator_holds V zero _ h = zero

entry_holds : (V : Value → Type 0) (v : ItemValue) → Holds V v → IfSome (entry_in v) V
entry_holds V (value.Key v) h = h
entry_holds V _ h = tt

state_holds : (V : Value → Type 0) (v : ItemValue) (state : Entries) → Holds V v → local_state_in v ≡ Some state → All (λ e. V e.1) state
state_holds V (value.Local t) state h is = let same : t ≡ state = cc in subst (λ (s : Entries). All (λ e. V e.1) s) same h
state_holds V (value.App row) state h is = absurd cc
state_holds V (value.Key v) state h is = absurd cc
state_holds V v state h is = absurd cc

value_at : (V : Value → Type 0) (state : Entries) (key : List ℕ) → All (λ e. V e.1) state → IfSome (value_of_key state key) V
value_at V state key all = All-lookup V (is_at (byte_cmp key)) state all

read_entry : {V : Value → Type 0} {m : Ledger} {c : Context} {i : Immediates} → IsGiven V m c i → (id : ℕ) (key : List ℕ) (f : Option Value → Act Fault After) → is_none (application_at m id) ≡ false → ((o : Option Value) → IfSome o V → Row m (Leaves V c) (f o))
    → Row m (Leaves V c) (and_then (global_entry id key) (on_ok f))
read_entry {V} {m} {c} g id key f stands h =
    part.entry_by (Row m (Leaves V c)) (item.Key id key) f (nat_le (length key) most_key_bytes)
    (λ _. (stands, h (old_entry m id key) (entry_holds V (at m (item.Key id key)) (g.items (item.Key id key))))) (λ _. h None tt)

own_entry : {V : Value → Type 0} {m : Ledger} {c : Context} {i : Immediates} → IsGiven V m c i → (key : List ℕ) (f : Option Value → Act Fault After) → ((o : Option Value) → IfSome o V → Row m (Leaves V c) (f o)) → Row m (Leaves V c) (and_then (global_entry c.current key) (on_ok f))
own_entry {V} {m} {c} g key f h = read_entry g c.current key f g.stands h

local_row : {V : Value → Type 0} {m : Ledger} {c : Context} {i : Immediates} → IsGiven V m c i → (who : Address) (id : ℕ) (f : Entries → Act Fault After) → ((state : Entries) → All (λ e. V e.1) state → Row m (Leaves V c) (f state))
    → Row m (Leaves V c) (and_then (the_local_state who id) (on_ok f))
local_row {V} {m} {c} g who id f h =
    (refl, part.then_found (Row m (Leaves V c)) (local_state_in (at m (item.Local who id))) fault.NotOptedIn f tt (λ state is. h state (state_holds V (at m (item.Local who id)) state (g.items (item.Local who id)) is)))

foreign_row : {V : Value → Type 0} {m : Ledger} {c : Context} {i : Immediates} → IsGiven V m c i → (key : List ℕ) (f : Option Value → Act Fault After) → ((o : Option Value) → IfSome o V → Row m (Leaves V c) (f o)) → (id : ℕ)
    → Row m (Leaves V c) (and_then (application id) (on_ok (λ row. and_then (test (is_some row) fault.NoSuchApp) (on_ok (λ _. and_then (global_entry id key) (on_ok f))))))
foreign_row {V} {m} {c} g key f h id =
    (refl, part.then_test (Row m (Leaves V c)) (is_some (application_in (at m (item.App id)))) fault.NoSuchApp _ tt (λ there. read_entry g id key f (stands_if_row m id (application_at m id) there) h))

may_put_row : {V : Value → Type 0} {m : Ledger} {c : Context} {i : Immediates} → IsGiven V m c i → (key : List ℕ) (v : Value) (f : Unit {0} → Act Fault After) → Row m (Leaves V c) (f tt) → Row m (Leaves V c) (and_then (may_put key v) (on_ok f))
may_put_row {V} {m} {c} g key v f h = part.may_put_by (Row m (Leaves V c)) (λ e. tt) f (nat_le (length key) most_key_bytes) (nat_le (value_length v) most_value_bytes) (λ short small. h)

-- so many operands go, and items are written
written : {V : Value → Type 0} {m : Ledger} {c : Context} {i : Immediates} → IsGiven V m c i → (count : ℕ) (w : ItemMap) → Leaves V c (leaves c count w)
written g count w = let d = dropped g count in record { height = d.height; stack = d.stack; scratch = d.scratch }

put_over : {V : Value → Type 0} {m : Ledger} {c : Context} {i : Immediates} → IsGiven V m c i → (key : List ℕ) (v : Value) (old : Option Value) (b : Bool) → Row m (Leaves V c) (global_put_over c key v old b)
put_over g key v old true = written g 2 _
put_over {V} {m} {c} g key v old false =
    (g.stands, (refl, part.then_test (Row m (Leaves V c)) (is_within (counts_after old (Some v) (old_counts m c.current)) (limit_of (λ row. row.global_schema) m c.current)) fault.Schema _ tt (λ room. written g 2 _)))

delete_of : {V : Value → Type 0} {m : Ledger} {c : Context} {i : Immediates} → IsGiven V m c i → (key : List ℕ) (old : Option Value) → Row m (Leaves V c) (global_delete_of c key old)
delete_of g key None = written g 1 _
delete_of g key (Some v) = (g.stands, written g 1 _)

-- ---- row by row

-- where V holds of what an instruction is given over a ledger, it holds of what it leaves
pub row_values : (V : Value → Type 0) (m : Ledger) (c : Context) (o : Opcode) (i : Immediates) → IsGiven V m c i → Row m (Leaves V c) (effect c o i)
unfolding effect
row_values V m c op.Err i g = tt
row_values V m c op.Sha256 i g = of_string g (digest_by sha256) (λ s h. g.closed.short_digest s)
row_values V m c op.Sha512_256 i g = of_string g (digest_by sha512_256) (λ s h. g.closed.long_digest s)
row_values V m c op.Add i g = of_two g sum_of g.closed.sum
row_values V m c op.Subtract i g = of_two g difference_of g.closed.difference
row_values V m c op.Divide i g = of_two g quotient_of g.closed.quotient
row_values V m c op.Multiply i g = of_two g product_of g.closed.product
row_values V m c op.Less i g = compared g is_less
row_values V m c op.Greater i g = compared g is_greater
row_values V m c op.LessOrEqual i g = compared g is_at_most
row_values V m c op.GreaterOrEqual i g = compared g is_at_least
row_values V m c op.And i g = compared g are_both_nonzero
row_values V m c op.Or i g = compared g is_either_nonzero
row_values V m c op.Equal i g = equal g if_equal
row_values V m c op.NotEqual i g = equal g not
row_values V m c op.Not i g = of_one g is_zero (λ a h. g.closed.flag (a == 0))
row_values V m c op.Len i g = of_string g length_of g.closed.size
row_values V m c op.Itob i g = of_one g bytes_of_number g.closed.bytes
row_values V m c op.Btoi i g = of_string g number_of_bytes g.closed.number
row_values V m c op.Remainder i g = of_two g remainder_of g.closed.remainder
row_values V m c op.BitOr i g = of_two g bits_or g.closed.or_bits
row_values V m c op.BitAnd i g = of_two g bits_and g.closed.and_bits
row_values V m c op.BitXor i g = of_two g bits_xor g.closed.xor_bits
row_values V m c op.BitNot i g = of_one g inverted g.closed.inverted
row_values V m c op.Mulw i g = of_wide g wide_product g.closed.wide_product
row_values V m c op.Addw i g = of_wide g wide_sum g.closed.wide_sum
row_values V m c op.Intcblock i g = record { height = λ h. h; stack = g.stack; scratch = g.scratch }
row_values V m c op.Intc i g = uint_constant g (index_of i)
row_values V m c op.Intc0 i g = uint_constant g 0
row_values V m c op.Intc1 i g = uint_constant g 1
row_values V m c op.Intc2 i g = uint_constant g 2
row_values V m c op.Intc3 i g = uint_constant g 3
row_values V m c op.Bytecblock i g = record { height = λ h. h; stack = g.stack; scratch = g.scratch }
row_values V m c op.Bytec i g = byte_constant g (index_of i)
row_values V m c op.Bytec0 i g = byte_constant g 0
row_values V m c op.Bytec1 i g = byte_constant g 1
row_values V m c op.Bytec2 i g = byte_constant g 2
row_values V m c op.Bytec3 i g = byte_constant g 3
row_values V m c op.Txn i g = pushed_field g (scalar_field c.call (field_of i)) (g.scalar (field_of i))
row_values V m c op.Global i g = global_row g (global_field_at (field_of i))
row_values V m c op.Gtxn i g = act_of _ m (Leaves V c) (is_in_group (group_index_of i)) _ (any (is_in_group (group_index_of i))) (λ u w. pushed_field g (scalar_field c.call (field_of i)) (g.scalar (field_of i)))
row_values V m c op.Load i g = pushed g _ (or_none V g.closed (slice_get c.machine.scratch (index_of i)) (get_fits V c.machine.scratch (index_of i) g.scratch))
row_values V m c op.Store i g = then_of V (Leaves V c) (one_value c.machine.stack) _ (operands.one_value_fits V c.machine.stack g.stack) (λ v h. record { height = (dropped g 1).height; stack = (dropped g 1).stack; scratch = All-set V c.machine.scratch (index_of i) v h g.scratch })
row_values V m c op.Txna i g = pushed_field g (array_field c.call (field_of i) (index_of i)) (g.element (field_of i) (index_of i))
row_values V m c op.Gtxna i g = act_of _ m (Leaves V c) (is_in_group (group_index_of i)) _ (any (is_in_group (group_index_of i))) (λ u w. pushed_field g (array_field c.call (field_of i) (index_of i)) (g.element (field_of i) (index_of i)))
row_values V m c op.Gtxns i g = replaced_field g (scalar_field c.call (field_of i)) (g.scalar (field_of i))
row_values V m c op.Gtxnsa i g = replaced_field g (array_field c.call (field_of i) (index_of i)) (g.element (field_of i) (index_of i))
row_values V m c op.Bnz i g = then_of _ (Leaves V c) (one_uint c.machine.stack) _ (any (one_uint c.machine.stack)) (λ a w. branched g (offset_of i) (is_nonzero a))
row_values V m c op.Bz i g = then_of _ (Leaves V c) (one_uint c.machine.stack) _ (any (one_uint c.machine.stack)) (λ a w. branched g (offset_of i) (not (is_nonzero a)))
row_values V m c op.B i g = record { height = λ h. h; stack = g.stack; scratch = g.scratch }
row_values V m c op.Return i g = then_of _ (Leaves V c) (one_uint c.machine.stack) _ (operands.one_uint_fits V c.machine.stack g.stack) (λ a h. record { height = λ few. omega arith; stack = All-cons V (Uint a) [] h (All-nil V); scratch = g.scratch })
row_values V m c op.Assert i g = then_of _ (Leaves V c) (one_uint c.machine.stack) _ (any (one_uint c.machine.stack)) (λ a w. then_of _ (Leaves V c) (must (not (a == 0)) fault.Assert) _ (any (must (not (a == 0)) fault.Assert)) (λ u w. dropped g 1))
row_values V m c op.Pop i g = then_of _ (Leaves V c) (one_value c.machine.stack) _ (any (one_value c.machine.stack)) (λ a w. dropped g 1)
row_values V m c op.Dup i g = then_of V (Leaves V c) (one_value c.machine.stack) _ (operands.one_value_fits V c.machine.stack g.stack) (λ v h. pushed g v h)
row_values V m c op.Dup2 i g = then_of _ (Leaves V c) (two_values c.machine.stack) _ (operands.two_values_fits V c.machine.stack g.stack) (λ x h. pushed_pair g x.0 x.1 h.0 h.1)
row_values V m c op.Dig i g = then_of V (Leaves V c) (value_below (index_of i) c.machine.stack) _ (below V (index_of i) c.machine.stack g.stack) (λ v h. pushed g v h)
row_values V m c op.Swap i g = then_of _ (Leaves V c) (two_values c.machine.stack) _ (operands.two_values_fits V c.machine.stack g.stack) (λ x h. replaced_pair g 2 x.1 x.0 (omega arith) h.1 h.0)
row_values V m c op.Select i g = then_of _ (Leaves V c) (two_values_and_uint c.machine.stack) _ (operands.two_values_and_uint_fits V c.machine.stack g.stack) (λ x h. replaced g 3 _ (omega arith) (chosen V x.0 x.1 h.0 h.1 (x.2 == 0)))
row_values V m c op.Concat i g =
    then_of _ (Leaves V c) (two_bytes c.machine.stack) _ (operands.two_bytes_fits V c.machine.stack g.stack) (λ x h.
    then_of _ (Leaves V c) (must (nat_le (length x.0 + length x.1) most_bytes) fault.TooLong) _ (passes (nat_le (length x.0 + length x.1) most_bytes) fault.TooLong) (λ u few.
    replaced g 2 (Bytes (x.0 ++ x.1)) (omega arith) (g.closed.joined x.0 x.1 few h.0 h.1)))
row_values V m c op.Substring i g = of_string g (λ s. range_of s (start_of i) (end_of i)) (λ s h. g.closed.range s (start_of i) (end_of i) h)
row_values V m c op.Substring3 i g =
    then_of _ (Leaves V c) (bytes_and_two_uints c.machine.stack) _ (operands.bytes_and_two_uints_fits V c.machine.stack g.stack) (λ x h.
    then_of V (Leaves V c) (range_of x.0 x.1 x.2) _ (g.closed.range x.0 x.1 x.2 h.0) (λ v k. replaced g 3 v (omega arith) k))
row_values V m c op.Getbit i g =
    then_of _ (Leaves V c) (value_and_uint c.machine.stack) _ (operands.value_and_uint_fits V c.machine.stack g.stack) (λ x h.
    then_of _ (Leaves V c) (must (nat_lt x.1 (bit_count x.0)) fault.Range) _ (any (must (nat_lt x.1 (bit_count x.0)) fault.Range)) (λ u w.
    replaced g 2 _ (omega arith) (g.closed.bit x.0 x.1 h.0)))
row_values V m c op.Setbit i g =
    then_of _ (Leaves V c) (value_and_two_uints c.machine.stack) _ (operands.value_and_two_uints_fits V c.machine.stack g.stack) (λ x h.
    then_of _ (Leaves V c) (must (nat_lt x.1 (bit_count x.0) && nat_lt x.2 2) fault.Range) _ (passes (nat_lt x.1 (bit_count x.0) && nat_lt x.2 2) fault.Range) (λ u inside.
    replaced g 3 (value_with_bit x.0 x.1 x.2) (omega arith) (g.closed.with_bit x.0 x.1 x.2 inside h.0)))
row_values V m c op.Getbyte i g =
    then_of _ (Leaves V c) (bytes_and_uint c.machine.stack) _ (operands.bytes_and_uint_fits V c.machine.stack g.stack) (λ x h.
    then_of _ (Leaves V c) (must (nat_lt x.1 (length x.0)) fault.Range) _ (any (must (nat_lt x.1 (length x.0)) fault.Range)) (λ u w.
    replaced g 2 _ (omega arith) (g.closed.byte x.0 x.1 h.0)))
row_values V m c op.Setbyte i g =
    then_of _ (Leaves V c) (bytes_and_two_uints c.machine.stack) _ (operands.bytes_and_two_uints_fits V c.machine.stack g.stack) (λ x h.
    then_of _ (Leaves V c) (must (nat_lt x.1 (length x.0) && nat_lt x.2 256) fault.Range) _ (passes (nat_lt x.1 (length x.0) && nat_lt x.2 256) fault.Range) (λ u inside.
    replaced g 3 (Bytes (slice_set x.0 x.1 x.2)) (omega arith) (g.closed.with_byte x.0 x.1 x.2 inside h.0)))
row_values V m c op.AppOptedIn i g =
    act_of _ m (Leaves V c) (two_uints c.machine.stack) _ (any (two_uints c.machine.stack)) (λ x w. then_found m (Leaves V c) (account c.call x.0) fault.NoAccount _ (λ who.
    (refl, replaced g 2 _ (omega arith) (g.closed.flag (is_some (local_state_in (at m (item.Local who (application_named c x.1)))))))))
row_values V m c op.AppLocalGet i g =
    act_of _ m (Leaves V c) (uint_and_bytes c.machine.stack) _ (any (uint_and_bytes c.machine.stack)) (λ x w. then_found m (Leaves V c) (account c.call x.0) fault.NoAccount _ (λ who.
    local_row g who c.current _ (λ state h. replaced g 2 _ (omega arith) (or_none V g.closed (value_of_key state x.1) (value_at V state x.1 h)))))
row_values V m c op.AppLocalGetEx i g =
    act_of _ m (Leaves V c) (two_uints_and_bytes c.machine.stack) _ (any (two_uints_and_bytes c.machine.stack)) (λ x w. then_found m (Leaves V c) (account c.call x.0) fault.NoAccount _ (λ who.
    local_row g who (application_named c x.1) _ (λ state h.
    replaced_pair g 3 _ _ (omega arith) (or_none V g.closed (value_of_key state x.2) (value_at V state x.2 h)) (g.closed.flag (is_some (value_of_key state x.2))))))
row_values V m c op.AppGlobalGet i g = act_of _ m (Leaves V c) (one_bytes c.machine.stack) _ (any (one_bytes c.machine.stack)) (λ key w. own_entry g key _ (λ o h. replaced g 1 _ (omega arith) (or_none V g.closed o h)))
row_values V m c op.AppGlobalGetEx i g =
    act_of _ m (Leaves V c) (uint_and_bytes c.machine.stack) _ (any (uint_and_bytes c.machine.stack)) (λ x w.
    foreign_by m (Leaves V c) _ (foreign_row g x.1 _ (λ o h. replaced_pair g 2 _ _ (omega arith) (or_none V g.closed o h) (g.closed.flag (is_some o)))) (foreign_of c.call c.current x.0))
row_values V m c op.AppLocalPut i g =
    act_of _ m (Leaves V c) (uint_bytes_and_value c.machine.stack) _ (any (uint_bytes_and_value c.machine.stack)) (λ x w. then_found m (Leaves V c) (account c.call x.0) fault.NoAccount _ (λ who.
    local_row g who c.current _ (λ state h.
    may_put_row g x.1 x.2 _ (refl, part.then_test (Row m (Leaves V c)) (keeps_kind (value_of_key state x.1) (Some x.2) || is_within (counts_in (with_entry state x.1 x.2)) (limit_of (λ row. row.local_schema) m c.current)) fault.Schema _ tt (λ room. written g 3 _)))))
row_values V m c op.AppGlobalPut i g =
    act_of _ m (Leaves V c) (bytes_and_value c.machine.stack) _ (any (bytes_and_value c.machine.stack)) (λ x w.
    may_put_row g x.0 x.1 _ (own_entry g x.0 _ (λ old h. put_over g x.0 x.1 old (keeps_kind old (Some x.1)))))
row_values V m c op.AppLocalDel i g =
    act_of _ m (Leaves V c) (uint_and_bytes c.machine.stack) _ (any (uint_and_bytes c.machine.stack)) (λ x w. then_found m (Leaves V c) (account c.call x.0) fault.NoAccount _ (λ who.
    local_row g who c.current _ (λ state h. written g 2 _)))
row_values V m c op.AppGlobalDel i g = act_of _ m (Leaves V c) (one_bytes c.machine.stack) _ (any (one_bytes c.machine.stack)) (λ key w. own_entry g key _ (λ old h. delete_of g key old))
row_values V m c op.Pushbytes i g = pushed g (Bytes (bytes_of i)) g.bytes
row_values V m c op.Pushint i g = pushed g (Uint (uint_of i)) g.uint
