-- That every row keeps the stack within its height, and byte strings within their length.
use Rattle.std.proofs.Common.{◌≡◌, ℕ, ◌+◌, ◌-◌, ◌≤◌, Bool, true, false, nat_le, if◌then◌else◌, List, length, Option, None, Some, Result, Ok, Err, arith, length-append, length-drop}
use Rattle.std.specs.Prelude.{◌==◌, ◌&&◌, All, IfSome, is_none, slice_get, slice_range}
use Rattle.std.specs.Option.{option_map}
use Rattle.std.proofs.lemmas.Bool.{leb-true}
use Rattle.std.proofs.lemmas.List.{length-set, length-take}
use Rattle.sha2.proofs.Facts256.{length-sha256}
use Rattle.sha2.proofs.Facts512.{length-sha512_256}
use Rattle.teal_value.specs.declared.address.Address.{Address}
use Rattle.teal_value.specs.declared.value.Value.{Value}
use Rattle.teal_value.specs.declared.value.Value.TheVariants.{Uint, Bytes}
use Rattle.teal_value.specs.declared.fault.Fault.{Fault}
use Rattle.teal_value.specs.declared.fault.Fault.TheVariants as fault
use Rattle.teal_table.specs.declared.opcode.Opcode.{Opcode}
use Rattle.teal_table.specs.declared.txn_fields.TxnField.{TxnField}
use Rattle.teal_table.specs.declared.txn_fields.TxnField.TheVariants as txn
use Rattle.teal_table.specs.declared.global_fields.GlobalField.{GlobalField}
use Rattle.teal_table.specs.declared.global_fields.GlobalField.TheVariants as global
use Rattle.teal_table.specs.Fields.{txn_field_at}
use Rattle.teal_code.specs.declared.instr.Immediates.{Immediates}
use Rattle.teal_code.specs.declared.instr.Immediates.TheVariants as is
use Rattle.avm_items.specs.declared.call_data.CallData.{CallData}
use Rattle.avm_items.specs.declared.item.Item.TheVariants as item
use Rattle.avm_items.specs.CallFields.{account}
use Rattle.avm_ops.specs.Frame.{Context, After, Stepped, there, flag}
use Rattle.avm_ops.specs.Immediates.{bytes_of}
use Rattle.avm_ops.specs.Numbers.{sum_of, difference_of, product_of, quotient_of, remainder_of, bits_or, bits_and, bits_xor}
use Rattle.avm_ops.specs.ByteStrings.{big_endian, range_of, value_with_bit}
use Rattle.avm_ops.specs.Fields.{txn_value, txn_array_value, scalar_field, array_field}
use Rattle.avm_ops.specs.Effect.{effect}
use Rattle.avm_rule_laws.specs.Bounds.{IsShortValue, IsWithinBounds}
use Rattle.avm_ledger.specs.Ledgers.{Ledger, application_at}
use Rattle.avm_items.specs.declared.item.Item.{Item}
use Rattle.avm_items.specs.LedgerItems.{at}
use Rattle.avm_items.specs.Asks.{result_over}
use Rattle.avm_cpu.specs.Machine.{most_bytes}
use Rattle.avm_ops.specs.Fields.{value_of_global_field}
use Rattle.avm_ops.proofs.RowFacts.{OnOk}
use Rattle.avm_ops.proofs.OperandValues.{OkOf, get_fits}
use Rattle.avm_ops.proofs.Questions.{along-each}
use Rattle.avm_ops.proofs.WrittenItems.{Row, IsThere}
use Rattle.avm_ops.proofs.RowValues.{IsClosed, Holds, Leaves, creator_holds, row_values}

-- ---- what a row is given, and what it leaves

-- at most 4096 bytes
abbrev pub IsShort : List ℕ → Type 0
IsShort s = length s ≤ most_bytes

-- the byte strings of a call have at most 4096 bytes each
pub record IsShortCall (c : CallData) : Type 0 where
  pub sender : IsShort c.sender.0
  pub note : IsShort c.note
  pub lease : IsShort c.lease
  pub rekey_to : IsShort c.rekey_to.0
  pub arguments : All IsShort c.arguments
  pub accounts : All (λ who. IsShort who.0) c.accounts
  pub approval : IsShort c.approval
  pub clear : IsShort c.clear

-- before an instruction, the stack and byte strings are within bounds, and the application stands
pub record Bounds (m : Ledger) (c : Context) : Type 0 where
  pub here : IsWithinBounds c.machine.stack c.machine.scratch
  pub strings : All IsShort c.machine.byte_constants
  pub call : IsShortCall c.call
  pub items : (x : Item) → Holds IsShortValue (at m x)
  pub stands : is_none (application_at m c.current) ≡ false

-- the byte strings in an instruction have at most 4096 bytes each
abbrev pub AreShortImmediates : Immediates → Type 0
AreShortImmediates (is.Bytes s) = IsShort s
AreShortImmediates (is.ByteBlock ss) = All IsShort ss
AreShortImmediates _ = Unit {0}

-- the stack and the scratch space after an instruction are within their bounds
abbrev pub Good : After → Type 0
Good after = IsWithinBounds after.machine.stack after.machine.scratch

bytes_short : (i : Immediates) → AreShortImmediates i → IsShort (bytes_of i)
bytes_short (is.Bytes s) h = h
bytes_short _ h = omega arith

-- ---- values

flag_short : (t : Bool) → IsShortValue (flag t)
flag_short true = tt
flag_short false = tt

number_short : (s : List ℕ) (t : Bool) → OkOf IsShortValue (if t then Ok (Uint (big_endian s)) else Err fault.BtoiLength)
number_short s true = tt
number_short s false = tt

range_short : (s : List ℕ) (from to : ℕ) → IsShort s → OkOf IsShortValue (range_of s from to)
range_short s from to h = by (nat_le from to && nat_le to (length s))
  where
    by : (t : Bool) → OkOf IsShortValue (if t then Ok (Bytes (slice_range s from to)) else Err fault.Range)
    by true = simp (length-take, length-drop) (omega (arith, h))
    by false = tt

with_bit_short : (v : Value) (k bit : ℕ) → IsShortValue v → IsShortValue (value_with_bit v k bit)
with_bit_short (Uint n) k bit h = tt
with_bit_short (Bytes s) k bit h = simp length-set h

any_number : (r : Result ℕ Fault) → OkOf (λ n. IsShortValue (Uint n)) r
any_number (Ok n) = tt
any_number (Err f) = tt

short_closed : IsClosed IsShortValue
short_closed = record {
  flag = flag_short;
  sum = λ a b h k. any_number (sum_of a b);
  difference = λ a b h k. any_number (difference_of a b);
  product = λ a b h k. any_number (product_of a b);
  quotient = λ a b h k. any_number (quotient_of a b);
  remainder = λ a b h k. any_number (remainder_of a b);
  or_bits = λ a b h k. any_number (bits_or a b);
  and_bits = λ a b h k. any_number (bits_and a b);
  xor_bits = λ a b h k. any_number (bits_xor a b);
  wide_product = λ a b h k. (tt, tt);
  wide_sum = λ a b h k. (tt, tt);
  inverted = λ a h. tt;
  bytes = λ a h. omega arith;
  number = λ s h. number_short s (nat_le (length s) 8);
  size = λ s h. tt;
  short_digest = λ s. omega (arith, length-sha256 s);
  long_digest = λ s. omega (arith, length-sha512_256 s);
  joined = λ s t few h k. omega (arith, length-append s t, leb-true (length s + length t) most_bytes few);
  range = λ s start end h. range_short s start end h;
  byte = λ s k h. tt;
  with_byte = λ s k b inside h. omega (arith, length-set s k b, h);
  bit = λ v k h. tt;
  with_bit = λ v k b inside h. with_bit_short v k b h;
}

-- ---- fields of the call and the block

field_short : (call : CallData) → IsShortCall call → (f : TxnField) → OkOf IsShortValue (txn_value call f)
field_short call h txn.Sender = h.sender
field_short call h txn.Note = h.note
field_short call h txn.Lease = h.lease
field_short call h txn.Receiver = omega arith
field_short call h txn.CloseRemainderTo = omega arith
field_short call h txn.Type = omega arith
field_short call h txn.ApprovalProgram = h.approval
field_short call h txn.ClearStateProgram = h.clear
field_short call h txn.RekeyTo = h.rekey_to
field_short call h _ = tt

scalar_short : (call : CallData) → IsShortCall call → (number : ℕ) → OkOf IsShortValue (scalar_field call number)
scalar_short call h number = by (txn_field_at number)
  where
    by : (o : Option TxnField) → OkOf IsShortValue (elim o as (λ _. Result Value Fault) [ Some f ↦ txn_value call f | None ↦ Err fault.BadField ])
    by None = tt
    by (Some f) = field_short call h f

argument_short : (o : Option (List ℕ)) → IfSome o IsShort → OkOf IsShortValue (there (option_map Bytes o) fault.NoArg)
argument_short None h = tt
argument_short (Some s) h = h

account_short : (o : Option Address) → IfSome o (λ who. IsShort who.0) → OkOf IsShortValue (there (option_map (λ (who : Address). Bytes who.0) o) fault.NoAccount)
account_short None h = tt
account_short (Some who) h = h

chosen_account : (call : CallData) → IsShortCall call → (i : ℕ) (t : Bool) → IfSome (if t then Some call.sender else slice_get call.accounts (i - 1)) (λ who. IsShort who.0)
chosen_account call h i true = h.sender
chosen_account call h i false = get_fits (λ who. IsShort who.0) call.accounts (i - 1) h.accounts

element_short : (call : CallData) → IsShortCall call → (i : ℕ) (f : TxnField) → OkOf IsShortValue (txn_array_value call f i)
element_short call h i txn.ApplicationArgs = argument_short (slice_get call.arguments i) (get_fits IsShort call.arguments i h.arguments)
element_short call h i txn.Accounts = account_short (account call i) (chosen_account call h i (i == 0))
element_short call h i _ = tt

array_short : (call : CallData) → IsShortCall call → (number i : ℕ) → OkOf IsShortValue (array_field call number i)
array_short call h number i = by (txn_field_at number)
  where
    by : (o : Option TxnField) → OkOf IsShortValue ((elim o as (λ _. ℕ → Result Value Fault) [ Some f ↦ λ j. txn_array_value call f j | None ↦ λ j. Err fault.BadField ]) i)
    by None = tt
    by (Some f) = element_short call h i f

global_short : (m : Ledger) (c : Context) → Bounds m c → (f : GlobalField) → OkOf IsShortValue (result_over (at m) (value_of_global_field c f))
global_short m c b global.CreatorAddress = creator_holds IsShortValue (omega arith) (at m (item.App c.current)) (b.items (item.App c.current))
global_short m c b global.ZeroAddress = omega arith
global_short m c b global.MinTxnFee = tt
global_short m c b global.MinBalance = tt
global_short m c b global.MaxTxnLife = tt
global_short m c b global.GroupSize = tt
global_short m c b global.LogicSigVersion = tt
global_short m c b global.Round = tt
global_short m c b global.LatestTimestamp = tt
global_short m c b global.CurrentApplicationId = tt

-- ---- the rows

leaves_bounded : (c : Context) → IsWithinBounds c.machine.stack c.machine.scratch → (r : Stepped) → OnOk (Leaves IsShortValue c) r → OnOk Good r
leaves_bounded c b (Ok after) h = record { height = h.height b.height; operands = h.stack; stored = h.scratch }
leaves_bounded c b (Err f) h = tt

-- an instruction that doesn't fault leaves the stack and the scratch space within their bounds
pub effect_bounded : (m : Ledger) (c : Context) → Bounds m c → (o : Opcode) (i : Immediates) → AreShortImmediates i → Row m Good (effect c o i)
effect_bounded m c b o i h =
    along-each (at m) (IsThere m) (OnOk (Leaves IsShortValue c)) (OnOk Good) (effect c o i) (leaves_bounded c b.here) (row_values IsShortValue m c o i (record {
      closed = short_closed;
      stack = b.here.operands;
      scratch = b.here.stored;
      uints = λ k d below. tt;
      strings = b.strings;
      uint = tt;
      bytes = bytes_short i h;
      scalar = scalar_short c.call b.call;
      element = array_short c.call b.call;
      global = global_short m c b;
      items = b.items;
      stands = b.stands;
    }))
