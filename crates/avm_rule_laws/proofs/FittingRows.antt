-- That every row leaves values that a machine may have.
use Rattle.std.proofs.Common.{◌≡◌, ℕ, ◌+◌, ◌-◌, ◌*◌, ◌^◌, ◌<◌, Bool, true, false, nat_lt, if◌then◌else◌, List, [], ◌∷◌, length, Option, None, Some, Result, Ok, Err, refl, subst, arith}
use Rattle.std.specs.Prelude.{◌==◌, All, IfSome, is_none, slice_get}
use Rattle.std.specs.Option.{option_map}
use Rattle.std.proofs.lemmas.Bool.{ltb-true, and_parts}
use Rattle.std.proofs.lemmas.List.Elements.{All-nil, All-cons}
use Rattle.std.proofs.lemmas.Map.Entries.{All-lookup}
use Rattle.std.specs.Ordering.{nat_cmp}
use Rattle.std.specs.BTreeMap.{is_at}
use Rattle.teal_value.specs.declared.address.Address.{Address}
use Rattle.teal_value.specs.declared.value.Value.{Value}
use Rattle.teal_value.specs.declared.value.Value.TheVariants.{Bytes}
use Rattle.teal_value.specs.declared.fault.Fault.{Fault}
use Rattle.teal_value.specs.declared.fault.Fault.TheVariants as fault
use Rattle.teal_table.specs.declared.opcode.Opcode.{Opcode}
use Rattle.teal_table.specs.declared.txn_fields.TxnField.{TxnField}
use Rattle.teal_table.specs.declared.txn_fields.TxnField.TheVariants as txn
use Rattle.teal_table.specs.declared.global_fields.GlobalField.{GlobalField}
use Rattle.teal_table.specs.declared.global_fields.GlobalField.TheVariants as global
use Rattle.teal_table.specs.Fields.{txn_field_at}
use Rattle.teal_code.specs.declared.instr.Immediates.{Immediates}
use Rattle.teal_code.specs.declared.instr.Immediates.TheVariants as is
use Rattle.avm_ledger.specs.declared.application.StoredApplication.{StoredApplication}
use Rattle.avm_ledger.specs.declared.header.Profile.{Profile}
use Rattle.avm_ledger.specs.declared.header.Profile.TheVariants as profile
use Rattle.avm_states.specs.Entries.{Entries, byte_cmp, value_of_key}
use Rattle.avm_ledger.specs.Ledgers.{Ledger, account_cmp, application_at, local_state_at}
use Rattle.avm_items.specs.declared.call_data.Completion.{Completion}
use Rattle.avm_items.specs.declared.call_data.Completion.TheVariants as completion
use Rattle.avm_items.specs.declared.call_data.CallData.{CallData}
use Rattle.avm_items.specs.declared.item.Item.{Item}
use Rattle.avm_items.specs.declared.item.Item.TheVariants as item
use Rattle.avm_items.specs.CallFields.{account, completion_number}
use Rattle.avm_items.specs.Items.{local_state_in, key_value}
use Rattle.avm_items.specs.LedgerItems.{at, row_value, entry_value, counts_value, local_value}
use Rattle.avm_ops.specs.Frame.{Context, After, Stepped, there}
use Rattle.avm_ops.specs.Immediates.{uint_of, bytes_of}
use Rattle.avm_ops.specs.ByteStrings.{bit_count}
use Rattle.avm_ops.specs.Fields.{txn_value, txn_array_value, scalar_field, array_field, profile_version, value_of_global_field}
use Rattle.avm_ops.specs.Effect.{effect}
use Rattle.avm_rule_laws.specs.Rules.{AreBytes, IsMachineValue, AreMachineValues, IsRowOfBytes, IsCallOfBytes, HasWords, IsSound}
use Rattle.avm_ops.proofs.RowFacts.{OnOk}
use Rattle.avm_ops.proofs.OperandValues.{OkOf, get_fits}
use Rattle.avm_rule_laws.proofs.MachineValues.{IsWord, zeros_fit, flag_fits}
use Rattle.avm_rule_laws.proofs.Digests.{sha256_fits, sha512_256_fits}
use Rattle.avm_ledger.proofs.KeptOrder.{application_rules}
use Rattle.avm_items.specs.Asks.{result_over}
use Rattle.avm_rule_laws.proofs.MachineValues as values
use Rattle.avm_ops.proofs.Questions.{along-each}
use Rattle.avm_ops.proofs.WrittenItems.{Row, IsThere}
use Rattle.avm_ops.proofs.RowValues.{IsClosed, Holds, Leaves, creator_holds, row_values}

-- ---- what a row is given, and what it leaves

-- an instruction is given values of their types, and a sound ledger in which its application stands
pub record Fits (m : Ledger) (c : Context) : Type 0 where
  pub stack : All IsMachineValue c.machine.stack
  pub scratch : All IsMachineValue c.machine.scratch
  pub uints : All IsWord c.machine.uint_constants
  pub strings : All (λ s. IsMachineValue (Bytes s)) c.machine.byte_constants
  pub call : IsCallOfBytes c.call
  pub words : HasWords c.header
  pub current : IsWord c.current
  pub ledger : IsSound m
  pub stands : is_none (application_at m c.current) ≡ false

-- the numbers and byte strings in an instruction are values that a machine may have
abbrev pub FitsImmediates : Immediates → Type 0
FitsImmediates (is.Uint n) = IsWord n
FitsImmediates (is.UintBlock ns) = All IsWord ns
FitsImmediates (is.Bytes s) = IsMachineValue (Bytes s)
FitsImmediates (is.ByteBlock ss) = All (λ s. IsMachineValue (Bytes s)) ss
FitsImmediates _ = Unit {0}

-- every value on the stack and in the scratch space is one that a machine may have
abbrev pub Fit : After → Type 0
Fit after = All IsMachineValue after.machine.stack × All IsMachineValue after.machine.scratch

uint_fits : (i : Immediates) → FitsImmediates i → IsWord (uint_of i)
uint_fits (is.Uint n) h = h
uint_fits _ h = omega arith

bytes_fit : (i : Immediates) → FitsImmediates i → IsMachineValue (Bytes (bytes_of i))
bytes_fit (is.Bytes s) h = h
bytes_fit _ h = (omega arith, All-nil (λ b. b < 256))

-- ---- fields of the call and the block

address_fits : (who : Address) → length who.0 ≡ 32 → AreBytes who.0 → IsMachineValue (Bytes who.0)
address_fits who long all = (omega (arith, long), all)

string_fits : (s : List ℕ) → length s < 2 ^ 16 → AreBytes s → IsMachineValue (Bytes s)
string_fits s short all = (omega (arith, short), all)

completion_fits : (c : Completion) → IsWord (completion_number c)
completion_fits completion.NoOp = omega arith
completion_fits completion.OptIn = omega arith
completion_fits completion.CloseOut = omega arith
completion_fits completion.ClearState = omega arith
completion_fits completion.UpdateApplication = omega arith
completion_fits completion.DeleteApplication = omega arith

field_fits : (call : CallData) → IsCallOfBytes call → (f : TxnField) → OkOf IsMachineValue (txn_value call f)
field_fits call h txn.Sender = address_fits call.sender h.fields.sender h.sender
field_fits call h txn.Fee = h.fields.fee
field_fits call h txn.FirstValid = h.fields.first_valid
field_fits call h txn.FirstValidTime = tt
field_fits call h txn.LastValid = h.fields.last_valid
field_fits call h txn.Note = string_fits call.note h.fields.note h.note
field_fits call h txn.Lease = (omega (arith, h.fields.lease), h.lease)
field_fits call h txn.Receiver = zeros_fit 32 (omega arith)
field_fits call h txn.Amount = omega arith
field_fits call h txn.CloseRemainderTo = zeros_fit 32 (omega arith)
field_fits call h txn.Type = (omega arith, All-cons (λ b. b < 256) 97 (112 ∷ 112 ∷ 108 ∷ []) (omega arith) (All-cons (λ b. b < 256) 112 (112 ∷ 108 ∷ []) (omega arith) (All-cons (λ b. b < 256) 112 (108 ∷ []) (omega arith) (All-cons (λ b. b < 256) 108 [] (omega arith) (All-nil (λ b. b < 256))))))
field_fits call h txn.TypeEnum = omega arith
field_fits call h txn.GroupIndex = omega arith
field_fits call h txn.ApplicationId = h.fields.application
field_fits call h txn.OnCompletion = completion_fits call.completion
field_fits call h txn.ApplicationArgs = tt
field_fits call h txn.NumAppArgs = omega (arith, h.fields.argument_count)
field_fits call h txn.Accounts = tt
field_fits call h txn.NumAccounts = omega (arith, h.fields.account_count)
field_fits call h txn.ApprovalProgram = string_fits call.approval h.fields.approval h.approval
field_fits call h txn.ClearStateProgram = string_fits call.clear h.fields.clear h.clear
field_fits call h txn.RekeyTo = address_fits call.rekey_to h.fields.rekey_to h.rekey_to

scalar_fits : (call : CallData) → IsCallOfBytes call → (number : ℕ) → OkOf IsMachineValue (scalar_field call number)
scalar_fits call h number = by (txn_field_at number)
  where
    by : (o : Option TxnField) → OkOf IsMachineValue (elim o as (λ _. Result Value Fault) [ Some f ↦ txn_value call f | None ↦ Err fault.BadField ])
    by None = tt
    by (Some f) = field_fits call h f

argument_fits : (o : Option (List ℕ)) → IfSome o (λ s. IsMachineValue (Bytes s)) → OkOf IsMachineValue (there (option_map Bytes o) fault.NoArg)
argument_fits None h = tt
argument_fits (Some s) h = h

account_fits : (o : Option Address) → IfSome o (λ who. IsMachineValue (Bytes who.0)) → OkOf IsMachineValue (there (option_map (λ (who : Address). Bytes who.0) o) fault.NoAccount)
account_fits None h = tt
account_fits (Some who) h = h

paired : {A : Type 0} (P Q R : A → Type 0) (o : Option A) → ((a : A) → P a → Q a → R a) → IfSome o P → IfSome o Q → IfSome o R
paired P Q R None f h g = tt
paired P Q R (Some a) f h g = f a h g

chosen_account : (call : CallData) → IsCallOfBytes call → (i : ℕ) (b : Bool) → IfSome (if b then Some call.sender else slice_get call.accounts (i - 1)) (λ who. IsMachineValue (Bytes who.0))
chosen_account call h i true = address_fits call.sender h.fields.sender h.sender
chosen_account call h i false =
    paired _ _ (λ who. IsMachineValue (Bytes who.0)) (slice_get call.accounts (i - 1)) address_fits (get_fits (λ who. length who.0 ≡ 32) call.accounts (i - 1) h.fields.accounts) (get_fits (λ who. AreBytes who.0) call.accounts (i - 1) h.accounts)

element_fits : (call : CallData) → IsCallOfBytes call → (i : ℕ) (f : TxnField) → OkOf IsMachineValue (txn_array_value call f i)
element_fits call h i txn.ApplicationArgs =
    argument_fits (slice_get call.arguments i)
    (paired _ _ (λ s. IsMachineValue (Bytes s)) (slice_get call.arguments i) string_fits (get_fits (λ s. length s < 2 ^ 16) call.arguments i h.fields.arguments) (get_fits AreBytes call.arguments i h.arguments))
element_fits call h i txn.Accounts = account_fits (account call i) (chosen_account call h i (i == 0))
element_fits call h i _ = tt

array_fits : (call : CallData) → IsCallOfBytes call → (number i : ℕ) → OkOf IsMachineValue (array_field call number i)
array_fits call h number i = by (txn_field_at number)
  where
    by : (o : Option TxnField) → OkOf IsMachineValue ((elim o as (λ _. ℕ → Result Value Fault) [ Some f ↦ λ j. txn_array_value call f j | None ↦ λ j. Err fault.BadField ]) i)
    by None = tt
    by (Some f) = element_fits call h i f

profile_fits : (p : Profile) → IsWord (profile_version p)
profile_fits profile.Two = omega arith
profile_fits profile.Three = omega arith

-- the row and the state of an application in a sound ledger hold bytes and machine values
pub stored_fits : (m : Ledger) → IsSound m → (id : ℕ) → IfSome (application_at m id) (λ app. IsRowOfBytes app.row × AreMachineValues app.state)
stored_fits m s id = All-lookup (λ app. IsRowOfBytes app.row × AreMachineValues app.state) (is_at (nat_cmp id)) m.applications s.of_bytes.applications

machine_closed : IsClosed IsMachineValue
machine_closed = record {
  flag = flag_fits;
  sum = values.sum_fits;
  difference = values.difference_fits;
  product = values.product_fits;
  quotient = values.quotient_fits;
  remainder = values.remainder_fits;
  or_bits = values.or_fits;
  and_bits = values.and_fits;
  xor_bits = values.xor_fits;
  wide_product = λ a b h k. (values.high_fits (a * b) (values.wide_product_fits a b h k), values.low_fits (a * b));
  wide_sum = λ a b h k. (values.high_fits (a + b) (values.wide_sum_fits a b h k), values.low_fits (a + b));
  inverted = values.inverted_fits;
  bytes = values.number_bytes_fit;
  number = values.number_fits;
  size = λ s h. h.0;
  short_digest = sha256_fits;
  long_digest = sha512_256_fits;
  joined = values.joined_fits;
  range = values.range_fits;
  byte = λ s k h. let small = values.byte_at_fits s k h.1 in omega (arith, small);
  with_byte = λ s k b inside h. values.with_byte_fits s k b (ltb-true b 256 (and_parts (nat_lt k (length s)) (nat_lt b 256) inside).1) h;
  bit = λ v k h. values.bit_value_fits v k;
  with_bit = λ v k b inside h.
      let parts = and_parts (nat_lt k (bit_count v)) (nat_lt b 2) inside in
      values.with_bit_value_fits v k b (ltb-true k (bit_count v) parts.0) (ltb-true b 2 parts.1) h;
}

-- ---- what a ledger holds

key_fits : (o : Option Value) → IfSome o IsMachineValue → Holds IsMachineValue (key_value o)
key_fits None h = tt
key_fits (Some v) h = h

-- a local state in a sound ledger holds machine values alone
pub local_fits : (m : Ledger) → IsSound m → (who : Address) (id : ℕ) (state : Entries) → local_state_in (at m (item.Local who id)) ≡ Some state → AreMachineValues state
local_fits m s who id state is = by (local_state_at m who id) (All-lookup AreMachineValues (is_at (account_cmp (who, id))) m.local_states s.of_bytes.local_states) is
  where
    by : (a : Option Entries) → IfSome a AreMachineValues → local_state_in (local_value a) ≡ Some state → AreMachineValues state
    by None h e = absurd cc
    by (Some t) h e = let same : t ≡ state = cc in subst AreMachineValues same h

items_fit : (m : Ledger) → IsSound m → (x : Item) → Holds IsMachineValue (at m x)
items_fit m s item.NextApp = tt
items_fit m s (item.App id) = by (application_at m id) refl (stored_fits m s id)
  where
    by : (a : Option StoredApplication) → application_at m id ≡ a → IfSome a (λ app. IsRowOfBytes app.row × AreMachineValues app.state) → Holds IsMachineValue (row_value a)
    by None is h = tt
    by (Some app) is h = address_fits app.row.creator (application_rules m id app s.rules is).row.creator h.0.creator
items_fit m s (item.Counts id) = by (application_at m id)
  where
    by : (a : Option StoredApplication) → Holds IsMachineValue (counts_value a)
    by None = tt
    by (Some app) = tt
items_fit m s (item.Key id key) = by (application_at m id) (stored_fits m s id)
  where
    by : (a : Option StoredApplication) → IfSome a (λ app. IsRowOfBytes app.row × AreMachineValues app.state) → Holds IsMachineValue (entry_value a key)
    by None h = tt
    by (Some app) h = key_fits (value_of_key app.state key) (All-lookup IsMachineValue (is_at (byte_cmp key)) app.state h.1)
items_fit m s (item.Local who id) = by (local_state_at m who id) (All-lookup AreMachineValues (is_at (account_cmp (who, id))) m.local_states s.of_bytes.local_states)
  where
    by : (a : Option Entries) → IfSome a AreMachineValues → Holds IsMachineValue (local_value a)
    by None h = tt
    by (Some state) h = h

global_fits : (m : Ledger) (c : Context) → Fits m c → (f : GlobalField) → OkOf IsMachineValue (result_over (at m) (value_of_global_field c f))
global_fits m c f global.CreatorAddress = creator_holds IsMachineValue (zeros_fit 32 (omega arith)) (at m (item.App c.current)) (items_fit m f.ledger (item.App c.current))
global_fits m c f global.MinTxnFee = f.words.min_fee
global_fits m c f global.MinBalance = f.words.min_balance
global_fits m c f global.MaxTxnLife = f.words.max_life
global_fits m c f global.ZeroAddress = zeros_fit 32 (omega arith)
global_fits m c f global.GroupSize = omega arith
global_fits m c f global.LogicSigVersion = profile_fits c.header.profile
global_fits m c f global.Round = f.words.round
global_fits m c f global.LatestTimestamp = f.words.latest_timestamp
global_fits m c f global.CurrentApplicationId = f.current

-- ---- the rows

leaves_fit : (c : Context) (r : Stepped) → OnOk (Leaves IsMachineValue c) r → OnOk Fit r
leaves_fit c (Ok after) h = (h.stack, h.scratch)
leaves_fit c (Err f) h = tt

-- after an instruction that doesn't fault, stack and scratch space hold machine values alone
pub effect_fits : (m : Ledger) (c : Context) → Fits m c → (o : Opcode) (i : Immediates) → FitsImmediates i → Row m Fit (effect c o i)
effect_fits m c f o i h =
    along-each (at m) (IsThere m) (OnOk (Leaves IsMachineValue c)) (OnOk Fit) (effect c o i) (leaves_fit c) (row_values IsMachineValue m c o i (record {
      closed = machine_closed;
      stack = f.stack;
      scratch = f.scratch;
      uints = f.uints;
      strings = f.strings;
      uint = uint_fits i h;
      bytes = bytes_fit i h;
      scalar = scalar_fits c.call f.call;
      element = array_fits c.call f.call;
      global = global_fits m c f;
      items = items_fit m f.ledger;
      stands = f.stands;
    }))
