-- A call is read from its bytes.
use Rattle.std.proofs.Common.{◌≡◌, ℕ, ◌+◌, ◌-◌, List, [], ◌∷◌, ◌++◌, length, drop, Ok, refl, sym, ap, ◌∙◌, append_assoc, length-append, arith}
use Rattle.std.specs.Int.{w64}
use Rattle.std.proofs.lemmas.List.{append-nil}
use Rattle.teal_value.specs.declared.address.Address.{Address}
use Rattle.avm_ledger.specs.Encodings.{u8_bytes, u64_bytes, string_bytes, counted_bytes, schema_bytes}
use Rattle.avm_ledger.specs.FieldReader.{number_at, string_at, address_at, alone}
use Rattle.avm_ledger.proofs.FieldsBack.{then, bytes_back, byte_back, u64_back, string_back, address_back, schema_back, counted_back}
use Rattle.avm_items.specs.declared.call_data.Completion.{Completion}
use Rattle.avm_items.specs.declared.call_data.Completion.TheVariants as completion
use Rattle.avm_items.specs.declared.call_data.CallData.{CallData}
use Rattle.avm_items.specs.CallFields.{completion_number}
use Rattle.avm_call_codec.specs.declared.call_data_fault.CallDataFault.TheVariants.{Truncated, Rest}
use Rattle.avm_call_codec.specs.CallEncoding.{address_bytes, terms_bytes, target_bytes, lists_bytes, programs_bytes, call_bytes}
use Rattle.avm_call_codec.specs.CallReader.{completion_at, terms_at, target_at, lists_at, programs_at, call_front, call_from, call_at}
use Rattle.avm_call_codec.specs.CallRoundTrip.{IsAddress, IsStringField, IsWord, HasFields}

completion_back : (done : Completion) (rest : List ℕ) → completion_at (u8_bytes (completion_number done) ++ rest) ≡ Ok (done, rest)
completion_back completion.NoOp rest = then _ _ _ _ (byte_back Truncated 0 rest (omega arith)) refl
completion_back completion.OptIn rest = then _ _ _ _ (byte_back Truncated 1 rest (omega arith)) refl
completion_back completion.CloseOut rest = then _ _ _ _ (byte_back Truncated 2 rest (omega arith)) refl
completion_back completion.ClearState rest = then _ _ _ _ (byte_back Truncated 3 rest (omega arith)) refl
completion_back completion.UpdateApplication rest = then _ _ _ _ (byte_back Truncated 4 rest (omega arith)) refl
completion_back completion.DeleteApplication rest = then _ _ _ _ (byte_back Truncated 5 rest (omega arith)) refl

one_string : (s rest : List ℕ) → IsStringField s → string_at Truncated (string_bytes s ++ rest) ≡ Ok (s, rest)
one_string s rest small = string_back Truncated s rest small

one_address : (who : Address) (rest : List ℕ) → IsAddress who → address_at Truncated (address_bytes who ++ rest) ≡ Ok (who, rest)
one_address who rest is = address_back Truncated who rest is

one_word : (n : ℕ) (rest : List ℕ) → IsWord n → number_at Truncated w64 (u64_bytes n ++ rest) ≡ Ok (n, rest)
one_word n rest small = u64_back Truncated n rest small

three : (a b c rest : List ℕ) → (a ++ b ++ c) ++ rest ≡ a ++ (b ++ (c ++ rest))
three a b c rest = simp append_assoc

four : (a b c d rest : List ℕ) → (a ++ b ++ c ++ d) ++ rest ≡ a ++ (b ++ (c ++ (d ++ rest)))
four a b c d rest = simp append_assoc

five : (a b c d e rest : List ℕ) → (a ++ b ++ c ++ d ++ e) ++ rest ≡ a ++ (b ++ (c ++ (d ++ (e ++ rest))))
five a b c d e rest = simp append_assoc

-- ---- group by group

terms_back : (c : CallData) (rest : List ℕ) → HasFields c
    → terms_at (terms_bytes c ++ rest) ≡ Ok (record { sender = c.sender; fee = c.fee; first_valid = c.first_valid; last_valid = c.last_valid; note = c.note }, rest)
terms_back c rest has =
    let note = string_bytes c.note ++ rest in
    let last = u64_bytes c.last_valid ++ note in
    let first = u64_bytes c.first_valid ++ last in
    let fee = u64_bytes c.fee ++ first in
    ap terms_at (five c.sender.0 (u64_bytes c.fee) (u64_bytes c.first_valid) (u64_bytes c.last_valid) (string_bytes c.note) rest)
    ∙ then _ _ _ _ (address_back Truncated c.sender fee has.sender)
    (then _ _ _ _ (u64_back Truncated c.fee first has.fee)
    (then _ _ _ _ (u64_back Truncated c.first_valid last has.first_valid)
    (then _ _ _ _ (u64_back Truncated c.last_valid note has.last_valid)
    (then _ _ _ _ (string_back Truncated c.note rest has.note) refl))))

target_back : (c : CallData) (rest : List ℕ) → HasFields c
    → target_at (target_bytes c ++ rest) ≡ Ok (record { lease = c.lease; rekey_to = c.rekey_to; application = c.application; completion = c.completion }, rest)
target_back c rest has =
    let done = u8_bytes (completion_number c.completion) ++ rest in
    let application = u64_bytes c.application ++ done in
    let rekey_to = c.rekey_to.0 ++ application in
    ap target_at (four c.lease c.rekey_to.0 (u64_bytes c.application) (u8_bytes (completion_number c.completion)) rest)
    ∙ then _ _ _ _ (bytes_back Truncated 32 c.lease rekey_to has.lease)
    (then _ _ _ _ (address_back Truncated c.rekey_to application has.rekey_to)
    (then _ _ _ _ (u64_back Truncated c.application done has.application)
    (then _ _ _ _ (completion_back c.completion rest) refl)))

lists_back : (c : CallData) (rest : List ℕ) → HasFields c
    → lists_at (lists_bytes c ++ rest) ≡ Ok (record { arguments = c.arguments; accounts = c.accounts; foreign_applications = c.foreign_applications }, rest)
lists_back c rest has =
    let foreign = counted_bytes u8_bytes u64_bytes c.foreign_applications ++ rest in
    let accounts = counted_bytes u8_bytes address_bytes c.accounts ++ foreign in
    ap lists_at (three (counted_bytes u8_bytes string_bytes c.arguments) (counted_bytes u8_bytes address_bytes c.accounts) (counted_bytes u8_bytes u64_bytes c.foreign_applications) rest)
    ∙ then _ _ _ _ (counted_back Truncated (string_at Truncated) string_bytes IsStringField one_string c.arguments accounts has.arguments has.argument_count)
    (then _ _ _ _ (counted_back Truncated (address_at Truncated) address_bytes IsAddress one_address c.accounts foreign has.accounts has.account_count)
    (then _ _ _ _ (counted_back Truncated (number_at Truncated w64) u64_bytes IsWord one_word c.foreign_applications rest has.foreign_applications has.foreign_count) refl))

programs_back : (c : CallData) (rest : List ℕ) → HasFields c
    → programs_at (programs_bytes c ++ rest) ≡ Ok (record { approval = c.approval; clear = c.clear; global_schema = c.global_schema; local_schema = c.local_schema }, rest)
programs_back c rest has =
    let local = schema_bytes c.local_schema ++ rest in
    let global = schema_bytes c.global_schema ++ local in
    let clear = string_bytes c.clear ++ global in
    ap programs_at (four (string_bytes c.approval) (string_bytes c.clear) (schema_bytes c.global_schema) (schema_bytes c.local_schema) rest)
    ∙ then _ _ _ _ (string_back Truncated c.approval clear has.approval)
    (then _ _ _ _ (string_back Truncated c.clear global has.clear)
    (then _ _ _ _ (schema_back Truncated c.global_schema local has.global_uints has.global_strings)
    (then _ _ _ _ (schema_back Truncated c.local_schema rest has.local_uints has.local_strings) refl)))

-- ---- the call

-- a call with fields within their sizes is read from its bytes, whatever stands behind them
pub call_back : (c : CallData) (rest : List ℕ) → HasFields c → call_front (call_bytes c ++ rest) ≡ Ok (c, rest)
call_back c rest has =
    let programs = programs_bytes c ++ rest in
    let lists = lists_bytes c ++ programs in
    let target = target_bytes c ++ lists in
    ap call_front (four (terms_bytes c) (target_bytes c) (lists_bytes c) (programs_bytes c) rest)
    ∙ then _ _ _ _ (terms_back c target has) (then _ _ _ _ (target_back c lists has) (then _ _ _ _ (lists_back c programs has) (then _ _ _ _ (programs_back c rest has) refl)))

-- a call with fields within their sizes is what its bytes are read as
pub call_back_alone : (c : CallData) → HasFields c → call_at (call_bytes c) ≡ Ok c
call_back_alone c has =
    ap call_at (sym (append-nil (call_bytes c))) ∙ then (call_front (call_bytes c ++ [])) (c, []) (alone Rest) (Ok c) (call_back c [] has) refl

behind : (before rest : List ℕ) → drop (length before) (before ++ rest) ≡ rest
behind [] rest = refl
behind (x ∷ before) rest = behind before rest

-- such a call is read at its place in longer bytes, and the next place is where its bytes end
pub call_back_from : (before : List ℕ) (c : CallData) (rest : List ℕ) → HasFields c → call_from (before ++ (call_bytes c ++ rest)) (length before) ≡ Ok (c, length before + length (call_bytes c))
call_back_from before c rest has =
    let front : call_front (drop (length before) (before ++ (call_bytes c ++ rest))) ≡ Ok (c, rest) = ap call_front (behind before (call_bytes c ++ rest)) ∙ call_back c rest has in
    let next : length (before ++ (call_bytes c ++ rest)) - length rest ≡ length before + length (call_bytes c) = omega (arith, length-append before (call_bytes c ++ rest), length-append (call_bytes c) rest) in
    then _ _ _ _ front (ap (λ n. Ok (c, n)) next)

-- no bytes begin with the encodings of two different calls with fields within their sizes
pub none_begins : (c d : CallData) (x y : List ℕ) → HasFields c → HasFields d → call_bytes c ++ x ≡ call_bytes d ++ y → (c ≡ d) × (x ≡ y)
none_begins c d x y has has' e =
    let same = sym (call_back c x has) ∙ ap call_front e ∙ call_back d y has' in
    let pair : ◌≡◌ {A = CallData × List ℕ} (c, x) (d, y) = cc in
    (ap (λ p. p.0) pair, ap (λ p. p.1) pair)
