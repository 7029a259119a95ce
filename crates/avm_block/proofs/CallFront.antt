-- The call that bytes begin with.
use Rattle.std.proofs.Common.{◌≡◌, ℕ, ◌<◌, Bool, true, false, cond, List, ◌++◌, length, length-append, get_or, drop, Result, Ok, Err, sym, ap, ◌∙◌, arith}
use Rattle.std.proofs.lemmas.List.{append-nil, nil_from_length}
use Rattle.std.proofs.lemmas.List.Elements.{All-from_get_or}
use Rattle.teal_value.specs.declared.failure.Failure.{Failure}
use Rattle.teal_value.specs.declared.failure.Failure.TheVariants as failure
use Rattle.teal_value.specs.Answer.{Fails}
use Rattle.avm_ledger.specs.FieldReader.{bytes_at}
use Rattle.avm_ledger.proofs.FieldsBack.{then}
use Rattle.avm_ledger.proofs.FieldsEncoded.{same_value, bytes_encoded}
use Rattle.avm_items.specs.declared.call_data.CallData.{CallData}
use Rattle.avm_call_codec.specs.CallReader.{call_front, call_from}
use Rattle.avm_call_codec.proofs.CallBack.{call_back}
use Rattle.avm_call_codec.proofs.CallEncoded.{place_encodes}
use Rattle.avm_block.specs.declared.block_fault.BlockFault.{BlockFault}
use Rattle.avm_block.specs.declared.block_fault.BlockFault.TheVariants.{Field}
use Rattle.avm_block.specs.BlockReader.{in_block, call_in}

-- a call that is read at place 0 is read from the front, and leaves the bytes behind its end
pub front_at_start : (bytes rest : List ℕ) (call : CallData) (end : ℕ) → ((i : ℕ) → get_or bytes i 0 < 256) → call_from bytes 0 ≡ Ok (call, end) → rest ≡ drop end bytes → in_block (call_front bytes) ≡ Ok (call, rest)
front_at_start bytes rest call end below e behind =
    let read = place_encodes bytes 0 call end (All-from_get_or (λ b. b < 256) bytes 0 (λ i lt. below i)) e in
    ap (λ s. in_block (call_front s)) (sym read.0) ∙ ap in_block (call_back call (drop end bytes) read.1) ∙ ap (λ s. Ok (call, s)) (sym behind)

-- as many bytes as there are
pub all_of_them : (truncated : BlockFault) (n : ℕ) (bytes xs rest : List ℕ) → bytes_at truncated n bytes ≡ Ok (xs, rest) → n ≡ length bytes → xs ≡ bytes
all_of_them truncated n bytes xs rest e is =
    let parts = bytes_encoded truncated n bytes (xs, rest) e in
    let none : length rest ≡ 0 = omega (arith, ap length parts.0, length-append xs rest, parts.1) in
    sym (parts.0 ∙ ap (λ r. xs ++ r) (nil_from_length rest none) ∙ append-nil xs)

allowed_too : (b : Bool) (call d : CallData) (rest : List ℕ) → ◌≡◌ {A = Result CallData BlockFault} (cond b (Ok call) (Err Field)) (Ok d) → ◌≡◌ {A = Result (CallData × List ℕ) BlockFault} (cond b (Ok (call, rest)) (Err Field)) (Ok (d, rest))
allowed_too true call d rest e = let same : call ≡ d = same_value _ _ e in ap (λ x. Ok (x, rest)) same
allowed_too false call d rest e = absurd cc

-- a call that is read and accepted is the call of the entry
pub call_is_in : (accepted : CallData → Bool) (fields bytes : List ℕ) (call d : CallData) (rest : List ℕ) → bytes ≡ fields → in_block (call_front bytes) ≡ Ok (call, rest) → cond (accepted call) (Ok call) (Err Field) ≡ Ok d
    → call_in accepted fields ≡ Ok (d, rest)
call_is_in accepted fields bytes call d rest same e allowed =
    ap (call_in accepted) (sym same) ∙ then (in_block (call_front bytes)) (call, rest) _ _ e (allowed_too (accepted call) call d rest allowed)

refused_too : (b : Bool) (call : CallData) (rest : List ℕ) (d : BlockFault) → ◌≡◌ {A = Result CallData BlockFault} (cond b (Ok call) (Err Field)) (Err d) → ◌≡◌ {A = Result (CallData × List ℕ) BlockFault} (cond b (Ok (call, rest)) (Err Field)) (Err d)
refused_too true call rest d e = absurd cc
refused_too false call rest d e = let same : Field ≡ d = cc in ap (λ x. Err x) same

-- where the test of a call that is read fails, the entry's call fails for the same reason
pub call_is_refused : (accepted : CallData → Bool) (fields bytes : List ℕ) (call : CallData) (rest : List ℕ) (d : Failure BlockFault) → bytes ≡ fields → in_block (call_front bytes) ≡ Ok (call, rest)
    → Fails {A = CallData} d (cond (accepted call) (Ok call) (Err Field)) → Fails d (call_in accepted fields)
call_is_refused accepted fields bytes call rest failure.Memory same e refused = tt
call_is_refused accepted fields bytes call rest (failure.Fault d) same e refused =
    ap (call_in accepted) (sym same) ∙ then (in_block (call_front bytes)) (call, rest) _ _ e (refused_too (accepted call) call rest d refused)
