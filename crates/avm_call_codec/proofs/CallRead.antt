-- What the laws of a call's bytes say of a call that was read.
use Rattle.std.proofs.Common.{◌≡◌, ℕ, ◌+◌, ◌<◌, List, ◌++◌, length, get_or, drop, Result, Ok, Err, All, sym, subst, ap, ◌∙◌, length-append, arith}
use Rattle.std.specs.Prelude.{IfOk}
use Rattle.std.proofs.lemmas.List.{get_or-drop}
use Rattle.std.proofs.lemmas.List.Elements.{All-from_get_or}
use Rattle.teal_value.specs.Answer.{Gives}
use Rattle.teal_value.specs.declared.failure.Failure.{Failure}
use Rattle.avm_ledger.specs.Encodings.{string_bytes, schema_bytes}
use Rattle.avm_items.specs.declared.call_data.CallData.{CallData}
use Rattle.avm_call_codec.specs.declared.call_data_fault.CallDataFault.{CallDataFault}
use Rattle.avm_call_codec.specs.CallEncoding.{programs_bytes, call_bytes}
use Rattle.avm_call_codec.specs.CallReader.{call_front, call_at}
use Rattle.avm_call_codec.specs.CallRoundTrip.{HasFields}
use Rattle.avm_call_codec.proofs.CallBack.{call_back_alone}
use Rattle.avm_call_codec.proofs.CallEncoded.{front_encodes, call_encodes}

abbrev AreBytes : List ℕ → Type 0
AreBytes bytes = (i : ℕ) → get_or bytes i 0 < 256

all_below : (bytes : List ℕ) → AreBytes bytes → All (λ b. b < 256) bytes
all_below bytes below = All-from_get_or (λ b. b < 256) bytes 0 (λ i lt. below i)

-- a call that is read is encoded by those very bytes
pub encoding_of : {X : Type 0} (view : X → CallData) (bytes : List ℕ) (r : Result X (Failure CallDataFault)) → ((i : ℕ) → get_or bytes i 0 < 256) → Gives view r (call_at bytes) → IfOk r (λ call. call_bytes (view call) ≡ bytes)
encoding_of view bytes (Ok call) below e = (call_encodes bytes (view call) (all_below bytes below) e).0
encoding_of view bytes (Err d) below e = tt

-- bytes of a call with fields within their sizes are read as it, unless memory is refused
pub only_its_call : {X : Type 0} (view : X → CallData) (bytes : List ℕ) (r : Result X (Failure CallDataFault)) (call : CallData) → Gives view r (call_at bytes) → HasFields call → bytes ≡ call_bytes call → Gives view r (Ok call)
only_its_call view bytes r call given fields e = subst (λ m. Gives view r m) (ap call_at e ∙ call_back_alone call fields) given

-- ---- a call takes bytes

ends_in_some : (xs ys : List ℕ) → 0 < length ys → 0 < length (xs ++ ys)
ends_in_some xs ys some = omega (arith, length-append xs ys)

some_bytes : (call : CallData) → 0 < length (call_bytes call)
some_bytes call = ends_in_some _ (programs_bytes call)
    (ends_in_some (string_bytes call.approval ++ string_bytes call.clear ++ schema_bytes call.global_schema) (schema_bytes call.local_schema) (omega arith))

-- the bytes behind a call are fewer than those from where it begins
pub rest_shorter : (bytes : List ℕ) (place : ℕ) (here : List ℕ) (call : CallData) (rest : List ℕ) → ((i : ℕ) → get_or bytes i 0 < 256) → here ≡ drop place bytes → call_front here ≡ Ok (call, rest) → length rest < length here
rest_shorter bytes place here call rest below is e =
    let read : call_front (drop place bytes) ≡ Ok (call, rest) = ap call_front (sym is) ∙ e in
    let encoded : call_bytes call ++ rest ≡ drop place bytes = (front_encodes (drop place bytes) call rest (all_below (drop place bytes) (λ i. rw get_or-drop (below (place + i)))) read).0 in
    omega (arith, length-append (call_bytes call) rest, ap length encoded, ap length is, some_bytes call)
