use Rattle.std.proofs.Common.{◌≡◌, ◌∙◌, inl, inr, ℕ, List, Some, None, Ok, Err, refl, sym, ap, subst}
use Rattle.std.specs.Result.{result_ok}
use Rattle.base64.specs.Engines.{standard, standard_no_pad}
use Rattle.base64.specs.GeneralPurpose.{decode_of, encode_of, IsDecodeFailure, IsBytes, IsConsistent}
use Rattle.base64.specs.declared.engine.general_purpose.GeneralPurpose.{GeneralPurpose}
use Rattle.base64.specs.declared.decode.DecodeError.{DecodeError}
use Rattle.base64.proofs.EngineFacts.{decode_of-encode_of}
use Rattle.teal_value.specs.Choice.{or_else}
use Rattle.teal_text.specs.Literals.{IsBase64, base64_bytes}
use Rattle.teal_text.proofs.literal.base64_bytes.Goals as goal

padded : (text bytes : List ℕ) → decode_of standard text ≡ Ok bytes → Some bytes ≡ base64_bytes text
unfolding base64_bytes
padded text bytes e = ap (λ r. or_else (result_ok r) (result_ok (decode_of standard_no_pad text))) (sym e)

not_encoded : (e : GeneralPurpose) (text bytes : List ℕ) (d : DecodeError) → IsConsistent e → decode_of e text ≡ Err d → IsBytes bytes → text ≡ encode_of e bytes → ⊥
not_encoded e text bytes d consistent failed fits is =
    let back = decode_of-encode_of e bytes consistent fits in
    let same = ap (decode_of e) is in
    cc

module _ (text : List ℕ) (d : DecodeError) (failed : decode_of standard text ≡ Err d) where
  unpadded : (bytes : List ℕ) → decode_of standard_no_pad text ≡ Ok bytes → Some bytes ≡ base64_bytes text
  unfolding base64_bytes
  unpadded bytes e = ap result_ok (sym e) ∙ ap (λ r. or_else (result_ok r) (result_ok (decode_of standard_no_pad text))) (sym failed)

  neither : (f : DecodeError) → decode_of standard_no_pad text ≡ Err f → None ≡ base64_bytes text
  unfolding base64_bytes
  neither f e = ap result_ok (sym e) ∙ ap (λ r. or_else (result_ok r) (result_ok (decode_of standard_no_pad text))) (sym failed)

  no_bytes : (f : DecodeError) → decode_of standard_no_pad text ≡ Err f → (bytes : List ℕ) → IsBytes bytes → IsBase64 text bytes → ⊥
  no_bytes f e bytes fits (inl is) = not_encoded standard text bytes d refl failed fits is
  no_bytes f e bytes fits (inr is) = not_encoded standard_no_pad text bytes f refl e fits is

pub returns-in-Ok-clause-value : goal.returns-in-Ok-clause-value
returns-in-Ok-clause-value c = padded c.args.text.now c.in-Ok.bytes.items c.in-Ok.ensures.ok

pub returns-in-Ok-clause-found : goal.returns-in-Ok-clause-found
returns-in-Ok-clause-found c = inl (c.in-Ok.ensures.exact (refl, refl))

pub returns-in-Ok-decode-clause-value : goal.returns-in-Ok-decode-clause-value
returns-in-Ok-decode-clause-value c = unpadded c.args.text.now c.in-Err-DecodeError.field-0-0 (subst (IsDecodeFailure standard c.args.text.now) c.in-Err-DecodeError.field-0-is c.in-Err-DecodeError.ensures.err) c.in-Ok-decode.bytes.items c.in-Ok-decode.ensures.ok

pub returns-in-Ok-decode-clause-found : goal.returns-in-Ok-decode-clause-found
returns-in-Ok-decode-clause-found c = inr (c.in-Ok-decode.ensures.exact (refl, refl))

pub returns-in-Err-DecodeError-decode-clause-value : goal.returns-in-Err-DecodeError-decode-clause-value
returns-in-Err-DecodeError-decode-clause-value c =
    neither c.args.text.now c.in-Err-DecodeError.field-0-0 (subst (IsDecodeFailure standard c.args.text.now) c.in-Err-DecodeError.field-0-is c.in-Err-DecodeError.ensures.err)
    c.in-Err-DecodeError-decode.field-0-0 (subst (IsDecodeFailure standard_no_pad c.args.text.now) c.in-Err-DecodeError-decode.field-0-is c.in-Err-DecodeError-decode.ensures.err)

pub returns-in-Err-DecodeError-decode-clause-none : goal.returns-in-Err-DecodeError-decode-clause-none
returns-in-Err-DecodeError-decode-clause-none c =
    no_bytes c.args.text.now c.in-Err-DecodeError.field-0-0 (subst (IsDecodeFailure standard c.args.text.now) c.in-Err-DecodeError.field-0-is c.in-Err-DecodeError.ensures.err)
    c.in-Err-DecodeError-decode.field-0-0 (subst (IsDecodeFailure standard_no_pad c.args.text.now) c.in-Err-DecodeError-decode.field-0-is c.in-Err-DecodeError-decode.ensures.err)
