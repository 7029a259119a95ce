use Rattle.std.proofs.Common.{◌≡◌, ◌%◌, ◌∙◌, ℕ, List, [], ◌∷◌, ◌++◌, sym, ap, arith}
use Rattle.std.proofs.lemmas.List.{append-nil}
use Rattle.avm_ledger.specs.Encodings.{u64_bytes}
use Rattle.teal_code.proofs.Appended.{at_first}
use Rattle.avm_items.specs.declared.call_data.CallData.{CallData}
use Rattle.avm_call_codec.proofs.writing.push_target.Goals as goal

-- the three in front of the last byte
three : (call : CallData) (a b c d : List ℕ) → b ≡ a ++ call.lease → c ≡ b ++ call.rekey_to.0 → d ≡ c ++ u64_bytes call.application → d ≡ a ++ (call.lease ++ call.rekey_to.0 ++ u64_bytes call.application)
three call a b c d p q r = r ∙ at_first a (call.lease ++ call.rekey_to.0) (u64_bytes call.application) c (q ∙ at_first a call.lease call.rekey_to.0 b p)

pub returns-in_err-extend_from_slice-clause-kept : goal.returns-in_err-extend_from_slice-clause-kept
returns-in_err-extend_from_slice-clause-kept c = ([], c.in_err-extend_from_slice.ensures.items ∙ sym (append-nil _))

pub returns-in_err-extend_from_slice-2-clause-kept : goal.returns-in_err-extend_from_slice-2-clause-kept
returns-in_err-extend_from_slice-2-clause-kept c = (_, c.in_err-extend_from_slice-2.ensures.items ∙ c.in_ok-extend_from_slice.ensures.items)

pub returns-in_err-put_u64-clause-kept : goal.returns-in_err-put_u64-clause-kept
returns-in_err-put_u64-clause-kept c =
    let call = c.args.call.now in
    (call.lease ++ call.rekey_to.0, c.in_err-put_u64.ensures.unchanged ∙ c.in_ok-extend_from_slice-2.ensures.items ∙ at_first _ call.lease call.rekey_to.0 _ c.in_ok-extend_from_slice.ensures.items)

pub returns-in_err-push-clause-kept : goal.returns-in_err-push-clause-kept
returns-in_err-push-clause-kept c =
    let call = c.args.call.now in
    let front = three call _ _ _ _ c.in_ok-extend_from_slice.ensures.items c.in_ok-extend_from_slice-2.ensures.items c.in_ok-put_u64.ensures.written in
    (call.lease ++ call.rekey_to.0 ++ u64_bytes call.application, ◌∙◌ {A = List ℕ} c.in_err-push.ensures.items front)

pub returns-clause-written : goal.returns-clause-written
returns-clause-written c =
    let call = c.args.call.now in
    let before = c.put_u64.new.bytes.items in
    let small : c.number.result ≡ c.number.result % 256 = omega arith in
    let byte = c.in_ok-push.ensures.items ∙ ap (λ n. before ++ (n ∷ [])) (small ∙ ap (λ n. n % 256) c.number.ensures) in
    let front = three call _ _ _ _ c.in_ok-extend_from_slice.ensures.items c.in_ok-extend_from_slice-2.ensures.items c.in_ok-put_u64.ensures.written in
    byte ∙ at_first _ (call.lease ++ call.rekey_to.0 ++ u64_bytes call.application) _ before front

pub returns-clause-kept : goal.returns-clause-kept
returns-clause-kept c =
    let call = c.args.call.now in
    let front = three call _ _ _ _ c.in_ok-extend_from_slice.ensures.items c.in_ok-extend_from_slice-2.ensures.items c.in_ok-put_u64.ensures.written in
    (_, c.in_ok-push.ensures.items ∙ at_first _ (call.lease ++ call.rekey_to.0 ++ u64_bytes call.application) (c.number.result ∷ []) _ front)
