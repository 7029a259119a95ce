use Rattle.std.proofs.Common.{◌≡◌, ◌∙◌, ℕ, ◌+◌, Bool, true, false, cond, List, drop, slice_index, Some, None, Result, Ok, Err, sym, ap}
use Rattle.std.proofs.lemmas.Bool.{cond-true, cond-false, eq-eqb, ne_eqb}
use Rattle.std.proofs.lemmas.List.{take_rest}
use Rattle.std.proofs.lemmas.Result.{err_from_is_err_and, IfOk-from_err}
use Rattle.teal_text.specs.declared.fault.TextFaultKind.{TextFaultKind}
use Rattle.teal_text.specs.declared.fault.TextFaultKind.TheVariants.{Glued}
use Rattle.teal_text.specs.declared.string.StringState.TheVariants.{Plain}
use Rattle.teal_value.specs.Answer.{◌>>=◌}
use Rattle.teal_text.specs.Tokens.{word_len, string_len, is_ended, is_base64_word, may_follow_string, first_token}
use Rattle.teal_text.proofs.scan.first_token.Goals as goal

ended : (base64 : Bool) (bs : List ℕ) → true ≡ is_ended base64 bs → Ok None ≡ first_token base64 bs
unfolding first_token
ended base64 bs e = sym (cond-true (is_ended base64 bs) _ _ (sym e))

word : (base64 : Bool) (bs : List ℕ) (n : ℕ) → false ≡ is_ended base64 bs → (slice_index bs 0 ≡ 34 → ⊥) → n ≡ word_len (is_base64_word base64 bs) bs
    → Ok (Some (record { len = n; string = false })) ≡ first_token base64 bs
unfolding first_token
word base64 bs n e q p = rw p (sym (cond-false (is_ended base64 bs) _ _ (sym e) ∙ cond-false _ _ _ (ne_eqb (slice_index bs 0) 34 q)))

quoted : (base64 : Bool) (bs : List ℕ) (r : Result ℕ TextFaultKind) → false ≡ is_ended base64 bs → slice_index bs 0 ≡ 34 → r ≡ string_len Plain (drop 1 bs)
    → (r >>= λ n. cond (may_follow_string (drop (n + 1) bs)) (Ok (Some (record { len = n + 1; string = true }))) (Err Glued)) ≡ first_token base64 bs
unfolding first_token
quoted base64 bs r e q p = rw p (sym (cond-false (is_ended base64 bs) _ _ (sym e) ∙ cond-true _ _ _ (eq-eqb (slice_index bs 0) 34 q)))

pub returns-then-is_ended-clause-value : goal.returns-then-is_ended-clause-value
returns-then-is_ended-clause-value c = ended _ _ c.if-is_ended.ensures

pub returns-then-bytes-ne34-clause-value : goal.returns-then-bytes-ne34-clause-value
returns-then-bytes-ne34-clause-value c = word _ _ _ c.if-is_ended.ensures c.if-bytes-ne34.true (c.word_len-len.ensures.value ∙ ap (λ t. word_len t c.args.bytes.now) c.is_base64_word.ensures)

pub returns-in_err-len-clause-value : goal.returns-in_err-len-clause-value
returns-in_err-len-clause-value c =
    let p = err_from_is_err_and c.from_residual.result c.from_residual.ensures.1 in
    p.1 ∙ ap Err p.2 ∙ quoted _ c.args.bytes.now _ c.if-is_ended.ensures c.if-bytes-ne34.false (c.in_err-len.ensures.value ∙ ap (string_len Plain) (take_rest c.args.bytes.now 1))

pub returns-in_err-len-clause-within : goal.returns-in_err-len-clause-within
returns-in_err-len-clause-within c = IfOk-from_err _ _ c.from_residual.ensures.0

pub returns-then-may_follow_string-clause-value : goal.returns-then-may_follow_string-clause-value
returns-then-may_follow_string-clause-value c =
    let bs = c.args.bytes.now in
    sym (cond-true _ _ _ (sym (c.if-may_follow_string.ensures ∙ ap may_follow_string (take_rest bs _))))
    ∙ quoted _ bs _ c.if-is_ended.ensures c.if-bytes-ne34.false (c.in_ok-len.ensures.value ∙ ap (string_len Plain) (take_rest bs 1))

pub returns-else-may_follow_string-clause-value : goal.returns-else-may_follow_string-clause-value
returns-else-may_follow_string-clause-value c =
    let bs = c.args.bytes.now in
    sym (cond-false _ _ _ (sym (c.if-may_follow_string.ensures ∙ ap may_follow_string (take_rest bs _))))
    ∙ quoted _ bs _ c.if-is_ended.ensures c.if-bytes-ne34.false (c.in_ok-len.ensures.value ∙ ap (string_len Plain) (take_rest bs 1))
