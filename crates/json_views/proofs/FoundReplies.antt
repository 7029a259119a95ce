-- What is answered of what is found.
use Rattle.std.proofs.Common.{◌≡◌, ◌∙◌, ℕ, List, Result, Ok, Err, true, ap, subst, sym, IfOk}
use Rattle.std.specs.Prelude.{◌==◌, IfErr}
use Rattle.json.specs.Json.{Json}
use Rattle.teal_value.specs.declared.failure.Failure.{Failure}
use Rattle.teal_value.specs.declared.failure.Failure.TheVariants as failure
use Rattle.avm_input.specs.Replies.{Reply, succeeded}
use Rattle.avm_input.specs.DigitLines.{digit_lines}
use Rattle.avm_input.specs.ProposeInputs.{ProposeInput, propose_input}
use Rattle.json_documents.specs.Replies.{lines_reply}
use Rattle.json_views.specs.Runs.{FindsRun, IsRunBehind, IsRunOn, IsRunReply, run_too_long}
use Rattle.json_views.specs.CallTraces.{FindsRefusal, FindsText}
use Rattle.json_views.specs.TraceReplies.{IsFoundReply, IsRefusalReply}
use Rattle.json_views.specs.declared.refusal.TraceRefusal.{TraceRefusal}

-- the text of what is found is answered, or its refusal
pub found_is_told : {A R E : Type 0} (bytes : A → List ℕ) (shown : R → Reply) (Finds : Result Json TraceRefusal → Type 0) (too_long : List ℕ) (found : Result A (Failure TraceRefusal)) (result : Result R E)
    → IfOk found (λ text. FindsText Finds (bytes text)) → IfErr found (FindsRefusal Finds)
    → IfOk found (λ text. IfOk result (λ reply. shown reply ≡ record { text = bytes text; status = succeeded }))
    → IfErr found (λ why. IfOk result (λ reply. IsRefusalReply too_long why (shown reply)))
    → IfOk result (λ reply. IsFoundReply too_long Finds (shown reply))
found_is_told bytes shown Finds too_long (Ok text) (Ok reply) (document, finds, is) refuses told refused = (Ok document, finds, told ∙ ap (λ t. record { text = t; status = succeeded }) is)
found_is_told bytes shown Finds too_long (Err failure.Memory) (Ok reply) text refuses told refused = absurd refused
found_is_told bytes shown Finds too_long (Err (failure.Fault why)) (Ok reply) text refuses told refused = (Err why, refuses, refused)
found_is_told bytes shown Finds too_long found (Err e) text refuses told refused = tt

-- what is found of the lines of a document is answered
pub run_is_told : (input : List ℕ) (lines reply : Reply) (draft : ProposeInput) → lines ≡ lines_reply input → lines.status ≡ succeeded → propose_input (digit_lines lines.text) ≡ Ok draft → IsFoundReply run_too_long (FindsRun draft) reply
    → IsRunReply input reply
run_is_told input lines reply draft is status reads found =
    let told : (lines.status == succeeded) ≡ true = ap (λ n. n == succeeded) status in
    subst (λ r. IsRunBehind (r.status == succeeded) r reply) is (subst (λ b. IsRunBehind b lines reply) (sym told) (subst (λ r. IsRunOn r reply) (sym reads) found))
