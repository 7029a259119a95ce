-- What calls of a block do, as an answer.
use Rattle.std.proofs.Common.{◌≡◌, ℕ, List, Result, Ok, Err, ap, ◌∙◌}
use Rattle.json.specs.Json.{Json}
use Rattle.json_views.specs.CallTraces.{FindsText}
use Rattle.json_views.specs.declared.refusal.TraceRefusal.{TraceRefusal}
use Rattle.avm_bytes.specs.Answers.{Answer, done, refusal}
use Rattle.avm_bytes.specs.TraceAnswers.{IsFoundTrace, trace_status}

-- where a trace is found, its text makes the right answer
pub trace_shown : (Finds : Result Json TraceRefusal → Type 0) (text : List ℕ) (answer : Answer) → FindsText Finds text → answer ≡ done text → IsFoundTrace Finds answer
trace_shown Finds text answer (document, found, shows) is = (Ok document, found, is ∙ ap done shows)

-- where a refusal is found in place of a trace, its status makes the right answer
pub trace_refused : (Finds : Result Json TraceRefusal → Type 0) (why : TraceRefusal) (answer : Answer) → Finds (Err why) → answer ≡ refusal (trace_status why) → IsFoundTrace Finds answer
trace_refused Finds why answer found is = (Err why, found, is)
