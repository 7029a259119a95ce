-- What calls of a block do, instruction by instruction.
use Rattle.std.specs.Prelude.{◌≡◌, ◌==◌, ℕ, if◌then◌else◌, Option, None, Some, Result, Ok, Err}
use Rattle.json.specs.Json.{Json}
use Rattle.avm_ledger.specs.Ledgers.{Ledger}
use Rattle.avm_block.specs.Blocks.{Block}
use Rattle.avm_block.specs.declared.past_faults.OpenFault.TheVariants as opening
use Rattle.json_views.specs.Documents.{document_text}
use Rattle.json_views.specs.declared.refusal.TraceRefusal.{TraceRefusal}
use Rattle.json_views.specs.declared.refusal.TraceRefusal.TheVariants as refusal
use Rattle.json_views.specs.Traces.{Finds}
use Rattle.avm_bytes.specs.declared.statuses.Status.{Status}
use Rattle.avm_bytes.specs.declared.statuses.Status.TheVariants as status
use Rattle.avm_bytes.specs.Answers.{Answer, done, refusal as refused}

-- Entries are counted from 1; 0 names none.
abbrev pub entry_named : ℕ → Option ℕ
entry_named number = if number == 0 then None else Some number

-- the status of a refusal; of a block over its own ledger the last one never comes
abbrev pub trace_status : TraceRefusal → Status
trace_status (refusal.Opening opening.NoEntry) = status.NoEntry
trace_status (refusal.Opening opening.WrongBase) = status.WrongBase
trace_status (refusal.Opening opening.NoProgram) = status.NoRun
trace_status refusal.TooLong = status.TooLong
trace_status (refusal.Opening opening.Pruned) = status.NoRun

abbrev pub trace_answer : Result Json TraceRefusal → Answer
trace_answer (Ok document) = done (document_text document)
trace_answer (Err why) = refused (trace_status why)

-- what is found, as an answer
abbrev pub IsFoundTrace : (Result Json TraceRefusal → Type 0) → Answer → Type 0
IsFoundTrace Finds answer = (found : Result Json TraceRefusal) × Finds found × (answer ≡ trace_answer found)

-- what is found in the block over the ledger, of an entry where one is named; or which of the two the bytes are not
abbrev pub IsTraceAnswer : ℕ → Result (Ledger × Block) Status → Answer → Type 0
IsTraceAnswer entry (Ok input) answer = IsFoundTrace (Finds (entry_named entry) input) answer
IsTraceAnswer entry (Err why) answer = answer ≡ refused why
