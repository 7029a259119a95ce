-- What is answered to an input: lines, or the line that names a fault.
use Rattle.std.specs.Prelude.{ℕ, if◌then◌else◌, List, ◌++◌, codes, decimal, Option, Some, None, Result, Ok, Err}
use Rattle.std.specs.Str.{is_utf8}
use Rattle.teal_check.specs.FaultNames.{check_fault_name}
use Rattle.teal_source.specs.FaultNames.{asm_fault_name}
use Rattle.avm_input.specs.Refusals.{check_place}
use Rattle.avm_input.specs.Replies.{Reply, input_refusal, refused, succeeded}
use Rattle.json.specs.Print.{quoted}
use Rattle.json_documents.specs.declared.document_fault.DocumentFault.{DocumentFault}
use Rattle.json_documents.specs.declared.document_fault.DocumentFault.TheVariants as what
use Rattle.json_documents.specs.FaultNames.{document_fault_name}
use Rattle.json_documents.specs.Steps.{path_text}
use Rattle.json_documents.specs.Faults.{Fault}
use Rattle.json_documents.specs.Documents.{Document}
use Rattle.json_documents.specs.Lines.{lines_text}
use Rattle.json_documents.specs.Reading.{document_of_text}

abbrev pub place_text : Option ℕ → List ℕ
place_text None = codes ""
place_text (Some place) = codes " " ++ decimal place

-- what stands behind the name of a fault
abbrev pub rest_text : DocumentFault → List ℕ
rest_text (what.Unknown name) = codes " " ++ quoted name
rest_text (what.Program f) = codes " " ++ (check_fault_name f ++ place_text (check_place f))
rest_text (what.Source f) = codes " " ++ (decimal f.line ++ (codes " " ++ asm_fault_name f.kind))
rest_text _ = codes ""

abbrev pub fault_text : Fault → List ℕ
fault_text f = codes "refused json " ++ (path_text f.path ++ (codes " " ++ (document_fault_name f.what ++ (rest_text f.what ++ codes "\n"))))

abbrev pub document_reply : Result Document Fault → Reply
document_reply (Ok x) = record { text = lines_text x; status = succeeded }
document_reply (Err f) = record { text = fault_text f; status = refused }

-- what `lines` answers to an input that is not too long
abbrev pub lines_reply : List ℕ → Reply
lines_reply input = if is_utf8 input then document_reply (document_of_text input) else input_refusal
