-- Documents of the program, without where they lie in memory.
use Rattle.json_documents.specs.declared.document.Document.{Document as WrittenDocument}
use Rattle.json_documents.specs.declared.document.Front.{Front as WrittenFront}
use Rattle.json_documents.specs.declared.applications.ReadLimits.{ReadLimits}
use Rattle.json_documents.specs.Applications.{Limits}
use Rattle.json_documents.specs.Documents.{Document, Front}

abbrev pub document_shown : WrittenDocument → Document
document_shown x = record { ledger = x.ledger; header = x.header; calls = x.calls }

abbrev pub front_shown : WrittenFront → Front
front_shown f = record { header = f.header; next_id = f.next_id }

abbrev pub limits_shown : ReadLimits → Limits
limits_shown l = record { global_schema = l.global_schema; local_schema = l.local_schema; state = l.state }
