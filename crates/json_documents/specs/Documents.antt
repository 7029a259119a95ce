-- A document: a ledger, a header, and calls.
use Rattle.std.specs.Prelude.{ℕ, Bool, List, [], length, codes, Option, None, Result, Ok}
use Rattle.teal_value.specs.Answer.{◌>>=◌}
use Rattle.avm_ledger.specs.declared.header.Header.{Header}
use Rattle.avm_ledger.specs.declared.header.Profile.TheVariants.{Three}
use Rattle.avm_ledger.specs.Ledgers.{Ledger, empty_ledger}
use Rattle.avm_items.specs.declared.call_data.CallData.{CallData}
use Rattle.json.specs.Json.{Json}
use Rattle.json_documents.specs.Faults.{Fault}
use Rattle.json_documents.specs.Members.{reject_unknown, optional}
use Rattle.json_documents.specs.Arrays.{each}
use Rattle.json_documents.specs.Placeholders.{has_placeholders, unless_placeholder}
use Rattle.json_documents.specs.Plain.{uint}
use Rattle.json_documents.specs.Accounts.{account}
use Rattle.json_documents.specs.Applications.{application}
use Rattle.json_documents.specs.Ids.{end_of_ids, first_next_id, next_id}
use Rattle.json_documents.specs.Sources.{Sources, no_sources, source, targets}
use Rattle.json_documents.specs.Tables.{document_names}
use Rattle.json_documents.specs.Transactions.{transactions}

pub record Document : Type 0 where
  pub ledger : Ledger
  pub header : Header
  pub calls : List CallData

-- the header, and the next id where it is given
pub record Front : Type 0 where
  pub header : Header
  pub next_id : Option ℕ

-- the members that are numbers; the defaults are those of the public network
abbrev pub front : Json → Result Front Fault
front j = do
  latest ← optional (codes "latest-timestamp") uint 0 j
  life ← optional (codes "max-life") uint 1000 j
  balance ← optional (codes "min-balance") uint 100000 j
  fee ← optional (codes "min-fee") uint 1000 j
  next ← optional (codes "next-id") next_id None j
  round ← optional (codes "round") uint 0 j
  Ok (
      record {
        header = record { profile = Three; round = round; latest_timestamp = latest; min_fee = fee; min_balance = balance; max_life = life };
        next_id = next;
      }
      )

-- a ledger without applications and local states
abbrev pub bare_ledger : Option ℕ → Ledger
bare_ledger next = record empty_ledger { next_id = first_next_id next }

-- the programs of a document's sources, which has placeholders or not
abbrev pub all_sources : Bool → Json → Result Sources Fault
all_sources there j = optional (codes "sources") (each (source there) no_sources) no_sources j

-- its applications
abbrev pub applications : Bool → Option ℕ → Sources → Json → Result Ledger Fault
applications there next sources j =
    optional (codes "apps") (each (unless_placeholder there (application (end_of_ids next) sources)) (bare_ledger next)) (bare_ledger next) j

-- and its accounts' local states
abbrev pub ledger : Bool → Option ℕ → Sources → Json → Result Ledger Fault
ledger there next sources j = do
  l ← applications there next sources j
  optional (codes "accounts") (each (account there (end_of_ids next)) l) l j

-- what a document's members say, one by one, and at last the targets of sources
abbrev pub members : Bool → Json → Result Document Fault
members there j = do
  f ← front j
  sources ← all_sources there j
  l ← ledger there f.next_id sources j
  calls ← optional (codes "txns") (transactions sources) [] j
  _ ← targets sources l (length calls)
  Ok (record { ledger = l; header = f.header; calls = calls })

-- what a document says, or its first fault: names first
abbrev pub document : Json → Result Document Fault
document j = reject_unknown document_names j >>= λ _. members (has_placeholders j) j
