-- A ledger and a block as a JSON document. Whether the block stands over the ledger is not asked: `base` beside `ledger` says it.
use Rattle.std.specs.Prelude.{ℕ, List, [], ◌∷◌, ◌++◌, codes}
use Rattle.sha2.specs.Sha256.{sha256}
use Rattle.json.specs.Json.{Json}
use Rattle.avm_ledger.specs.declared.header.Header.{Header}
use Rattle.avm_ledger.specs.declared.header.Profile.{Profile}
use Rattle.avm_ledger.specs.declared.header.Profile.TheVariants as profile
use Rattle.avm_ledger.specs.Ledgers.{Ledger}
use Rattle.avm_ledger.specs.Encodings.{ledger_digest}
use Rattle.avm_block.specs.declared.entry.Entry.{Entry}
use Rattle.avm_block.specs.Blocks.{Block}
use Rattle.avm_block.specs.BlockEncoding.{body_bytes}
use Rattle.avm_input.specs.Outcomes.{outcome_text}
use Rattle.json_views.specs.Documents.{Member, array_of, digits, object_of, text, uint}
use Rattle.json_views.specs.ShownCalls.{shown_call}
use Rattle.json_views.specs.ShownLedgers.{shown_accounts, shown_applications}

-- the digest that a block's bytes end with
abbrev pub block_digest : Block → List ℕ
block_digest b = sha256 (body_bytes b)

abbrev pub profile_number : Profile → ℕ
profile_number profile.Two = 2
profile_number profile.Three = 3

abbrev pub shown_block_entry : Entry → Json
shown_block_entry e =
    object_of (
    (codes "outcome", text (outcome_text e.outcome))
    ∷ (codes "timestamp", uint e.timestamp)
    ∷ (codes "txn", shown_call e.call)
    ∷ [])

abbrev pub shown_digests : Ledger → Block → Json
shown_digests l b =
    object_of (
    (codes "after", digits b.after)
    ∷ (codes "base", digits b.base)
    ∷ (codes "block", digits (block_digest b))
    ∷ (codes "ledger", digits (ledger_digest l))
    ∷ [])

-- the members between the digests and the transactions; they are by rising name, so the ledger's next id stands among them
abbrev pub header_members : Header → ℕ → List Member
header_members h next_id =
    (codes "latest-timestamp", uint h.latest_timestamp)
    ∷ (codes "max-life", uint h.max_life)
    ∷ (codes "min-balance", uint h.min_balance)
    ∷ (codes "min-fee", uint h.min_fee)
    ∷ (codes "next-id", uint next_id)
    ∷ (codes "profile", uint (profile_number h.profile))
    ∷ (codes "round", uint h.round)
    ∷ []

abbrev pub shown_block : Ledger → Block → Json
shown_block l b =
    object_of (
    ((codes "accounts", shown_accounts l) ∷ (codes "apps", shown_applications l) ∷ (codes "digests", shown_digests l b) ∷ [])
    ++ (header_members b.header l.next_id
    ++ (codes "txns", array_of shown_block_entry b.entries) ∷ []))
