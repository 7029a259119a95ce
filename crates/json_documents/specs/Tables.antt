-- The names of each object's members: those that are read, and those of the ecosystem's forms of which this machine has none, a dry-run
-- request's (`DryrunRequest` of go-algorand) and what indexers add (the schemas of Algorand's indexer API).
use Rattle.std.specs.Prelude.{ℕ, List, [], ◌∷◌, codes}

abbrev pub document_names : List (List ℕ)
document_names =
    codes "accounts" ∷ codes "apps" ∷ codes "digests" ∷ codes "latest-timestamp" ∷ codes "max-life" ∷ codes "min-balance" ∷ codes "min-fee"
    ∷ codes "next-id" ∷ codes "profile" ∷ codes "protocol-version" ∷ codes "round" ∷ codes "sources" ∷ codes "txns" ∷ []

abbrev pub application_names : List (List ℕ)
application_names = codes "created-at-round" ∷ codes "deleted" ∷ codes "deleted-at-round" ∷ codes "id" ∷ codes "params" ∷ []

abbrev pub params_names : List (List ℕ)
params_names =
    codes "approval-program" ∷ codes "clear-state-program" ∷ codes "creator" ∷ codes "extra-program-pages" ∷ codes "global-state"
    ∷ codes "global-state-schema" ∷ codes "local-state-schema" ∷ codes "version" ∷ []

abbrev pub key_value_names : List (List ℕ)
key_value_names = codes "key" ∷ codes "value" ∷ []

abbrev pub value_names : List (List ℕ)
value_names = codes "bytes" ∷ codes "type" ∷ codes "uint" ∷ []

abbrev pub account_names : List (List ℕ)
account_names =
    codes "address" ∷ codes "amount" ∷ codes "amount-without-pending-rewards" ∷ codes "apps-local-state" ∷ codes "apps-total-extra-pages"
    ∷ codes "apps-total-schema" ∷ codes "assets" ∷ codes "auth-addr" ∷ codes "closed-at-round" ∷ codes "created-apps"
    ∷ codes "created-assets" ∷ codes "created-at-round" ∷ codes "deleted" ∷ codes "incentive-eligible" ∷ codes "last-heartbeat"
    ∷ codes "last-proposed" ∷ codes "min-balance" ∷ codes "participation"
    ∷ codes "pending-rewards" ∷ codes "reward-base" ∷ codes "rewards" ∷ codes "round" ∷ codes "sig-type" ∷ codes "status"
    ∷ codes "total-apps-opted-in" ∷ codes "total-assets-opted-in" ∷ codes "total-box-bytes" ∷ codes "total-boxes"
    ∷ codes "total-created-apps" ∷ codes "total-created-assets" ∷ []

abbrev pub local_names : List (List ℕ)
local_names =
    codes "closed-out-at-round" ∷ codes "deleted" ∷ codes "id" ∷ codes "key-value" ∷ codes "opted-in-at-round" ∷ codes "schema" ∷ []

abbrev pub signed_names : List (List ℕ)
signed_names =
    codes "lsig" ∷ codes "msig" ∷ codes "outcome" ∷ codes "sgnr" ∷ codes "sig" ∷ codes "timestamp" ∷ codes "txn" ∷ []

abbrev pub transaction_names : List (List ℕ)
transaction_names =
    codes "apaa" ∷ codes "apan" ∷ codes "apap" ∷ codes "apas" ∷ codes "apat" ∷ codes "apbx" ∷ codes "apep" ∷ codes "apfa" ∷ codes "apgs"
    ∷ codes "apid" ∷ codes "apls" ∷ codes "apsu" ∷ codes "fee" ∷ codes "fv" ∷ codes "gen" ∷ codes "gh" ∷ codes "grp" ∷ codes "lv"
    ∷ codes "lx" ∷ codes "note" ∷ codes "rekey" ∷ codes "snd" ∷ codes "type" ∷ []

abbrev pub source_names : List (List ℕ)
source_names = codes "app-index" ∷ codes "field-name" ∷ codes "source" ∷ codes "txn-index" ∷ []
