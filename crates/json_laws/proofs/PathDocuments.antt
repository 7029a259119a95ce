-- The paths of faults of accounts, applications and whole documents.
use Rattle.std.proofs.Common.{◌≡◌, ℕ, inl, inr, Bool, ◌&&◌, List, [], ◌∷◌, length, Option, Some, None, Ok, Err, refl, sym, ap, subst, ◌∙◌}
use Rattle.std.specs.Prelude.{is_some, codes, nat_le, nat_lt, option_and_then}
use Rattle.std.proofs.lemmas.List.{append-nil}
use Rattle.teal_value.specs.declared.address.Address.{Address}
use Rattle.avm_states.specs.Entries.{Entries}
use Rattle.avm_states.specs.Schemas.{most_global_entries, most_local_entries, no_entries}
use Rattle.avm_ledger.specs.declared.application.StoredApplication.{StoredApplication}
use Rattle.avm_ledger.specs.LedgerReader.{local_room, room_of_schema, stored_in}
use Rattle.avm_ledger.specs.Ledgers.{Ledger, application_at, local_state_at, with_local_state}
use Rattle.json.specs.Json.{Json}
use Rattle.json.specs.Find.{at}
use Rattle.json_documents.specs.declared.document_fault.DocumentFault.{DocumentFault}
use Rattle.json_documents.specs.declared.document_fault.DocumentFault.TheVariants as what
use Rattle.json_documents.specs.Steps.{Step, at_index, at_name}
use Rattle.json_documents.specs.Faults.{Fault, here, in_step}
use Rattle.json_documents.specs.Members.{reject_unknown, required, needed_in, optional}
use Rattle.json_documents.specs.Arrays.{each}
use Rattle.json_documents.specs.Plain.{address, text, uint}
use Rattle.json_documents.specs.Deleted.{still_known}
use Rattle.json_documents.specs.Ids.{end_of_ids, id_below, in_range, next_id}
use Rattle.json_documents.specs.Schemas.{schema}
use Rattle.json_documents.specs.States.{state}
use Rattle.json_documents.specs.Programs.{given_or, program}
use Rattle.json_documents.specs.Sources.{Sources, no_sources, program_for, source, targets}
use Rattle.json_documents.specs.Drafts.{application_beside, is_same_state, is_same_stored, local_state_beside, raised}
use Rattle.json_documents.specs.Accounts.{account, local}
use Rattle.json_documents.specs.Applications.{application, limits, params}
use Rattle.json_documents.specs.Transactions.{transactions}
use Rattle.json_documents.specs.Documents.{Document, Front, all_sources, applications, bare_ledger, document, front, ledger}
use Rattle.json_documents.specs.Placeholders.{has_placeholders, unless_placeholder}
use Rattle.json_documents.specs.Reading.{on_value, value_of_text}
use Rattle.json_documents.specs.Tables.{account_names, application_names, document_names, local_names, params_names}
use Rattle.json_laws.specs.Paths.{applications_of, next_id_of, behind, Before, IsSecondApplication, IsSecondLocalState, IsWrong, LeadsFor, LeadsIn, NamesMissing, PathsLead, PathsOfTextsLead, ValuesAreWrong, ValuesOfTextsAreWrong, sources_of, table, value_at}
use Rattle.json_laws.proofs.AcceptedSteps.{each_keeps, nothing_asked, optional_gives, passed, passed_or_read, passing_keeps, same_value}
use Rattle.json_laws.proofs.PathSteps.{ArePlain, Spot, into, IsLocated, OnFault, Locates, Located, bind_ok, known_object, needed_read, located_all, located_bind, located_each, located_known, located_needed, located_optional, located_unless_placeholder, then}
use Rattle.json_laws.proofs.PathPlain.{located_address, located_id_below, located_next_id, located_refused, located_schema, located_still_known, located_uint, still_object}
use Rattle.json_laws.proofs.PathStates.{located_given_or, located_program, located_state}
use Rattle.json_laws.proofs.PathSources.{located_sources, located_targets}
use Rattle.json_laws.proofs.PathTransactions.{located_transactions}

-- ---- what may stand twice

beside_located : (p : Spot) (old : Option StoredApplication) (l : Ledger) (id : ℕ) (app : StoredApplication) → (application_beside old l id app ≡ Err (here what.Differs) → IsSecondApplication p.document p.path p.value) → Located p (application_beside old l id app)
beside_located p None l id app second = record { located = tt }
beside_located p (Some old) l id app second = located_refused p (is_same_stored old app) l what.Differs (λ e. inl (second e))

state_beside_located : (p : Spot) (old : Option Entries) (l : Ledger) (who : Address) (id : ℕ) (entries : Entries) → (local_state_beside old l who id entries ≡ Err (here what.Differs) → IsSecondLocalState p.document p.path p.value) → Located p (local_state_beside old l who id entries)
state_beside_located p None l who id entries second = record { located = tt }
state_beside_located p (Some old) l who id entries second = located_refused p (is_same_state old entries) l what.Differs (λ e. inr (second e))

-- ---- accounts leave the applications as they are

beside_same : (old : Option Entries) (l y : Ledger) (who : Address) (id : ℕ) (entries : Entries) → local_state_beside old l who id entries ≡ Ok y → y.applications ≡ l.applications
beside_same None l y who id entries e = ap (λ (x : Ledger). x.applications) (sym (same_value (raised id (with_local_state l who id entries)) y e))
beside_same (Some old) l y who id entries e = ap (λ (x : Ledger). x.applications) (sym (passed (is_same_state old entries) l y (here what.Differs) e).1)

local_same : (end : ℕ) (who : Address) (l : Ledger) (j : Json) (y : Ledger) → local end who l j ≡ Ok y → y.applications ≡ l.applications
local_same end who l j y e =
    let u = bind_ok (still_known local_names j) _ y e in
    let id = bind_ok (required (codes "id") (id_below end) j) _ y u.2 in
    let entries = bind_ok (optional (codes "key-value") (state (local_room (application_at l id.0))) [] j) _ y id.2 in
    beside_same (local_state_at l who id.0) l y who id.0 entries.0 entries.2

account_same : (there : Bool) (end : ℕ) (l : Ledger) (j : Json) (y : Ledger) → account there end l j ≡ Ok y → y.applications ≡ l.applications
account_same there end l j y e =
    let u = bind_ok (still_known account_names j) _ y e in
    let who = bind_ok (required (codes "address") address j) _ y u.2 in
    optional_gives nothing_asked (λ (x : Ledger). x.applications ≡ l.applications) (codes "apps-local-state") (each (unless_placeholder there (local end who.0)) l) l refl
    (each_keeps nothing_asked (λ (x : Ledger). x.applications ≡ l.applications) (unless_placeholder there (local end who.0)) l
    (passing_keeps (λ j. Unit {0}) (λ (x : Ledger). x.applications ≡ l.applications) there (local end who.0) (λ so_far v x q kept read. local_same end who.0 so_far v x read ∙ kept)) refl) j y tt who.2

-- ---- accounts

id_is_uint : (end : ℕ) (j : Json) (id : ℕ) → required (codes "id") (id_below end) j ≡ Ok id → required (codes "id") uint j ≡ Ok id
id_is_uint end j id e =
    let there = needed_read (codes "id") (id_below end) j id e in
    let read = bind_ok (uint there.0) (in_range end) id there.2 in
    ap (needed_in (codes "id") uint) there.1 ∙ ap (in_step (at_name (codes "id"))) (read.1 ∙ ap (λ n. Ok n) (passed (nat_le 1 read.0 && nat_lt read.0 end) read.0 id (here what.IdRange) read.2).1)

-- apps is the ledger of the document's applications
located_local : (next : Option ℕ) (who : Address) (apps l : Ledger) (p : Spot) → local_names ≡ table p.path → next_id_of p.document ≡ Ok next → applications_of p.document ≡ Ok apps → l.applications ≡ apps.applications
    → (local (end_of_ids next) who l p.value ≡ Err (here what.Differs) → IsSecondLocalState p.document p.path p.value) → Located p (local (end_of_ids next) who l p.value)
located_local next who apps l p names given read same second =
    located_bind p (still_known local_names p.value) _ (located_still_known local_names p names) (λ u is.
    located_bind p (required (codes "id") (id_below (end_of_ids next)) p.value) _ (located_needed (codes "id") refl (id_below (end_of_ids next)) p (still_object local_names p.value u is) (λ v e. located_id_below next (into p (at_name (codes "id")) v e) given (p.path, refl))) (λ id i.
    located_bind p (optional (codes "key-value") (state (local_room (application_at l id))) [] p.value) _
    (located_optional (codes "key-value") refl (state (local_room (application_at l id))) [] p (λ v e. located_state (local_room (application_at l id)) (into p (at_name (codes "key-value")) v e) refl (λ full.
    (p.value, local_room (application_at l id), p.leads, inr (refl, (id, apps, id_is_uint (end_of_ids next) p.value id i, read, ap (λ stored. local_room (stored_in stored id)) same)), full)))) (λ entries e.
    state_beside_located p (local_state_at l who id) l who id entries (λ differ. second (then _ _ _ _ is (then _ _ _ _ i (then _ _ _ _ e differ)))))))

located_account : (next : Option ℕ) (apps l : Ledger) (p : Spot) → account_names ≡ table p.path → next_id_of p.document ≡ Ok next → applications_of p.document ≡ Ok apps → l.applications ≡ apps.applications
    → Before (account (has_placeholders p.document) (end_of_ids next)) apps p.path p.document l → Located p (account (has_placeholders p.document) (end_of_ids next) l p.value)
located_account next apps l p names given read same before =
    located_bind p (still_known account_names p.value) _ (located_still_known account_names p names) (λ u is.
    located_bind p (required (codes "address") address p.value) _ (located_needed (codes "address") refl address p (still_object account_names p.value u is) (λ v e. located_address _)) (λ who w.
    let one = local (end_of_ids next) who in
    let each_one = unless_placeholder (has_placeholders p.document) one in
    located_optional (codes "apps-local-state") refl (each each_one l) l p (λ v e.
    located_each (λ (i : ℕ) (x : Ledger). x.applications ≡ apps.applications) each_one l (into p (at_name (codes "apps-local-state")) v e) (record {
      begins = same;
      goes_on = λ i x y k at kept read_it. passed_or_read (λ (z : Ledger). z.applications ≡ apps.applications) (has_placeholders p.document) one x k y kept (λ it. local_same (end_of_ids next) who x k y it ∙ kept) read_it;
      reads = λ i x k at there kept. located_unless_placeholder (has_placeholders p.document) one x (into (into p (at_name (codes "apps-local-state")) v e) (at_index i) k at)
          (located_local next who apps x (into (into p (at_name (codes "apps-local-state")) v e) (at_index i) k at) refl given read kept (λ differ. (refl, (next, apps, l, x, p.value, who, given, read, p.leads, w, before, there, differ))));
    }))))

-- ---- applications

located_limits : (p : Spot) → Located p (limits p.value)
located_limits p =
    located_bind p (optional (codes "global-state-schema") (schema (codes "num-byte-slice") (codes "num-uint") most_global_entries) no_entries p.value) _
    (located_optional (codes "global-state-schema") refl (schema (codes "num-byte-slice") (codes "num-uint") most_global_entries) no_entries p (λ v e. located_schema (codes "num-byte-slice") (codes "num-uint") most_global_entries refl refl (into p (at_name (codes "global-state-schema")) v e) refl (λ large. inl ((p.path, refl), large)))) (λ global g.
    located_bind p (optional (codes "local-state-schema") (schema (codes "num-byte-slice") (codes "num-uint") most_local_entries) no_entries p.value) _
    (located_optional (codes "local-state-schema") refl (schema (codes "num-byte-slice") (codes "num-uint") most_local_entries) no_entries p (λ v e. located_schema (codes "num-byte-slice") (codes "num-uint") most_local_entries refl refl (into p (at_name (codes "local-state-schema")) v e) refl (λ large. inr (inl ((p.path, refl), large))))) (λ local l.
    located_bind p (optional (codes "global-state") (state (room_of_schema global)) [] p.value) _
    (located_optional (codes "global-state") refl (state (room_of_schema global)) [] p (λ v e. located_state (room_of_schema global) (into p (at_name (codes "global-state")) v e) refl (λ full. (p.value, room_of_schema global, p.leads, inl (refl, (global, g, refl)), full)))) (λ entries e.
    record { located = tt })))

located_params : (sources : Sources) (id : ℕ) (p : Spot) → params_names ≡ table p.path → Located p (params sources id p.value)
located_params sources id p names =
    located_bind p (reject_unknown params_names p.value) _ (located_known params_names p names) (λ u is.
    located_bind p (given_or (program_for sources.approvals id) (required (codes "approval-program") program p.value)) _
    (located_given_or p (program_for sources.approvals id) (required (codes "approval-program") program p.value) (located_needed (codes "approval-program") refl program p (known_object params_names p.value u is) (λ v e. located_program (into p (at_name (codes "approval-program")) v e) (inl (p.path, refl))))) (λ approval a.
    located_bind p (given_or (program_for sources.clears id) (required (codes "clear-state-program") program p.value)) _
    (located_given_or p (program_for sources.clears id) (required (codes "clear-state-program") program p.value) (located_needed (codes "clear-state-program") refl program p (known_object params_names p.value u is) (λ v e. located_program (into p (at_name (codes "clear-state-program")) v e) (inr (p.path, refl))))) (λ clear c.
    located_bind p (required (codes "creator") address p.value) _ (located_needed (codes "creator") refl address p (known_object params_names p.value u is) (λ v e. located_address _)) (λ creator w.
    located_bind p (limits p.value) _ (located_limits p) (λ l m.
    record { located = tt })))))

located_application : (next : Option ℕ) (sources : Sources) (l : Ledger) (p : Spot) → application_names ≡ table p.path → next_id_of p.document ≡ Ok next
    → (application (end_of_ids next) sources l p.value ≡ Err (here what.Differs) → IsSecondApplication p.document p.path p.value) → Located p (application (end_of_ids next) sources l p.value)
located_application next sources l p names given second =
    located_bind p (still_known application_names p.value) _ (located_still_known application_names p names) (λ u is.
    located_bind p (required (codes "id") (id_below (end_of_ids next)) p.value) _ (located_needed (codes "id") refl (id_below (end_of_ids next)) p (still_object application_names p.value u is) (λ v e. located_id_below next (into p (at_name (codes "id")) v e) given (p.path, refl))) (λ id i.
    located_bind p (required (codes "params") (params sources id) p.value) _ (located_needed (codes "params") refl (params sources id) p (still_object application_names p.value u is) (λ v e. located_params sources id (into p (at_name (codes "params")) v e) refl)) (λ app a.
    beside_located p (application_at l id) l id app (λ differ. second (then _ _ _ _ is (then _ _ _ _ i (then _ _ _ _ a differ)))))))

-- ---- documents

-- the document as its own value
abbrev root : Json → Spot
root j = record { document = j; path = []; value = j; leads = refl }

located_front : (p : Spot) → Located p (front p.value)
located_front p =
    located_bind p (optional (codes "latest-timestamp") uint 0 p.value) _ (located_optional (codes "latest-timestamp") refl uint 0 p (λ v e. located_uint _)) (λ latest e.
    located_bind p (optional (codes "max-life") uint 1000 p.value) _ (located_optional (codes "max-life") refl uint 1000 p (λ v e. located_uint _)) (λ life e.
    located_bind p (optional (codes "min-balance") uint 100000 p.value) _ (located_optional (codes "min-balance") refl uint 100000 p (λ v e. located_uint _)) (λ balance e.
    located_bind p (optional (codes "min-fee") uint 1000 p.value) _ (located_optional (codes "min-fee") refl uint 1000 p (λ v e. located_uint _)) (λ fee e.
    located_bind p (optional (codes "next-id") next_id None p.value) _ (located_optional (codes "next-id") refl next_id None p (λ v e. located_next_id (into p (at_name (codes "next-id")) v e) (p.path, refl))) (λ next e.
    located_bind p (optional (codes "round") uint 0 p.value) _ (located_optional (codes "round") refl uint 0 p (λ v e. located_uint _)) (λ round e.
    record { located = tt }))))))

next_given : (j : Json) (f : Front) → front j ≡ Ok f → next_id_of j ≡ Ok f.next_id
next_given j f e =
    let latest = bind_ok (optional (codes "latest-timestamp") uint 0 j) _ f e in
    let life = bind_ok (optional (codes "max-life") uint 1000 j) _ f latest.2 in
    let balance = bind_ok (optional (codes "min-balance") uint 100000 j) _ f life.2 in
    let fee = bind_ok (optional (codes "min-fee") uint 1000 j) _ f balance.2 in
    let next = bind_ok (optional (codes "next-id") next_id None j) _ f fee.2 in
    let round = bind_ok (optional (codes "round") uint 0 j) _ f next.2 in
    next.1 ∙ ap (λ (x : Front). Ok x.next_id) (same_value _ f round.2)

located_ledger : (next : Option ℕ) (sources : Sources) (j : Json) → next_id_of j ≡ Ok next → sources_of j ≡ Ok sources → Located (root j) (ledger (has_placeholders j) next sources j)
located_ledger next sources j given read =
    let one = application (end_of_ids next) sources in
    let each_one = unless_placeholder (has_placeholders j) one in
    located_bind (root j) (applications (has_placeholders j) next sources j) _
    (located_optional (codes "apps") refl (each each_one (bare_ledger next)) (bare_ledger next) (root j) (λ v e.
    located_all each_one (bare_ledger next) (into (root j) (at_name (codes "apps")) v e) (λ i l k at before.
    located_unless_placeholder (has_placeholders j) one l (into (into (root j) (at_name (codes "apps")) v e) (at_index i) k at)
    (located_application next sources l (into (into (root j) (at_name (codes "apps")) v e) (at_index i) k at) refl given (λ differ. ((i, [], refl), (next, sources, l, given, read, before, differ))))))) (λ apps a.
    let of_document : applications_of j ≡ Ok apps = then _ _ _ _ given (then _ _ _ _ read a) in
    located_optional (codes "accounts") refl (each (account (has_placeholders j) (end_of_ids next)) apps) apps (root j) (λ v e.
    located_each (λ (i : ℕ) (x : Ledger). x.applications ≡ apps.applications) (account (has_placeholders j) (end_of_ids next)) apps (into (root j) (at_name (codes "accounts")) v e) (record {
      begins = refl;
      goes_on = λ i x y k at kept one. account_same (has_placeholders j) (end_of_ids next) x k y one ∙ kept;
      reads = λ i x k at before kept. located_account next apps x (into (into (root j) (at_name (codes "accounts")) v e) (at_index i) k at) refl given of_document kept before;
    })))

located_document : (j : Json) → Located (root j) (document j)
located_document j =
    located_bind (root j) (reject_unknown document_names j) _ (located_known document_names (root j) refl) (λ u is.
    located_bind (root j) (front j) _ (located_front (root j)) (λ f given.
    located_bind (root j) (all_sources (has_placeholders j) j) _
    (located_optional (codes "sources") refl (each (source (has_placeholders j)) no_sources) no_sources (root j) (λ v e.
    located_sources (has_placeholders j) (into (root j) (at_name (codes "sources")) v e) refl ([], refl))) (λ sources read.
    located_bind (root j) (ledger (has_placeholders j) f.next_id sources j) _ (located_ledger f.next_id sources j (next_given j f given) read) (λ l le.
    located_bind (root j) (optional (codes "txns") (transactions sources) [] j) _ (located_optional (codes "txns") refl (transactions sources) [] (root j) (λ v e. located_transactions sources (into (root j) (at_name (codes "txns")) v e) refl read)) (λ calls c.
    located_bind (root j) (targets sources l (length calls)) _ (located_targets (root j) sources l (length calls) read (λ i p v placed missing. ((i, [], refl), (p, l, calls, placed, then _ _ _ _ (next_given j f given) (then _ _ _ _ read le), then _ _ _ _ read c, missing)))) (λ w e.
    record { located = tt }))))))

-- ---- the laws

-- a document's fault leads to a wrong value or a missing member, by steps that need no escape
pub document_located : (j : Json) (f : Fault) → document j ≡ Err f → Locates f.what f.path j × ArePlain f.path
document_located j f e =
    let at : IsLocated (root j) f = subst (OnFault {A = Document} (IsLocated (root j))) e (located_document j).located in
    (subst (λ path. Locates f.what path j) (append-nil f.path) at.0, at.1)

locates_lead : (w : DocumentFault) (path : List Step) (j : Json) → Locates w path j → LeadsFor w path j
locates_lead what.Missing path j h = h
locates_lead what.Syntax path j h = absurd h.2
locates_lead w path j h = ap is_some h.1

pub paths_lead : PathsLead
paths_lead j f e = locates_lead f.what f.path j (document_located j f e).0

text_lead : (o : Option Json) (f : Fault) → on_value o ≡ Err f → LeadsIn o f
text_lead None f e = cc
text_lead (Some j) f e = paths_lead j f e

pub paths_of_texts_lead : PathsOfTextsLead
paths_of_texts_lead text f e = text_lead (value_of_text text) f e

nothing_missing : (path : List Step) (j v : Json) → NamesMissing path j → value_at path j ≡ Some v → ⊥
nothing_missing [] j v h e = h
nothing_missing (at_name name ∷ ss) j v h e =
    let none : value_at (at_name name ∷ ss) j ≡ None = ap (option_and_then (behind (at_name name))) h.1 ∙ h.2.1 in
    absurd cc
nothing_missing (at_index i ∷ ss) j v h e = h.2

locates_wrong : (w : DocumentFault) (path : List Step) (j v : Json) → Locates w path j → value_at path j ≡ Some v → IsWrong j w path v
locates_wrong what.Missing path j v h e = nothing_missing path j v h e
locates_wrong what.Syntax path j v h e = absurd h.2
locates_wrong w path j v h e = subst (IsWrong j w path) (same_json h.0 v (sym h.1 ∙ e)) h.2
  where
    same_json : (a b : Json) → Some a ≡ Some b → a ≡ b
    same_json a b same = cc

pub values_are_wrong : ValuesAreWrong
values_are_wrong j f v e at = locates_wrong f.what f.path j v (document_located j f e).0 at

text_wrong : (o : Option Json) (j : Json) (f : Fault) (v : Json) → o ≡ Some j → on_value o ≡ Err f → value_at f.path j ≡ Some v → IsWrong j f.what f.path v
text_wrong None j f v is e at = absurd cc
text_wrong (Some k) j f v is e at = let same : j ≡ k = cc in values_are_wrong j f v (ap document same ∙ e) at

pub values_of_texts_are_wrong : ValuesOfTextsAreWrong
values_of_texts_are_wrong text j f v is e at = text_wrong (value_of_text text) j f v is e at
