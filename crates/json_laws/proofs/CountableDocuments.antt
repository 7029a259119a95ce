-- An accepted document has no more applications and local states than its arrays have elements.
use Rattle.std.proofs.Common.{◌≡◌, ℕ, suc, ◌+◌, ◌*◌, ◌^◌, ◌<◌, ◌≤◌, Bool, List, [], ◌∷◌, length, Option, Some, None, Result, Ok, refl, subst, arith}
use Rattle.std.specs.Prelude.{codes}
use Rattle.std.specs.Ordering.{match_ordering, nat_cmp}
use Rattle.std.specs.declared.cmp.Ordering.{Ordering}
use Rattle.std.specs.declared.cmp.Ordering.TheVariants.{Less, Equal, Greater}
use Rattle.std.specs.BTreeMap.{insert_entry}
use Rattle.teal_value.specs.declared.address.Address.{Address}
use Rattle.avm_states.specs.Entries.{Entries}
use Rattle.avm_ledger.specs.declared.application.StoredApplication.{StoredApplication}
use Rattle.avm_ledger.specs.LedgerReader.{local_room}
use Rattle.avm_ledger.specs.LedgerRules.{IsCountable}
use Rattle.avm_ledger.specs.Ledgers.{Ledger, account_cmp, application_at, local_state_at, with_application, with_local_state}
use Rattle.json.specs.Json.{Json, Items, no_items, item}
use Rattle.json.specs.Find.{as_array, get}
use Rattle.json_documents.specs.declared.document_fault.DocumentFault.TheVariants.{Differs, NotArray}
use Rattle.json_documents.specs.Faults.{Fault, here, in_step}
use Rattle.json_documents.specs.Steps.{at_index}
use Rattle.json_documents.specs.Members.{reject_unknown, member, required, optional, optional_in}
use Rattle.json_documents.specs.Arrays.{each, elements, gathered}
use Rattle.json_documents.specs.Plain.{address}
use Rattle.json_documents.specs.Deleted.{still_known}
use Rattle.json_documents.specs.Accounts.{account, local}
use Rattle.json_documents.specs.Applications.{application, params}
use Rattle.json_documents.specs.Documents.{Document, all_sources, applications, bare_ledger, document, front, ledger}
use Rattle.json_documents.specs.Placeholders.{has_placeholders, unless_placeholder}
use Rattle.json_documents.specs.Drafts.{application_beside, is_same_state, is_same_stored, local_state_beside, raised}
use Rattle.json_documents.specs.Ids.{end_of_ids, id_below}
use Rattle.json_documents.specs.Sources.{Sources, targets}
use Rattle.json_documents.specs.States.{state}
use Rattle.json_documents.specs.Tables.{account_names, application_names, document_names, local_names}
use Rattle.json_documents.specs.Transactions.{transactions}
use Rattle.json_laws.proofs.AcceptedSteps.{from, not_null, passed, passed_or_read, same_value, there, without_step}
use Rattle.json_laws.proofs.Weights.{elements_weight, got_weight, items_weight, weight}

-- ---- one element, one more at most

insert_longer : {K X : Type 0} (R : K → K → Ordering) (es : List (K × X)) (k : K) (v : X) → length (insert_entry R es k v) ≤ suc (length es)
insert_longer R [] k v = omega arith
insert_longer R (e ∷ es) k v = by (R k e.0) (insert_longer R es k v)
  where
    by : (r : Ordering) → length (insert_entry R es k v) ≤ suc (length es) → length (match_ordering r ((k, v) ∷ e ∷ es) ((e.0, v) ∷ es) (e ∷ insert_entry R es k v)) ≤ suc (suc (length es))
    by Less more = omega arith
    by Equal more = omega arith
    by Greater more = omega (arith, more)

-- how many applications and local states there are
count : Ledger → ℕ
count l = length l.applications + length l.local_states

gathered_count : (one : Ledger → Json → Result Ledger Fault) (i : ℕ) (start : Ledger) (js : Items) (x : Ledger) → ((l : Ledger) (j : Json) (y : Ledger) → one l j ≡ Ok y → count y ≤ count l + (1 + weight j))
    → gathered one i start js ≡ Ok x → count x ≤ count start + items_weight js
unfolding gathered
gathered_count one i start no_items x more e = subst (λ y. count y ≤ count start + 0) (same_value start x e) (omega arith)
gathered_count one i start (item j js) x more e =
    from (in_step (at_index i) (one start j)) _ x e (λ next en e1.
    omega (arith, gathered_count one (i + 1) next js x more e1, more start j next (without_step _ (one start j) next en)))

each_count : (one : Ledger → Json → Result Ledger Fault) (start : Ledger) (j : Json) (x : Ledger) → ((l : Ledger) (k : Json) (y : Ledger) → one l k ≡ Ok y → count y ≤ count l + (1 + weight k)) → each one start j ≡ Ok x → count x ≤ count start + weight j
each_count one start j x more e =
    from (elements j) _ x e (λ js ej e1. omega (arith, gathered_count one 0 start js x more e1, elements_weight j js (there (as_array j) NotArray js ej)))

optional_count : (name : List ℕ) (meaning : Json → Result Ledger Fault) (default : Ledger) (j : Json) (x : Ledger) → ((k : Json) (y : Ledger) → meaning k ≡ Ok y → count y ≤ count default + weight k) → optional name meaning default j ≡ Ok x → count x ≤ count default + weight j
optional_count name meaning default j x more e = by (member name j) refl e
  where
    by : (o : Option Json) → member name j ≡ o → optional_in name meaning default o ≡ Ok x → count x ≤ count default + weight j
    by None is e = subst (λ y. count y ≤ count default + weight j) (same_value default x e) (omega arith)
    by (Some k) is e = omega (arith, more k x (without_step _ (meaning k) x e), got_weight name j k (not_null (get name j) k is))

-- ---- applications and local states

application_count : (o : Option StoredApplication) (l : Ledger) (id : ℕ) (app : StoredApplication) (x : Ledger) → application_beside o l id app ≡ Ok x → count x ≤ suc (count l)
unfolding count
application_count None l id app x e = subst (λ y. count y ≤ suc (count l)) (same_value (raised id (with_application l id app)) x e) (omega (arith, insert_longer nat_cmp l.applications id app))
application_count (Some old) l id app x e = subst (λ y. count y ≤ suc (count l)) (passed (is_same_stored old app) l x (here Differs) e).1 (omega arith)

local_count : (o : Option Entries) (l : Ledger) (who : Address) (id : ℕ) (s : Entries) (x : Ledger) → local_state_beside o l who id s ≡ Ok x → count x ≤ suc (count l)
unfolding count
local_count None l who id s x e = subst (λ y. count y ≤ suc (count l)) (same_value (raised id (with_local_state l who id s)) x e) (omega (arith, insert_longer account_cmp l.local_states (who, id) s))
local_count (Some old) l who id s x e = subst (λ y. count y ≤ suc (count l)) (passed (is_same_state old s) l x (here Differs) e).1 (omega arith)

-- ---- what is read

one_application : (end : ℕ) (sources : Sources) (l : Ledger) (j : Json) (x : Ledger) → application end sources l j ≡ Ok x → count x ≤ count l + (1 + weight j)
one_application end sources l j x e =
    from (still_known application_names j) _ x e (λ u eu e1.
    from (required (codes "id") (id_below end) j) _ x e1 (λ id ei e2.
    from (required (codes "params") (params sources id) j) _ x e2 (λ app ea e3. omega (arith, application_count (application_at l id) l id app x e3))))

one_local : (end : ℕ) (who : Address) (l : Ledger) (j : Json) (x : Ledger) → local end who l j ≡ Ok x → count x ≤ count l + (1 + weight j)
one_local end who l j x e =
    from (still_known local_names j) _ x e (λ u eu e1.
    from (required (codes "id") (id_below end) j) _ x e1 (λ id ei e2.
    from (optional (codes "key-value") (state (local_room (application_at l id))) [] j) _ x e2 (λ s es e3. omega (arith, local_count (local_state_at l who id) l who id s x e3))))

-- an element that is passed over adds nothing
passing_count : (there : Bool) (one : Ledger → Json → Result Ledger Fault) → ((l : Ledger) (j : Json) (x : Ledger) → one l j ≡ Ok x → count x ≤ count l + (1 + weight j)) → (l : Ledger) (j : Json) (x : Ledger) → unless_placeholder there one l j ≡ Ok x → count x ≤ count l + (1 + weight j)
passing_count there one more l j x e = passed_or_read (λ y. count y ≤ count l + (1 + weight j)) there one l j x (omega arith) (more l j x) e

one_account : (there : Bool) (end : ℕ) (l : Ledger) (j : Json) (x : Ledger) → account there end l j ≡ Ok x → count x ≤ count l + (1 + weight j)
one_account there end l j x e =
    from (still_known account_names j) _ x e (λ u eu e1.
    from (required (codes "address") address j) _ x e1 (λ who ew e2.
    omega (arith, optional_count (codes "apps-local-state") (each (unless_placeholder there (local end who)) l) l j x (λ k y is. each_count (unless_placeholder there (local end who)) l k y (passing_count there (local end who) (λ m i z got. one_local end who m i z got)) is) e2)))

bare_count : (next : Option ℕ) → count (bare_ledger next) ≡ 0
unfolding count
bare_count next = refl

ledger_count : (there : Bool) (next : Option ℕ) (sources : Sources) (j : Json) (x : Ledger) → ledger there next sources j ≡ Ok x → count x ≤ 2 * weight j
ledger_count there next sources j x e =
    let end = end_of_ids next in
    let one = unless_placeholder there (application end sources) in
    from (applications there next sources j) _ x e (λ l el e1.
    let apps = optional_count (codes "apps") (each one (bare_ledger next)) (bare_ledger next) j l (λ k y is. each_count one (bare_ledger next) k y (passing_count there (application end sources) (λ m i z got. one_application end sources m i z got)) is) el in
    let states = optional_count (codes "accounts") (each (account there end) l) l j x (λ k y is. each_count (account there end) l k y (λ m i z got. one_account there end m i z got) is) e1 in
    omega (arith, apps, states, bare_count next))

document_count : (j : Json) (x : Document) → document j ≡ Ok x → count x.ledger ≤ 2 * weight j
document_count j x e =
    from (reject_unknown document_names j) _ x e (λ u eu e1.
    from (front j) _ x e1 (λ f ef e2.
    from (all_sources (has_placeholders j) j) _ x e2 (λ sources es e3.
    from (ledger (has_placeholders j) f.next_id sources j) _ x e3 (λ l el e4.
    from (optional (codes "txns") (transactions sources) [] j) _ x e4 (λ calls ec e5.
    from (targets sources l (length calls)) _ x e5 (λ v ev e6.
    subst (λ (y : Document). count y.ledger ≤ 2 * weight j) (same_value (record { ledger = l; header = f.header; calls = calls }) x e6) (ledger_count (has_placeholders j) f.next_id sources j l el)))))))

-- where arrays have fewer than 2^31 elements in all, four bytes count applications and states
pub is_countable : (j : Json) (x : Document) → weight j < 2 ^ 31 → document j ≡ Ok x → IsCountable x.ledger
unfolding count
is_countable j x few e = let total = document_count j x e in record { applications = omega (arith, few, total); local_states = omega (arith, few, total) }
