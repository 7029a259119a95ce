-- What ledgers keep that are put together of applications and accounts.
use Rattle.std.proofs.Common.{◌≡◌, ℕ, ◌+◌, ◌^◌, ◌<◌, ◌≤◌, Bool, true, leb, ltb, ◌&&◌, List, [], max, Option, Some, None, Ok, refl, sym, subst, arith}
use Rattle.std.specs.Prelude.{All, codes, is_ok}
use Rattle.std.specs.Ordering.{nat_cmp}
use Rattle.std.specs.FinMap.{nat_cmp-IsAntisymmetric}
use Rattle.std.specs.Map.{keys_of}
use Rattle.std.specs.List.Sorted.{IsStrictlySortedBy}
use Rattle.std.proofs.lemmas.Bool.{and_parts, leb-true, ltb-true}
use Rattle.std.proofs.lemmas.Cmp.{nat_cmp_total}
use Rattle.std.proofs.lemmas.List.Elements.{All-nil, All-weaker}
use Rattle.teal_value.specs.declared.address.Address.{Address}
use Rattle.teal_check.specs.WellFormed.{checked}
use Rattle.avm_states.specs.Entries.{Entries}
use Rattle.avm_states.specs.Schemas.{most_global_entries, most_local_entries, no_entries}
use Rattle.avm_ledger.specs.declared.application.StoredApplication.{StoredApplication}
use Rattle.avm_ledger.specs.Ledgers.{Ledger, account_cmp, application_at, local_state_at, with_application, with_local_state}
use Rattle.avm_ledger.specs.LedgerReader.{local_room, room_of_schema}
use Rattle.avm_ledger.specs.LedgerRules.{IsApplicationBelow, IsLocalStateBelow, KeepsRules}
use Rattle.avm_ledger.proofs.Changes.{account_same, account_total}
use Rattle.avm_states.proofs.Maps.{sorted-inserted}
use Rattle.avm_rule_laws.specs.Rules.{AreBytes}
use Rattle.json.specs.Json.{Json}
use Rattle.json_documents.specs.declared.document_fault.DocumentFault.TheVariants.{Differs, IdRange}
use Rattle.json_documents.specs.Faults.{here}
use Rattle.json_documents.specs.Members.{reject_unknown, required, optional}
use Rattle.json_documents.specs.Deleted.{still_known}
use Rattle.json_documents.specs.Arrays.{each}
use Rattle.json_documents.specs.Plain.{address, uint}
use Rattle.json_documents.specs.Accounts.{account, local}
use Rattle.json_documents.specs.Applications.{Limits, application, limits, params}
use Rattle.json_documents.specs.Drafts.{application_beside, is_same_state, is_same_stored, local_state_beside, raised}
use Rattle.json_documents.specs.Documents.{applications, bare_ledger, ledger}
use Rattle.json_documents.specs.Placeholders.{unless_placeholder}
use Rattle.json_documents.specs.Ids.{end_of_ids, first_next_id, id_below, in_range, next_id}
use Rattle.json_documents.specs.Programs.{given_or, program}
use Rattle.json_documents.specs.Schemas.{schema}
use Rattle.json_documents.specs.Sources.{Sources, program_for}
use Rattle.json_documents.specs.States.{state}
use Rattle.json_documents.specs.Tables.{account_names, application_names, local_names, params_names}
use Rattle.json_laws.specs.OfBytes.{IsEntryOfBytes}
use Rattle.json_laws.proofs.AcceptedSteps.{Gives, IsInherited, Keeps, each_keeps, from, needed_gives, nothing_asked, optional_gives, passed, passing_keeps, same_value}
use Rattle.json_laws.proofs.AcceptedMaps.{all_inserted}
use Rattle.json_laws.proofs.AcceptedValues.{IsStateOf, IsWholeAddress, address_whole, nothing_in, schema_in, state_kept, uint_small}
use Rattle.json_laws.proofs.AcceptedSources.{AreSources, given_program_keeps}

-- ---- ids

-- an id below this end
record IsIdBelow (end id : ℕ) : Type 0 where
  positive : 1 ≤ id
  below : id < end

id_in_range : (end n id : ℕ) → in_range end n ≡ Ok id → IsIdBelow end id
id_in_range end n id e =
    let p = passed (leb 1 n && ltb n end) n id (here IdRange) e in
    let parts = and_parts (leb 1 n) (ltb n end) p.0 in
    subst (IsIdBelow end) p.1 (record { positive = leb-true 1 n parts.0; below = ltb-true n end parts.1 })

id_is_below : (end : ℕ) (j : Json) (id : ℕ) → id_below end j ≡ Ok id → IsIdBelow end id
id_is_below end j id e = from (uint j) _ id e (λ n en e1. id_in_range end n id e1)

-- the next id, where it is given
abbrev pub IsNextId : Option ℕ → Type 0
IsNextId None = Unit {0}
IsNextId (Some n) = (1 ≤ n) × (n < 2 ^ 64)

-- a next id that was read is positive and below 2^64
pub next_id_is : (j : Json) (o : Option ℕ) → next_id j ≡ Ok o → IsNextId o
next_id_is j o e =
    from (uint j) _ o e (λ n en e1.
    let p = passed (leb 1 n) (Some n) o (here IdRange) e1 in
    subst IsNextId p.1 (leb-true 1 n p.0, uint_small j n en))

-- ---- applications

-- an application of bytes, whose programs keep P
pub record IsStored (P : List ℕ → Type 0) (app : StoredApplication) : Type 0 where
  pub creator : IsWholeAddress app.row.creator
  pub approval : P app.row.approval
  pub clear : P app.row.clear
  pub global_schema : app.row.global_schema.uints + app.row.global_schema.bytes ≤ most_global_entries
  pub local_schema : app.row.local_schema.uints + app.row.local_schema.bytes ≤ most_local_entries
  pub state : IsStateOf (room_of_schema app.row.global_schema) app.state

-- an application by its id, below the next one
pub record IsApplication (P : List ℕ → Type 0) (next : ℕ) (e : ℕ × StoredApplication) : Type 0 where
  pub positive : 1 ≤ e.0
  pub below : e.0 < next
  pub stored : IsStored P e.1

-- schemas within their limits, and a state within the first of them
record AreLimits (l : Limits) : Type 0 where
  global_schema : l.global_schema.uints + l.global_schema.bytes ≤ most_global_entries
  local_schema : l.local_schema.uints + l.local_schema.bytes ≤ most_local_entries
  state : IsStateOf (room_of_schema l.global_schema) l.state

limits_kept : (j : Json) (x : Limits) → limits j ≡ Ok x → AreLimits x
limits_kept j x e =
    from (optional (codes "global-state-schema") (schema (codes "num-byte-slice") (codes "num-uint") most_global_entries) no_entries j) _ x e (λ global eg e1.
    from (optional (codes "local-state-schema") (schema (codes "num-byte-slice") (codes "num-uint") most_local_entries) no_entries j) _ x e1 (λ local el e2.
    from (optional (codes "global-state") (state (room_of_schema global)) [] j) _ x e2 (λ entries es e3.
    let one = schema_in (codes "global-state-schema") (codes "num-byte-slice") (codes "num-uint") most_global_entries j global eg in
    let two = schema_in (codes "local-state-schema") (codes "num-byte-slice") (codes "num-uint") most_local_entries j local el in
    let three = optional_gives nothing_asked (IsStateOf (room_of_schema global)) (codes "global-state") (state (room_of_schema global)) [] (nothing_in (room_of_schema global)) (λ k s q is. state_kept (room_of_schema global) k s is) j entries tt es in
    subst AreLimits (same_value (record { global_schema = global; local_schema = local; state = entries }) x e3) (record { global_schema = one; local_schema = two; state = three }))))

-- ---- ledgers

-- a local state that keeps the rules, of bytes
pub record IsLocalState (next : ℕ) (apps : List (ℕ × StoredApplication)) (e : (Address × ℕ) × Entries) : Type 0 where
  pub rules : IsLocalStateBelow next apps e
  pub account : AreBytes e.0.0.0
  pub values : All IsEntryOfBytes e.1

-- a ledger that is put together, with ids below this end
pub record IsDraft (P : List ℕ → Type 0) (end : ℕ) (l : Ledger) : Type 0 where
  pub positive : 1 ≤ l.next_id
  pub within : l.next_id ≤ end
  pub rising_ids : IsStrictlySortedBy nat_cmp (keys_of l.applications)
  pub applications : All (IsApplication P l.next_id) l.applications
  pub rising_accounts : IsStrictlySortedBy account_cmp (keys_of l.local_states)
  pub local_states : All (IsLocalState l.next_id l.applications) l.local_states

-- the same, before any local state is there
record IsFirstDraft (P : List ℕ → Type 0) (end : ℕ) (l : Ledger) : Type 0 where
  draft : IsDraft P end l
  none : l.local_states ≡ []

further_below : (P : List ℕ → Type 0) (next more : ℕ) (e : ℕ × StoredApplication) → next ≤ more → IsApplication P next e → IsApplication P more e
further_below P next more e le is = record { positive = is.positive; below = omega (arith, is.below); stored = is.stored }

further_local : (next more : ℕ) (apps : List (ℕ × StoredApplication)) (e : (Address × ℕ) × Entries) → next ≤ more → IsLocalState next apps e → IsLocalState more apps e
further_local next more apps e le is =
    record { rules = record { positive = is.rules.positive; below = omega (arith, is.rules.below); account = is.rules.account; state = is.rules.state }; account = is.account; values = is.values }

application_added : (P : List ℕ → Type 0) (end : ℕ) (l : Ledger) (id : ℕ) (app : StoredApplication) → IsFirstDraft P end l → IsIdBelow end id → IsStored P app → IsFirstDraft P end (raised id (with_application l id app))
application_added P end l id app first below stored =
    let d = first.draft in
    let next = max l.next_id (id + 1) in
    let more : l.next_id ≤ next = omega arith in
    let one : IsApplication P next (id, app) = record { positive = below.positive; below = omega arith; stored = stored } in
    record {
      draft = record {
        positive = omega (arith, d.positive);
        within = omega (arith, d.within, below.below);
        rising_ids = sorted-inserted nat_cmp_total id app l.applications d.rising_ids;
        applications = all_inserted nat_cmp (IsApplication P next) nat_cmp-IsAntisymmetric id app l.applications one (All-weaker (IsApplication P l.next_id) (IsApplication P next) (λ e is. further_below P l.next_id next e more is) l.applications d.applications);
        rising_accounts = d.rising_accounts;
        local_states = subst (All (IsLocalState next _)) (sym first.none) (All-nil (IsLocalState next _));
      };
      none = first.none;
    }

application_beside_kept : (P : List ℕ → Type 0) (end : ℕ) (o : Option StoredApplication) (l : Ledger) (id : ℕ) (app : StoredApplication) (x : Ledger) → IsFirstDraft P end l → IsIdBelow end id → IsStored P app
    → application_beside o l id app ≡ Ok x → IsFirstDraft P end x
application_beside_kept P end None l id app x first below stored e = subst (IsFirstDraft P end) (same_value (raised id (with_application l id app)) x e) (application_added P end l id app first below stored)
application_beside_kept P end (Some old) l id app x first below stored e = subst (IsFirstDraft P end) (passed (is_same_stored old app) l x (here Differs) e).1 first

local_state_added : (P : List ℕ → Type 0) (end : ℕ) (l : Ledger) (who : Address) (id : ℕ) (s : Entries) → IsDraft P end l → IsWholeAddress who → IsIdBelow end id → IsStateOf (local_room (application_at l id)) s
    → IsDraft P end (raised id (with_local_state l who id s))
local_state_added P end l who id s d whole below fits =
    let next = max l.next_id (id + 1) in
    let more : l.next_id ≤ next = omega arith in
    let one : IsLocalState next l.applications ((who, id), s) = record {
      rules = record { positive = below.positive; below = omega arith; account = whole.size; state = fits.fits };
      account = whole.of_bytes;
      values = fits.of_bytes;
    } in
    record {
      positive = omega (arith, d.positive);
      within = omega (arith, d.within, below.below);
      rising_ids = d.rising_ids;
      applications = All-weaker (IsApplication P l.next_id) (IsApplication P next) (λ e is. further_below P l.next_id next e more is) l.applications d.applications;
      rising_accounts = sorted-inserted account_total (who, id) s l.local_states d.rising_accounts;
      local_states = all_inserted account_cmp (IsLocalState next l.applications) account_same (who, id) s l.local_states one
          (All-weaker (IsLocalState l.next_id l.applications) (IsLocalState next l.applications) (λ e is. further_local l.next_id next l.applications e more is) l.local_states d.local_states);
    }

local_state_beside_kept : (P : List ℕ → Type 0) (end : ℕ) (o : Option Entries) (l : Ledger) (who : Address) (id : ℕ) (s : Entries) (x : Ledger) → IsDraft P end l → IsWholeAddress who → IsIdBelow end id
    → IsStateOf (local_room (application_at l id)) s → local_state_beside o l who id s ≡ Ok x → IsDraft P end x
local_state_beside_kept P end None l who id s x d whole below fits e = subst (IsDraft P end) (same_value (raised id (with_local_state l who id s)) x e) (local_state_added P end l who id s d whole below fits)
local_state_beside_kept P end (Some old) l who id s x d whole below fits e = subst (IsDraft P end) (passed (is_same_state old s) l x (here Differs) e).1 d

-- ---- what is read

local_kept : (P : List ℕ → Type 0) (end : ℕ) (who : Address) (l : Ledger) (j : Json) (x : Ledger) → IsWholeAddress who → IsDraft P end l → local end who l j ≡ Ok x → IsDraft P end x
local_kept P end who l j x whole d e =
    from (still_known local_names j) _ x e (λ u eu e1.
    from (required (codes "id") (id_below end) j) _ x e1 (λ id ei e2.
    from (optional (codes "key-value") (state (local_room (application_at l id))) [] j) _ x e2 (λ s es e3.
    let below = needed_gives nothing_asked (IsIdBelow end) (codes "id") (id_below end) (λ k n q is. id_is_below end k n is) j id tt ei in
    let room = local_room (application_at l id) in
    let fits = optional_gives nothing_asked (IsStateOf room) (codes "key-value") (state room) [] (nothing_in room) (λ k t q is. state_kept room k t is) j s tt es in
    local_state_beside_kept P end (local_state_at l who id) l who id s x d whole below fits e3)))

account_kept : (P : List ℕ → Type 0) (there : Bool) (end : ℕ) (l : Ledger) (j : Json) (x : Ledger) → IsDraft P end l → account there end l j ≡ Ok x → IsDraft P end x
account_kept P there end l j x d e =
    from (still_known account_names j) _ x e (λ u eu e1.
    from (required (codes "address") address j) _ x e1 (λ who ew e2.
    let whole = needed_gives nothing_asked IsWholeAddress (codes "address") address (λ k a q is. address_whole k a is) j who tt ew in
    optional_gives nothing_asked (IsDraft P end) (codes "apps-local-state") (each (unless_placeholder there (local end who)) l) l d
    (each_keeps nothing_asked (IsDraft P end) (unless_placeholder there (local end who)) l
    (passing_keeps (λ j. Unit {0}) (IsDraft P end) there (local end who) (λ so_far k next q so is. local_kept P end who so_far k next whole so is)) d) j x tt e2))

-- programs that are read as bytes keep P, as those of source text do by `TextsGive`
pub record ProgramsGive (Q : Json → Type 0) (P : List ℕ → Type 0) : Type 0 where
  pub as_bytes : (j : Json) (code : List ℕ) → Q j → program j ≡ Ok code → P code

module _ {Q : Json → Type 0} (inherited : IsInherited Q) (P : List ℕ → Type 0) (programs : ProgramsGive Q P) (sources : Sources) (are : AreSources P sources) where
  params_kept : (id : ℕ) → Gives Q (IsStored P) (params sources id)
  params_kept id j x q e =
      from (reject_unknown params_names j) _ x e (λ u eu e1.
      from (given_or (program_for sources.approvals id) (required (codes "approval-program") program j)) _ x e1 (λ approval ea e2.
      from (given_or (program_for sources.clears id) (required (codes "clear-state-program") program j)) _ x e2 (λ clear ec e3.
      from (required (codes "creator") address j) _ x e3 (λ creator er e4.
      from (limits j) _ x e4 (λ l el e5.
      let within = limits_kept j l el in
      subst (IsStored P) (same_value (record { row = record { creator = creator; approval = approval; clear = clear; global_schema = l.global_schema; local_schema = l.local_schema }; state = l.state }) x e5) (record {
        creator = needed_gives nothing_asked IsWholeAddress (codes "creator") address (λ k a q is. address_whole k a is) j creator tt er;
        approval = given_program_keeps P sources.approvals id (required (codes "approval-program") program j) approval are.approvals (λ is. needed_gives inherited P (codes "approval-program") program programs.as_bytes j approval q is) ea;
        clear = given_program_keeps P sources.clears id (required (codes "clear-state-program") program j) clear are.clears (λ is. needed_gives inherited P (codes "clear-state-program") program programs.as_bytes j clear q is) ec;
        global_schema = within.global_schema;
        local_schema = within.local_schema;
        state = within.state;
      }))))))

  application_kept : (end : ℕ) → Keeps Q (IsFirstDraft P end) (application end sources)
  application_kept end l j x q d e =
      from (still_known application_names j) _ x e (λ u eu e1.
      from (required (codes "id") (id_below end) j) _ x e1 (λ id ei e2.
      from (required (codes "params") (params sources id) j) _ x e2 (λ app ea e3.
      let below = needed_gives nothing_asked (IsIdBelow end) (codes "id") (id_below end) (λ k n q is. id_is_below end k n is) j id tt ei in
      let stored = needed_gives inherited (IsStored P) (codes "params") (params sources id) (params_kept id) j app q ea in
      application_beside_kept P end (application_at l id) l id app x d below stored e3)))

  bare_draft : (next : Option ℕ) → IsNextId next → IsFirstDraft P (end_of_ids next) (bare_ledger next)
  unfolding IsStrictlySortedBy
  bare_draft next is = record {
    draft = record {
      positive = first_positive next is;
      within = first_within next is;
      rising_ids = tt;
      applications = All-nil (IsApplication P (first_next_id next));
      rising_accounts = tt;
      local_states = All-nil (IsLocalState (first_next_id next) []);
    };
    none = refl;
  }
    where
      first_positive : (o : Option ℕ) → IsNextId o → 1 ≤ first_next_id o
      first_positive None is = omega arith
      first_positive (Some n) is = is.0

      first_within : (o : Option ℕ) → IsNextId o → first_next_id o ≤ end_of_ids o
      first_within None is = omega arith
      first_within (Some n) is = omega arith

  -- a ledger that was read is a draft with ids below the end of ids of its document
  pub ledger_kept : (there : Bool) (next : Option ℕ) → IsNextId next → Gives Q (IsDraft P (end_of_ids next)) (ledger there next sources)
  ledger_kept there next is j x q e =
      let end = end_of_ids next in
      let bare = bare_draft next is in
      from (applications there next sources j) _ x e (λ l el e1.
      let first = optional_gives inherited (IsFirstDraft P end) (codes "apps") (each (unless_placeholder there (application end sources)) (bare_ledger next)) (bare_ledger next) bare
      (each_keeps inherited (IsFirstDraft P end) (unless_placeholder there (application end sources)) (bare_ledger next) (passing_keeps Q (IsFirstDraft P end) there (application end sources) (application_kept end)) bare) j l q el in
      optional_gives nothing_asked (IsDraft P end) (codes "accounts") (each (account there end) l) l first.draft
      (each_keeps nothing_asked (IsDraft P end) (account there end) l (λ so_far k next q so is. account_kept P there end so_far k next so is) first.draft) j x tt e1)

-- ---- the rules

end_small : (next : Option ℕ) → IsNextId next → end_of_ids next < 2 ^ 64
end_small None is = omega arith
end_small (Some n) is = is.1

-- a draft keeps the rules of ledgers, where programs that keep P pass the checks
pub draft_keeps_rules : (P : List ℕ → Type 0) (next : Option ℕ) (l : Ledger) → IsNextId next → ((code : List ℕ) → P code → is_ok (checked code) ≡ true) → IsDraft P (end_of_ids next) l → KeepsRules l
draft_keeps_rules P next l is ok d = record {
  next_id = d.positive;
  small = omega (arith, d.within, end_small next is);
  rising_ids = d.rising_ids;
  applications = All-weaker (IsApplication P l.next_id) (IsApplicationBelow l.next_id) (λ e a. record {
    positive = a.positive;
    below = a.below;
    row = record {
      creator = a.stored.creator.size;
      approval = ok e.1.row.approval a.stored.approval;
      clear = ok e.1.row.clear a.stored.clear;
      global_schema = a.stored.global_schema;
      local_schema = a.stored.local_schema;
    };
    state = a.stored.state.fits;
  }) l.applications d.applications;
  rising_accounts = d.rising_accounts;
  local_states = All-weaker (IsLocalState l.next_id l.applications) (IsLocalStateBelow l.next_id l.applications) (λ e s. s.rules) l.local_states d.local_states;
}
