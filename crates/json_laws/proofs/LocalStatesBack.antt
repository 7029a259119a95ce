-- Local states are read back from how they are shown, account by account.
use Rattle.std.proofs.Common.{◌≡◌, ℕ, ◌+◌, ◌<◌, false, List, [], ◌∷◌, ◌++◌, length, All, Ok, refl, sym, ap, ◌∙◌, subst, arith}
use Rattle.std.specs.Prelude.{◌^◌, map, max}
use Rattle.std.specs.Map.{keys_of}
use Rattle.std.specs.List.Sorted.{IsStrictlySortedBy}
use Rattle.std.proofs.lemmas.List.{map-append}
use Rattle.std.proofs.lemmas.List.Elements.{All-map}
use Rattle.teal_value.specs.declared.address.Address.{Address}
use Rattle.avm_states.specs.Entries.{Entries}
use Rattle.avm_ledger.specs.declared.application.StoredApplication.{StoredApplication}
use Rattle.avm_ledger.specs.LedgerReader.{local_room, stored_in}
use Rattle.avm_ledger.specs.LedgerRules.{IsLocalStateBelow}
use Rattle.avm_ledger.specs.Ledgers.{Ledger, account_cmp}
use Rattle.avm_ledger.proofs.Changes.{account_total}
use Rattle.avm_rule_laws.specs.Rules.{AreBytes}
use Rattle.json_documents.specs.Arrays.{each}
use Rattle.json_documents.specs.Faults.{in_step}
use Rattle.json_documents.specs.Members.{least_unknown}
use Rattle.json_documents.specs.Steps.{at_name}
use Rattle.json_documents.specs.Accounts.{account, local}
use Rattle.json_documents.specs.Drafts.{add_local_state}
use Rattle.json_views.specs.Accounts.{local_of, locals_name, shown_local}
use Rattle.json_views.specs.ByAccount.{Account, shown_account}
use Rattle.json_views.specs.Documents.{array_of}
use Rattle.json_views.specs.ShownLedgers.{shown_accounts}
use Rattle.json_laws.specs.OfBytes.{IsLocalStateOfBytes}
use Rattle.json_laws.proofs.ApplicationsBack.{id_back}
use Rattle.json_laws.proofs.ByAccountBack.{EachAddsItself, OfItem, grouped_back}
use Rattle.json_laws.proofs.ArraysBack.{at_seam, then_in}
use Rattle.avm_ledger.proofs.RisingReading.{goes_last}
use Rattle.json_laws.proofs.OrderBack.{not_there}
use Rattle.json_laws.proofs.PlainBack.{address_back}
use Rattle.json_laws.proofs.StatesBack.{state_back}

-- a local state by account and application, and those of a ledger
abbrev entry_of : Address × (ℕ × Entries) → (Address × ℕ) × Entries
entry_of e = ((e.0, e.1.0), e.1.1)

both_ways : (es : List ((Address × ℕ) × Entries)) → map entry_of (map local_of es) ≡ es
both_ways [] = refl
both_ways (e ∷ es) = ap (λ more. e ∷ more) (both_ways es)

-- an account of 32 bytes
IsAccount : Address → Type 0
IsAccount who = (length who.0 ≡ 32) × AreBytes who.0

-- an account is read by reading its local states
account_by_items : (end : ℕ) (l m : Ledger) (a : Account (ℕ × Entries)) → IsAccount a.who → each (local end a.who) l (array_of shown_local a.items) ≡ Ok m
    → account false end l (shown_account locals_name shown_local a) ≡ Ok m
unfolding least_unknown IsAccount
account_by_items end l m a is e = then_in _ _ _ _ _ (address_back a.who is.0 is.1) (ap (in_step (at_name locals_name)) e)

module _ (next : ℕ) (apps : List (ℕ × StoredApplication)) (small : next < 2 ^ 64) where
  local_back : (e : (Address × ℕ) × Entries) (before : List ((Address × ℕ) × Entries)) → IsLocalStateBelow next apps e → IsLocalStateOfBytes e
      → local next e.0.0 (record { next_id = next; applications = apps; local_states = before }) (shown_local (e.0.1, e.1))
      ≡ add_local_state (record { next_id = next; applications = apps; local_states = before }) e.0.0 e.0.1 e.1
  unfolding least_unknown
  local_back e before is of =
      then_in _ _ _ _ _ (id_back next e.0.1 is.positive is.below small)
      (then_in _ _ _ _ _ (state_back (local_room (stored_in apps e.0.1)) e.1 is.state of.state) refl)

  -- the ledger of these applications, and of the local states that were read
  abbrev pub so_far : List (Address × (ℕ × Entries)) → Ledger
  so_far es = record { next_id = next; applications = apps; local_states = map entry_of es }

  module _ (states : List ((Address × ℕ) × Entries)) (rising : IsStrictlySortedBy account_cmp (keys_of states)) (all : All (IsLocalStateBelow next apps) states) (of : All IsLocalStateOfBytes states) where
    locals_add : EachAddsItself (local next) shown_local so_far (map local_of states)
    locals_add before e rest is =
        let front = map entry_of before in
        let behind = map entry_of rest in
        let placed : front ++ entry_of e ∷ behind ≡ states = sym (map-append entry_of before (e ∷ rest)) ∙ ap (map entry_of) is ∙ both_ways states in
        let rules = at_seam (IsLocalStateBelow next apps) front (entry_of e) behind states placed all in
        let order : IsStrictlySortedBy account_cmp (keys_of (front ++ entry_of e ∷ behind)) = subst (λ es. IsStrictlySortedBy account_cmp (keys_of es)) (sym placed) rising in
        let kept : max next (e.1.0 + 1) ≡ next = omega (arith, rules.below) in
        let whole : map entry_of (before ++ e ∷ []) ≡ front ++ entry_of e ∷ [] = map-append entry_of before (e ∷ []) in
        let added : add_local_state (so_far before) e.0 e.1.0 e.1.1 ≡ Ok (so_far (before ++ e ∷ [])) =
        rw (not_there account_total front behind (entry_of e) order, goes_last account_total front behind (entry_of e) order, kept, whole) refl in
        local_back (entry_of e) front rules (at_seam IsLocalStateOfBytes front (entry_of e) behind states placed of) ∙ added

    accounts_of_bytes : All (OfItem IsAccount) (map local_of states)
    unfolding IsAccount
    accounts_of_bytes = All-map (OfItem IsAccount) local_of states (λ k d lt. ((all k d lt).account, (of k d lt).account))

    -- the local states of a ledger are read back from the accounts that are shown
    pub local_states_back : each (account false next) (so_far []) (shown_accounts (record { next_id = next; applications = apps; local_states = states })) ≡ Ok (record { next_id = next; applications = apps; local_states = states })
    local_states_back =
        grouped_back (local next) shown_local so_far locals_name (account false next) IsAccount (map local_of states) (account_by_items next) accounts_of_bytes locals_add
        ∙ ap (λ es. Ok (record { next_id = next; applications = apps; local_states = es })) (both_ways states)
