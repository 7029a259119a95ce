-- What the laws of a ledger's bytes say of a ledger that was read.
use Rattle.std.proofs.Common.{◌≡◌, ℕ, ◌<◌, Bool, true, false, cond, List, [], ◌∷◌, Option, Some, Result, Ok, Err, All, subst, ap, ◌∙◌}
use Rattle.std.specs.Prelude.{IfOk}
use Rattle.std.specs.Ordering.{nat_cmp, is_eq}
use Rattle.std.specs.Map.{lookup}
use Rattle.std.specs.BTreeMap.{is_at}
use Rattle.std.proofs.lemmas.List.Elements.{All-head, All-tail}
use Rattle.teal_value.specs.Answer.{Gives}
use Rattle.teal_value.specs.declared.failure.Failure.{Failure}
use Rattle.avm_ledger.specs.declared.ledger_fault.LedgerFault.{LedgerFault}
use Rattle.avm_ledger.specs.declared.application.StoredApplication.{StoredApplication}
use Rattle.avm_states.specs.Entries.{IsInKeyOrder}
use Rattle.avm_ledger.specs.Ledgers.{Ledger, IsInOrder}
use Rattle.avm_ledger.specs.LedgerReader.{ledger_at}
use Rattle.avm_ledger.specs.LedgerRules.{IsApplicationBelow, KeepsRules, IsCountable}
use Rattle.avm_ledger.specs.Encodings.{ledger_bytes}
use Rattle.avm_ledger.proofs.Changes.{found_is, no_application}
use Rattle.avm_ledger.proofs.LedgerBack.{ledger_back_alone}
use Rattle.avm_ledger.proofs.LedgerEncoded.{ledger_encoded}
use Rattle.avm_ledger.proofs.LedgerKept.{ledger_kept}

found_by : (first : StoredApplication) (b : Bool) (later : Option StoredApplication) (app : StoredApplication) → IsInKeyOrder first.state → (later ≡ Some app → IsInKeyOrder app.state) → cond b (Some first) later ≡ Some app
    → IsInKeyOrder app.state
found_by first true later app here more e = subst (λ a. IsInKeyOrder a.state) (found_is e) here
found_by first false later app here more e = more e

states_in_order : (next id : ℕ) (apps : List (ℕ × StoredApplication)) (app : StoredApplication) → All (IsApplicationBelow next) apps → lookup (is_at (nat_cmp id)) apps ≡ Some app → IsInKeyOrder app.state
states_in_order next id [] app all e = no_application e
states_in_order next id (x ∷ xs) app all e =
    found_by x.1 (is_eq (nat_cmp id x.0)) (lookup (is_at (nat_cmp id)) xs) app (All-head (IsApplicationBelow next) x xs all).state.rising
    (states_in_order next id xs app (All-tail (IsApplicationBelow next) x xs all)) e

-- the rules have the maps in order
pub in_order : (l : Ledger) → KeepsRules l → IsInOrder l
in_order l keeps = record {
  applications = keeps.rising_ids;
  global_states = λ id app e. states_in_order l.next_id id l.applications app keeps.applications e;
  local_states = keeps.rising_accounts;
}

-- a ledger that is read keeps the rules
pub rules_of : (bytes : List ℕ) (r : Result Ledger (Failure LedgerFault)) → All (λ b. b < 256) bytes → Gives (λ l. l) r (ledger_at bytes) → IfOk r (λ l. KeepsRules l)
rules_of bytes (Ok l) all e = (ledger_kept bytes l all e).0
rules_of bytes (Err d) all e = tt

-- a ledger that is read is encoded by those very bytes
pub encoding_of : (bytes : List ℕ) (r : Result Ledger (Failure LedgerFault)) → All (λ b. b < 256) bytes → Gives (λ l. l) r (ledger_at bytes) → IfOk r (λ l. ledger_bytes l ≡ bytes)
encoding_of bytes (Ok l) all e = ledger_encoded bytes l all e
encoding_of bytes (Err d) all e = tt

-- bytes of a countable ledger that keeps the rules are read as it, unless memory is refused
pub only_its_ledger : (bytes : List ℕ) (r : Result Ledger (Failure LedgerFault)) (l : Ledger) → Gives (λ x. x) r (ledger_at bytes) → KeepsRules l → IsCountable l → bytes ≡ ledger_bytes l → Gives (λ x. x) r (Ok l)
only_its_ledger bytes r l given keeps few e = subst (λ m. Gives (λ x. x) r m) (ap ledger_at e ∙ ledger_back_alone l keeps few) given
