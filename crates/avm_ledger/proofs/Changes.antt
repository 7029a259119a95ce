-- What a change of one part of a ledger leaves: the order of its maps, and a value written in place.
use Rattle.std.proofs.Common.{◌≡◌, ℕ, Bool, true, false, List, None, Some, refl, sym, ap, ◌∙◌, subst}
use Rattle.std.specs.Ordering.{is_eq, nat_cmp, ordering_then}
use Rattle.std.specs.declared.cmp.Ordering.{Ordering}
use Rattle.std.specs.declared.cmp.Ordering.TheVariants.{Less, Equal, Greater}
use Rattle.std.specs.Cmp.{IsTotalOrder, on_total}
use Rattle.std.proofs.lemmas.Cmp.{nat_cmp_total, then_total}
use Rattle.std.proofs.lemmas.Map.Steps.{set_value_same}
use Rattle.std.specs.FinMap.{nat_cmp-IsAntisymmetric}
use Rattle.std.specs.Map.{set_value}
use Rattle.std.specs.BTreeMap.{is_at}
use Rattle.teal_value.specs.declared.address.Address.{Address}
use Rattle.avm_ledger.specs.declared.application.Application.{Application}
use Rattle.avm_ledger.specs.declared.application.StoredApplication.{StoredApplication}
use Rattle.avm_states.specs.Entries.{Entries, byte_cmp, IsInKeyOrder}
use Rattle.avm_ledger.specs.Ledgers.{Ledger, account_cmp, application_at, with_application, without_application, with_row, with_state, IsInOrder}
use Rattle.avm_states.proofs.Maps.{lookup-inserted, lookup-inserted_other, lookup-removed, lookup-removed_other, is_Equal, sorted-inserted, sorted-removed, set_value-there}
use Rattle.avm_states.proofs.KeyOrder.{byte_same, byte_total}

pub account_total : IsTotalOrder account_cmp
account_total = then_total (on_total (λ x. x.0.0) byte_total) (on_total (λ x. x.1) nat_cmp_total)

-- ---- keys that tie are the same

-- addresses with the same bytes are the same
pub address_is : (a b : Address) → a.0 ≡ b.0 → a ≡ b
address_is a b e = λ i. record { 0 = e i }

both_Equal : (r s : Ordering) → ordering_then r s ≡ Equal → (r ≡ Equal) × (s ≡ Equal)
both_Equal Less s e = absurd cc
both_Equal Equal s e = (refl, e)
both_Equal Greater s e = absurd cc

pub account_same : (x y : Address × ℕ) → account_cmp x y ≡ Equal → x ≡ y
account_same x y e =
    let both = both_Equal (byte_cmp x.0.0 y.0.0) (nat_cmp x.1 y.1) e in
    let who = address_is x.0 y.0 (byte_same x.0.0 y.0.0 both.0) in
    let id = nat_cmp-IsAntisymmetric x.1 y.1 both.1 in
    λ i. (who i, id i)

-- ---- the order stays

-- an application that is set is found under its id
pub set_application : (l : Ledger) (id : ℕ) (app : StoredApplication) → application_at (with_application l id app) id ≡ Some app
set_application l id app = lookup-inserted nat_cmp_total id app l.applications

pub found_is : {A : Type 0} {a b : A} → Some a ≡ Some b → a ≡ b
found_is e = cc

state_in_order : (l : Ledger) (id : ℕ) (app : StoredApplication) → IsInOrder l → IsInKeyOrder app.state
    → (other : ℕ) (found : StoredApplication) → application_at (with_application l id app) other ≡ Some found → (b : Bool) → is_eq (nat_cmp other id) ≡ b → IsInKeyOrder found.state
state_in_order l id app o s other found e true same =
    let other_is : other ≡ id = nat_cmp-IsAntisymmetric other id (is_Equal (nat_cmp other id) same) in
    let app_is : app ≡ found = found_is (sym (set_application l id app) ∙ ap (application_at (with_application l id app)) (sym other_is) ∙ e) in
    subst (λ a. IsInKeyOrder a.state) app_is s
state_in_order l id app o s other found e false differs =
    o.global_states other found (sym (lookup-inserted_other nat_cmp_total other id app l.applications differs) ∙ e)

-- a ledger stays in order when an application with its keys in order is set
pub with_application_in_order : (l : Ledger) (id : ℕ) (app : StoredApplication) → IsInOrder l → IsInKeyOrder app.state → IsInOrder (with_application l id app)
with_application_in_order l id app o s = record {
  applications = sorted-inserted nat_cmp_total id app l.applications o.applications;
  global_states = λ other found e. state_in_order l id app o s other found e (is_eq (nat_cmp other id)) refl;
  local_states = o.local_states;
}

-- no value is both absent and there
pub no_application : {A : Type 0} {a : A} {P : Type 0} → None ≡ Some a → P
no_application e = absurd cc

state_without : (l : Ledger) (id : ℕ) → IsInOrder l
    → (other : ℕ) (found : StoredApplication) → application_at (without_application l id) other ≡ Some found → (b : Bool) → is_eq (nat_cmp other id) ≡ b → IsInKeyOrder found.state
state_without l id o other found e true same =
    let other_is : other ≡ id = nat_cmp-IsAntisymmetric other id (is_Equal (nat_cmp other id) same) in
    no_application (sym (lookup-removed nat_cmp_total id l.applications o.applications) ∙ ap (application_at (without_application l id)) (sym other_is) ∙ e)
state_without l id o other found e false differs =
    o.global_states other found (sym (lookup-removed_other nat_cmp_total other id l.applications differs) ∙ e)

pub without_application_in_order : (l : Ledger) (id : ℕ) → IsInOrder l → IsInOrder (without_application l id)
without_application_in_order l id o = record {
  applications = sorted-removed nat_cmp_total id l.applications o.applications;
  global_states = λ other found e. state_without l id o other found e (is_eq (nat_cmp other id)) refl;
  local_states = o.local_states;
}

-- ---- an application written in place

-- writing over an application that stands gives the ledger with the new one set
pub written_application : (l : Ledger) (id : ℕ) (app w : StoredApplication) (new : List (ℕ × StoredApplication)) → IsInOrder l → Some app ≡ application_at l id
    → new ≡ set_value (is_at (nat_cmp id)) l.applications w → record l { applications = new } ≡ with_application l id w
written_application l id app w new o found is =
    ap (λ a. record l { applications = a }) (is ∙ set_value-there nat_cmp_total id w app l.applications o.applications (sym found))

-- the ledger stays in order where the keys of the application written are in order
pub written_in_order : (l : Ledger) (id : ℕ) (app w : StoredApplication) (new : List (ℕ × StoredApplication)) → IsInOrder l → Some app ≡ application_at l id
    → new ≡ set_value (is_at (nat_cmp id)) l.applications w → IsInKeyOrder w.state → IsInOrder (record l { applications = new })
written_in_order l id app w new o found is s = subst IsInOrder (sym (written_application l id app w new o found is)) (with_application_in_order l id w o s)

-- an application written with a changed global state gives the ledger with that change
pub written_state : (l : Ledger) (id : ℕ) (app : StoredApplication) (change : Entries → Entries) (state : Entries) (new : List (ℕ × StoredApplication)) → IsInOrder l
    → Some app ≡ application_at l id → new ≡ set_value (is_at (nat_cmp id)) l.applications (record app { state = state }) → state ≡ change app.state
    → record l { applications = new } ≡ with_state l id change (application_at l id)
written_state l id app change state new o found is e =
    written_application l id app (record app { state = state }) new o found is
    ∙ ap (λ s. with_application l id (record app { state = s })) e
    ∙ ap (with_state l id change) found

-- writing an application with the global state that it had leaves the ledger as it was
pub kept_state : (l : Ledger) (id : ℕ) (app : StoredApplication) (state : Entries) (new : List (ℕ × StoredApplication))
    → Some app ≡ application_at l id → new ≡ set_value (is_at (nat_cmp id)) l.applications (record app { state = state }) → state ≡ app.state → record l { applications = new } ≡ l
kept_state l id app state new found is e =
    ap (λ a. record l { applications = a })
    (is ∙ ap (λ s. set_value (is_at (nat_cmp id)) l.applications (record app { state = s })) e ∙ set_value_same (is_at (nat_cmp id)) l.applications app (sym found))

-- an application written with another row gives the ledger with that row set
pub written_row : (l : Ledger) (id : ℕ) (app : StoredApplication) (row written : Application) (new : List (ℕ × StoredApplication)) → IsInOrder l → Some app ≡ application_at l id
    → new ≡ set_value (is_at (nat_cmp id)) l.applications (record app { row = written }) → written ≡ row → record l { applications = new } ≡ with_application l id (with_row (application_at l id) row)
written_row l id app row written new o found is e =
    written_application l id app (record app { row = written }) new o found is
    ∙ ap (λ x. with_application l id (record app { row = x })) e
    ∙ ap (λ a. with_application l id (with_row a row)) found
