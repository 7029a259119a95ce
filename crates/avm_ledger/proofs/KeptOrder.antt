-- A ledger that keeps the rules is in order, and no application has the next id or one above it.
use Rattle.std.proofs.Common.{◌≡◌, ℕ, ◌≤◌, true, Option, None, Some, refl, arith}
use Rattle.std.specs.Ordering.{nat_cmp}
use Rattle.std.specs.BTreeMap.{is_at}
use Rattle.std.specs.FinMap.{nat_cmp-IsAntisymmetric}
use Rattle.std.proofs.lemmas.List.Elements.{All-contains}
use Rattle.std.proofs.lemmas.Map.Views.{Contains-from_lookup}
use Rattle.avm_ledger.specs.declared.application.StoredApplication.{StoredApplication}
use Rattle.avm_ledger.specs.Ledgers.{Ledger, application_at, IsOrderly}
use Rattle.avm_ledger.specs.LedgerRules.{IsApplicationBelow, KeepsRules}
use Rattle.avm_states.proofs.Maps.{is_Equal}
use Rattle.avm_ledger.proofs.LedgerRead.{in_order}

same_id : (x y : ℕ) → is_at (nat_cmp x) y ≡ true → x ≡ y
same_id x y e = nat_cmp-IsAntisymmetric x y (is_Equal (nat_cmp x y) e)

-- the rules of an application
pub application_rules : (l : Ledger) (id : ℕ) (app : StoredApplication) → KeepsRules l → application_at l id ≡ Some app → IsApplicationBelow l.next_id (id, app)
application_rules l id app keeps is =
    All-contains (IsApplicationBelow l.next_id) l.applications (id, app) keeps.applications (Contains-from_lookup {eq = λ x y. is_at (nat_cmp x) y} same_id id app l.applications is)

-- a ledger that keeps the rules is in order, and no application has an id at or above the next
pub orderly : (l : Ledger) → KeepsRules l → IsOrderly l
orderly l keeps = record { order = in_order l keeps; below = λ id h. by id h (application_at l id) refl }
  where
    by : (id : ℕ) → l.next_id ≤ id → (a : Option StoredApplication) → application_at l id ≡ a → a ≡ None
    by id h None is = refl
    by id h (Some app) is = absurd (omega (arith, (application_rules l id app keeps is).below))

-- in an orderly ledger, no application has the next id
pub next_is_free : (l : Ledger) → IsOrderly l → application_at l l.next_id ≡ None
next_is_free l o = o.below l.next_id (omega arith)
