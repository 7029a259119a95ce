-- What a call leaves of a look-up of a ledger: a written item stands afterwards, so it was of no deleted application; an unwritten
-- one that stands has its old value; one of an id never given is absent before and after.
use Rattle.std.proofs.Common.{◌≡◌, ℕ, ◌<◌, ◌≤◌, Bool, true, false, nat_lt, Option, None, Some, refl, sym, ap, ◌∙◌, subst, arith}
use Rattle.std.specs.Prelude.{◌&&◌, is_none, unwrap_or}
use Rattle.avm_ledger.specs.declared.application.StoredApplication.{StoredApplication}
use Rattle.avm_ledger.specs.declared.header.Header.{Header}
use Rattle.avm_ledger.specs.Ledgers.{IsOrderly, Ledger, application_at}
use Rattle.avm_items.specs.declared.call_data.CallData.{CallData}
use Rattle.avm_items.specs.declared.item.Item.{Item}
use Rattle.avm_items.specs.declared.item.Item.TheVariants as item
use Rattle.avm_items.specs.declared.item_value.ItemValue.{ItemValue}
use Rattle.avm_items.specs.Items.{ItemMap, Look, value_in}
use Rattle.avm_items.specs.LedgerItems.{at, is_of_gone, counts_value, entry_value, AreChanges, pruned}
use Rattle.avm_items.specs.Asks.{result_over}
use Rattle.avm_call.specs.Calls.{CallResult, call_result}
use Rattle.avm_call.specs.Replay.{changes_on, ledger_after}
use Rattle.avm_laws.specs.LedgerLooks.{IsLookOf, is_of_deleted}
use Rattle.avm_laws.specs.Orderly.{IsLaterLedger}
use Rattle.avm_laws.proofs.FollowedCalls.{Leaves}
use Rattle.avm_laws.proofs.CallChanges.{after_is, leaves}
use Rattle.avm_laws.proofs.LaterLedgers.{IsLaterAt, begins, later_kept, orderly_after}
use Rattle.avm_laws.proofs.LedgerLooks.{calls_are_the_ledgers}
use Rattle.avm_laws.proofs.ReadCalls.{pruned_alike}
use Rattle.avm_laws.proofs.Pruned.{are_changes}
use Rattle.mv_history.specs.History.{lookup_after}
use Rattle.mv_parts.specs.CallHistory.{same_item}
use Rattle.mv_parts.specs.CallLaws.{LeavesLookup}

-- ---- an application that was deleted stays gone

both_true : (a b : Bool) → (a && b) ≡ true → (a ≡ true) × (b ≡ true)
both_true true true e = (refl, refl)
both_true true false e = absurd cc
both_true false b e = absurd cc

none_of : (a : Option StoredApplication) → is_none a ≡ true → a ≡ None
none_of None e = refl
none_of (Some app) e = absurd cc

lt_true : (a b : ℕ) → nat_lt a b ≡ true → a < b
lt_true a b e = grind (arith, e)

lt_false : (a b : ℕ) → nat_lt a b ≡ false → b ≤ a
lt_false a b e = grind (arith, e)

id_gone : (l m : Ledger) (id : ℕ) → IsLaterLedger l m → (is_none (application_at l id) && nat_lt id l.next_id) ≡ true → is_none (application_at m id) ≡ true
id_gone l m id k e =
    let parts = both_true (is_none (application_at l id)) (nat_lt id l.next_id) e in
    ap is_none (k.gone id (lt_true id l.next_id parts.1) (none_of (application_at l id) parts.0))

deleted_stays : (l m : Ledger) (x : Item) → IsLaterLedger l m → is_of_deleted l x ≡ true → is_of_gone m x ≡ true
deleted_stays l m (item.Counts id) k e = id_gone l m id k e
deleted_stays l m (item.Key id key) k e = id_gone l m id k e
deleted_stays l m item.NextApp k e = absurd cc
deleted_stays l m (item.App id) k e = absurd cc
deleted_stays l m (item.Local who id) k e = absurd cc

-- what stands after a call was not deleted before it
pub not_deleted : (l m : Ledger) (x : Item) → IsLaterLedger l m → is_of_gone m x ≡ false → is_of_deleted l x ≡ false
not_deleted l m x k stands = by (is_of_deleted l x) refl
  where
    by : (b : Bool) → is_of_deleted l x ≡ b → b ≡ false
    by true e = sym (deleted_stays l m x k e) ∙ stands
    by false e = refl

-- an id that no application had
unused : (l m : Ledger) (id : ℕ) → IsOrderly l → IsLaterLedger l m → (is_none (application_at m id) && nat_lt id m.next_id) ≡ false → is_none (application_at m id) ≡ true → (application_at l id ≡ None) × (application_at m id ≡ None) × (nat_lt id l.next_id ≡ false)
unused l m id o k e gone =
    let late : nat_lt id m.next_id ≡ false = ap (λ b. b && nat_lt id m.next_id) (sym gone) ∙ e in
    let above : m.next_id ≤ id = lt_false id m.next_id late in
    let rises : l.next_id ≤ m.next_id = k.rises in
    let over : l.next_id ≤ id = omega arith in
    (o.below id over, none_of (application_at m id) gone, grind (arith, over))

never_given : (a b : Bool) → b ≡ false → (a && b) ≡ false
never_given true b e = e
never_given false b e = refl

unused_lookup : (l m : Ledger) (look : Look) (x : Item) → IsLookOf l look → IsLaterLedger l m → is_of_deleted m x ≡ false → is_of_gone m x ≡ true → look x ≡ at m x
unused_lookup l m look (item.Counts id) is k e gone =
    let u = unused l m id is.orderly k e gone in
    is.same (item.Counts id) (never_given (is_none (application_at l id)) (nat_lt id l.next_id) u.2) ∙ ap counts_value u.0 ∙ sym (ap counts_value u.1)
unused_lookup l m look (item.Key id key) is k e gone =
    let u = unused l m id is.orderly k e gone in
    is.same (item.Key id key) (never_given (is_none (application_at l id)) (nat_lt id l.next_id) u.2) ∙ ap (λ a. entry_value a key) u.0 ∙ sym (ap (λ a. entry_value a key) u.1)
unused_lookup l m look item.NextApp is k e gone = absurd cc
unused_lookup l m look (item.App id) is k e gone = absurd cc
unused_lookup l m look (item.Local who id) is k e gone = absurd cc

-- ---- the look-up after

lookup_after_changes : (l m : Ledger) (look : Look) (changes : ItemMap) → IsLookOf l look → IsLaterLedger l m → AreChanges l m changes → (x : Item) → is_of_deleted m x ≡ false → lookup_after same_item changes look x ≡ at m x
lookup_after_changes l m look changes is k are x kept = by_found (value_in changes x) refl
  where
    by_stands : value_in changes x ≡ None → (b : Bool) → is_of_gone m x ≡ b → look x ≡ at m x
    by_stands none false stands = is.same x (not_deleted l m x k stands) ∙ sym (are.unchanged x none stands)
    by_stands none true gone = unused_lookup l m look x is k kept gone

    by_found : (found : Option ItemValue) → value_in changes x ≡ found → unwrap_or found (look x) ≡ at m x
    by_found None e = by_stands e (is_of_gone m x) refl
    by_found (Some v) e = sym (are.changed x v e).1

-- ---- the call

abbrev writes_on : Ledger → CallData → Header → ItemMap
writes_on l call header = (result_over (at l) (call_result call header)).1

left_by : (l : Ledger) (call : CallData) (header : Header) → IsOrderly l → Leaves l (IsLaterLedger l) (writes_on l call header)
left_by l call header o = leaves l call header (IsLaterLedger l) (IsLaterAt l) (later_kept l call header) o (begins l o)

changes_alike : (l : Ledger) (look : Look) (call : CallData) (header : Header) → IsLookOf l look → pruned look (writes_on l call header) ≡ changes_on l call header
changes_alike l look call header is =
    let left = left_by l call header is.orderly in
    pruned_alike look (at l) (writes_on l call header) left.sorted (λ x v there. is.same x (not_deleted l left.ledger x left.keeps (left.stands x v there)))

pub calls_leave_lookups : (l : Ledger) (look : Look) (call : CallData) (header : Header) → IsLookOf l look → LeavesLookup l look call header
calls_leave_lookups l look call header is =
    let left = left_by l call header is.orderly in
    let w = writes_on l call header in
    let after : ledger_after l call header ≡ left.ledger = after_is l call header (IsLaterLedger l) is.orderly left in
    let same = calls_are_the_ledgers l look call header is in
    let changes : pruned look (result_over look (call_result call header)).1 ≡ changes_on l call header = ap (λ (r : CallResult). pruned look r.1) same ∙ changes_alike l look call header is in
    record {
      result = λ i. ((same i).0, changes i);
      after = subst (λ m. IsLookOf m (lookup_after same_item (changes_on l call header) look)) (sym after)
          (record { orderly = orderly_after l left.ledger left.keeps; same = lookup_after_changes l left.ledger look (changes_on l call header) is left.keeps (are_changes l (IsLaterLedger l) w left) });
    }
