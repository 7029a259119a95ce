-- Every call leads to a later ledger: none brings an application back that was deleted, or makes one with another id than the
-- next.
use Rattle.std.proofs.Common.{◌≡◌, ℕ, ◌+◌, ◌≤◌, Bool, true, false, [], ◌∷◌, Option, None, Some, Ok, Err, refl, sym, ap, ◌∙◌, subst, arith}
use Rattle.std.specs.Prelude.{◌==◌, is_none}
use Rattle.std.proofs.lemmas.Bool.{eqb-true}
use Rattle.avm_ledger.specs.declared.application.Application.{Application}
use Rattle.avm_ledger.specs.declared.application.StoredApplication.{StoredApplication}
use Rattle.avm_ledger.specs.declared.header.Header.{Header}
use Rattle.avm_states.specs.Entries.{Entries, with_entry, without_entry}
use Rattle.avm_ledger.specs.Ledgers.{IsInOrder, IsOrderly, Ledger, application_at, with_application, with_row, with_state, without_application}
use Rattle.avm_items.specs.declared.call_data.CallData.{CallData}
use Rattle.avm_items.specs.declared.item.Item.TheVariants as item
use Rattle.avm_items.specs.declared.item_value.ItemValue.TheVariants as value
use Rattle.avm_items.specs.LedgerItems.{at, put_one}
use Rattle.avm_items.proofs.Puts.{has_what_was_put, ids_apart, other_application, other_without, stays_in_order}
use Rattle.avm_ops.specs.Frame.{Context, After, Stepped}
use Rattle.avm_ops.specs.Effect.{effect}
use Rattle.avm_call.specs.Runs.{Position, context_at}
use Rattle.avm_call.specs.Calls.{created, updated, sender_item, execution}
use Rattle.avm_items.specs.Items.{ItemMap}
use Rattle.avm_call.specs.Replay.{ledger_after, replayed}
use Rattle.avm_laws.specs.Orderly.{EveryCallKeepsOrder, IsLaterLedger, ReplaysKeepOrder}
use Rattle.avm_ops.proofs.RowFacts.{OnOk}
use Rattle.avm_ops.proofs.Questions.{along-any}
use Rattle.avm_ops.proofs.WrittenItems.{Writes, Nothing, SameKind, Counted, Deleted, LocalPut, LocalDeleted}
use Rattle.avm_laws.proofs.FollowedRuns.{led, row_stands}
use Rattle.avm_laws.proofs.FollowedCalls.{IsKept}
use Rattle.avm_laws.proofs.Given.{gone_row}
use Rattle.avm_laws.proofs.CallChanges.{after_is, leaves}

none_is : (a : Option StoredApplication) → is_none a ≡ true → a ≡ None
none_is None e = refl
none_is (Some app) e = absurd cc

-- ---- one application is set, or taken away

set_other : (m : Ledger) (id other : ℕ) (app : StoredApplication) → (other ≡ id → ⊥) → application_at m other ≡ None → application_at (with_application m id app) other ≡ None
set_other m id other app n none = other_application m id other app (ids_apart other id n) ∙ none

stands_not : (m : Ledger) (id other : ℕ) → is_none (application_at m id) ≡ false → application_at m other ≡ None → other ≡ id → ⊥
stands_not m id other stands none e =
    let gone : is_none (application_at m id) ≡ true = ap is_none (ap (application_at m) (sym e) ∙ none) in
    let no : true ≡ false = sym gone ∙ stands in
    absurd cc

-- an application that stands is changed
changed : (l m : Ledger) (id : ℕ) (app : StoredApplication) → IsLaterLedger l m → is_none (application_at m id) ≡ false → IsInOrder (with_application m id app) → IsLaterLedger l (with_application m id app)
changed l m id app k stands order = record {
  order = order;
  rises = k.rises;
  gone = λ other h none. let was = k.gone other h none in set_other m id other app (stands_not m id other stands was) was;
  below = λ other h. let was = k.below other h in set_other m id other app (stands_not m id other stands was) was;
}

state_changed : (l m : Ledger) (id : ℕ) (change : Entries → Entries) → IsLaterLedger l m → (a : Option StoredApplication) → application_at m id ≡ a → IsInOrder (with_state m id change a) → IsLaterLedger l (with_state m id change a)
state_changed l m id change k None is order = k
state_changed l m id change k (Some app) is order = changed l m id (record app { state = change app.state }) k (ap is_none is) order

none_after : (m : Ledger) (id other : ℕ) → IsInOrder m → application_at m other ≡ None → (b : Bool) → (other == id) ≡ b → application_at (without_application m id) other ≡ None
none_after m id other order none true e =
    let same : other ≡ id = eqb-true other id e in
    subst (λ n. application_at (without_application m id) n ≡ None) (sym same)
    (none_is (application_at (without_application m id) id) (gone_row (application_at (without_application m id) id) (has_what_was_put m (item.App id) value.Absent order tt)))
none_after m id other order none false e = other_without m id other (ids_apart other id (λ same. let yes : (other == id) ≡ true = ap (λ n. n == id) same ∙ itself id in let no : true ≡ false = sym yes ∙ e in absurd cc)) ∙ none
  where
    itself : (n : ℕ) → (n == n) ≡ true
    itself n = grind arith

taken : (l m : Ledger) (id : ℕ) → IsLaterLedger l m → IsLaterLedger l (without_application m id)
taken l m id k = record {
  order = stays_in_order m (item.App id) value.Absent k.order;
  rises = k.rises;
  gone = λ other h none. none_after m id other k.order (k.gone other h none) (other == id) refl;
  below = λ other h. none_after m id other k.order (k.below other h) (other == id) refl;
}

-- ---- the steps of a program

led_later : (l m : Ledger) (c : Context) (w : ItemMap) → IsLaterLedger l m → (h : Writes m c w) → IsLaterLedger l (led m c w h)
led_later l m c w k (Nothing is) = k
led_later l m c w k (SameKind key v put same is) = state_changed l m c.current (λ s. with_entry s key v) k (application_at m c.current) refl (stays_in_order m (item.Key c.current key) (value.Key v) k.order)
led_later l m c w k (Counted key v put room is) = state_changed l m c.current (λ s. with_entry s key v) k (application_at m c.current) refl (stays_in_order m (item.Key c.current key) (value.Key v) k.order)
led_later l m c w k (Deleted key is) = state_changed l m c.current (λ s. without_entry s key) k (application_at m c.current) refl (stays_in_order m (item.Key c.current key) value.Absent k.order)
led_later l m c w k (LocalPut who state key v there put room is) =
    record { order = stays_in_order m (item.Local who c.current) (value.Local (with_entry state key v)) k.order; rises = k.rises; gone = k.gone; below = k.below }
led_later l m c w k (LocalDeleted who state key there is) =
    record { order = stays_in_order m (item.Local who c.current) (value.Local (without_entry state key)) k.order; rises = k.rises; gone = k.gone; below = k.below }

-- ---- a creation

made : (l m : Ledger) (row : Application) → IsLaterLedger l m → application_at m m.next_id ≡ None
    → IsLaterLedger l (put_one (put_one m item.NextApp (value.NextApp (m.next_id + 1))) (item.App m.next_id) (value.App row))
made l m row k none =
    let n = put_one m item.NextApp (value.NextApp (m.next_id + 1)) in
    let app = with_row (application_at n m.next_id) row in
    let rises : l.next_id ≤ m.next_id = k.rises in
    record {
      order = stays_in_order n (item.App m.next_id) (value.App row) (stays_in_order m item.NextApp (value.NextApp (m.next_id + 1)) k.order);
      rises = omega arith;
      gone = λ other h was. set_other n m.next_id other app (λ same. omega (arith, same)) (k.gone other h was);
      below = λ other h. set_other n m.next_id other app (λ same. omega (arith, same)) (k.below other (omega arith));
    }

-- ---- all parts of a call

any_ok : (R : After → Type 0) → ((after : After) → R after) → (r : Stepped) → OnOk R r
any_ok R h (Ok after) = h after
any_ok R h (Err f) = tt

-- the ledger at a position of a program is a later one
abbrev pub IsLaterAt : Ledger → Position → Ledger → Type 0
IsLaterAt l p m = IsLaterLedger l m

-- each part of a call leads from a later ledger to a later ledger
pub later_kept : (l : Ledger) (call : CallData) (header : Header) → IsKept call header (IsLaterLedger l) (IsLaterAt l)
later_kept l call header = record {
  new = λ new m k few none. made l m (created call) k none;
  opted_in = λ m id row k is. record { order = stays_in_order m (sender_item call id) (value.Local []) k.order; rises = k.rises; gone = k.gone; below = k.below };
  opted_out = λ m id k. record { order = stays_in_order m (sender_item call id) value.Absent k.order; rises = k.rises; gone = k.gone; below = k.below };
  row = λ c m id row k is.
      changed l m id (with_row (application_at m id) (updated call row)) k (row_stands (application_at m id) row is) (stays_in_order m (item.App id) (value.App (updated call row)) k.order);
  gone = λ m id k. taken l m id k;
  begins = λ m id row w k is. k;
  steps = λ m id row k is p n i next read row_is kp.
      along-any (at n) _ (any_ok _ (λ after place w. led_later l n (context_at (execution call header id row) p) after.writes kp w)) (effect (context_at (execution call header id row) p) i.opcode i.immediates);
  ends = λ p m k. k;
}

-- ---- the laws

-- an orderly ledger is a later ledger of itself
pub begins : (l : Ledger) → IsOrderly l → IsLaterLedger l l
begins l o = record { order = o.order; rises = omega arith; gone = λ id h none. none; below = o.below }

-- a later ledger is orderly
pub orderly_after : (l m : Ledger) → IsLaterLedger l m → IsOrderly m
orderly_after l m k = record { order = k.order; below = k.below }

pub every_call_keeps_order : EveryCallKeepsOrder
every_call_keeps_order l call header o =
    let left = leaves l call header (IsLaterLedger l) (IsLaterAt l) (later_kept l call header) o (begins l o) in
    subst (IsLaterLedger l) (sym (after_is l call header (IsLaterLedger l) o left)) left.keeps

-- later than a later one
later_still : (l m n : Ledger) → IsLaterLedger l m → IsLaterLedger m n → IsLaterLedger l n
later_still l m n h k = record {
  order = k.order;
  rises = omega (arith, h.rises, k.rises);
  gone = λ id was none. k.gone id (omega (arith, h.rises)) (h.gone id was none);
  below = k.below;
}

pub replays_keep_order : ReplaysKeepOrder
replays_keep_order l header [] o = begins l o
replays_keep_order l header (call ∷ calls) o =
    let after = every_call_keeps_order l call header o in
    later_still l (ledger_after l call header) (replayed (ledger_after l call header) header calls) after
    (replays_keep_order (ledger_after l call header) header calls (orderly_after l (ledger_after l call header) after))
