-- The laws of what calls write, ask for and change.
use Rattle.std.proofs.Common.{◌≡◌, ℕ, Some, Ok, Err, refl, sym, ap, ◌∙◌, subst}
use Rattle.std.specs.Prelude.{All, unwrap_or, false}
use Rattle.avm_ledger.specs.declared.application.Application.{Application}
use Rattle.avm_ledger.specs.declared.header.Header.{Header}
use Rattle.avm_ledger.specs.Ledgers.{IsOrderly, Ledger}
use Rattle.avm_items.specs.declared.call_data.CallData.{CallData}
use Rattle.avm_items.specs.declared.item.Item.{Item}
use Rattle.avm_items.specs.CallFields.{creates, new_keys}
use Rattle.avm_items.specs.Items.{ItemMap, IsInItemOrder, Known, value_in}
use Rattle.avm_items.specs.LedgerItems.{at, put, is_of_gone, AreChanges, pruned}
use Rattle.avm_items.specs.Asks.{result_over, items_asked}
use Rattle.avm_ops.specs.Frame.{After, Stepped}
use Rattle.avm_ops.specs.Effect.{effect}
use Rattle.avm_call.specs.Runs.{Position, context_at, start, path}
use Rattle.avm_call.specs.Calls.{Target, admitted, prepared, execution, call_result}
use Rattle.avm_call.specs.Replay.{changes_on, ledger_after}
use Rattle.avm_laws.specs.Calls.{written_after}
use Rattle.avm_ops.proofs.RowFacts.{OnOk}
use Rattle.avm_ops.proofs.Questions.{Along, along-any, along-result, along-asked}
use Rattle.avm_ops.proofs.WrittenItems.{IsThere}
use Rattle.avm_laws.proofs.Following.{Follows}
use Rattle.avm_laws.proofs.FollowedRuns.{Stands, run_stands}
use Rattle.avm_laws.proofs.FollowedCalls.{Leaves, IsKept, IsTarget, OnTarget, admitted_is, prepared_over, call_leaves}
use Rattle.avm_laws.proofs.Given.{put_gives}
use Rattle.avm_ledger.proofs.KeptOrder.{next_is_free}
use Rattle.avm_laws.proofs.Pruned.{are_changes, put_pruned, put_written}

-- ---- nothing more is kept

abbrev pub Any : Ledger → Type 0
Any m = Unit {0}

abbrev pub AnyAt : Position → Ledger → Type 0
AnyAt p m = Unit {0}

any_ok : (R : After → Type 0) → ((after : After) → R after) → (r : Stepped) → OnOk R r
any_ok R h (Ok after) = h after
any_ok R h (Err f) = tt

-- each part of a call keeps the condition that is true of every ledger
pub all_kept : (call : CallData) (header : Header) → IsKept call header Any AnyAt
all_kept call header = record {
  new = λ new m k few none. tt;
  opted_in = λ m id row k is. tt;
  opted_out = λ m id k. tt;
  row = λ c m id row k is. tt;
  gone = λ m id k. tt;
  begins = λ m id row w k is. tt;
  steps = λ m id row k is p n i next read row_is kp. along-any (at n) _ (any_ok _ (λ after place w. tt)) (effect (context_at (execution call header id row) p) i.opcode i.immediates);
  ends = λ p m k. tt;
}

-- a call whose parts keep K leaves a ledger that has what it wrote, and K still holds
pub leaves : (l : Ledger) (call : CallData) (header : Header) (K : Ledger → Type 0) (Kp : Position → Ledger → Type 0) → IsKept call header K Kp → IsOrderly l → K l → Leaves l K (result_over (at l) (call_result call header)).1
leaves l call header K Kp kept orderly here =
    along-result (at l) (IsThere l) (λ r. Leaves l K r.1) (call_result call header) (call_leaves call header l K Kp kept orderly.order here (next_is_free l orderly))

-- the ledger that is left is the ledger after the call
pub after_is : (l : Ledger) (call : CallData) (header : Header) (K : Ledger → Type 0) → IsOrderly l → (left : Leaves l K (result_over (at l) (call_result call header)).1) → ledger_after l call header ≡ left.ledger
after_is l call header K orderly left = put_pruned l K (result_over (at l) (call_result call header)).1 orderly.order left

-- what a call writes is in the order of items
pub sorted_writes : (l : Ledger) (call : CallData) (header : Header) → IsOrderly l → IsInItemOrder (result_over (at l) (call_result call header)).1
sorted_writes l call header orderly = (leaves l call header Any AnyAt (all_kept call header) orderly tt).sorted

-- ---- the laws

-- a call asks for no key and no counts of an application that is gone
pub asks_for_none_gone : (l : Ledger) (call : CallData) (header : Header) → IsOrderly l → All (λ x. is_of_gone l x ≡ false) (items_asked (at l) (call_result call header))
asks_for_none_gone l call header orderly =
    along-asked (at l) (IsThere l) (λ r. Leaves l Any r.1) (call_result call header) (call_leaves call header l Any AnyAt (all_kept call header) orderly.order tt (next_is_free l orderly))

-- what a call hands on are the changes from the ledger before it to the ledger after it
pub hands_on_its_changes : (l : Ledger) (call : CallData) (header : Header) → IsOrderly l → AreChanges l (ledger_after l call header) (changes_on l call header)
hands_on_its_changes l call header orderly =
    let left = leaves l call header Any AnyAt (all_kept call header) orderly tt in
    let w = (result_over (at l) (call_result call header)).1 in
    subst (λ m. AreChanges l m (pruned (at l) w)) (sym (after_is l call header Any orderly left)) (are_changes l Any w left)

-- the ledger after a call is the one before with all its writes
pub loses_no_write : (l : Ledger) (call : CallData) (header : Header) → IsOrderly l → ledger_after l call header ≡ put l (result_over (at l) (call_result call header)).1
loses_no_write l call header orderly =
    let left = leaves l call header Any AnyAt (all_kept call header) orderly tt in
    let w = (result_over (at l) (call_result call header)).1 in
    after_is l call header Any orderly left ∙ sym (put_written l Any w orderly.order left)

-- along the path of a program, the ledger with what has been written
pub path_stands : (l : Ledger) (call : CallData) (header : Header) (t : Target) (row : Application) (steps : ℕ) (K : Ledger → Type 0) (Kp : Position → Ledger → Type 0) → IsKept call header K Kp → IsOrderly l → K l
    → result_over (at l) (admitted call) ≡ Ok t → t.row ≡ Some row → Along (at l) (IsThere l) (λ end. Stands (execution call header t.id row) row l Kp end.0) (path (execution call header t.id row) (prepared call t.id) steps)
path_stands l call header t row steps K Kp kept orderly here is row_is =
    let e = execution call header t.id row in
    let w = prepared call t.id in
    let target : IsTarget l call (creates call) t =
    subst (OnTarget (IsTarget l call (creates call))) is (along-result (at l) (IsThere l) (OnTarget (IsTarget l call (creates call))) (admitted call) (admitted_is l call)) in
    let over = prepared_over call header l K Kp kept orderly.order here (next_is_free l orderly) t row row_is (creates call) refl target in
    run_stands e row l Kp (kept.steps over.ledger t.id row over.keeps over.current) steps (start e.program w)
    (record { ledger = over.ledger; follows = over.follows; current = over.current; keeps = kept.begins over.ledger t.id row w over.keeps over.current })

-- the ledger with what has been written after some steps
pub written_over : (l : Ledger) (call : CallData) (header : Header) (t : Target) (row : Application) (steps : ℕ) (K : Ledger → Type 0) (Kp : Position → Ledger → Type 0) → IsKept call header K Kp → IsOrderly l → K l
    → result_over (at l) (admitted call) ≡ Ok t → t.row ≡ Some row → Stands (execution call header t.id row) row l Kp (result_over (at l) (path (execution call header t.id row) (prepared call t.id) steps)).0
written_over l call header t row steps K Kp kept orderly here is row_is =
    let e = execution call header t.id row in
    along-result (at l) (IsThere l) (λ end. Stands e row l Kp end.0) (path e (prepared call t.id) steps) (path_stands l call header t row steps K Kp kept orderly here is row_is)

-- a run's writes, put into its first ledger, give the ledger that has them
pub put_followed : (new : Known) (l : Ledger) (w : ItemMap) (m : Ledger) → IsOrderly l → Follows new l w m → put l w ≡ m
put_followed new l w m orderly f = put_gives l m w f.order (record { order = orderly.order; sorted = f.sorted; has = λ y c stands. sym (f.has y); stands = f.stands })

-- with a run's writes put, an item has what was written, or else its value before
pub has_what_was_written : (l : Ledger) (call : CallData) (header : Header) (t : Target) (row : Application) (steps : ℕ) → IsOrderly l → result_over (at l) (admitted call) ≡ Ok t → t.row ≡ Some row
    → (x : Item) → at (put l (written_after l call header t row steps)) x ≡ unwrap_or (value_in (written_after l call header t row steps) x) (at l x)
has_what_was_written l call header t row steps orderly is row_is x =
    let o = written_over l call header t row steps Any AnyAt (all_kept call header) orderly tt is row_is in
    ap (λ m. at m x) (put_followed (new_keys call t.id) l (written_after l call header t row steps) o.ledger orderly o.follows) ∙ o.follows.has x
