-- That every step of a checked call stays within the bounds of the stack and of byte strings.
use Rattle.std.proofs.Common.{◌≡◌, ℕ, List, [], ◌∷◌, Option, None, Some, Ok, Err, refl, subst, arith}
use Rattle.std.specs.Prelude.{All, IfSome}
use Rattle.std.specs.BTreeMap.{is_at}
use Rattle.std.proofs.lemmas.List.Elements.{All-nil, All-cons, All-head, All-tail, All-replicate}
use Rattle.std.proofs.lemmas.Map.Entries.{All-lookup}
use Rattle.teal_value.specs.declared.value.Value.{Value}
use Rattle.teal_value.specs.declared.value.Value.TheVariants.{Uint, Bytes}
use Rattle.avm_ledger.specs.declared.application.Application.{Application}
use Rattle.avm_ledger.specs.declared.application.StoredApplication.{StoredApplication}
use Rattle.avm_ledger.specs.declared.header.Header.{Header}
use Rattle.avm_states.specs.Entries.{Entries, byte_cmp, value_of_key}
use Rattle.avm_ledger.specs.Ledgers.{Ledger, account_cmp, application_at, local_state_at}
use Rattle.avm_ledger.specs.LedgerRules.{IsStateValue, IsStateEntry, IsLocalStateBelow}
use Rattle.avm_ledger.proofs.KeptOrder.{application_rules, orderly}
use Rattle.avm_items.specs.declared.call_data.Completion.{Completion}
use Rattle.avm_items.specs.declared.call_data.CallData.{CallData}
use Rattle.avm_items.specs.declared.item.Item.{Item}
use Rattle.avm_items.specs.declared.item.Item.TheVariants as item
use Rattle.avm_items.specs.declared.item_value.ItemValue.TheVariants as value
use Rattle.avm_items.specs.Items.{key_value}
use Rattle.avm_items.specs.LedgerItems.{at, row_value, counts_value, entry_value, local_value}
use Rattle.avm_ops.specs.Frame.{After, Stepped}
use Rattle.avm_ops.specs.Effect.{effect}
use Rattle.avm_call.specs.Ends.{is_program}
use Rattle.avm_call.specs.Runs.{Execution, Position, context_at, position_after}
use Rattle.avm_call.specs.Calls.{program_of, execution}
use Rattle.avm_call.proofs.Asked.{program_fits}
use Rattle.avm_call.proofs.Placed.{program_is_short}
use Rattle.avm_rule_laws.specs.Rules.{MayCall, IsSound}
use Rattle.avm_rule_laws.specs.Bounds.{IsShortValue, IsWithinBounds, RunsStayWithinBounds}
use Rattle.avm_ops.proofs.RowFacts.{OnOk}
use Rattle.avm_ops.proofs.Questions.{along-both, along-each}
use Rattle.avm_ops.proofs.WrittenItems.{Writes, IsThere}
use Rattle.avm_laws.proofs.FollowedRuns.{StepsKeep, led, row_stands}
use Rattle.avm_laws.proofs.FollowedCalls.{IsKept}
use Rattle.avm_rule_laws.proofs.BoundedRows.{IsShort, IsShortCall, Bounds, Good, effect_bounded}
use Rattle.avm_ops.proofs.RowValues.{Holds}
use Rattle.avm_rule_laws.proofs.ProgramValues.{read_short, constants_short}
use Rattle.avm_rule_laws.proofs.CheckedCalls.{checked_calls_are_short, checked_calls_bring_programs}
use Rattle.avm_rule_laws.proofs.KeptRules.{SoundAt, sound_kept, stored_row}
use Rattle.avm_laws.proofs.CallChanges.{written_over}

-- ---- what a ledger holds

value_short : (v : Value) → IsStateValue v → IsShortValue v
value_short (Uint n) h = tt
value_short (Bytes s) h = omega (arith, h)

state_short : (state : Entries) → All IsStateEntry state → All (λ e. IsShortValue e.1) state
state_short [] all = All-nil (λ e. IsShortValue e.1)
state_short (e ∷ state) all =
    All-cons (λ e. IsShortValue e.1) e state (value_short e.1 (All-head IsStateEntry e state all).1) (state_short state (All-tail IsStateEntry e state all))

entry_short : (o : Option Value) → IfSome o IsShortValue → Holds IsShortValue (key_value o)
entry_short None h = tt
entry_short (Some v) h = h

items_short : (m : Ledger) → IsSound m → (x : Item) → Holds IsShortValue (at m x)
items_short m s item.NextApp = tt
items_short m s (item.App id) = by (application_at m id) refl
  where
    by : (a : Option StoredApplication) → application_at m id ≡ a → Holds IsShortValue (row_value a)
    by None is = tt
    by (Some app) is = omega (arith, (application_rules m id app s.rules is).row.creator)
items_short m s (item.Counts id) = by (application_at m id)
  where
    by : (a : Option StoredApplication) → Holds IsShortValue (counts_value a)
    by None = tt
    by (Some app) = tt
items_short m s (item.Key id key) = by (application_at m id) refl
  where
    by : (a : Option StoredApplication) → application_at m id ≡ a → Holds IsShortValue (entry_value a key)
    by None is = tt
    by (Some app) is =
        entry_short (value_of_key app.state key) (All-lookup IsShortValue (is_at (byte_cmp key)) app.state (state_short app.state (application_rules m id app s.rules is).state.entries))
items_short m s (item.Local who id) = by (local_state_at m who id) (All-lookup (λ state. All IsStateEntry state) (is_at (account_cmp (who, id))) m.local_states (entries_of m.local_states s.rules.local_states))
  where
    entries_of : (es : List _) → All (IsLocalStateBelow m.next_id m.applications) es → All (λ e. All IsStateEntry e.1) es
    entries_of [] all = All-nil (λ e. All IsStateEntry e.1)
    entries_of (e ∷ es) all =
        All-cons (λ e. All IsStateEntry e.1) e es (All-head (IsLocalStateBelow m.next_id m.applications) e es all).state.entries (entries_of es (All-tail (IsLocalStateBelow m.next_id m.applications) e es all))

    by : (a : Option Entries) → IfSome a (λ state. All IsStateEntry state) → Holds IsShortValue (local_value a)
    by None h = tt
    by (Some state) h = state_short state h

-- ---- the steps of a program

row_short : (c : Completion) (m : Ledger) (id : ℕ) (row : Application) → IsSound m → at m (item.App id) ≡ value.App row → IsShort (program_of c row)
row_short c m id row s is =
    stored_row m id row is (λ app there same.
    let rules = application_rules m id app s.rules there in
    let few = program_is_short (program_of c app.row) (program_fits is_program app.row (rules.row.approval, rules.row.clear) c) in
    subst (λ r. IsShort (program_of c r)) same (omega (arith, few)))

abbrev BoundedAt : Position → Ledger → Type 0
BoundedAt p m = SoundAt p m × IsWithinBounds p.stack p.scratch

abbrev Keeps : Execution → Ledger → (Position → Ledger → Type 0) → Position → After → Type 0
Keeps e m K p after = (place : ℕ) (w : Writes m (context_at e p) after.writes) → K (position_after p after place) (led m (context_at e p) after.writes w)

both_keep : (e : Execution) (m : Ledger) (p : Position) (r : Stepped) → OnOk (Keeps e m SoundAt p) r × OnOk Good r → OnOk (Keeps e m BoundedAt p) r
both_keep e m p (Ok after) h = λ place w. (h.0 place w, h.1)
both_keep e m p (Err f) h = tt

steps_bounded : (call : CallData) (header : Header) → IsShortCall call → (id : ℕ) (row : Application) → StepsKeep (execution call header id row) row SoundAt → StepsKeep (execution call header id row) row BoundedAt
steps_bounded call header short id row sound p m i next read is k =
    let e = execution call header id row in
    let few = row_short call.completion m id row k.0.0 is in
    let t = effect (context_at e p) i.opcode i.immediates in
    let bounds : Bounds m (context_at e p) = record {
      here = k.1;
      strings = constants_short e.program p.passed few;
      call = short;
      items = items_short m k.0.0;
      stands = row_stands (application_at m id) row is;
    } in
    along-each (at m) (λ x. Unit {0}) (λ r. OnOk (Keeps e m SoundAt p) r × OnOk Good r) (OnOk (Keeps e m BoundedAt p)) t (both_keep e m p)
    (along-both (at m) (λ x. Unit {0}) (IsThere m) (OnOk (Keeps e m SoundAt p)) (OnOk Good) t (sound p m i next read is k.0)
    (effect_bounded m (context_at e p) bounds i.opcode i.immediates (read_short e.program p.place i next few read)))

bounded_kept : (call : CallData) (header : Header) → MayCall call header → IsShortCall call → IsKept call header IsSound BoundedAt
bounded_kept call header may short =
    let k = sound_kept call header may in
    record {
      new = k.new;
      opted_in = k.opted_in;
      opted_out = k.opted_out;
      row = k.row;
      gone = k.gone;
      begins = λ m id row w s is. (k.begins m id row w s is, record { height = omega arith; operands = All-nil IsShortValue; stored = All-replicate IsShortValue 256 (Uint 0) tt });
      steps = λ m id row s is. steps_bounded call header short id row (k.steps m id row s is);
      ends = λ p m b. b.0.0;
    }

pub runs_stay_within_bounds : RunsStayWithinBounds
runs_stay_within_bounds l call header t row steps s of_bytes words passes is row_is =
    let may : MayCall call header = record { call_of_bytes = of_bytes; programs = checked_calls_bring_programs call passes; words = words } in
    (written_over l call header t row steps IsSound BoundedAt (bounded_kept call header may (checked_calls_are_short call of_bytes passes)) (orderly l s.rules) s is row_is).keeps.1
