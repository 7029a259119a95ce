-- That every part of a call keeps the rules of a ledger.
use Rattle.std.proofs.Common.{◌≡◌, ℕ, ◌+◌, ◌-◌, ◌^◌, true, false, List, [], ◌∷◌, None, Some, Ok, Err, sym, ap, ◌∙◌, subst, arith}
use Rattle.std.specs.Prelude.{◌==◌, All, IfSome}
use Rattle.std.specs.List.Sorted.{IsStrictlySortedBy}
use Rattle.std.proofs.lemmas.Bool.{eqb-false}
use Rattle.std.proofs.lemmas.List.Elements.{All-nil, All-cons, All-head, All-tail, All-replicate}
use Rattle.teal_value.specs.declared.address.Address.{Address}
use Rattle.teal_value.specs.declared.value.Value.TheVariants.{Uint}
use Rattle.avm_ledger.specs.declared.application.Application.{Application}
use Rattle.avm_ledger.specs.declared.application.StoredApplication.{StoredApplication}
use Rattle.avm_ledger.specs.declared.header.Header.{Header}
use Rattle.avm_states.specs.Entries.{Entries}
use Rattle.avm_ledger.specs.Ledgers.{Ledger, application_at, with_row}
use Rattle.avm_ledger.specs.LedgerReader.{Room, local_room, room_of_schema}
use Rattle.avm_ledger.specs.LedgerRules.{IsStateEntry, IsStateIn, IsApplicationBelow, IsLocalStateBelow}
use Rattle.avm_items.specs.declared.call_data.Completion.{Completion}
use Rattle.avm_items.specs.declared.call_data.Completion.TheVariants as completion
use Rattle.avm_items.specs.declared.call_data.CallData.{CallData}
use Rattle.avm_items.specs.declared.item.Item.TheVariants as item
use Rattle.avm_items.specs.declared.item_value.ItemValue.TheVariants as value
use Rattle.avm_items.specs.CallFields.{creates, new_keys}
use Rattle.avm_items.specs.LedgerItems.{at, put, put_one, row_value}
use Rattle.avm_items.specs.RuleLaws.{IsRowFor}
use Rattle.avm_items.specs.Asks.{result_over}
use Rattle.avm_ops.specs.Frame.{Stepped}
use Rattle.avm_ops.specs.Effect.{effect}
use Rattle.avm_call.specs.Runs.{Execution, Position, context_at, position_after}
use Rattle.avm_call.specs.Calls.{Target, created, updated, sender_item, admitted, program_of, execution}
use Rattle.avm_call.specs.Replay.{ledger_after, replayed}
use Rattle.avm_laws.specs.Calls.{written_after}
use Rattle.avm_rule_laws.specs.Rules.{AreBytes, IsMachineValue, AreMachineValues, IsRowOfBytes, MayCall, IsSound}
use Rattle.avm_ops.proofs.RowFacts.{OnOk}
use Rattle.avm_ops.proofs.Questions.{along-free}
use Rattle.avm_rule_laws.proofs.MachineValues.{IsWord}
use Rattle.avm_ops.proofs.WrittenItems.{Writes, IsThere}
use Rattle.avm_laws.proofs.Following.{the_application}
use Rattle.avm_laws.proofs.FollowedRuns.{StepsKeep, led, row_stands}
use Rattle.avm_laws.proofs.FollowedCalls.{IsKept}
use Rattle.avm_rule_laws.proofs.FittingRows.{Fits, Fit, effect_fits, stored_fits}
use Rattle.avm_rule_laws.proofs.ProgramValues.{read_fits, uints_fit, byte_strings_fit}
use Rattle.avm_ledger.proofs.KeptOrder.{application_rules, orderly}
use Rattle.avm_rule_laws.proofs.SoundPuts.{sound_put, led_sound}
use Rattle.avm_laws.proofs.CallChanges.{leaves, after_is, written_over, put_followed}

-- the ledger is sound, and the stack and the scratch space hold machine values
abbrev pub SoundAt : Position → Ledger → Type 0
SoundAt p m = IsSound m × All IsMachineValue p.stack × All IsMachineValue p.scratch

-- ---- the row of an application that stands

-- a row that the ledger has is that of a stored application
pub stored_row : {P : Type 0} (m : Ledger) (id : ℕ) (row : Application) → at m (item.App id) ≡ value.App row → ((app : StoredApplication) → application_at m id ≡ Some app → app.row ≡ row → P) → P
stored_row m id row is h = the_application m id (row_stands (application_at m id) row is) (λ app there. h app there (same app (sym (ap row_value there) ∙ is)))
  where
    same : (app : StoredApplication) → value.App app.row ≡ value.App row → app.row ≡ row
    same app e = cc

row_of_bytes : (m : Ledger) (id : ℕ) (row : Application) → IsSound m → at m (item.App id) ≡ value.App row → IsRowOfBytes row
row_of_bytes m id row s is =
    stored_row m id row is (λ app there same.
    let h : IfSome (Some app) (λ app. IsRowOfBytes app.row × AreMachineValues app.state) = subst (λ a. IfSome a (λ app. IsRowOfBytes app.row × AreMachineValues app.state)) there (stored_fits m s id) in
    subst IsRowOfBytes same h.0)

-- ---- a new application

nothing_in : (room : Room) → IsStateIn room []
unfolding IsStrictlySortedBy
nothing_in room = record { rising = tt; entries = All-nil IsStateEntry; few = omega arith; uints = omega arith; strings = omega arith }

none_of : (next : ℕ) (apps : List (ℕ × StoredApplication)) (room : Room) (es : List ((Address × ℕ) × Entries)) → All (IsLocalStateBelow next apps) es → All (λ e. e.0.1 ≡ next → IsStateIn room e.1) es
none_of next apps room [] all = All-nil (λ e. e.0.1 ≡ next → IsStateIn room e.1)
none_of next apps room (e ∷ es) all =
    All-cons (λ e. e.0.1 ≡ next → IsStateIn room e.1) e es (λ same. let one = All-head (IsLocalStateBelow next apps) e es all in absurd (omega (arith, one.below, same)))
    (none_of next apps room es (All-tail (IsLocalStateBelow next apps) e es all))

new_sound : (call : CallData) (header : Header) → MayCall call header → creates call ≡ true → (m : Ledger) → IsSound m → (m.next_id == 2 ^ 64 - 1) ≡ false → application_at m m.next_id ≡ None
    → IsSound (put_one (put_one m item.NextApp (value.NextApp (m.next_id + 1))) (item.App m.next_id) (value.App (created call)))
new_sound call header may new m s few none =
    let id = m.next_id in
    let other : id ≡ 2 ^ 64 - 1 → ⊥ = eqb-false id (2 ^ 64 - 1) few in
    let small = s.rules.small in
    let raised = sound_put m item.NextApp (value.NextApp (id + 1)) s (omega arith, omega (arith, small, other)) tt in
    let n = put_one m item.NextApp (value.NextApp (id + 1)) in
    sound_put n (item.App id) (value.App (created call)) raised
    (record {
      application = subst (λ a. IsApplicationBelow (id + 1) (id, with_row a (created call))) (sym none) (record {
        positive = s.rules.next_id;
        below = omega arith;
        row = record {
          creator = may.call_of_bytes.fields.sender;
          approval = may.programs.approval new;
          clear = may.programs.clear new;
          global_schema = may.programs.global_schema new;
          local_schema = may.programs.local_schema new;
        };
        state = nothing_in (room_of_schema (created call).global_schema);
      });
      local_states = none_of id m.applications (room_of_schema (created call).local_schema) m.local_states s.rules.local_states;
    })
    (record { creator = may.call_of_bytes.sender; approval = may.call_of_bytes.approval; clear = may.call_of_bytes.clear })

-- ---- a local state that is opened

opted_sound : (call : CallData) (header : Header) → MayCall call header → (m : Ledger) (id : ℕ) (row : Application) → IsSound m → at m (item.App id) ≡ value.App row → IsSound (put_one m (sender_item call id) (value.Local []))
opted_sound call header may m id row s is =
    stored_row m id row is (λ app there same.
    let rules = application_rules m id app s.rules there in
    sound_put m (sender_item call id) (value.Local []) s (may.call_of_bytes.fields.sender, rules.positive, rules.below, nothing_in (local_room (application_at m id))) (All-nil (λ e. IsMachineValue e.1)))

-- ---- an application with other programs

kept_locals : (next : ℕ) (l : Ledger) (id : ℕ) (app : StoredApplication) → application_at l id ≡ Some app → (es : List ((Address × ℕ) × Entries)) → All (IsLocalStateBelow next l.applications) es
    → All (λ e. e.0.1 ≡ id → IsStateIn (room_of_schema app.row.local_schema) e.1) es
kept_locals next l id app is [] all = All-nil (λ e. e.0.1 ≡ id → IsStateIn (room_of_schema app.row.local_schema) e.1)
kept_locals next l id app is (e ∷ es) all =
    All-cons (λ e. e.0.1 ≡ id → IsStateIn (room_of_schema app.row.local_schema) e.1) e es
    (λ same. let one = All-head (IsLocalStateBelow next l.applications) e es all in subst (λ a. IsStateIn (local_room a) e.1) (ap (λ i. application_at l i) same ∙ is) one.state)
    (kept_locals next l id app is es (All-tail (IsLocalStateBelow next l.applications) e es all))

row_sound : (call : CallData) (header : Header) → MayCall call header → call.completion ≡ completion.UpdateApplication → (m : Ledger) (id : ℕ) (row : Application) → IsSound m → at m (item.App id) ≡ value.App row
    → IsSound (put_one m (item.App id) (value.App (updated call row)))
row_sound call header may c m id row s is =
    stored_row m id row is (λ app there same.
    let rules = application_rules m id app s.rules there in
    let bytes = row_of_bytes m id row s is in
    let new : IsRowFor m id (updated call app.row) = record {
      application = subst (λ a. IsApplicationBelow m.next_id (id, with_row a (updated call app.row))) (sym there) (record {
        positive = rules.positive;
        below = rules.below;
        row = record {
          creator = rules.row.creator;
          approval = may.programs.new_approval c;
          clear = may.programs.new_clear c;
          global_schema = rules.row.global_schema;
          local_schema = rules.row.local_schema;
        };
        state = rules.state;
      });
      local_states = kept_locals m.next_id m id app there m.local_states s.rules.local_states;
    } in
    sound_put m (item.App id) (value.App (updated call row)) s (subst (λ r. IsRowFor m id (updated call r)) same new)
    (record { creator = bytes.creator; approval = may.call_of_bytes.approval; clear = may.call_of_bytes.clear }))

-- ---- the steps of a program

program_of_bytes : (c : Completion) (row : Application) → IsRowOfBytes row → AreBytes (program_of c row)
program_of_bytes completion.NoOp row b = b.approval
program_of_bytes completion.OptIn row b = b.approval
program_of_bytes completion.CloseOut row b = b.approval
program_of_bytes completion.ClearState row b = b.clear
program_of_bytes completion.UpdateApplication row b = b.approval
program_of_bytes completion.DeleteApplication row b = b.approval

id_fits : (m : Ledger) (id : ℕ) (row : Application) → IsSound m → at m (item.App id) ≡ value.App row → IsWord id
id_fits m id row s is = stored_row m id row is (λ app there same. let rules = application_rules m id app s.rules there in omega (arith, rules.below, s.rules.small))

fits_here : (call : CallData) (header : Header) → MayCall call header → (id : ℕ) (row : Application) (p : Position) (m : Ledger) → at m (item.App id) ≡ value.App row → SoundAt p m → Fits m (context_at (execution call header id row) p)
fits_here call header may id row p m is k =
    let program = program_of_bytes call.completion row (row_of_bytes m id row k.0 is) in
    record {
      stack = k.1;
      scratch = k.2;
      uints = uints_fit (program_of call.completion row) p.passed program;
      strings = byte_strings_fit (program_of call.completion row) p.passed program;
      call = may.call_of_bytes;
      words = may.words;
      current = id_fits m id row k.0 is;
      ledger = k.0;
      stands = row_stands (application_at m id) row is;
    }

step_ok : (e : Execution) (p : Position) (m : Ledger) → Fits m (context_at e p) → (r : Stepped) → OnOk Fit r
    → OnOk (λ after. (place : ℕ) (w : Writes m (context_at e p) after.writes) → SoundAt (position_after p after place) (led m (context_at e p) after.writes w)) r
step_ok e p m f (Ok after) h = λ place w. (led_sound m (context_at e p) after.writes f w, h.0, h.1)
step_ok e p m f (Err fault) h = tt

steps_sound : (call : CallData) (header : Header) → MayCall call header → (id : ℕ) (row : Application) → StepsKeep (execution call header id row) row SoundAt
steps_sound call header may id row p m i next read is k =
    let e = execution call header id row in
    let f = fits_here call header may id row p m is k in
    let program = program_of_bytes call.completion row (row_of_bytes m id row k.0 is) in
    let t = effect (context_at e p) i.opcode i.immediates in
    along-free (at m) (IsThere m) (OnOk Fit) (OnOk (λ after. (place : ℕ) (w : Writes m (context_at e p) after.writes) → SoundAt (position_after p after place) (led m (context_at e p) after.writes w))) t
    (step_ok e p m f) (effect_fits m (context_at e p) f i.opcode i.immediates (read_fits (program_of call.completion row) p.place i next program read))

-- each part of a call that may be made keeps a sound ledger sound
pub sound_kept : (call : CallData) (header : Header) → MayCall call header → IsKept call header IsSound SoundAt
sound_kept call header may = record {
  new = new_sound call header may;
  opted_in = opted_sound call header may;
  opted_out = λ m id s. sound_put m (sender_item call id) value.Absent s tt tt;
  row = row_sound call header may;
  gone = λ m id s. sound_put m (item.App id) value.Absent s tt tt;
  begins = λ m id row w s is. (s, All-nil IsMachineValue, All-replicate IsMachineValue 256 (Uint 0) (omega arith));
  steps = λ m id row s is. steps_sound call header may id row;
  ends = λ p m k. k.0;
}

-- ---- the laws

pub every_call_keeps_the_rules : (l : Ledger) (call : CallData) (header : Header) → IsSound l → MayCall call header → IsSound (ledger_after l call header)
every_call_keeps_the_rules l call header s may =
    let left = leaves l call header IsSound SoundAt (sound_kept call header may) (orderly l s.rules) s in
    subst IsSound (sym (after_is l call header IsSound (orderly l s.rules) left)) left.keeps

pub writes_keep_the_rules : (l : Ledger) (call : CallData) (header : Header) (t : Target) (row : Application) (steps : ℕ) → IsSound l → MayCall call header → result_over (at l) (admitted call) ≡ Ok t → t.row ≡ Some row
    → IsSound (put l (written_after l call header t row steps))
writes_keep_the_rules l call header t row steps s may is row_is =
    let o = written_over l call header t row steps IsSound SoundAt (sound_kept call header may) (orderly l s.rules) s is row_is in
    subst IsSound (sym (put_followed (new_keys call t.id) l (written_after l call header t row steps) o.ledger (orderly l s.rules) o.follows)) o.keeps.0

pub replays_keep_the_rules : (l : Ledger) (header : Header) (calls : List CallData) → IsSound l → All (λ call. MayCall call header) calls → IsSound (replayed l header calls)
replays_keep_the_rules l header [] s may = s
replays_keep_the_rules l header (call ∷ calls) s may =
    replays_keep_the_rules (ledger_after l call header) header calls (every_call_keeps_the_rules l call header s (All-head (λ c. MayCall c header) call calls may)) (All-tail (λ c. MayCall c header) call calls may)
