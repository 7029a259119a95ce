-- What a debugger shows, from what it keeps.
use Rattle.std.proofs.Common.{◌≡◌, ℕ, ◌+◌, eqb, false, List, length, Option, None, Some, Result, Ok, Err, refl, sym, ap, subst, ◌∙◌}
use Rattle.teal_value.specs.declared.fault.Fault.{Fault}
use Rattle.teal_code.specs.declared.instr.Instr.{Instr}
use Rattle.teal_check.specs.WellFormed.{WellFormed}
use Rattle.avm_ledger.specs.declared.application.Application.{Application}
use Rattle.avm_ledger.specs.declared.header.Header.{Header}
use Rattle.avm_ledger.specs.Ledgers.{Ledger, application_at}
use Rattle.avm_items.specs.declared.call_data.CallData.{CallData}
use Rattle.avm_items.specs.Items.{ItemMap}
use Rattle.avm_items.specs.Asks.{result_over}
use Rattle.avm_items.specs.LedgerItems.{at, put}
use Rattle.avm_call.specs.declared.outcome.Ended.{Ended}
use Rattle.avm_call.specs.declared.outcome.Ended.TheVariants as ended
use Rattle.avm_call.specs.declared.outcome.Why.{Why}
use Rattle.avm_call.specs.Runs.{Position}
use Rattle.avm_call.specs.Calls.{Target, execution, prepared, program_of}
use Rattle.avm_call.specs.CallPaths.{Reached, call_path}
use Rattle.avm_call.specs.Views.{NextStep, next_step, state_changes, view_after, view_of}
use Rattle.avm_call.specs.Views as views
use Rattle.avm_run.specs.RunState.{Progress}
use Rattle.avm_run.specs.Showing.{Shows, ShowsAt, ShowsPath, Sight, sight_of}
use Rattle.avm_run.specs.declared.shown.Shown.{Shown}
use Rattle.avm_stepper.specs.declared.view.MachineView.{MachineView}
use Rattle.avm_stepper.specs.declared.view.View.{View}
use Rattle.avm_stepper.specs.Changes.{global_entries, local_changes_along}
use Rattle.avm_stepper.specs.Scratch.{set_places}
use Rattle.avm_stepper.specs.Starting.{HasBegun}
use Rattle.avm_stepper.specs.Debugging.{Debugged, debug_view, steps_shown}
use Rattle.avm_stepper.specs.DebugRuns.{ArePrepared, FaultIs, IsDebugged, IsPreparedFor, IsKeptDebug, seen, steps_made}
use Rattle.avm_stepper.specs.Opening.{row_of_target}
use Rattle.avm_stepper.specs.Shown.{IsLedgerOf, IsMachineShown, IsProgramShown, IsShown, machine_of, machine_seen, next_by, view_by, view_seen}
use Rattle.avm_stepper.specs.Stepping.{LeadsTo, ShowsWrites, WritesAt}
use Rattle.avm_stepper.proofs.PathSteps.{path_there}
use Rattle.avm_stepper.proofs.ViewsThere.{ShowsOver, next_faulted, next_is, next_of, position_of, shows_over, view_there}

-- ---- the items prepared

same_run : {p q : Progress} → Some p ≡ Some q → p ≡ q
same_run e = cc

-- they stay with each step
pub prepared_stays : (l : Ledger) (items : ItemMap) (old now : Option Progress) (fault : Option Fault) → LeadsTo l old now fault → IsPreparedFor l items (Some old) → IsPreparedFor l items (Some now)
prepared_stays l items None now fault t h = absurd (never t.was)
  where
    never : {p : Progress} → ◌≡◌ {A = Option Progress} None (Some p) → ⊥
    never e = cc
prepared_stays l items (Some p) now fault t h =
    let call : p.call ≡ t.here.call = ap (λ (q : Progress). q.call) (same_run t.was) ∙ sym t.same_call in
    subst (λ q. IsPreparedFor l items (Some q)) (sym t.is) (subst (λ c. ArePrepared l c items) call h)

abbrev target_id : Result Target Why → ℕ → ℕ
target_id (Ok t) d = t.id
target_id (Err w) d = d

-- they are what the run has written at the start of its program
pub prepared_first : (l : Ledger) (call : CallData) (header : Header) (s : Sight) (items : ItemMap) → ShowsOver l call header 0 s → items ≡ s.writes → ArePrepared l call items
prepared_first l call header s items o is t admits =
    let id : s.application ≡ t.id = ap (λ r. target_id r 0) (sym o.admits ∙ admits) in
    is ∙ ap (λ (r : Position × Option Ended). r.0.writes) (sym (path_there (at l) call header s.application o.row 0 (position_of s o.passed, None) o.admits o.comes)) ∙ ap (prepared call) id

-- ---- the view

-- the view of a run, with what comes next and the constants in force as given
abbrev viewed : Ledger → ItemMap → Sight → NextStep → List ℕ → List (List ℕ) → views.View
viewed l items s next uints strings =
    let before = put l items in
    let now = put before s.writes in
    record {
      place = s.place;
      next = next;
      stack = s.machine.stack;
      scratch = set_places 0 s.machine.scratch;
      uint_constants = uints;
      byte_constants = strings;
      global_changes = state_changes (global_entries (application_at before s.application)) (global_entries (application_at now s.application));
      local_changes = local_changes_along before s.application now.local_states;
    }

view_as : (l : Ledger) (call : CallData) (header : Header) (steps : ℕ) (s : Sight) (items : ItemMap) (fault : Option Fault) (end : Option Ended) → (o : ShowsOver l call header steps s) → items ≡ prepared call s.application
    → next_step (program_of call.completion o.row) (position_of s o.passed) end ≡ next_by fault s.instruction
    → view_of (execution call header s.application o.row) (put l (prepared call s.application)) (position_of s o.passed, end) ≡ view_by l items fault s
view_as l call header steps s items fault end o is next = λ i. viewed l (sym is i) s (next i) (sym o.uints i) (sym o.strings i)

next_unfaulted : (o : Option Instr) → next_of o ≡ next_by None o
next_unfaulted (Some i) = refl
next_unfaulted None = refl

abbrev position_in : Position → Reached → Position
position_in d (Some r) = r.0
position_in d None = d

abbrev row_or : Application → Option Application → Application
row_or d (Some row) = row
row_or d None = d

abbrev row_in : Application → Result Target Why → Application
row_in d (Ok t) = row_or d t.row
row_in d (Err w) = d

view_by_fault : (l : Ledger) (call : CallData) (header : Header) (steps : ℕ) (s : Sight) (items : ItemMap) (fault : Option Fault) → ShowsOver l call header steps s → FaultIs l call header steps fault → items ≡ prepared call s.application
    → view_after l call header (steps_shown steps fault) ≡ Some (view_by l items fault s)
view_by_fault l call header steps s items None o f is =
    view_there l call header s.application o.row steps (position_of s o.passed, None) o.admits o.comes
    ∙ ap (λ v. Some v) (view_as l call header steps s items None None o is (next_is (program_of call.completion o.row) (position_of s o.passed) s.instruction o.next ∙ next_unfaulted s.instruction))
view_by_fault l call header steps s items (Some f) o h is =
    let p = position_of s o.passed in
    let end : Option Ended = Some (ended.Faulted f h.place) in
    let same : h.position ≡ p = ap (position_in p) (sym h.here ∙ o.comes) in
    let row : h.row ≡ o.row = ap (row_in o.row) (sym h.admits ∙ o.admits) in
    let next : result_over (at l) (call_path call header (steps + 1)) ≡ Some (p, end) = h.next ∙ ap (λ q. Some (q, end)) same in
    let inside : eqb p.place (length (program_of call.completion o.row)) ≡ false = (λ i. eqb (sym same i).place (length (program_of call.completion (sym row i)))) ∙ h.inside in
    view_there l call header s.application o.row (steps + 1) (p, end) o.admits next
    ∙ ap (λ v. Some v) (view_as l call header steps s items (Some f) end o is (next_faulted (program_of call.completion o.row) p f h.place inside))

-- ---- from what is kept

-- a run that a debugger keeps shows this over the ledger
pub record KeptShows (l : Ledger) (fault : Option Fault) (run : Option Progress) (s : Sight) : Type 0 where
  pub progress : Progress
  pub is : run ≡ Some progress
  pub kept : IsDebugged l fault progress
  pub over : ShowsOver l progress.call progress.header kept.steps s

shows_there : (call : CallData) (header : Header) (reads : ItemMap) (steps : Option ℕ) (n : ℕ) (s : Shown) → steps ≡ Some n → ShowsAt call header reads steps (Some s) → ShowsPath call header reads n (sight_of s)
shows_there call header reads steps n s counted shows = subst (λ m. ShowsAt call header reads m (Some s)) counted shows

-- what a run that is kept shows holds over the ledger
pub kept_shows : (l : Ledger) (fault : Option Fault) (run : Option Progress) (o : Option Shown) (s : Shown) → IsKeptDebug l fault (Some run) → Shows run o → o ≡ Some s → KeptShows l fault run (sight_of s)
kept_shows l fault None o s kept shows is = absurd kept
kept_shows l fault (Some p) o s kept shows is = record {
  progress = p;
  is = refl;
  kept = kept;
  over = shows_over l p.call p.header p.reads kept.steps (sight_of s) kept.agrees (shows_there p.call p.header p.reads p.steps kept.steps s kept.counted (subst (λ m. Shows (Some p) m) is shows));
}

-- a run that is kept always shows something
pub always_shows : (l : Ledger) (fault : Option Fault) (run : Option Progress) (o : Option Shown) → IsKeptDebug l fault (Some run) → Shows run o → o ≡ None → ⊥
always_shows l fault None o kept shows is = kept
always_shows l fault (Some p) o kept shows is = subst (λ n. ShowsAt p.call p.header p.reads n None) kept.counted (subst (λ m. Shows (Some p) m) is shows)

seen_run : (l : Ledger) (fault : Option Fault) (p : Progress) (steps : ℕ) → p.steps ≡ Some steps → debug_view (record { ledger = l; call = p.call; header = p.header; steps = steps_made p.steps; fault = fault }) ≡ view_after l p.call p.header (steps_shown steps fault)
seen_run l fault p steps counted = ap (λ n. view_after l p.call p.header (steps_shown (steps_made n) fault)) counted

-- there is a call that is stepped through, and this is its view
abbrev pub IsViewBy : Option Debugged → views.View → Type 0
IsViewBy (Some d) w = debug_view d ≡ Some w
IsViewBy None w = ⊥

-- what the run shows, with the items prepared, makes the view of the call
pub kept_view : (l : Ledger) (items : ItemMap) (fault : Option Fault) (run : Option Progress) (s : Sight) → KeptShows l fault run s → IsPreparedFor l items (Some run)
    → IsViewBy (seen l fault (Some run)) (view_by l items fault s)
kept_view l items fault run s k prepared =
    let p = k.progress in
    let of_p = subst (λ m. IsPreparedFor l items (Some m)) k.is prepared in
    let items_are = of_p (record { id = s.application; row = Some k.over.row }) k.over.admits in
    subst (λ m. IsViewBy (seen l fault (Some m)) (view_by l items fault s)) (sym k.is)
    (seen_run l fault p k.kept.steps k.kept.counted ∙ view_by_fault l p.call p.header k.kept.steps s items fault k.over k.kept.faulted items_are)

-- a view that shows what the definition has is the one to be answered
pub shown_view : (m : Option Debugged) (w : views.View) (v : View) → IsViewBy m w → view_seen v ≡ w → IsShown m (Ok v)
shown_view None w v by is = absurd by
shown_view (Some d) w v by is = by ∙ ap (λ u. Some u) (sym is)

pub shown_machine : (m : Option Debugged) (w : views.View) (v : MachineView) → IsViewBy m w → machine_seen v ≡ machine_of w → IsMachineShown m (Ok v)
shown_machine None w v by is = absurd by
shown_machine (Some d) w v by is = (w, by, is)

-- ---- the ledger and the program

-- the ledger that is kept is the one that the call met
pub ledger_kept : (l : Ledger) (fault : Option Fault) (run : Option (Option Progress)) → IsLedgerOf (seen l fault run) l
ledger_kept l fault None = tt
ledger_kept l fault (Some None) = tt
ledger_kept l fault (Some (Some p)) = refl

-- the program that the run shows is that of the call
pub shown_program : (l : Ledger) (fault : Option Fault) (run : Option Progress) (s : Sight) (program : WellFormed) → KeptShows l fault run s → program ≡ s.program → IsProgramShown (seen l fault (Some run)) (Some program)
shown_program l fault run s program k is =
    subst (λ m. IsProgramShown (seen l fault (Some m)) (Some program)) (sym k.is)
    (record { row = k.over.row; there = ap row_of_target k.over.admits; program = k.over.kept ∙ ap (λ p. Ok p) (sym is) })

-- ---- the items prepared, at the start

writes_there : (call : CallData) (header : Header) (reads : ItemMap) (steps : Option ℕ) (n : ℕ) (items : ItemMap) → steps ≡ Some n → WritesAt call header reads steps items → (s : Sight) × ShowsPath call header reads n s × (items ≡ s.writes)
writes_there call header reads steps n items counted writes = subst (λ m. WritesAt call header reads m items) counted writes

-- the items written at the start of a program are those prepared for it
pub prepared_begun : (l : Ledger) (items : ItemMap) (old now : Option Progress) → HasBegun l old now → ShowsWrites now items → IsPreparedFor l items (Some now)
prepared_begun l items old now b writes =
    let p = b.here in
    let w = writes_there p.call p.header p.reads p.steps 0 items b.holds.0 (subst (λ m. ShowsWrites m items) b.is writes) in
    subst (λ m. IsPreparedFor l items (Some m)) (sym b.is) (prepared_first l p.call p.header w.0 items (shows_over l p.call p.header p.reads 0 w.0 b.agrees w.1) w.2)
