-- The writes of a run, step by step, with the ledger that has them.
use Rattle.std.proofs.Common.{◌≡◌, ℕ, zero, suc, ◌+◌, Bool, true, false, length, if◌then◌else◌, Option, None, Some, Result, Ok, Err, refl, sym, ◌∙◌, subst}
use Rattle.std.specs.Prelude.{◌==◌, is_none, unwrap_or}
use Rattle.teal_value.specs.Choice.{or_else}
use Rattle.teal_code.specs.declared.decode.CodeFault.{CodeFault}
use Rattle.teal_code.specs.declared.instr.Instr.{Instr}
use Rattle.avm_ledger.specs.declared.application.Application.{Application}
use Rattle.avm_ledger.specs.declared.application.StoredApplication.{StoredApplication}
use Rattle.avm_states.specs.Entries.{with_entry, without_entry}
use Rattle.avm_ledger.specs.Ledgers.{Ledger, application_at}
use Rattle.avm_items.specs.declared.item.Item.{Item}
use Rattle.avm_items.specs.declared.item.Item.TheVariants as item
use Rattle.avm_items.specs.declared.item_value.ItemValue.{ItemValue}
use Rattle.avm_items.specs.declared.item_value.ItemValue.TheVariants as value
use Rattle.avm_items.specs.CallFields.{new_keys}
use Rattle.avm_items.specs.Items.{ItemMap, Known, value_in, over}
use Rattle.avm_items.specs.LedgerItems.{at, put_one, row_value}
use Rattle.avm_items.specs.Asks.{Gives, remaining_questions}
use Rattle.avm_items.proofs.Puts.{keeps_others}
use Rattle.avm_ops.specs.Frame.{Context, After, Stepped}
use Rattle.avm_ops.specs.Effect.{effect}
use Rattle.avm_call.specs.declared.outcome.Ended.{Ended}
use Rattle.avm_call.specs.Runs.{Execution, Position, instruction_at, context_at, place_after, position_after, known_itself, result_at_end, stepped, executed, step, start, run_from, whole_path, ended_at, program_result}
use Rattle.avm_call.proofs.Paths.{goes_on}
use Rattle.avm_ops.proofs.RowFacts.{OnOk}
use Rattle.avm_ops.proofs.Questions.{Along, along-both, along-each, along-then, along-remaining}
use Rattle.avm_ops.proofs.WrittenItems.{Writes, Nothing, SameKind, Counted, Deleted, LocalPut, LocalDeleted, IsThere, effect_writes}
use Rattle.avm_laws.proofs.Following.{Follows, follows_local, follows_same_kind, follows_key}

-- the ledger after what an instruction writes
abbrev pub led : (m : Ledger) (c : Context) (w : ItemMap) → Writes m c w → Ledger
led m c w (Nothing is) = m
led m c w (SameKind key v put same is) = put_one m (item.Key c.current key) (value.Key v)
led m c w (Counted key v put room is) = put_one m (item.Key c.current key) (value.Key v)
led m c w (Deleted key is) = put_one m (item.Key c.current key) value.Absent
led m c w (LocalPut who state key v there put room is) = put_one m (item.Local who c.current) (value.Local (with_entry state key v))
led m c w (LocalDeleted who state key there is) = put_one m (item.Local who c.current) (value.Local (without_entry state key))

-- ---- the ledger that has a run's own writes

-- It has the application that runs, with this row; and K holds of it.
pub record Over (e : Execution) (row : Application) (l : Ledger) (K : Ledger → Type 0) (w : ItemMap) : Type 0 where
  pub ledger : Ledger
  pub follows : Follows (new_keys e.call e.current) l w ledger
  pub current : at ledger (item.App e.current) ≡ value.App row
  pub keeps : K ledger

-- an application that has a row is not gone
pub row_stands : (a : Option StoredApplication) (row : Application) → row_value a ≡ value.App row → is_none a ≡ false
row_stands None row e = absurd cc
row_stands (Some app) row e = refl

-- each step of a run keeps K
abbrev pub StepsKeep : Execution → Application → (Position → Ledger → Type 0) → Type 0
StepsKeep e row K =
    (p : Position) (m : Ledger) (i : Instr) (next : ℕ) → instruction_at e.program p.place ≡ Ok (i, next) → at m (item.App e.current) ≡ value.App row → K p m
    → Along (at m) (λ x. Unit {0}) (OnOk (λ after. (place : ℕ) (w : Writes m (context_at e p) after.writes) → K (position_after p after place) (led m (context_at e p) after.writes w))) (effect (context_at e p) i.opcode i.immediates)

led_follows : (new : Known) (l m : Ledger) (c : Context) (w : ItemMap) → Follows new l c.writes m → is_none (application_at m c.current) ≡ false → (h : Writes m c w) → Follows new l w (led m c w h)
led_follows new l m c w f stands (Nothing is) = subst (λ u. Follows new l u m) (sym is) f
led_follows new l m c w f stands (SameKind key v put same is) = subst (λ u. Follows new l u (put_one m (item.Key c.current key) (value.Key v))) (sym is) (follows_same_kind new l c.writes m c.current key v f stands same)
led_follows new l m c w f stands (Counted key v put room is) = subst (λ u. Follows new l u (put_one m (item.Key c.current key) (value.Key v))) (sym is) (follows_key new l c.writes m c.current key (Some v) f stands)
led_follows new l m c w f stands (Deleted key is) = subst (λ u. Follows new l u (put_one m (item.Key c.current key) value.Absent)) (sym is) (follows_key new l c.writes m c.current key None f stands)
led_follows new l m c w f stands (LocalPut who state key v there put room is) =
    let s = value.Local (with_entry state key v) in
    subst (λ u. Follows new l u (put_one m (item.Local who c.current) s)) (sym is) (follows_local new l c.writes m who c.current s f tt)
led_follows new l m c w f stands (LocalDeleted who state key there is) =
    let s = value.Local (without_entry state key) in
    subst (λ u. Follows new l u (put_one m (item.Local who c.current) s)) (sym is) (follows_local new l c.writes m who c.current s f tt)

-- no row changes
pub led_row : (m : Ledger) (c : Context) (w : ItemMap) (h : Writes m c w) (id : ℕ) → at (led m c w h) (item.App id) ≡ at m (item.App id)
led_row m c w (Nothing is) id = refl
led_row m c w (SameKind key v put same is) id = keeps_others m (item.Key c.current key) (item.App id) (value.Key v) refl refl
led_row m c w (Counted key v put room is) id = keeps_others m (item.Key c.current key) (item.App id) (value.Key v) refl refl
led_row m c w (Deleted key is) id = keeps_others m (item.Key c.current key) (item.App id) value.Absent refl refl
led_row m c w (LocalPut who state key v there put room is) id = keeps_others m (item.Local who c.current) (item.App id) (value.Local (with_entry state key v)) refl refl
led_row m c w (LocalDeleted who state key there is) id = keeps_others m (item.Local who c.current) (item.App id) (value.Local (without_entry state key)) refl refl

-- ---- one step

-- each item has what was written or is known without a look, or else its value before
pub known_has : (new : Known) (l : Ledger) (w : ItemMap) (m : Ledger) → Follows new l w m → (x : Item) → at m x ≡ unwrap_or (over (value_in w) new x) (at l x)
known_has new l w m f x = by (value_in w x) (new x) (f.has x) (f.fresh x)
  where
    by : (o p : Option ItemValue) → at m x ≡ unwrap_or o (at l x) → ((v : ItemValue) → p ≡ Some v → at l x ≡ v) → at m x ≡ unwrap_or (or_else o p) (at l x)
    by (Some v) p is fresh = is
    by None None is fresh = is
    by None (Some v) is fresh = is ∙ fresh v refl

-- a position with its ledger, or an end
abbrev OnNext : (Position → Type 0) → Result Position Ended → Type 0
OnNext P (Ok p) = P p
OnNext P (Err end) = Unit {0}

-- a ledger has what was written up to the position, and K holds of both
abbrev pub Stands : Execution → Application → Ledger → (Position → Ledger → Type 0) → Position → Type 0
Stands e row l K p = Over e row l (K p) p.writes

abbrev Both : Execution → Ledger → (Position → Ledger → Type 0) → Position → After → Type 0
Both e m K p after =
    Writes m (context_at e p) after.writes × ((place : ℕ) (w : Writes m (context_at e p) after.writes) → K (position_after p after place) (led m (context_at e p) after.writes w))

both_ok : (R S : After → Type 0) (r : Stepped) → OnOk R r × OnOk S r → OnOk (λ after. R after × S after) r
both_ok R S (Ok after) h = h
both_ok R S (Err f) h = tt

next_stands : (e : Execution) (row : Application) (l : Ledger) (K : Position → Ledger → Type 0) (p : Position) (o : Stands e row l K p) (next : ℕ) (r : Stepped) → OnOk (Both e o.ledger K p) r → OnNext (Stands e row l K) (stepped e p next r)
next_stands e row l K p o next (Err f) h = tt
next_stands e row l K p o next (Ok after) h = record {
  ledger = led o.ledger (context_at e p) after.writes h.0;
  follows = led_follows (new_keys e.call e.current) l o.ledger (context_at e p) after.writes o.follows (row_stands (application_at o.ledger e.current) row o.current) h.0;
  current = led_row o.ledger (context_at e p) after.writes h.0 e.current ∙ o.current;
  keeps = h.1 (place_after e.program next after.flow) h.0;
}

executed_stands : (e : Execution) (row : Application) (l : Ledger) (K : Position → Ledger → Type 0) → StepsKeep e row K → (p : Position) → Stands e row l K p
    → (r : Result (Instr × ℕ) CodeFault) → instruction_at e.program p.place ≡ r → Along (at l) (IsThere l) (OnNext (Stands e row l K)) (executed e p r)
executed_stands e row l K keep p o (Err f) is = tt
executed_stands e row l K keep p o (Ok (i, next)) is =
    let m = o.ledger in
    let c = context_at e p in
    let t = effect c i.opcode i.immediates in
    let stands = row_stands (application_at m e.current) row o.current in
    let kept = keep p m i next is o.current o.keeps in
    let written = effect_writes m c stands i.opcode i.immediates in
    along-then (at l) (IsThere l) (OnOk (Both e m K p)) (OnNext (Stands e row l K)) (remaining_questions (known_itself e p.writes) t) (λ r. Gives (stepped e p next r))
    (along-remaining (at l) (at m) (known_itself e p.writes) (IsThere m) (IsThere l) (OnOk (Both e m K p)) (known_has (new_keys e.call e.current) l p.writes m o.follows) o.follows.asked t
    (along-each (at m) (IsThere m) (λ r. OnOk (λ after. Writes m c after.writes) r × OnOk (λ after. (place : ℕ) (w : Writes m c after.writes) → K (position_after p after place) (led m c after.writes w)) r) (OnOk (Both e m K p)) t
    (both_ok (λ after. Writes m c after.writes) (λ after. (place : ℕ) (w : Writes m c after.writes) → K (position_after p after place) (led m c after.writes w)))
    (along-both (at m) (IsThere m) (λ x. Unit {0}) (OnOk (λ after. Writes m c after.writes)) _ t written kept)))
    (next_stands e row l K p o next)

step_by : (e : Execution) (row : Application) (l : Ledger) (K : Position → Ledger → Type 0) → StepsKeep e row K → (p : Position) → Stands e row l K p → (b : Bool)
    → Along (at l) (IsThere l) (OnNext (Stands e row l K)) (if b then Gives (Err (result_at_end (length e.program) p.stack)) else executed e p (instruction_at e.program p.place))
step_by e row l K keep p o true = tt
step_by e row l K keep p o false = executed_stands e row l K keep p o (instruction_at e.program p.place) refl

-- ---- the path

rest_stands : (e : Execution) (row : Application) (l : Ledger) (K : Position → Ledger → Type 0) (n : ℕ) (p : Position) → Stands e row l K p
    → ((q : Position) → Stands e row l K q → Along (at l) (IsThere l) (λ end. Stands e row l K end.0) (run_from e n q))
    → (r : Result Position Ended) → OnNext (Stands e row l K) r → Along (at l) (IsThere l) (λ end. Stands e row l K end.0) (goes_on e n p r)
rest_stands e row l K n p o next (Ok q) h = next q h
rest_stands e row l K n p o next (Err end) h = o

-- along a run whose steps keep K, Stands holds, and no key or counts of what is gone is asked for
pub run_stands : (e : Execution) (row : Application) (l : Ledger) (K : Position → Ledger → Type 0) → StepsKeep e row K → (n : ℕ) (p : Position) → Stands e row l K p
    → Along (at l) (IsThere l) (λ end. Stands e row l K end.0) (run_from e n p)
run_stands e row l K keep zero p o = o
run_stands e row l K keep (suc n) p o =
    along-then (at l) (IsThere l) (OnNext (Stands e row l K)) (λ end. Stands e row l K end.0) (step e p) (goes_on e n p) (step_by e row l K keep p o (p.place == length e.program))
    (rest_stands e row l K n p o (run_stands e row l K keep n))

-- ---- the result

ended_stands : (e : Execution) (row : Application) (l : Ledger) (K : Position → Ledger → Type 0) (End : Ledger → Type 0) → ((p : Position) (m : Ledger) → K p m → End m) → (end : Position × Option Ended) → Stands e row l K end.0 → Over e row l End (ended_at end).0
ended_stands e row l K End kept (p, Some end) o = record { ledger = o.ledger; follows = o.follows; current = o.current; keeps = kept p o.ledger o.keeps }
ended_stands e row l K End kept (p, None) o = record { ledger = o.ledger; follows = o.follows; current = o.current; keeps = kept p o.ledger o.keeps }

-- where K gives End, a ledger has what a program has written at its end, and End holds of it
pub result_stands : (e : Execution) (row : Application) (l : Ledger) (K : Position → Ledger → Type 0) (End : Ledger → Type 0) → StepsKeep e row K → ((p : Position) (m : Ledger) → K p m → End m) → (w : ItemMap) → Stands e row l K (start e.program w)
    → Along (at l) (IsThere l) (λ end. Over e row l End end.0) (program_result e w)
result_stands e row l K End keep kept w o =
    along-then (at l) (IsThere l) (λ end. Stands e row l K end.0) (λ end. Over e row l End end.0) (whole_path e w) (λ end. Gives (ended_at end)) (run_stands e row l K keep (length e.program + 1) (start e.program w) o)
    (ended_stands e row l K End kept)
