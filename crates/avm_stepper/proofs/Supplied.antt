-- What a run shows stays with each item supplied, and a step leads on from there.
use Rattle.std.proofs.Common.{◌≡◌, ℕ, ◌+◌, ◌<◌, length, Option, None, Some, refl, sym, ap, subst, ◌∙◌}
use Rattle.teal_value.specs.declared.fault.Fault.{Fault}
use Rattle.avm_ledger.specs.declared.header.Header.{Header}
use Rattle.avm_ledger.specs.Ledgers.{Ledger}
use Rattle.avm_items.specs.declared.call_data.CallData.{CallData}
use Rattle.avm_items.specs.declared.item.Item.{Item}
use Rattle.avm_items.specs.Items.{ItemMap, value_in, with_item}
use Rattle.avm_items.specs.LedgerItems.{at}
use Rattle.avm_items.specs.Locality.{LookAgrees, Extends}
use Rattle.avm_items.proofs.Questions.{result_with_more}
use Rattle.avm_call.specs.declared.outcome.Ended.TheVariants as ended
use Rattle.avm_call.specs.Calls.{admitted}
use Rattle.avm_call.specs.CallPaths.{call_path}
use Rattle.avm_call.specs.Ends.{most_items}
use Rattle.avm_run.specs.Advances.{AsksFor, Ends, MakesStep}
use Rattle.avm_run.specs.Progress.{HasStep, next_step_number}
use Rattle.avm_run.specs.RunState.{Progress}
use Rattle.avm_run.specs.Showing.{ShowsPath, Sight}
use Rattle.avm_items.proofs.OneMore.{agrees_after, one_longer, still_known}
use Rattle.avm_stepper.specs.declared.stepping.StepOutcome.{StepOutcome}
use Rattle.avm_stepper.specs.declared.stepping.StepOutcome.TheVariants as outcome
use Rattle.avm_stepper.specs.Stepping.{Goes, GoesOnOver, LeadsTo, StandsBefore, reads_in, supplied}

shows_more : (call : CallData) (header : Header) (reads more : ItemMap) (steps : ℕ) (s : Sight) → Extends (value_in reads) (value_in more) → ShowsPath call header reads steps s → ShowsPath call header more steps s
shows_more call header reads more steps s with shows = record {
  row = shows.row;
  admits = result_with_more (value_in reads) (value_in more) with (admitted call) _ shows.admits;
  kept = shows.kept;
  passed = shows.passed;
  comes = result_with_more (value_in reads) (value_in more) with (call_path call header steps) _ shows.comes;
  uints = shows.uints;
  strings = shows.strings;
  next = shows.next;
}

-- the item that a run asked for, with the ledger's value
supplied_goes_on : (l : Ledger) (old asking now : Option Progress) (here : Progress) (x : Item) → (g : GoesOnOver l old (Some here)) → AsksFor here here.steps asking x → now ≡ supplied l x asking → GoesOnOver l old now
supplied_goes_on l old asking now here x g asks is =
    let same : here ≡ g.here = cc in
    let v = at l x in
    let more = still_known here.reads x v asks.not_supplied in
    let before : StandsBefore here = subst StandsBefore (sym same) g.holds.1 in
    record {
      first = g.first;
      was = g.was;
      here = record { call = here.call; header = here.header; reads = with_item here.reads x v; asked = None; steps = here.steps };
      is = is ∙ ap (supplied l x) asks.now;
      same_call = ap (λ p. p.call) same ∙ g.same_call;
      same_header = ap (λ p. p.header) same ∙ g.same_header;
      agrees = agrees_after here.reads x v (at l) refl (subst (λ (p : Progress). LookAgrees (value_in p.reads) (at l)) (sym same) g.agrees);
      holds = (
        ap (λ p. p.steps) same ∙ g.holds.0,
        record {
          steps = before.steps;
          counted = before.counted;
          sight = before.sight;
          shows = shows_more here.call here.header here.reads (with_item here.reads x v) before.steps before.sight more before.shows;
          left = before.left;
        },
      );
    }

-- it goes on, and may ask for one item less
pub record SuppliedNext (l : Ledger) (old here now : Option Progress) : Type 0 where
  pub goes_on : GoesOnOver l old now
  pub few : length (reads_in here) < most_items
  pub longer : length (reads_in now) ≡ length (reads_in here) + 1

-- once an item that a run asked for is supplied from the ledger, the run goes on
pub supplied_next : (l : Ledger) (old here asking now : Option Progress) (w : StepOutcome) (x : Item) → GoesOnOver l old here → Goes here asking w → w ≡ outcome.Need x → now ≡ supplied l x asking → SuppliedNext l old here now
supplied_next l old None asking now w x g goes need is = absurd (subst (Goes None asking) need goes)
supplied_next l old (Some p) asking now w x g goes need is =
    let asks : AsksFor p p.steps asking x = subst (Goes (Some p) asking) need goes in
    record {
      goes_on = supplied_goes_on l old asking now p x g asks is;
      few = asks.few;
      longer = ap (λ r. length (reads_in r)) (is ∙ ap (supplied l x) asks.now) ∙ one_longer p.reads x (at l x) asks.not_supplied;
    }

-- ---- the step is made, or faults

run_is : {p q : Progress} → Some p ≡ Some q → p ≡ q
run_is e = cc

led_on : (l : Ledger) (old now : Option Progress) (p : Progress) → GoesOnOver l old (Some p) → MakesStep p now → LeadsTo l old now None
led_on l old now p g step =
    let same : g.here ≡ p = run_is (sym g.is) in
    let steps : p.steps ≡ g.first.steps = ap (λ (q : Progress). q.steps) (sym same) ∙ g.holds.0 in
    record {
      first = g.first;
      was = g.was;
      here = record { call = p.call; header = p.header; reads = p.reads; asked = None; steps = Some (next_step_number p.steps) };
      is = step.now;
      same_call = ap (λ (q : Progress). q.call) (sym same) ∙ g.same_call;
      same_header = ap (λ (q : Progress). q.header) (sym same) ∙ g.same_header;
      agrees = subst (λ (q : Progress). LookAgrees (value_in q.reads) (at l)) same g.agrees;
      holds = (ap (λ n. Some (next_step_number n)) steps, subst (λ n. HasStep p.call p.header p.reads (next_step_number n)) steps step.there);
    }

-- a run that has moved has made its next step over the ledger
pub moved_on : (l : Ledger) (old here now : Option Progress) (w : StepOutcome) → GoesOnOver l old here → Goes here now w → w ≡ outcome.Moved → LeadsTo l old now None
moved_on l old None now w g goes is = absurd (subst (Goes None now) is goes)
moved_on l old (Some p) now w g goes is = led_on l old now p g (subst (Goes (Some p) now) is goes)

faulted_by : (l : Ledger) (old now : Option Progress) (p : Progress) (f : Fault) → GoesOnOver l old (Some p) → ((place : ℕ) × Ends p now (ended.Faulted f place)) → LeadsTo l old now (Some f)
faulted_by l old now p f g (place, ends) =
    let same : g.here ≡ p = run_is (sym g.is) in
    record {
      first = g.first;
      was = g.was;
      here = record { call = p.call; header = p.header; reads = p.reads; asked = None; steps = p.steps };
      is = ends.now;
      same_call = ap (λ (q : Progress). q.call) (sym same) ∙ g.same_call;
      same_header = ap (λ (q : Progress). q.header) (sym same) ∙ g.same_header;
      agrees = subst (λ (q : Progress). LookAgrees (value_in q.reads) (at l)) same g.agrees;
      holds = (ap (λ (q : Progress). q.steps) (sym same) ∙ g.holds.0, (place, ends.path));
    }

-- a step that faults leaves the run where it stood
pub faulted_on : (l : Ledger) (old here now : Option Progress) (w : StepOutcome) (f : Fault) → GoesOnOver l old here → Goes here now w → w ≡ outcome.Faulted f → LeadsTo l old now (Some f)
faulted_on l old None now w f g goes is = absurd (subst (Goes None now) is goes)
faulted_on l old (Some p) now w f g goes is = faulted_by l old now p f g (subst (Goes (Some p) now) is goes)
