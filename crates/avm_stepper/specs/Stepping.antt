-- One step of a run that is supplied from a ledger.
use Rattle.std.specs.Prelude.{◌≡◌, ℕ, true, false, Bool, [], Option, Some, None, is_some}
use Rattle.teal_value.specs.declared.fault.Fault.{Fault}
use Rattle.avm_ledger.specs.declared.header.Header.{Header}
use Rattle.avm_ledger.specs.Ledgers.{Ledger}
use Rattle.avm_items.specs.declared.call_data.CallData.{CallData}
use Rattle.avm_items.specs.declared.item.Item.{Item}
use Rattle.avm_items.specs.Items.{ItemMap, value_in, with_item}
use Rattle.avm_items.specs.LedgerItems.{at}
use Rattle.avm_items.specs.Locality.{LookAgrees}
use Rattle.avm_call.specs.declared.outcome.Ended.TheVariants as ended
use Rattle.avm_run.specs.Advances.{AsksFor, Ends, MakesStep}
use Rattle.avm_run.specs.Progress.{EndsPath, HasStep, next_step_number}
use Rattle.avm_run.specs.RunState.{Progress}
use Rattle.avm_run.specs.Showing.{ShowsPath, Sight}
use Rattle.avm_stepper.specs.declared.stepping.StepOutcome.{StepOutcome}
use Rattle.avm_stepper.specs.declared.stepping.StepOutcome.TheVariants as outcome

-- ---- where a run stands

-- it shows an instruction that comes next, or none
abbrev pub ShowsNext : CallData → Header → ItemMap → Option ℕ → Bool → Type 0
ShowsNext call header reads None left = Unit {0}
ShowsNext call header reads (Some n) left = (s : Sight) × ShowsPath call header reads n s × (is_some s.instruction ≡ left)

abbrev pub IsLeft : Option Progress → Bool → Type 0
IsLeft None left = Unit {0}
IsLeft (Some p) left = ShowsNext p.call p.header p.reads p.steps left

-- whether an instruction comes next; none does where the next step has faulted
abbrev pub ComesNextBy : Option Fault → Option Progress → Bool → Type 0
ComesNextBy (Some f) run comes = comes ≡ false
ComesNextBy None run comes = IsLeft run comes

-- these are the items that its call has written
abbrev pub WritesAt : CallData → Header → ItemMap → Option ℕ → ItemMap → Type 0
WritesAt call header reads None items = Unit {0}
WritesAt call header reads (Some n) items = (s : Sight) × ShowsPath call header reads n s × (items ≡ s.writes)

abbrev pub ShowsWrites : Option Progress → ItemMap → Type 0
ShowsWrites None items = Unit {0}
ShowsWrites (Some p) items = WritesAt p.call p.header p.reads p.steps items

-- a run that stands before an instruction
pub record StandsBefore (p : Progress) : Type 0 where
  pub steps : ℕ
  pub counted : p.steps ≡ Some steps
  pub sight : Sight
  pub shows : ShowsPath p.call p.header p.reads steps sight
  pub left : is_some sight.instruction ≡ true

abbrev pub IsBefore : Option Progress → Type 0
IsBefore None = ⊥
IsBefore (Some p) = StandsBefore p

-- ---- one question or step

abbrev pub Goes : Option Progress → Option Progress → StepOutcome → Type 0
Goes (Some p) after outcome.Moved = MakesStep p after
Goes (Some p) after (outcome.Need x) = AsksFor p p.steps after x
Goes (Some p) after (outcome.Faulted f) = (place : ℕ) × Ends p after (ended.Faulted f place)
Goes None after _ = ⊥

-- an item that was asked for is supplied with the ledger's value
abbrev pub WasAsked : Option Progress → Item → Type 0
WasAsked None x = ⊥
WasAsked (Some p) x = p.asked ≡ Some x

abbrev pub supplied : Ledger → Item → Option Progress → Option Progress
supplied l x None = None
supplied l x (Some p) = Some (record p { reads = with_item p.reads x (at l x); asked = None })

-- ---- a whole step

-- A run of a call has come from another by items of the ledger alone, and this holds of the two.
pub record ComesOver (l : Ledger) (old now : Option Progress) (Holds : Progress → Progress → Type 0) : Type 0 where
  pub first : Progress
  pub was : old ≡ Some first
  pub here : Progress
  pub is : now ≡ Some here
  pub same_call : here.call ≡ first.call
  pub same_header : here.header ≡ first.header
  pub agrees : LookAgrees (value_in here.reads) (at l)
  pub holds : Holds first here

-- it stands before an instruction as the first
abbrev pub GoesOnOver : Ledger → Option Progress → Option Progress → Type 0
GoesOnOver l old now = ComesOver l old now (λ first here. (here.steps ≡ first.steps) × StandsBefore here)

abbrev pub LeadsBy : Progress → Progress → Option Fault → Type 0
LeadsBy first here None = (here.steps ≡ Some (next_step_number first.steps)) × HasStep here.call here.header here.reads (next_step_number first.steps)
LeadsBy first here (Some f) = (here.steps ≡ first.steps) × ((place : ℕ) × EndsPath here.call here.header here.reads here.steps (ended.Faulted f place))

-- it has made the step, or the step has faulted there
abbrev pub LeadsTo : Ledger → Option Progress → Option Progress → Option Fault → Type 0
LeadsTo l old now fault = ComesOver l old now (λ first here. LeadsBy first here fault)

abbrev pub reads_in : Option Progress → ItemMap
reads_in None = []
reads_in (Some p) = p.reads
