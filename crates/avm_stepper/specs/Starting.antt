-- The start of a run's program over a ledger.
use Rattle.std.specs.Prelude.{◌≡◌, Bool, true, false, Option, Some, None}
use Rattle.avm_ledger.specs.Ledgers.{Ledger}
use Rattle.avm_call.specs.declared.outcome.Outcome.{Outcome}
use Rattle.avm_run.specs.Advances.{AsksFor, MakesStep}
use Rattle.avm_run.specs.Progress.{HasNoStep, HasStep}
use Rattle.avm_run.specs.RunState.{Progress}
use Rattle.avm_stepper.specs.declared.opening.StartOutcome.{StartOutcome}
use Rattle.avm_stepper.specs.declared.opening.StartOutcome.TheVariants as begun
use Rattle.avm_stepper.specs.Opening.{HasNoProgram}
use Rattle.avm_stepper.specs.Stepping.{ComesOver}

-- a run whose program has not begun
abbrev pub IsAtTests : Option Progress → Type 0
IsAtTests None = ⊥
IsAtTests (Some p) = p.steps ≡ None

abbrev pub Begins : Option Progress → Option Progress → StartOutcome → Type 0
Begins (Some p) after begun.Program = MakesStep p after
Begins (Some p) after (begun.Need x) = AsksFor p p.steps after x
Begins (Some p) after begun.Nothing = (o : Outcome) × HasNoStep p.call p.header p.reads 0 o
Begins None after _ = ⊥

-- its program has not begun
abbrev pub StartsOver : Ledger → Option Progress → Option Progress → Type 0
StartsOver l old now = ComesOver l old now (λ first here. here.steps ≡ None)

-- it stands before the first instruction of its program
abbrev pub HasBegun : Ledger → Option Progress → Option Progress → Type 0
HasBegun l old now = ComesOver l old now (λ first here. (here.steps ≡ Some 0) × HasStep here.call here.header here.reads 0)

pub record HasNothing (l : Ledger) (old : Option Progress) : Type 0 where
  pub first : Progress
  pub was : old ≡ Some first
  pub none : HasNoProgram l first.call

abbrev pub BeginsOver : Ledger → Option Progress → Option Progress → Bool → Type 0
BeginsOver l old now true = HasBegun l old now
BeginsOver l old now false = HasNothing l old
