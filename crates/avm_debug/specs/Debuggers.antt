-- What is seen of a debugger.
use Rattle.std.specs.Prelude.{Option}
use Rattle.avm_stepper.specs.Debugging.{Debugged}
use Rattle.avm_debug.specs.declared.source.Source.{Source}

-- what a call was opened of, and the call that is stepped through; none where memory was refused to it
pub record SourcedCall : Type 0 where
  pub source : Source
  pub stepper : Option Debugged
