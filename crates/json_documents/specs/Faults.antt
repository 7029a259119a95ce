-- What a document is refused for, and where.
use Rattle.std.specs.Prelude.{◌≡◌, List, [], ◌∷◌, ◌++◌, Option, Some, None, Result, Ok, Err}
use Rattle.teal_value.specs.declared.failure.Failure.{Failure}
use Rattle.teal_value.specs.declared.failure.Failure.TheVariants as failure
use Rattle.json_documents.specs.declared.document_fault.DocumentFault.{DocumentFault}
use Rattle.json_documents.specs.Steps.{Step}

-- what is wrong with a value, and the steps to it from the document, the last one first
pub record Fault : Type 0 where
  pub path : List Step
  pub what : DocumentFault

-- the value itself is at fault
abbrev pub here : DocumentFault → Fault
here what = record { path = []; what = what }

abbrev pub further : Step → Fault → Fault
further step f = record { path = f.path ++ step ∷ []; what = f.what }

-- what a value behind a step gives, to whoever stands before it
abbrev pub in_step : {A : Type 0} → Step → Result A Fault → Result A Fault
in_step step (Ok x) = Ok x
in_step step (Err f) = Err (further step f)

-- the value, where it is there
abbrev pub or_else_fault : {A : Type 0} → Option A → DocumentFault → Result A Fault
or_else_fault (Some x) what = Ok x
or_else_fault None what = Err (here what)

-- a failure as it is seen from before a step; memory may run out on the way
abbrev pub IsFurther : Step → Failure Fault → Failure Fault → Type 0
IsFurther step failure.Memory outer = outer ≡ failure.Memory
IsFurther step (failure.Fault f) failure.Memory = Unit {0}
IsFurther step (failure.Fault f) (failure.Fault g) = g ≡ further step f
