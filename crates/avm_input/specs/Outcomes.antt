-- Outcomes in words.
use Rattle.std.specs.Prelude.{ℕ, ◌++◌, List, codes, decimal}
use Rattle.teal_value.specs.declared.fault.Fault.{Fault}
use Rattle.teal_value.specs.FaultNames.{fault_name}
use Rattle.avm_call.specs.declared.outcome.Cause.{Cause}
use Rattle.avm_call.specs.declared.outcome.Cause.TheVariants as cause
use Rattle.avm_call.specs.declared.outcome.Outcome.{Outcome}
use Rattle.avm_call.specs.declared.outcome.Outcome.TheVariants as outcome
use Rattle.avm_call.specs.FaultNames.{why_name}

abbrev pub faulted_text : Fault → ℕ → List ℕ
faulted_text f place = codes "faulted " ++ (fault_name f ++ (codes " " ++ decimal place))

abbrev pub cause_text : Cause → List ℕ
cause_text cause.Gone = codes "gone"
cause_text cause.Rejected = codes "rejected"
cause_text (cause.Faulted f place) = faulted_text f place

abbrev pub outcome_text : Outcome → List ℕ
outcome_text outcome.Approved = codes "approved"
outcome_text outcome.Rejected = codes "rejected"
outcome_text (outcome.Faulted f place) = faulted_text f place
outcome_text (outcome.Refused w) = codes "refused " ++ why_name w
outcome_text (outcome.ClearedAnyway c) = codes "cleared " ++ cause_text c
