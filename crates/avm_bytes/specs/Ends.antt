-- How a call ends, in numbers: its kind, the fault or the reason in the bytes of outcomes, the place.
use Rattle.teal_value.specs.FaultNumbers.{fault_number}
use Rattle.avm_call.specs.declared.outcome.Cause.TheVariants as cause
use Rattle.avm_call.specs.declared.outcome.Outcome.{Outcome}
use Rattle.avm_call.specs.declared.outcome.Outcome.TheVariants as outcome
use Rattle.avm_call.specs.OutcomeEncoding.{why_number}
use Rattle.avm_bytes.specs.declared.ends.End.{End}

abbrev pub end_of : Outcome → End
end_of outcome.Approved = record { ending = 0; number = 0; place = 0 }
end_of outcome.Rejected = record { ending = 1; number = 0; place = 0 }
end_of (outcome.Faulted f place) = record { ending = 2; number = fault_number f; place = place }
end_of (outcome.Refused w) = record { ending = 3; number = why_number w; place = 0 }
end_of (outcome.ClearedAnyway cause.Gone) = record { ending = 4; number = 0; place = 0 }
end_of (outcome.ClearedAnyway cause.Rejected) = record { ending = 5; number = 0; place = 0 }
end_of (outcome.ClearedAnyway (cause.Faulted f place)) = record { ending = 6; number = fault_number f; place = place }
