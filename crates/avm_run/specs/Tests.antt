-- What a function of the tests before a program answers, against its definition.
use Rattle.std.specs.Prelude.{◌≡◌, ℕ, ◌<◌, ◌-◌, ◌^◌, true, Result, Ok, Err}
use Rattle.avm_items.specs.Asks.{Answer}
use Rattle.avm_items.specs.declared.call_data.CallData.{CallData}
use Rattle.avm_items.specs.CallFields.{creates}
use Rattle.avm_call.specs.declared.outcome.Why.{Why}
use Rattle.avm_call.specs.Calls.{Target}
use Rattle.avm_run.specs.declared.admission.Admitted.{Admitted}
use Rattle.avm_run.specs.declared.admission.AdmissionStop.{AdmissionStop}
use Rattle.avm_run.specs.declared.admission.AdmissionStop.TheVariants as admission_stop

-- It stopped as the definition does, unless memory ran out.
abbrev pub Halts : {A : Type 0} → AdmissionStop → Answer (Result A Why) → Type 0
Halts (admission_stop.Refused w) answer = answer ≡ Ok (Err w)
Halts (admission_stop.Need x) answer = answer ≡ Err x
Halts admission_stop.Memory answer = Unit {0}

-- It gave what the definition gives, or stopped as it does.
abbrev pub Tests : {A : Type 0} → Result A AdmissionStop → Answer (Result A Why) → Type 0
Tests (Ok a) answer = answer ≡ Ok (Ok a)
Tests (Err h) answer = Halts h answer

abbrev pub IsAdmitted : Result Admitted AdmissionStop → Answer (Result Target Why) → Type 0
IsAdmitted (Ok a) answer = answer ≡ Ok (Ok (record { id = a.id; row = a.row }))
IsAdmitted (Err h) answer = Halts h answer

-- a creation leaves an id for the next one
abbrev pub HasRoom : CallData → ℕ → Type 0
HasRoom call id = creates call ≡ true → id < 2 ^ 64 - 1
