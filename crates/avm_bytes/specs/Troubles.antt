-- What is wrong with bytes, and what of it C is told.
use Rattle.std.specs.Prelude.{◌≡◌, ℕ, Option, Some, None, Result, Ok, Err}
use Rattle.avm_bytes.specs.declared.statuses.Status.{Status}
use Rattle.avm_bytes.specs.declared.statuses.Status.TheVariants as status
use Rattle.avm_bytes.specs.declared.troubles.Refused.{Refused}
use Rattle.avm_bytes.specs.declared.troubles.Trouble.{Trouble}
use Rattle.avm_bytes.specs.Statuses.{status_number}

abbrev pub trouble_at : ℕ → ℕ → Trouble
trouble_at place number = record { place = place; number = number; code = 0 }

-- a fault that has no place
abbrev pub refused_for : Status → ℕ → Refused
refused_for why number = record { status = why; trouble = trouble_at 0 number }

-- the same, with this refusal in place of a fault
abbrev pub or_refused : {A F : Type 0} → (F → Refused) → Result A F → Result A Refused
or_refused of_fault (Ok x) = Ok x
or_refused of_fault (Err fault) = Err (of_fault fault)

-- the refusal alone
abbrev pub refusal_of : {A F : Type 0} → (F → Refused) → Result A F → Option Refused
refusal_of of_fault (Ok x) = None
refusal_of of_fault (Err fault) = Some (of_fault fault)

-- What is wrong is told, with its status; where nothing is, what stood there stays.
abbrev pub IsToldTrouble : Option Refused → Trouble → Trouble → ℕ → Type 0
IsToldTrouble None old new result = (result ≡ status_number status.Done) × (new ≡ old)
IsToldTrouble (Some r) old new result = (result ≡ status_number r.status) × (new ≡ r.trouble)

-- the trouble that is told, or what stood there
abbrev pub told_trouble : Trouble → Option Trouble → Trouble
told_trouble old None = old
told_trouble old (Some found) = found
