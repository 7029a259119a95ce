-- The bytes of an outcome.
use Rattle.std.specs.Prelude.{ℕ, List, [], ◌∷◌}
use Rattle.teal_value.specs.FaultNumbers.{fault_number}
use Rattle.avm_ledger.specs.Encodings.{u16_bytes}
use Rattle.avm_call.specs.declared.outcome.Why.{Why}
use Rattle.avm_call.specs.declared.outcome.Why.TheVariants as why
use Rattle.avm_call.specs.declared.outcome.Cause.TheVariants as cause
use Rattle.avm_call.specs.declared.outcome.Outcome.{Outcome}
use Rattle.avm_call.specs.declared.outcome.Outcome.TheVariants as outcome

abbrev pub why_number : Why → ℕ
why_number why.NoApp = 1
why_number why.AlreadyIn = 2
why_number why.NotIn = 3
why_number why.IdsEnd = 4

abbrev pub whys : List Why
whys = why.NoApp ∷ why.AlreadyIn ∷ why.NotIn ∷ why.IdsEnd ∷ []

abbrev pub outcome_bytes : Outcome → List ℕ
outcome_bytes outcome.Approved = 0 ∷ []
outcome_bytes outcome.Rejected = 1 ∷ []
outcome_bytes (outcome.Faulted f place) = 2 ∷ fault_number f ∷ u16_bytes place
outcome_bytes (outcome.Refused w) = 3 ∷ why_number w ∷ []
outcome_bytes (outcome.ClearedAnyway cause.Gone) = 4 ∷ 0 ∷ []
outcome_bytes (outcome.ClearedAnyway cause.Rejected) = 4 ∷ 1 ∷ []
outcome_bytes (outcome.ClearedAnyway (cause.Faulted f place)) = 4 ∷ 2 ∷ fault_number f ∷ u16_bytes place
