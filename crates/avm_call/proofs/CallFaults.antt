-- What a call keeps to where none of the tests of a call has a fault, test by test.
use Rattle.std.proofs.Common.{◌≡◌, Bool, true, false, Option, None, Some, Result, Ok, Err, refl}
use Rattle.std.specs.Prelude.{if◌then◌else◌, is_ok}
use Rattle.teal_check.specs.declared.fault.CheckFault.{CheckFault}
use Rattle.teal_check.specs.WellFormed.{WellFormed}
use Rattle.avm_call.specs.declared.call_fault.CallFault.{CallFault}
use Rattle.avm_call.specs.CallRules.{program_fault, or_fault}

-- where two tests together have no fault, neither has one
pub none_of_both : (o p : Option CallFault) → or_fault o p ≡ None → (o ≡ None) × (p ≡ None)
none_of_both (Some f) p e = absurd cc
none_of_both None p e = (refl, e)

-- where a test and the rest have no fault, the test is false and the rest has none
pub no_fault : (b : Bool) (f : CallFault) (rest : Option CallFault) → (if b then Some f else rest) ≡ None → (b ≡ false) × (rest ≡ None)
no_fault true f rest e = absurd cc
no_fault false f rest e = (refl, e)

-- a program that has no fault passes the checks
pub program_passes : (r : Result WellFormed CheckFault) → program_fault r ≡ None → is_ok r ≡ true
program_passes (Ok w) e = refl
program_passes (Err f) e = absurd cc
