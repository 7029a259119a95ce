-- Which calls a block of a profile may have.
use Rattle.std.specs.Prelude.{ℕ, ◌+◌, Bool, true, false, ◌&&◌, if◌then◌else◌, List, [], ◌∷◌, Option, Some, None, is_none}
use Rattle.avm_ledger.specs.declared.header.Profile.{Profile}
use Rattle.avm_ledger.specs.declared.header.Profile.TheVariants as profile
use Rattle.avm_items.specs.declared.call_data.CallData.{CallData}
use Rattle.avm_call.specs.CallRules.{call_fault, needed_profile}

-- What needs profile 2 fits in both, what needs profile 3 in that alone.
abbrev pub fits_in : Profile → Profile → Bool
fits_in profile.Two in_profile = true
fits_in profile.Three profile.Two = false
fits_in profile.Three profile.Three = true

-- a call that breaks no rule of calls, and that brings no program of a version behind the profile
abbrev pub is_accepted : Profile → CallData → Bool
is_accepted in_profile call = is_none (call_fault call) && fits_in (needed_profile call) in_profile

-- the number of the first of these calls that needs a newer profile, where the first of them has this number
abbrev pub first_beyond : Profile → ℕ → List CallData → Option ℕ
first_beyond profile number [] = None
first_beyond profile number (call ∷ calls) =
    if fits_in (needed_profile call) profile then first_beyond profile (number + 1) calls else Some number
