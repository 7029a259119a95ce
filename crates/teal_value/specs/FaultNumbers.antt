-- The numbers of faults in the bytes of outcomes.
use Rattle.std.specs.Prelude.{ℕ, ◌==◌, if◌then◌else◌, List, [], ◌∷◌, Option, Some, None}
use Rattle.teal_value.specs.declared.fault.Fault.{Fault}
use Rattle.teal_value.specs.declared.fault.Fault.TheVariants as fault

abbrev pub fault_number : Fault → ℕ
fault_number fault.Err = 1
fault_number fault.Underflow = 2
fault_number fault.WrongType = 3
fault_number fault.Compare = 4
fault_number fault.Overflow = 5
fault_number fault.Negative = 6
fault_number fault.DivZero = 7
fault_number fault.TooLong = 8
fault_number fault.Range = 9
fault_number fault.BtoiLength = 10
fault_number fault.StackFull = 11
fault_number fault.NoConstant = 12
fault_number fault.BadField = 13
fault_number fault.NoTxn = 14
fault_number fault.NoArg = 15
fault_number fault.NoAccount = 16
fault_number fault.NoForeign = 17
fault_number fault.NotOptedIn = 18
fault_number fault.NoSuchApp = 19
fault_number fault.Schema = 20
fault_number fault.KeyLength = 21
fault_number fault.FinalDepth = 22
fault_number fault.FinalBytes = 23
fault_number fault.Assert = 24

abbrev pub faults : List Fault
faults =
    fault.Err ∷ fault.Underflow ∷ fault.WrongType ∷ fault.Compare ∷ fault.Overflow ∷ fault.Negative ∷ fault.DivZero ∷ fault.TooLong ∷ fault.Range
    ∷ fault.BtoiLength ∷ fault.StackFull ∷ fault.NoConstant ∷ fault.BadField ∷ fault.NoTxn ∷ fault.NoArg ∷ fault.NoAccount ∷ fault.NoForeign
    ∷ fault.NotOptedIn ∷ fault.NoSuchApp ∷ fault.Schema ∷ fault.KeyLength ∷ fault.FinalDepth ∷ fault.FinalBytes ∷ fault.Assert ∷ []

-- the value of a number among these
abbrev pub numbered : {A : Type 0} → (A → ℕ) → ℕ → List A → Option A
numbered number n [] = None
numbered number n (x ∷ xs) = if number x == n then Some x else numbered number n xs
