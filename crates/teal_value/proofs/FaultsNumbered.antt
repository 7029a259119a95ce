-- Each fault has a number of one byte, and is the one fault of it.
use Rattle.std.proofs.Common.{◌≡◌, ◌<◌, Some, refl, arith}
use Rattle.teal_value.specs.declared.fault.Fault.{Fault}
use Rattle.teal_value.specs.declared.fault.Fault.TheVariants as fault
use Rattle.teal_value.specs.FaultNumbers.{fault_number, faults, numbered}

-- every fault is found by its number
pub fault_of_number : (f : Fault) → numbered fault_number (fault_number f) faults ≡ Some f
fault_of_number fault.Err = refl
fault_of_number fault.Underflow = refl
fault_of_number fault.WrongType = refl
fault_of_number fault.Compare = refl
fault_of_number fault.Overflow = refl
fault_of_number fault.Negative = refl
fault_of_number fault.DivZero = refl
fault_of_number fault.TooLong = refl
fault_of_number fault.Range = refl
fault_of_number fault.BtoiLength = refl
fault_of_number fault.StackFull = refl
fault_of_number fault.NoConstant = refl
fault_of_number fault.BadField = refl
fault_of_number fault.NoTxn = refl
fault_of_number fault.NoArg = refl
fault_of_number fault.NoAccount = refl
fault_of_number fault.NoForeign = refl
fault_of_number fault.NotOptedIn = refl
fault_of_number fault.NoSuchApp = refl
fault_of_number fault.Schema = refl
fault_of_number fault.KeyLength = refl
fault_of_number fault.FinalDepth = refl
fault_of_number fault.FinalBytes = refl
fault_of_number fault.Assert = refl

-- the number of a fault fits in a byte
pub small_fault : (f : Fault) → fault_number f < 256
small_fault fault.Err = omega arith
small_fault fault.Underflow = omega arith
small_fault fault.WrongType = omega arith
small_fault fault.Compare = omega arith
small_fault fault.Overflow = omega arith
small_fault fault.Negative = omega arith
small_fault fault.DivZero = omega arith
small_fault fault.TooLong = omega arith
small_fault fault.Range = omega arith
small_fault fault.BtoiLength = omega arith
small_fault fault.StackFull = omega arith
small_fault fault.NoConstant = omega arith
small_fault fault.BadField = omega arith
small_fault fault.NoTxn = omega arith
small_fault fault.NoArg = omega arith
small_fault fault.NoAccount = omega arith
small_fault fault.NoForeign = omega arith
small_fault fault.NotOptedIn = omega arith
small_fault fault.NoSuchApp = omega arith
small_fault fault.Schema = omega arith
small_fault fault.KeyLength = omega arith
small_fault fault.FinalDepth = omega arith
small_fault fault.FinalBytes = omega arith
small_fault fault.Assert = omega arith
