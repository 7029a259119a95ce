-- The names of faults, which commands print and errors show.
use Rattle.std.specs.Prelude.{ℕ, List, codes}
use Rattle.teal_value.specs.declared.fault.Fault.{Fault}
use Rattle.teal_value.specs.declared.fault.Fault.TheVariants as fault
use Rattle.teal_value.specs.declared.address_encoding.AddressFault.{AddressFault}
use Rattle.teal_value.specs.declared.address_encoding.AddressFault.TheVariants as address

abbrev pub fault_name : Fault → List ℕ
fault_name fault.Err = codes "Err"
fault_name fault.Underflow = codes "Underflow"
fault_name fault.WrongType = codes "WrongType"
fault_name fault.Compare = codes "Compare"
fault_name fault.Overflow = codes "Overflow"
fault_name fault.Negative = codes "Negative"
fault_name fault.DivZero = codes "DivZero"
fault_name fault.TooLong = codes "TooLong"
fault_name fault.Range = codes "Range"
fault_name fault.BtoiLength = codes "BtoiLength"
fault_name fault.StackFull = codes "StackFull"
fault_name fault.NoConstant = codes "NoConstant"
fault_name fault.BadField = codes "BadField"
fault_name fault.NoTxn = codes "NoTxn"
fault_name fault.NoArg = codes "NoArg"
fault_name fault.NoAccount = codes "NoAccount"
fault_name fault.NoForeign = codes "NoForeign"
fault_name fault.NotOptedIn = codes "NotOptedIn"
fault_name fault.NoSuchApp = codes "NoSuchApp"
fault_name fault.Schema = codes "Schema"
fault_name fault.KeyLength = codes "KeyLength"
fault_name fault.FinalDepth = codes "FinalDepth"
fault_name fault.FinalBytes = codes "FinalBytes"
fault_name fault.Assert = codes "Assert"

abbrev pub address_fault_name : AddressFault → List ℕ
address_fault_name address.BadText = codes "BadText"
address_fault_name address.BadChecksum = codes "BadChecksum"
