-- The names of faults, which commands print and errors show.
use Rattle.std.specs.Prelude.{ℕ, List, codes}
use Rattle.avm_block.specs.declared.block_fault.BlockFault.{BlockFault}
use Rattle.avm_block.specs.declared.block_fault.BlockFault.TheVariants as fault
use Rattle.avm_block.specs.declared.past_faults.StateFault.{StateFault}
use Rattle.avm_block.specs.declared.past_faults.StateFault.TheVariants as state
use Rattle.avm_block.specs.declared.past_faults.OpenFault.{OpenFault}
use Rattle.avm_block.specs.declared.past_faults.OpenFault.TheVariants as opening

abbrev pub block_fault_name : BlockFault → List ℕ
block_fault_name fault.Magic = codes "Magic"
block_fault_name fault.Format = codes "Format"
block_fault_name fault.Truncated = codes "Truncated"
block_fault_name fault.Rest = codes "Rest"
block_fault_name fault.Order = codes "Order"
block_fault_name fault.Field = codes "Field"
block_fault_name fault.Digest = codes "Digest"

abbrev pub state_fault_name : StateFault → List ℕ
state_fault_name state.WrongBase = codes "WrongBase"

abbrev pub open_fault_name : OpenFault → List ℕ
open_fault_name opening.NoEntry = codes "NoEntry"
open_fault_name opening.WrongBase = codes "WrongBase"
open_fault_name opening.NoProgram = codes "NoProgram"
open_fault_name opening.Pruned = codes "Pruned"
