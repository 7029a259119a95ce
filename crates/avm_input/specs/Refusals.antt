-- What is answered to a refused input of lines of digits.
use Rattle.std.specs.Prelude.{ℕ, ◌++◌, List, Option, Some, None, codes, decimal}
use Rattle.teal_check.specs.declared.fault.CheckFault.{CheckFault}
use Rattle.teal_check.specs.declared.fault.CheckFault.TheVariants as check
use Rattle.teal_check.specs.FaultNames.{check_fault_name}
use Rattle.avm_ledger.specs.declared.ledger_fault.LedgerFault.{LedgerFault}
use Rattle.avm_ledger.specs.FaultNames.{ledger_fault_name}
use Rattle.avm_block.specs.declared.block_fault.BlockFault.{BlockFault}
use Rattle.avm_block.specs.FaultNames.{block_fault_name}
use Rattle.avm_block.specs.declared.past_faults.StateFault.{StateFault}
use Rattle.avm_block.specs.FaultNames.{state_fault_name}
use Rattle.avm_input.specs.declared.call_line.CallLineFault.{CallLineFault}
use Rattle.avm_block.specs.declared.past_faults.OpenFault.{OpenFault}
use Rattle.avm_block.specs.FaultNames.{open_fault_name}
use Rattle.avm_input.specs.declared.refusals.Refusal.{Refusal}
use Rattle.avm_input.specs.declared.refusals.Refusal.TheVariants as refusal
use Rattle.avm_input.specs.CallLines.{call_line_name}
use Rattle.avm_input.specs.Replies.{Reply, refused}

-- the place of the instruction that breaks a rule of instructions
abbrev pub check_place : CheckFault → Option ℕ
check_place check.Version = None
check_place check.Length = None
check_place (check.Code place fault) = Some place
check_place (check.OutOfProfile place) = Some place
check_place (check.Backward place) = Some place
check_place (check.NotAligned place) = Some place
check_place (check.PastEnd place) = Some place
check_place check.Cost = None
check_place (check.UnknownField place) = Some place

abbrev pub behind_name : Option ℕ → List ℕ
behind_name None = codes "\n"
behind_name (Some place) = codes " " ++ (decimal place ++ codes "\n")

abbrev pub check_text : CheckFault → List ℕ
check_text fault = codes "refused check " ++ (check_fault_name fault ++ behind_name (check_place fault))

abbrev pub ledger_text : LedgerFault → List ℕ
ledger_text fault = codes "refused ledger " ++ (ledger_fault_name fault ++ codes "\n")

abbrev pub block_text : BlockFault → List ℕ
block_text fault = codes "refused block " ++ (block_fault_name fault ++ codes "\n")

abbrev pub state_text : StateFault → List ℕ
state_text fault = codes "refused state " ++ (state_fault_name fault ++ codes "\n")

-- the call of this number, counted from 1
abbrev pub call_text : ℕ → CallLineFault → List ℕ
call_text number fault = codes "refused call " ++ (decimal number ++ (codes " " ++ (call_line_name fault ++ codes "\n")))

abbrev pub opening_text : OpenFault → List ℕ
opening_text fault = codes "refused debug " ++ (open_fault_name fault ++ codes "\n")

abbrev pub refusal_text : Refusal → List ℕ
refusal_text (refusal.Hex line) = codes "refused hex " ++ (decimal line ++ codes "\n")
refusal_text refusal.Lines = codes "refused lines\n"
refusal_text (refusal.Check fault) = check_text fault
refusal_text (refusal.Ledger fault) = ledger_text fault
refusal_text (refusal.Block fault) = block_text fault
refusal_text refusal.Header = codes "refused header\n"
refusal_text (refusal.Call number fault) = call_text number fault
refusal_text (refusal.State fault) = state_text fault
refusal_text (refusal.Opening fault) = opening_text fault
refusal_text refusal.Ended = codes "refused debug Ended\n"

abbrev pub refusal_reply : Refusal → Reply
refusal_reply why = record { text = refusal_text why; status = refused }
