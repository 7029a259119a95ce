-- The names of faults, which errors show.
use Rattle.std.specs.Prelude.{ℕ, List, codes}
use Rattle.mv_core.specs.declared.faults.ReadFault.{ReadFault}
use Rattle.mv_core.specs.declared.faults.ReadFault.TheVariants as read
use Rattle.mv_core.specs.declared.faults.CommitFault.{CommitFault}
use Rattle.mv_core.specs.declared.faults.CommitFault.TheVariants as commit
use Rattle.mv_core.specs.declared.faults.AbandonFault.{AbandonFault}
use Rattle.mv_core.specs.declared.faults.AbandonFault.TheVariants as abandon
use Rattle.mv_core.specs.declared.faults.StateFault.{StateFault}
use Rattle.mv_core.specs.declared.faults.StateFault.TheVariants as state

abbrev pub read_fault_name : ReadFault → List ℕ
read_fault_name read.Unknown = codes "Unknown"

abbrev pub commit_fault_name : CommitFault → List ℕ
commit_fault_name commit.Unknown = codes "Unknown"
commit_fault_name commit.Stranger = codes "Stranger"
commit_fault_name (commit.Late item version mark) = codes "Late"

abbrev pub abandon_fault_name : AbandonFault → List ℕ
abandon_fault_name abandon.Unknown = codes "Unknown"

abbrev pub state_fault_name : StateFault → List ℕ
state_fault_name state.Pruned = codes "Pruned"
