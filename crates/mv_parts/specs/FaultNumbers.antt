-- The numbers of faults whose variants have fields.
use Rattle.std.specs.Prelude.{ℕ}
use Rattle.mv_parts.specs.declared.commit_fault.CommitFault.{CommitFault}
use Rattle.mv_parts.specs.declared.commit_fault.CommitFault.TheVariants as commit

abbrev pub commit_fault_number : CommitFault → ℕ
commit_fault_number (commit.Late item version mark) = 1
commit_fault_number commit.Unknown = 2
commit_fault_number commit.Stranger = 3
commit_fault_number (commit.Moved item) = 4
commit_fault_number (commit.Foreign shard) = 5
