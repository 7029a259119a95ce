-- The sets of objects that the program makes, and those that workers are given.
use Rattle.std.specs.Prelude.{◌≡◌, ◌<◌, ◌≤◌, List, length}
use Rattle.std.specs.List.{AllByRecursion}
use Rattle.teal_table.specs.declared.opcode.Opcode.{Opcode}
use Rattle.avm_ops.specs.OpSets.{IsFull, Slots}
use Rattle.avm_pool.specs.Refusals.{AreFull}

-- one for each of 8 workers, and one for the thread that is called; each has an object of every opcode
pub record AreSets {O : Type 0} (opcode : O → Opcode) (sets : List (Slots O)) : Type 0 where
  pub count : length sets ≡ 9
  pub full : AllByRecursion (IsFull opcode) sets

-- one for each of 1 to 8 workers, and the caller's own
pub record AreWorkerSets {O : Type 0} (opcode : O → Opcode) (sets : List (Slots O)) (own : Slots O) : Type 0 where
  pub some : 0 < length sets
  pub few : length sets ≤ 8
  pub full : AreFull opcode sets own
