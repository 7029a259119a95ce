-- Of full sets the last is the caller's own, and as many of the others as are wanted are the workers'.
use Rattle.std.proofs.Common.{ℕ, zero, suc, List, [], ◌∷◌, ◌++◌}
use Rattle.std.specs.Prelude.{take}
use Rattle.std.specs.List.{AllByRecursion}
use Rattle.teal_table.specs.declared.opcode.Opcode.{Opcode}
use Rattle.avm_ops.specs.OpSets.{IsFull, Slots}
use Rattle.avm_pool.specs.Refusals.{AreFull}

module _ {O : Type 0} (opcode : O → Opcode) where
  pub last_is_own : (sets : List (Slots O)) (own : Slots O) → AllByRecursion (IsFull opcode) (sets ++ own ∷ []) → AreFull opcode sets own
  last_is_own [] own full = full.0
  last_is_own (set ∷ sets) own full = (full.0, last_is_own sets own full.1)

  pub own_is_full : (sets : List (Slots O)) (own : Slots O) → AreFull opcode sets own → IsFull opcode own
  own_is_full [] own full = full
  own_is_full (set ∷ sets) own full = own_is_full sets own full.1

  pub fewer_are_full : (n : ℕ) (sets : List (Slots O)) (own : Slots O) → AreFull opcode sets own → AreFull opcode (take n sets) own
  fewer_are_full zero sets own full = own_is_full sets own full
  fewer_are_full (suc n) [] own full = full
  fewer_are_full (suc n) (set ∷ sets) own full = (full.0, fewer_are_full n sets own full.1)
