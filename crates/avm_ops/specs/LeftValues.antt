-- The values that a row of the opcode table leaves. The statement of the law.
use Rattle.std.specs.Prelude.{◌≡◌, ◌≢◌, ◌+◌, true, List, length, drop, reverse, Ok}
use Rattle.teal_value.specs.declared.value.Value.{Value}
use Rattle.teal_table.specs.declared.shape.ValueKind.{ValueKind}
use Rattle.teal_table.specs.declared.opcode.Opcode.{Opcode}
use Rattle.teal_table.specs.Table.{row_of}
use Rattle.teal_code.specs.declared.instr.Immediates.{Immediates}
use Rattle.avm_items.specs.Items.{Look}
use Rattle.avm_items.specs.Asks.{result_over}
use Rattle.avm_cpu.specs.declared.flow.Flow.TheVariants as flow
use Rattle.avm_ops.specs.Frame.{Context, After}
use Rattle.avm_ops.specs.TakenOperands.{are_kinds}
use Rattle.avm_ops.specs.Effect.{effect}

-- The operands give way to values of the kinds that the row leaves; below them the stack is as it was.
pub record LeavesValues (pops pushes : List ValueKind) (before after : List Value) : Type 0 where
  pub count : length after + length pops ≡ length before + length pushes
  pub kinds : are_kinds (reverse pushes) after ≡ true
  pub below : drop (length pushes) after ≡ drop (length pops) before

-- An instruction behind which a run goes on leaves what its row says, whatever the items' values are. (One that ends the
-- program, as return does, leaves its operand alone on the stack.)
abbrev pub LeavesItsRow : Type 0
LeavesItsRow =
    (c : Context) (o : Opcode) (i : Immediates) (look : Look) (after : After) → result_over look (effect c o i) ≡ Ok after → after.flow ≢ flow.End
    → LeavesValues (row_of o).pops (row_of o).pushes c.machine.stack after.machine.stack
