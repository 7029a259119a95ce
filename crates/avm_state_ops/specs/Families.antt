-- The opcodes of each family.
use Rattle.teal_table.specs.declared.opcode.Opcode.{Opcode}
use Rattle.teal_table.specs.declared.opcode.Opcode.TheVariants as op
use Rattle.avm_state_ops.specs.declared.txn.Txn.{Txn}
use Rattle.avm_state_ops.specs.declared.txn.Txn.TheVariants as txn
use Rattle.avm_state_ops.specs.declared.reads.StateRead.{StateRead}
use Rattle.avm_state_ops.specs.declared.reads.StateRead.TheVariants as read
use Rattle.avm_state_ops.specs.declared.writes.StateWrite.{StateWrite}
use Rattle.avm_state_ops.specs.declared.writes.StateWrite.TheVariants as write

abbrev pub txn_opcode : Txn → Opcode
txn_opcode txn.Scalar = op.Txn
txn_opcode txn.Element = op.Txna
txn_opcode txn.GroupScalar = op.Gtxn
txn_opcode txn.GroupElement = op.Gtxna
txn_opcode txn.StackScalar = op.Gtxns
txn_opcode txn.StackElement = op.Gtxnsa

abbrev pub read_opcode : StateRead → Opcode
read_opcode read.OptedIn = op.AppOptedIn
read_opcode read.LocalGet = op.AppLocalGet
read_opcode read.LocalGetEx = op.AppLocalGetEx
read_opcode read.GlobalGet = op.AppGlobalGet
read_opcode read.GlobalGetEx = op.AppGlobalGetEx

abbrev pub write_opcode : StateWrite → Opcode
write_opcode write.LocalPut = op.AppLocalPut
write_opcode write.GlobalPut = op.AppGlobalPut
write_opcode write.LocalDelete = op.AppLocalDel
write_opcode write.GlobalDelete = op.AppGlobalDel
