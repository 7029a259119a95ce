use Rattle.teal_dis.proofs.Gathered.{gathers}
use Rattle.teal_dis.proofs.operands.operands.Goals as goal

pub returns-in-Index : goal.returns-in-Index
returns-in-Index c =
    rw c.in-Index.is (gathers (λ v. v.items) _ _ c.gathered.result (c.byte.ensures, tt) c.gathered.ensures)

pub returns-in-Field : goal.returns-in-Field
returns-in-Field c =
    rw c.in-Field.is (gathers (λ v. v.items) _ _ c.gathered-in-Field.result (c.field.ensures, tt) c.gathered-in-Field.ensures)

pub returns-in-GroupField : goal.returns-in-GroupField
returns-in-GroupField c =
    rw c.in-GroupField.is (gathers (λ v. v.items) _ _ c.gathered-in-GroupField.result (c.byte-in-GroupField.ensures, (c.txn.ensures, tt)) c.gathered-in-GroupField.ensures)

pub returns-in-ArrayField : goal.returns-in-ArrayField
returns-in-ArrayField c =
    rw c.in-ArrayField.is (gathers (λ v. v.items) _ _ c.gathered-in-ArrayField.result (c.txn-in-ArrayField.ensures, (c.byte-in-ArrayField.ensures, tt)) c.gathered-in-ArrayField.ensures)

pub returns-in-GroupArrayField : goal.returns-in-GroupArrayField
returns-in-GroupArrayField c =
    rw c.in-GroupArrayField.is (gathers (λ v. v.items) _ _ c.gathered-in-GroupArrayField.result (c.byte-in-GroupArrayField.ensures, (c.txn-in-GroupArrayField.ensures, (c.byte-in-GroupArrayField-2.ensures, tt))) c.gathered-in-GroupArrayField.ensures)

pub returns-in-Bounds : goal.returns-in-Bounds
returns-in-Bounds c =
    rw c.in-Bounds.is (gathers (λ v. v.items) _ _ c.gathered-in-Bounds.result (c.byte-in-Bounds.ensures, (c.byte-in-Bounds-2.ensures, tt)) c.gathered-in-Bounds.ensures)

pub returns-in-Offset : goal.returns-in-Offset
returns-in-Offset c =
    rw c.in-Offset.is (gathers (λ v. v.items) _ _ c.gathered-in-Offset.result (c.from_str.ensures.ok, tt) c.gathered-in-Offset.ensures)

pub returns-in-Uint : goal.returns-in-Uint
returns-in-Uint c =
    rw c.in-Uint.is (gathers (λ v. v.items) _ _ c.gathered-in-Uint.result (c.number.ensures, tt) c.gathered-in-Uint.ensures)

pub returns-in-Bytes : goal.returns-in-Bytes
returns-in-Bytes c =
    rw c.in-Bytes.is (gathers (λ v. v.items) _ _ c.gathered-in-Bytes.result (c.constant.ensures, tt) c.gathered-in-Bytes.ensures)
