-- Listings worked from the definition.
use Rattle.std.proofs.Common.{◌≡◌, [], ◌∷◌, ◌++◌, ℕ, List, codes, Result, Ok, Err, refl}
use Rattle.std.specs.Fmt.{digits}
use Rattle.hex.specs.Hex.{encode_with}
use Rattle.teal_table.specs.Table.{opcodes, opcode_at, row_of}
use Rattle.teal_table.specs.Fields.{txn_field_at, global_field_at}
use Rattle.teal_table.specs.LeftOut.{left_out_at}
use Rattle.teal_table.specs.declared.opcode.Opcode.TheVariants as op
use Rattle.teal_code.specs.declared.instr.Immediates.TheVariants as is
use Rattle.teal_check.specs.WellFormed.{WellFormed, checked, placed_at, placed_from, with_targets}
use Rattle.teal_check.specs.declared.fault.CheckFault.{CheckFault}
use Rattle.teal_dis.specs.Listing.{targets_before, line_of, listing}

branch_line : line_of 7 (record { opcode = op.Bnz; immediates = is.Offset 1 }) ≡ codes "bnz 11"
unfolding row_of digits
branch_line = refl

array_line : line_of 1 (record { opcode = op.Gtxna; immediates = is.GroupArrayField 0 28 255 }) ≡ codes "gtxna 0 Accounts 255"
unfolding row_of digits txn_field_at
array_line = refl

global_line : line_of 1 (record { opcode = op.Global; immediates = is.Field 3 }) ≡ codes "global ZeroAddress"
unfolding row_of digits global_field_at
global_line = refl

constants_line : line_of 1 (record { opcode = op.Bytecblock; immediates = is.ByteBlock ((202 ∷ 254 ∷ []) ∷ [] ∷ (10 ∷ []) ∷ []) }) ≡ codes "bytecblock 0xcafe 0x 0x0a"
unfolding row_of digits encode_with
constants_line = refl

-- the listing of the program that bytes are
listed : List ℕ → Result (List ℕ) CheckFault
listed bytes = of (checked bytes)
  where
    of : Result WellFormed CheckFault → Result (List ℕ) CheckFault
    of (Ok w) = Ok (listing w)
    of (Err e) = Err e

abbrev forward_branch : List ℕ
forward_branch = 0x02 ∷ 0x20 ∷ 0x01 ∷ 0x01 ∷ 0x31 ∷ 0x19 ∷ 0x22 ∷ 0x12 ∷ 0x40 ∷ 0x00 ∷ 0x01 ∷ 0x00 ∷ 0x22 ∷ []

forward_branch_listed : listed forward_branch ≡ Ok (codes "#pragma version 2\n" ++ codes "intcblock 1\n" ++ codes "txn OnCompletion\n" ++ codes "intc_0\n" ++ codes "==\n" ++ codes "bnz label1\n" ++ codes "err\n" ++ codes "label1:\n" ++ codes "intc_0\n")
unfolding row_of digits opcodes opcode_at txn_field_at checked placed_at placed_from with_targets targets_before left_out_at listed
forward_branch_listed = refl

-- a branch to the end
end_listed : listed (0x02 ∷ 0x20 ∷ 0x01 ∷ 0x01 ∷ 0x22 ∷ 0x42 ∷ 0x00 ∷ 0x00 ∷ []) ≡ Ok (codes "#pragma version 2\n" ++ codes "intcblock 1\n" ++ codes "intc_0\n" ++ codes "b label1\n" ++ codes "label1:\n")
unfolding row_of digits opcodes opcode_at checked placed_at placed_from with_targets targets_before left_out_at listed
end_listed = refl

-- one label for two branches, and labels by rising place where the first branch leads to the later
crossed_listed : listed (0x03 ∷ 0x42 ∷ 0x00 ∷ 0x04 ∷ 0x42 ∷ 0x00 ∷ 0x00 ∷ 0x48 ∷ 0x42 ∷ 0x00 ∷ 0x00 ∷ []) ≡ Ok (codes "#pragma version 3\n" ++ codes "b label2\n" ++ codes "b label1\n" ++ codes "label1:\n" ++ codes "pop\n" ++ codes "label2:\n" ++ codes "b label3\n" ++ codes "label3:\n")
unfolding row_of digits opcodes opcode_at checked placed_at placed_from with_targets targets_before left_out_at listed
crossed_listed = refl

encoded_longer : listed (0x02 ∷ 0x20 ∷ 0x81 ∷ 0x00 ∷ 0x01 ∷ 0x22 ∷ []) ≡ Ok (codes "#pragma version 2\n" ++ codes "intcblock 1\n" ++ codes "intc_0\n")
unfolding row_of digits opcodes opcode_at checked placed_at placed_from with_targets targets_before left_out_at listed
encoded_longer = refl
