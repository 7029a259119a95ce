-- The opcodes of each family, and what is computed from the operands.
use Rattle.std.specs.Prelude.{ℕ, Bool, not, List, Result}
use Rattle.sha2.specs.Sha256.{sha256}
use Rattle.sha2.specs.Sha512.{sha512_256}
use Rattle.teal_value.specs.declared.value.Value.{Value}
use Rattle.teal_value.specs.declared.fault.Fault.{Fault}
use Rattle.teal_table.specs.declared.opcode.Opcode.{Opcode}
use Rattle.teal_table.specs.declared.opcode.Opcode.TheVariants as op
use Rattle.avm_ops.specs.Numbers.{sum_of, difference_of, product_of, quotient_of, remainder_of, bits_or, bits_and, bits_xor, is_less, is_greater, is_at_most, is_at_least, are_both_nonzero, is_either_nonzero, if_equal, wide_product, wide_sum, is_zero, inverted}
use Rattle.avm_ops.specs.ByteStrings.{bytes_of_number, digest_by, length_of, number_of_bytes, range_of}
use Rattle.avm_ops.specs.Immediates.{start_of, end_of}
use Rattle.teal_code.specs.declared.instr.Immediates.{Immediates}
use Rattle.avm_arith.specs.declared.binary.Binary.{Binary}
use Rattle.avm_arith.specs.declared.binary.Binary.TheVariants as binary
use Rattle.avm_arith.specs.declared.of_bytes.OfBytes.{OfBytes}
use Rattle.avm_arith.specs.declared.of_bytes.OfBytes.TheVariants as of_bytes
use Rattle.avm_arith.specs.declared.comparison.Comparison.{Comparison}
use Rattle.avm_arith.specs.declared.comparison.Comparison.TheVariants as comparison
use Rattle.avm_arith.specs.declared.comparison.Equality.{Equality}
use Rattle.avm_arith.specs.declared.comparison.Equality.TheVariants as equality
use Rattle.avm_arith.specs.declared.wide.Wide.{Wide}
use Rattle.avm_arith.specs.declared.wide.Wide.TheVariants as wide
use Rattle.avm_arith.specs.declared.unary.Unary.{Unary}
use Rattle.avm_arith.specs.declared.unary.Unary.TheVariants as unary
use Rattle.avm_arith.specs.declared.joined.Joined.{Joined}
use Rattle.avm_arith.specs.declared.joined.Joined.TheVariants as joined
use Rattle.avm_arith.specs.declared.bits.Bits.{Bits}
use Rattle.avm_arith.specs.declared.bits.Bits.TheVariants as bits

abbrev pub binary_opcode : Binary → Opcode
binary_opcode binary.Add = op.Add
binary_opcode binary.Subtract = op.Subtract
binary_opcode binary.Divide = op.Divide
binary_opcode binary.Multiply = op.Multiply
binary_opcode binary.Remainder = op.Remainder
binary_opcode binary.BitOr = op.BitOr
binary_opcode binary.BitAnd = op.BitAnd
binary_opcode binary.BitXor = op.BitXor

abbrev pub binary_value : Binary → ℕ → ℕ → Result ℕ Fault
binary_value binary.Add = sum_of
binary_value binary.Subtract = difference_of
binary_value binary.Divide = quotient_of
binary_value binary.Multiply = product_of
binary_value binary.Remainder = remainder_of
binary_value binary.BitOr = bits_or
binary_value binary.BitAnd = bits_and
binary_value binary.BitXor = bits_xor

abbrev pub comparison_opcode : Comparison → Opcode
comparison_opcode comparison.Less = op.Less
comparison_opcode comparison.Greater = op.Greater
comparison_opcode comparison.LessOrEqual = op.LessOrEqual
comparison_opcode comparison.GreaterOrEqual = op.GreaterOrEqual
comparison_opcode comparison.And = op.And
comparison_opcode comparison.Or = op.Or

abbrev pub comparison_holds : Comparison → ℕ → ℕ → Bool
comparison_holds comparison.Less = is_less
comparison_holds comparison.Greater = is_greater
comparison_holds comparison.LessOrEqual = is_at_most
comparison_holds comparison.GreaterOrEqual = is_at_least
comparison_holds comparison.And = are_both_nonzero
comparison_holds comparison.Or = is_either_nonzero

abbrev pub equality_opcode : Equality → Opcode
equality_opcode equality.Equal = op.Equal
equality_opcode equality.NotEqual = op.NotEqual

abbrev pub equality_holds : Equality → Bool → Bool
equality_holds equality.Equal = if_equal
equality_holds equality.NotEqual = not

abbrev pub wide_opcode : Wide → Opcode
wide_opcode wide.Mulw = op.Mulw
wide_opcode wide.Addw = op.Addw

abbrev pub wide_value : Wide → ℕ → ℕ → ℕ
wide_value wide.Mulw = wide_product
wide_value wide.Addw = wide_sum

abbrev pub unary_opcode : Unary → Opcode
unary_opcode unary.Not = op.Not
unary_opcode unary.BitNot = op.BitNot
unary_opcode unary.Itob = op.Itob

abbrev pub unary_value : Unary → ℕ → Value
unary_value unary.Not = is_zero
unary_value unary.BitNot = inverted
unary_value unary.Itob = bytes_of_number

abbrev pub of_bytes_opcode : OfBytes → Opcode
of_bytes_opcode of_bytes.Sha256 = op.Sha256
of_bytes_opcode of_bytes.Sha512_256 = op.Sha512_256
of_bytes_opcode of_bytes.Len = op.Len
of_bytes_opcode of_bytes.Btoi = op.Btoi
of_bytes_opcode of_bytes.Substring = op.Substring

abbrev pub of_bytes_value : OfBytes → Immediates → List ℕ → Result Value Fault
of_bytes_value of_bytes.Sha256 i = digest_by sha256
of_bytes_value of_bytes.Sha512_256 i = digest_by sha512_256
of_bytes_value of_bytes.Len i = length_of
of_bytes_value of_bytes.Btoi i = number_of_bytes
of_bytes_value of_bytes.Substring i = λ s. range_of s (start_of i) (end_of i)

abbrev pub joined_opcode : Joined → Opcode
joined_opcode joined.Concat = op.Concat
joined_opcode joined.Substring3 = op.Substring3

abbrev pub bits_opcode : Bits → Opcode
bits_opcode bits.Getbit = op.Getbit
bits_opcode bits.Setbit = op.Setbit
bits_opcode bits.Getbyte = op.Getbyte
bits_opcode bits.Setbyte = op.Setbyte
