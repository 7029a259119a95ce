use Rattle.std.proofs.Common.{◌-◌}
use Rattle.std.specs.Int.{w64}
use Rattle.teal_code.specs.Reader.{many_at}
use Rattle.avm_ledger.specs.FieldReader.{number_at}
use Rattle.avm_ledger.proofs.ManyReading.{ReadsOn}
use Rattle.avm_call_codec.specs.declared.call_data_fault.CallDataFault.TheVariants.{Truncated}
use Rattle.avm_call_codec.proofs.reading.many_uints.Given as goal

abbrev pub invariant-loop : goal.invariant-loop
invariant-loop l = ReadsOn (number_at Truncated w64) l.numbers.items (l.count - l.counter) l.rest (many_at (number_at Truncated w64) l.count l.fn.fields)
