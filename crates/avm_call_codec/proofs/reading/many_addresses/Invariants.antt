use Rattle.std.proofs.Common.{◌-◌}
use Rattle.teal_code.specs.Reader.{many_at}
use Rattle.avm_ledger.specs.FieldReader.{address_at}
use Rattle.avm_ledger.proofs.ManyReading.{ReadsOn}
use Rattle.avm_call_codec.specs.declared.call_data_fault.CallDataFault.TheVariants.{Truncated}
use Rattle.avm_call_codec.proofs.reading.many_addresses.Given as goal

abbrev pub invariant-loop : goal.invariant-loop
invariant-loop l = ReadsOn (address_at Truncated) l.addresses.items (l.count - l.counter) l.rest (many_at (address_at Truncated) l.count l.fn.fields)
