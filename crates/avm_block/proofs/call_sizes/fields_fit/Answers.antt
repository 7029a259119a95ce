use Rattle.std.proofs.Common.{arith, subst, All}
use Rattle.avm_call_codec.specs.CallRoundTrip.{IsAddress, IsWord}
use Rattle.avm_block.proofs.CheckedCalls.{fields_fit}
use Rattle.avm_block.proofs.call_sizes.fields_fit.Goals as goal

pub returns : goal.returns
returns c =
    fields_fit c.args.fields.now c.requires (record {
      sender = c.is_address.ensures;
      fee = omega arith;
      first_valid = omega arith;
      last_valid = omega arith;
      lease = c.has_32_bytes.ensures;
      rekey_to = c.is_address-2.ensures;
      application = omega arith;
      accounts = subst (All IsAddress) c.as_slice-2.ensures c.are_addresses.ensures;
      foreign_applications = subst (All IsWord) c.as_slice.ensures c.are_words.ensures;
      global_uints = c.schema_fits.ensures.uints;
      global_strings = c.schema_fits.ensures.bytes;
      local_uints = c.schema_fits-2.ensures.uints;
      local_strings = c.schema_fits-2.ensures.bytes;
    })
