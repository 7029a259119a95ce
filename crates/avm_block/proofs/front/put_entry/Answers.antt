use Rattle.std.proofs.Common.{◌++◌}
use Rattle.avm_ledger.specs.Encodings.{u64_bytes}
use Rattle.avm_call_codec.specs.CallEncoding.{call_bytes}
use Rattle.avm_items.proofs.Appending.{more, more_as}
use Rattle.avm_call.specs.OutcomeEncoding.{outcome_bytes}
use Rattle.avm_block.proofs.front.put_entry.Goals as goal

pub returns : goal.returns
returns c =
    let e = c.args.entry.now in
    let old = c.args.bytes.now.items in
    let timestamp = u64_bytes e.timestamp in
    let call = more_as call_bytes c.fields.result.now e.call old timestamp c.put_u64.new.bytes.items c.encode_into.new.bytes.items c.in_ok-put_u64.ensures.written c.in_ok-encode_into.ensures.written c.fields.ensures.fields in
    more old (timestamp ++ call_bytes e.call) (outcome_bytes e.outcome) c.encode_into.new.bytes.items c.put_outcome.new.bytes.items call c.in_ok-put_outcome.ensures.written
