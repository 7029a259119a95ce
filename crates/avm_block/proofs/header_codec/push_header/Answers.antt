use Rattle.std.proofs.Common.{◌++◌}
use Rattle.avm_ledger.specs.Encodings.{u64_bytes}
use Rattle.avm_items.proofs.Appending.{more}
use Rattle.avm_block.proofs.header_codec.push_header.Goals as goal

pub returns-clause-written : goal.returns-clause-written
returns-clause-written c =
    let h = c.args.header.now in
    let old = c.args.bytes.now.items in
    let two = u64_bytes h.round ++ u64_bytes h.latest_timestamp in
    let three = two ++ u64_bytes h.min_fee in
    let four = three ++ u64_bytes h.min_balance in
    let latest = more old (u64_bytes h.round) (u64_bytes h.latest_timestamp) c.put_u64.new.bytes.items c.put_u64-2.new.bytes.items c.in_ok-put_u64.ensures.written c.in_ok-put_u64-2.ensures.written in
    let fee = more old two (u64_bytes h.min_fee) c.put_u64-2.new.bytes.items c.put_u64-3.new.bytes.items latest c.in_ok-put_u64-3.ensures.written in
    let balance = more old three (u64_bytes h.min_balance) c.put_u64-3.new.bytes.items c.put_u64-4.new.bytes.items fee c.in_ok-put_u64-4.ensures.written in
    more old four (u64_bytes h.max_life) c.put_u64-4.new.bytes.items c.put_u64-5.new.bytes.items balance c.in_ok-put_u64-5.ensures.written
