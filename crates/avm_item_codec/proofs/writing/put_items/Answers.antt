use Rattle.std.proofs.Common.{◌<◌, length, arith}
use Rattle.std.specs.List.{flat_map}
use Rattle.avm_ledger.specs.Encodings.{u32_bytes}
use Rattle.avm_item_codec.specs.ItemEncoding.{item_entry_bytes}
use Rattle.teal_code.proofs.Appended.{at_first, none_left, one_more}
use Rattle.avm_item_codec.proofs.writing.put_items.Goals as goal

pub loop-entry-init : goal.loop-entry-init
loop-entry-init c =
    at_first c.args.bytes.now.items (u32_bytes (length c.args.items.now)) (flat_map item_entry_bytes c.args.items.now) _ c.in_ok-put_long_count.ensures.written

pub loop-entry-preserved : goal.loop-entry-preserved
loop-entry-preserved c =
    let i = c.loop-entry.entry-index in
    let within : i < length c.args.items.now = omega arith in
    one_more item_entry_bytes c.args.items.now i c.entry-item.result c.loop-entry.bytes.items _ _ within c.entry-item.is c.loop-entry.invariant c.in_ok-put_entry.ensures

pub returns : goal.returns
returns c = none_left item_entry_bytes c.args.items.now c.loop-entry.entry-index _ _ (omega arith) c.loop-entry.invariant
