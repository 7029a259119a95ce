use Rattle.std.proofs.Common.{◌++◌}
use Rattle.avm_ledger.specs.Encodings.{header_bytes, u32_bytes}
use Rattle.avm_items.proofs.Appending.{more}
use Rattle.avm_block.specs.BlockEncoding.{format_bytes, magic}
use Rattle.avm_block.proofs.front.put_start.Goals as goal

pub returns : goal.returns
returns c =
    let old = c.args.bytes.now.items in
    let header = c.args.header.now in
    let two = magic ++ format_bytes header.profile in
    let three = two ++ c.args.base.now in
    let four = three ++ header_bytes header in
    let format = more old magic (format_bytes header.profile) c.extend_from_slice.new.self.items c.put_format.new.bytes.items c.in_ok-extend_from_slice.ensures.items c.in_ok-put_format.ensures.written in
    let base = more old two c.args.base.now c.put_format.new.bytes.items c.extend_from_slice-2.new.self.items format c.in_ok-extend_from_slice-2.ensures.items in
    let numbers = more old three (header_bytes header) c.extend_from_slice-2.new.self.items c.put_header.new.bytes.items base c.in_ok-put_header.ensures.written in
    more old four (u32_bytes c.args.count) c.put_header.new.bytes.items c.put_long_count.new.bytes.items numbers c.in_ok-put_long_count.ensures.written
