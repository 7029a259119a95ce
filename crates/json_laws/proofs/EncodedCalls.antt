-- The calls of a block are of bytes where what encodes the block is.
use Rattle.std.proofs.Common.{ℕ, Bool, List, [], ◌∷◌, All}
use Rattle.std.proofs.lemmas.List.Elements.{All-nil, All-cons, All-head, All-tail}
use Rattle.avm_ledger.specs.Encodings.{u32_bytes, u64_bytes, counted_bytes, header_bytes}
use Rattle.avm_items.specs.declared.call_data.CallData.{CallData}
use Rattle.avm_call_codec.specs.CallEncoding.{call_bytes}
use Rattle.avm_block.specs.declared.entry.Entry.{Entry}
use Rattle.avm_block.specs.AcceptedCalls.{is_accepted}
use Rattle.avm_block.specs.Blocks.{Block, calls_in, calls_of}
use Rattle.avm_block.specs.BlockRoundTrip.{AreEntries, IsBlock}
use Rattle.avm_block.specs.BlockEncoding.{magic, format_bytes, block_entry_bytes, body_bytes}
use Rattle.avm_rule_laws.specs.Rules.{AreBytes, IsCallOfBytes}
use Rattle.avm_rule_laws.proofs.SoundReading.{parts, encoded_call}
use Rattle.json_laws.proofs.EncodedParts.{counted_part}

calls_parts : (accepted : CallData → Bool) (before : ℕ) (es : List Entry) → AreEntries accepted before es → All (λ (e : Entry). AreBytes (call_bytes e.call)) es → All IsCallOfBytes (calls_in es)
calls_parts accepted before [] are all = All-nil IsCallOfBytes
calls_parts accepted before (e ∷ es) are all =
    All-cons IsCallOfBytes e.call (calls_in es) (encoded_call e.call are.0.call (All-head (λ (e : Entry). AreBytes (call_bytes e.call)) e es all))
    (calls_parts accepted e.timestamp es are.1 (All-tail (λ (e : Entry). AreBytes (call_bytes e.call)) e es all))

entry_part : (e : Entry) → AreBytes (block_entry_bytes e) → AreBytes (call_bytes e.call)
entry_part e all = (parts (u64_bytes e.timestamp) (call_bytes e.call ∷ _ ∷ []) all).1.0

-- the calls of an accepted block are of bytes where its body is
pub block_parts : (b : Block) → IsBlock is_accepted b → AreBytes (body_bytes b) → All IsCallOfBytes (calls_of b)
block_parts b is all =
    let fields = parts magic (format_bytes b.header.profile ∷ b.base ∷ header_bytes b.header ∷ counted_bytes u32_bytes block_entry_bytes b.entries ∷ b.after ∷ []) all in
    calls_parts (is_accepted b.header.profile) 0 b.entries is.entries (counted_part u32_bytes block_entry_bytes (λ (e : Entry). AreBytes (call_bytes e.call)) b.entries entry_part fields.1.1.1.1.0)
