-- The front of a block that was begun before all of its entries were there.
use Rattle.std.proofs.Common.{◌≡◌, ℕ, List, ◌++◌, length, take, drop, ap, sym, ◌∙◌, append_assoc}
use Rattle.std.proofs.lemmas.List.{take-append-drop}
use Rattle.std.proofs.lemmas.List.Concat.{flat_map-append}
use Rattle.std.specs.List.{flat_map}
use Rattle.avm_ledger.specs.declared.header.Header.{Header}
use Rattle.avm_ledger.specs.Encodings.{header_bytes, u32_bytes}
use Rattle.avm_block.specs.declared.entry.Entry.{Entry}
use Rattle.avm_block.specs.BlockEncoding.{block_entry_bytes, format_bytes, front_bytes, front_start, magic}
use Rattle.avm_pool.specs.BlockPrefix.{Beginning, beginning_bytes}

-- a beginning that has all of its entries is a front
front_whole : (base : List ℕ) (header : Header) (count : ℕ) (entries : List Entry) → count ≡ length entries → beginning_bytes base header count entries ≡ front_bytes base header entries
front_whole base header count entries all =
    let four = magic ++ format_bytes header.profile ++ base ++ header_bytes header in
    ap (λ n. beginning_bytes base header n entries) all ∙ append_assoc four (u32_bytes (length entries)) (flat_map block_entry_bytes entries)

-- with the entries that are left behind it, a beginning is a front
pub front_finished : (b : Beginning) (entries more : List Entry) → b.count ≡ length entries → take (length b.entries) entries ≡ b.entries → more ≡ drop (length b.entries) entries
    → beginning_bytes b.base b.header b.count b.entries ++ flat_map block_entry_bytes more ≡ front_bytes b.base b.header entries
front_finished b entries more all first rest =
    let k = length b.entries in
    let encoded = flat_map block_entry_bytes in
    let start = front_start b.base b.header b.count in
    let whole : b.entries ++ more ≡ entries = ap (λ xs. xs ++ more) (sym first) ∙ ap (λ xs. take k entries ++ xs) rest ∙ take-append-drop k entries in
    append_assoc start (encoded b.entries) (encoded more)
    ∙ ap (λ xs. start ++ xs) (sym (flat_map-append block_entry_bytes b.entries more) ∙ ap encoded whole)
    ∙ front_whole b.base b.header b.count entries all
