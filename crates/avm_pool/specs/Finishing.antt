-- What a proposal's block is put together of.
use Rattle.std.specs.Prelude.{◌≡◌, ℕ, List}
use Rattle.avm_ledger.specs.declared.header.Header.{Header}
use Rattle.avm_ledger.specs.Ledgers.{Ledger}
use Rattle.avm_ledger.specs.Encodings.{ledger_digest}
use Rattle.avm_block.specs.declared.entry.Entry.{Entry}
use Rattle.avm_block.specs.BlockEncoding.{front_bytes}
use Rattle.mv_parts.specs.Journals.{Journal}
use Rattle.mv_parts.specs.MadeEntries.{AreBlockEntries, IsDigestAfter}
use Rattle.avm_pool.specs.declared.finishing.Parts.{Parts}

-- The journal's entries, and the front of a block of them over this ledger and under this header.
pub record AreBegun (j : Journal) (base : Ledger) (header : Header) (begun : List Entry × List ℕ) : Type 0 where
  pub entries_are : AreBlockEntries j.calls j.world.entries begun.0
  pub front_is : begun.1 ≡ front_bytes (ledger_digest base) header begun.0

-- The journal's entries, the front of a block of them over this ledger and under this header, and the digest of the ledger that
-- they lead to.
pub record AreParts (j : Journal) (base : Ledger) (header : Header) (p : Parts) : Type 0 where
  pub entries_are : AreBlockEntries j.calls j.world.entries p.entries.items
  pub front_is : p.front ≡ front_bytes (ledger_digest base) header p.entries.items
  pub after_is : IsDigestAfter j.base j.world.entries p.after
