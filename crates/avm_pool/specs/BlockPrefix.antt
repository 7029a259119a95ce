-- What is made of a block before all of its entries are there.
use Rattle.std.specs.Prelude.{◌≡◌, ◌++◌, ℕ, List, length, take}
use Rattle.std.specs.List.{flat_map}
use Rattle.avm_ledger.specs.declared.header.Header.{Header}
use Rattle.avm_block.specs.declared.entry.Entry.{Entry}
use Rattle.avm_block.specs.BlockEncoding.{block_entry_bytes, front_start}
use Rattle.mv_parts.specs.Journals.{Journal}
use Rattle.mv_parts.specs.MadeEntries.{AreBlockEntries}

-- The first entries of a block that is to have so many, over a ledger with the digest base.
pub record Beginning : Type 0 where
  pub base : List ℕ
  pub header : Header
  pub count : ℕ
  pub entries : List Entry

-- its bytes
abbrev pub beginning_bytes : List ℕ → Header → ℕ → List Entry → List ℕ
beginning_bytes base header count entries = front_start base header count ++ flat_map block_entry_bytes entries

-- A block of a journal's entries, under this header and over a ledger with this digest, begins so.
pub record Begins (b : Beginning) (base : List ℕ) (header : Header) (j : Journal) : Type 0 where
  pub base_is : b.base ≡ base
  pub header_is : b.header ≡ header
  pub count_is : b.count ≡ length j.world.entries
  pub first_are : AreBlockEntries j.calls (take (length b.entries) j.world.entries) b.entries
