-- The bytes of a block.
use Rattle.std.specs.Prelude.{ℕ, List, [], ◌∷◌, ◌++◌}
use Rattle.sha2.specs.Sha256.{sha256}
use Rattle.avm_ledger.specs.declared.header.Header.{Header}
use Rattle.avm_ledger.specs.declared.header.Profile.{Profile}
use Rattle.avm_ledger.specs.declared.header.Profile.TheVariants as profile
use Rattle.avm_ledger.specs.Encodings.{u32_bytes, u64_bytes, counted_bytes, header_bytes}
use Rattle.avm_call_codec.specs.CallEncoding.{call_bytes}
use Rattle.avm_call.specs.OutcomeEncoding.{outcome_bytes}
use Rattle.avm_block.specs.declared.entry.Entry.{Entry}
use Rattle.avm_block.specs.Blocks.{Block}

-- AVMB
abbrev pub magic : List ℕ
magic = 0x41 ∷ 0x56 ∷ 0x4d ∷ 0x42 ∷ []

-- the number of the format, and in format 2 the profile
abbrev pub format_bytes : Profile → List ℕ
format_bytes profile.Two = 1 ∷ []
format_bytes profile.Three = 2 ∷ 3 ∷ []

abbrev pub block_entry_bytes : Entry → List ℕ
block_entry_bytes e = u64_bytes e.timestamp ++ call_bytes e.call ++ outcome_bytes e.outcome

-- what stands before the entries of a block that has so many, over a ledger with this digest
abbrev pub front_start : List ℕ → Header → ℕ → List ℕ
front_start base header count = magic ++ format_bytes header.profile ++ base ++ header_bytes header ++ u32_bytes count

-- all up to the digest of the ledger after, of a block of these entries over a ledger with this digest
abbrev pub front_bytes : List ℕ → Header → List Entry → List ℕ
front_bytes base header entries = magic ++ format_bytes header.profile ++ base ++ header_bytes header ++ counted_bytes u32_bytes block_entry_bytes entries

-- all up to the last digest
abbrev pub body_bytes : Block → List ℕ
body_bytes b = front_bytes b.base b.header b.entries ++ b.after

abbrev pub block_bytes : Block → List ℕ
block_bytes b = body_bytes b ++ sha256 (body_bytes b)
