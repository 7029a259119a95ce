-- Bytes of blocks, from which the reader is computed.
use Rattle.std.specs.Prelude.{ℕ, Bool, true, List, ◌∷◌, ◌++◌}
use Rattle.avm_ledger.specs.declared.header.Profile.{Profile}
use Rattle.avm_ledger.specs.WorkedLedgers.{zeros}
use Rattle.avm_items.specs.declared.call_data.CallData.{CallData}
use Rattle.avm_block.specs.BlockEncoding.{magic}

-- every call is allowed
abbrev pub any_call : Profile → CallData → Bool
any_call in_profile call = true

-- a block of format 1 over a ledger whose digest is all zeros, under a header of zeros, up to the count of entries
abbrev pub up_to_count : List ℕ
up_to_count = magic ++ 1 ∷ zeros 72
