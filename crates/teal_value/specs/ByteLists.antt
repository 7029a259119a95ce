-- The bytes of a byte string, which stand in it or apart.
use Rattle.std.specs.Prelude.{[], List, None, Option, Some, ℕ}
use Rattle.std.specs.Global.{Box}
use Rattle.teal_value.specs.declared.byte_string.Bytes.{Bytes}
use Rattle.teal_value.specs.declared.byte_string.Bytes.TheVariants.{Here, Apart}

abbrev pub bytes_in : Bytes → List ℕ
bytes_in (Here bytes) = bytes.items
bytes_in (Apart bytes) = bytes.items

-- the bytes of one that has memory of its own, or none
abbrev pub bytes_apart : Option (Box (List ℕ)) → List ℕ
bytes_apart None = []
bytes_apart (Some bytes) = bytes.value
