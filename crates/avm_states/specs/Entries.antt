-- A global or local state as a finite map: its entries by rising key.
use Rattle.std.specs.Prelude.{ℕ, ◌&&◌, Bool, List, Option}
use Rattle.std.specs.Ordering.{nat_cmp}
use Rattle.std.specs.declared.cmp.Ordering.{Ordering}
use Rattle.std.specs.Cmp.Lexicographic.{slice_cmp}
use Rattle.std.specs.List.Sorted.{IsStrictlySortedBy}
use Rattle.std.specs.Map.{lookup, remove_entry, keys_of}
use Rattle.std.specs.BTreeMap.{insert_entry, is_at}
use Rattle.teal_value.specs.declared.value.Value.{Value}
use Rattle.teal_value.specs.SameValues.{are_same_bytes, is_same}

-- byte strings in order: a beginning comes before the longer
abbrev pub byte_cmp : List ℕ → List ℕ → Ordering
byte_cmp = slice_cmp nat_cmp

abbrev pub Entries : Type 0
Entries = List (List ℕ × Value)

-- how many bytes a byte string has at most that is the value of a key
abbrev pub most_value_bytes : ℕ
most_value_bytes = 64

-- the value of a key
abbrev pub value_of_key : Entries → List ℕ → Option Value
value_of_key state key = lookup (is_at (byte_cmp key)) state

abbrev pub with_entry : Entries → List ℕ → Value → Entries
with_entry state key v = insert_entry byte_cmp state key v

abbrev pub without_entry : Entries → List ℕ → Entries
without_entry state key = remove_entry (is_at (byte_cmp key)) state

-- a state's keys rise
abbrev pub IsInKeyOrder : Entries → Type 0
IsInKeyOrder state = IsStrictlySortedBy byte_cmp (keys_of state)

abbrev pub is_same_entry : List ℕ × Value → List ℕ × Value → Bool
is_same_entry d e = are_same_bytes d.0 e.0 && is_same d.1 e.1
