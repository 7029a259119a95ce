-- How many uints and byte strings a state has, and the limit that its schema sets.
use Rattle.std.specs.Prelude.{◌≡◌, ℕ, ◌+◌, ◌-◌, ◌<◌, ◌≤◌, ◌^◌, ◌&&◌, Bool, true, false, nat_le, length, List, [], ◌∷◌, Option, Some, None}
use Rattle.std.specs.List.{All}
use Rattle.std.specs.Map.{keys_of}
use Rattle.teal_value.specs.declared.value.Value.{Value}
use Rattle.teal_value.specs.declared.value.Value.TheVariants.{Uint, Bytes}
use Rattle.teal_value.specs.Keys.{most_key_bytes}
use Rattle.avm_states.specs.declared.schema.Schema.{Schema}
use Rattle.avm_states.specs.Entries.{Entries, value_of_key, with_entry, without_entry, IsInKeyOrder}

-- how many entries a schema of an application's own state allows at most, and one of an account's
abbrev pub most_global_entries : ℕ
most_global_entries = 64

abbrev pub most_local_entries : ℕ
most_local_entries = 16

abbrev pub no_entries : Schema
no_entries = record { uints = 0; bytes = 0 }

-- with one value more, or one less
abbrev pub count_with : Value → Schema → Schema
count_with (Uint _) n = record n { uints = n.uints + 1 }
count_with (Bytes _) n = record n { bytes = n.bytes + 1 }

abbrev pub count_without : Value → Schema → Schema
count_without (Uint _) n = record n { uints = n.uints - 1 }
count_without (Bytes _) n = record n { bytes = n.bytes - 1 }

-- how many uints and byte strings there are among the values
abbrev pub counts_in : Entries → Schema
counts_in [] = no_entries
counts_in (e ∷ es) = count_with e.1 (counts_in es)

-- The counts are those of the entries, which are as many as memory may hold, under keys that are not too long.
pub record IsCounted (state : Entries) (n : Schema) : Type 0 where
  pub counts : counts_in state ≡ n
  pub room : length state < 2 ^ 64
  pub keys : All (λ k. length k ≤ most_key_bytes) (keys_of state)

-- whether so many may stand under the schema
abbrev pub is_within : Schema → Schema → Bool
is_within n limit = nat_le n.uints limit.uints && nat_le n.bytes limit.bytes

-- ---- what an entry's change does to the counts

-- whether an entry keeps its kind where its value becomes another
abbrev pub keeps_kind : Option Value → Option Value → Bool
keeps_kind None None = true
keeps_kind (Some (Uint _)) (Some (Uint _)) = true
keeps_kind (Some (Bytes _)) (Some (Bytes _)) = true
keeps_kind _ _ = false

abbrev pub uncounted : Option Value → Schema → Schema
uncounted None n = n
uncounted (Some v) n = count_without v n

abbrev pub counted : Option Value → Schema → Schema
counted None n = n
counted (Some v) n = count_with v n

-- the counts where an entry's value becomes another
abbrev pub counts_after : Option Value → Option Value → Schema → Schema
counts_after old new n = counted new (uncounted old n)

-- The counts are those of the entries, after a put and after a delete too.
abbrev pub FollowPuts : Type 0
FollowPuts = (state : Entries) (key : List ℕ) (v : Value) → IsInKeyOrder state → counts_in (with_entry state key v) ≡ counts_after (value_of_key state key) (Some v) (counts_in state)

abbrev pub FollowDeletes : Type 0
FollowDeletes = (state : Entries) (key : List ℕ) → counts_in (without_entry state key) ≡ counts_after (value_of_key state key) None (counts_in state)

-- A put of a value of the old one's kind leaves them.
abbrev pub StayWithKind : Type 0
StayWithKind = (state : Entries) (key : List ℕ) (v : Value) → IsInKeyOrder state → keeps_kind (value_of_key state key) (Some v) ≡ true → counts_in (with_entry state key v) ≡ counts_in state
