-- The list of the chains that have more than one version, which a prune goes through.
use Rattle.std.specs.Prelude.{◌≡◌, ℕ, ◌<◌, ◌≤◌, nat_lt, Bool, true, false, List, [], Option, None, Some, get_or, length, map, vec_capacity}
use Rattle.std.specs.Global.{Box}
use Rattle.std.specs.List.{sum_by}
use Rattle.mv_shards.specs.declared.notes.Notes.{Notes}
use Rattle.mv_shards.specs.KeptChains.{ChainMap}

-- how many versions each chain has, by its number
abbrev pub version_counts : {V : Type 0} → ChainMap V → List ℕ
version_counts = map (λ c. length c.1.list)

-- 1 for a chain with more than one version, and else 0
abbrev pub one_if : Bool → ℕ
one_if true = 1
one_if false = 0

abbrev pub one_if_several : ℕ → ℕ
one_if_several count = one_if (nat_lt 1 count)

-- a number is in a list
pub record IsIn (number : ℕ) (numbers : List ℕ) : Type 0 where
  pub index : ℕ
  pub within : index < length numbers
  pub here : get_or numbers index 0 ≡ number

-- The numbers of the chains with more than one version are all in a list that is no longer than these are many. So each is there
-- once, and no other is. There is room for the numbers of all chains.
pub record AreListed (numbers : List ℕ) (room : ℕ) (counts : List ℕ) : Type 0 where
  pub each : (number : ℕ) → 1 < get_or counts number 0 → IsIn number numbers
  pub few : length numbers ≤ sum_by one_if_several counts
  pub within : (i : ℕ) → i < length numbers → get_or numbers i 0 < length counts
  pub roomy : length counts ≤ room

-- ---- as it is kept

abbrev pub numbers_in : Option (Box Notes) → List ℕ
numbers_in None = []
numbers_in (Some notes) = notes.value.several.items

abbrev pub room_in : Option (Box Notes) → ℕ
room_in None = 0
room_in (Some notes) = vec_capacity notes.value.several
