-- The versions that a chain holds of an item, against the entries of a history.
use Rattle.std.specs.Prelude.{◌≡◌, ℕ, suc, ◌≤◌, Bool, List}
use Rattle.std.specs.List.{AllByRecursion}
use Rattle.mv_chain.specs.declared.chain.Version.{Version}
use Rattle.mv_chain.specs.Versions.{IsChain, newest_at, oldest_timestamp}
use Rattle.mv_history.specs.History.{Entry, version_below}

-- the version is one that the entries have; `give` makes of a value what the chain keeps of it
pub record IsVersionFound {Value V : Type 0} (give : Value → V) (v : Version V) (found : ℕ × Value) : Type 0 where
  pub timestamp : v.timestamp ≡ found.0
  pub value : v.value ≡ give found.1

-- Each version held is one that the entries have, and from the low mark on the newest not above a timestamp is that of
-- the entries. So only versions that no one from the low mark on asks for may be missing. A chain may keep all of each value,
-- or the timestamps of versions alone.
pub record HoldsVersions {Item Value Outcome V : Type 0} (give : Value → V) (same : Item → Item → Bool) (base : Item → Value) (low : ℕ) (es : List (Entry Item Value Outcome)) (x : Item) (vs : List (Version V)) : Type 0 where
  pub chain : IsChain vs
  pub old_enough : oldest_timestamp vs ≤ low
  pub found : (t : ℕ) (d : Version V) → low ≤ t → IsVersionFound give (newest_at t vs d) (version_below same base es (suc t) x)
  pub held : AllByRecursion (λ v. IsVersionFound give v (version_below same base es (suc v.timestamp) x)) vs
