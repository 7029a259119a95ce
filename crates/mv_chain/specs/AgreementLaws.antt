-- What the events do to an item's versions and to the entries, so that they agree again. The statements of the laws.
use Rattle.std.specs.Prelude.{◌≡◌, ◌≢◌, ℕ, suc, ◌<◌, ◌≤◌, Bool, None, Some, List, [], ◌∷◌}
use Rattle.std.specs.Map.{lookup}
use Rattle.std.specs.List.{AllByRecursion}
use Rattle.mv_chain.specs.declared.chain.Version.{Version}
use Rattle.mv_chain.specs.Versions.{mark_in, newest_at, versions_from, versions_read_at, versions_with}
use Rattle.mv_history.specs.History.{Entry, IsRising, entries_with, version_below}
use Rattle.mv_chain.specs.Agreement.{HoldsVersions}

-- where nothing is committed, the base's version alone, read or not
abbrev pub EveryFirstVersionAgrees : (Item Value Outcome V : Type 0) → Type 0
EveryFirstVersionAgrees Item Value Outcome V =
    (give : Value → V) (same : Item → Item → Bool) (base : Item → Value) (low mark : ℕ) (x : Item)
    → HoldsVersions {Outcome = Outcome} give same base low [] x (record { timestamp = 0; mark = mark; value = give (base x) } ∷ [])

-- a read marks a version, and changes nothing of this
abbrev pub EveryReadKeepsAgreement : (Item Value Outcome V : Type 0) → Type 0
EveryReadKeepsAgreement Item Value Outcome V =
    (give : Value → V) (same : Item → Item → Bool) (base : Item → Value) (low : ℕ) (es : List (Entry Item Value Outcome)) (x : Item) (vs : List (Version V))
    → HoldsVersions give same base low es x vs → (t : ℕ) → low ≤ t → HoldsVersions give same base low es x (versions_read_at t vs)

-- no version is held at a timestamp that no entry has
abbrev pub NoVersionIsAtAFreshTimestamp : (Item Value Outcome V : Type 0) → Type 0
NoVersionIsAtAFreshTimestamp Item Value Outcome V =
    (give : Value → V) (same : Item → Item → Bool) (base : Item → Value) (low : ℕ) (es : List (Entry Item Value Outcome)) (x : Item) (vs : List (Version V))
    → HoldsVersions give same base low es x vs → IsRising 0 es
    → (t : ℕ) → 0 < t → AllByRecursion (λ e. e.timestamp ≢ t) es → AllByRecursion (λ version. version.timestamp ≢ t) vs

-- what an entry's commit makes of the versions: that of a write joins them, and an item that isn't written keeps its own
abbrev pub EveryCommitKeepsAgreement : (Item Value Outcome V : Type 0) → Type 0
EveryCommitKeepsAgreement Item Value Outcome V =
    (give : Value → V) (same : Item → Item → Bool) (base : Item → Value) (low : ℕ) (es : List (Entry Item Value Outcome)) (x : Item) (vs : List (Version V))
    → HoldsVersions give same base low es x vs → IsRising 0 es
    → (e : Entry Item Value Outcome) → low ≤ e.timestamp → 0 < e.timestamp → AllByRecursion (λ f. f.timestamp ≢ e.timestamp) es
    → ((value : Value) → lookup (same x) e.writes ≡ Some value → HoldsVersions give same base low (entries_with e es) x (versions_with e.timestamp (give value) vs))
    × (lookup (same x) e.writes ≡ None → HoldsVersions give same base low (entries_with e es) x vs)

-- pruning at a higher low mark
abbrev pub EveryPruneKeepsAgreement : (Item Value Outcome V : Type 0) → Type 0
EveryPruneKeepsAgreement Item Value Outcome V =
    (give : Value → V) (same : Item → Item → Bool) (base : Item → Value) (low : ℕ) (es : List (Entry Item Value Outcome)) (x : Item) (vs : List (Version V))
    → HoldsVersions give same base low es x vs → (higher : ℕ) → low ≤ higher → HoldsVersions give same base higher es x (versions_from higher vs)

-- A write at a timestamp follows the version below it, and the mark by which it is late is that version's.
abbrev pub EveryWriteFollowsTheVersionBelow : (Item Value Outcome V : Type 0) → Type 0
EveryWriteFollowsTheVersionBelow Item Value Outcome V =
    (give : Value → V) (same : Item → Item → Bool) (base : Item → Value) (low : ℕ) (es : List (Entry Item Value Outcome)) (x : Item) (vs : List (Version V))
    → HoldsVersions give same base low es x vs → (t : ℕ) (d : Version V) → low ≤ t → (newest_at t vs d).mark ≡ mark_in (version_below same base es (suc t) x).0 vs
