-- A store that keeps a list of versions for each item: what it does at each event, and that it keeps the facts of the order
-- theorem so, with the marks that its versions have. The statements of the laws.
use Rattle.std.specs.Prelude.{◌≡◌, ℕ, suc, ◌≤◌, Bool, if◌then◌else◌, Option, None, Some, List}
use Rattle.std.specs.Map.{lookup}
use Rattle.mv_chain.specs.declared.chain.Version.{Version}
use Rattle.mv_chain.specs.Versions.{mark_in, versions_from, versions_read_at, versions_with}
use Rattle.mv_history.specs.Facts.{IsCheckedCommit}
use Rattle.mv_history.specs.History.{Entry, IsEquality, CallMeaning, entries_with, version_below}
use Rattle.mv_history.specs.Schedule.{IsConsistent}
use Rattle.mv_history.specs.World.{Attempt, IsLowerBound, attempt_at, attempts_with_read, attempts_without}
use Rattle.mv_chain.specs.Agreement.{HoldsVersions}

-- each item's versions agree with the entries
abbrev pub HoldEntries : {Item Value Outcome V : Type 0} → (Value → V) → (Item → Item → Bool) → (Item → Value) → ℕ → List (Entry Item Value Outcome) → (Item → List (Version V)) → Type 0
HoldEntries {Item} give same base low es all = (x : Item) → HoldsVersions give same base low es x (all x)

-- the mark of an item's version, by the version's timestamp
abbrev pub marks_of : {Item V : Type 0} → (Item → List (Version V)) → Item → ℕ → ℕ
marks_of all x version = mark_in version (all x)

-- one item was read at a timestamp
abbrev pub after_item_read : {Item V : Type 0} → (Item → Item → Bool) → ℕ → Item → (Item → List (Version V)) → Item → List (Version V)
after_item_read same t x all y = if same y x then versions_read_at t (all x) else all y

-- an item's versions after an entry: marked where it read the item, and with one more where it wrote it
abbrev pub marked_where : {Value V : Type 0} → Option Value → ℕ → List (Version V) → List (Version V)
marked_where None t vs = vs
marked_where (Some value) t vs = versions_read_at t vs

abbrev pub written_where : {Value V : Type 0} → (Value → V) → Option Value → ℕ → List (Version V) → List (Version V)
written_where give None t vs = vs
written_where give (Some value) t vs = versions_with t (give value) vs

abbrev pub after_entry : {Item Value Outcome V : Type 0} → (Value → V) → (Item → Item → Bool) → Entry Item Value Outcome → (Item → List (Version V)) → Item → List (Version V)
after_entry give same e all x = written_where give (lookup (same x) e.writes) e.timestamp (marked_where (lookup (same x) e.reads) e.timestamp (all x))

-- what a store keeps, from a timestamp on at which it holds each version that the entries have
pub record IsStore {Item Value Outcome V : Type 0} (give : Value → V) (same : Item → Item → Bool) (Proper : (Item → Value) → Type 0) (means : CallMeaning Item Value Outcome) (base : Item → Value) (from clock low : ℕ) (es : List (Entry Item Value Outcome)) (live : List (Attempt Item Value)) (all : Item → List (Version V)) : Type 0 where
  pub holds : HoldEntries give same base from es all
  pub consistent : IsConsistent same Proper means base (marks_of all) clock low es live

-- a read leaves a store, whose attempt has one more read
abbrev pub EveryReadLeavesAStore : (Item Value Outcome V : Type 0) → ((Item → Value) → Type 0) → Type 0
EveryReadLeavesAStore Item Value Outcome V Proper =
    (give : Value → V) (same : Item → Item → Bool) → IsEquality same → (means : CallMeaning Item Value Outcome) (base : Item → Value) (from clock low : ℕ) (es : List (Entry Item Value Outcome)) (live : List (Attempt Item Value)) (all new : Item → List (Version V))
    → IsStore give same Proper means base from clock low es live all
    → (t index : ℕ) (x : Item) (a : Attempt Item Value) → attempt_at t live ≡ Some a → from ≤ t → ((y : Item) → new y ≡ after_item_read same t x all y)
    → IsStore give same Proper means base from clock low es (attempts_with_read t index (x, (version_below same base es (suc t) x).1) live) new

-- a commit, checked against the entries and by the store's own marks, leaves a store
abbrev pub EveryCommitLeavesAStore : (Item Value Outcome V : Type 0) → ((Item → Value) → Type 0) → Type 0
EveryCommitLeavesAStore Item Value Outcome V Proper =
    (give : Value → V) (same : Item → Item → Bool) → IsEquality same → (means : CallMeaning Item Value Outcome) (base : Item → Value) (from clock low : ℕ) (es : List (Entry Item Value Outcome)) (live : List (Attempt Item Value)) (all new : Item → List (Version V))
    → IsStore give same Proper means base from clock low es live all
    → (a : Attempt Item Value) (e : Entry Item Value Outcome) → attempt_at e.timestamp live ≡ Some a → IsCheckedCommit same Proper means base (marks_of all) es a e → from ≤ e.timestamp
    → ((y : Item) → new y ≡ after_entry give same e all y)
    → IsStore give same Proper means base from clock low (entries_with e es) (attempts_without e.timestamp live) new

-- the marks that count from the higher low mark on are left
abbrev pub KeepsMarksFrom : {Item Value Outcome V : Type 0} → (Item → Item → Bool) → (Item → Value) → ℕ → List (Entry Item Value Outcome) → (Item → List (Version V)) → (Item → List (Version V)) → Type 0
KeepsMarksFrom {Item} same base higher es all new = (x : Item) (version : ℕ) → (version_below same base es (suc higher) x).0 ≤ version → marks_of new x version ≡ marks_of all x version

-- pruning at a higher low mark leaves a store
abbrev pub EveryPruneLeavesAStore : (Item Value Outcome V : Type 0) → ((Item → Value) → Type 0) → Type 0
EveryPruneLeavesAStore Item Value Outcome V Proper =
    (give : Value → V) (same : Item → Item → Bool) (means : CallMeaning Item Value Outcome) (base : Item → Value) (from clock low : ℕ) (es : List (Entry Item Value Outcome)) (live : List (Attempt Item Value)) (all new : Item → List (Version V))
    → IsStore give same Proper means base from clock low es live all
    → (higher : ℕ) → from ≤ higher → low ≤ higher → higher ≤ clock → IsLowerBound higher live → ((y : Item) → new y ≡ versions_from higher (all y))
    → IsStore give same Proper means base higher clock higher es live new × KeepsMarksFrom same base higher es all new
