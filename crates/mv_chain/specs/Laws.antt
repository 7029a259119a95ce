-- What the lists of versions mean: which version a read finds, and what marks, new versions and pruning change of
-- that.
use Rattle.std.specs.Prelude.{◌≡◌, ◌≢◌, ℕ, ◌<◌, ◌≤◌, ◌==◌, if◌then◌else◌, max, List, drop, Contains}
use Rattle.std.specs.List.{AllByRecursion}
use Rattle.mv_chain.specs.declared.chain.Version.{Version}
use Rattle.mv_chain.specs.Versions.{IsChain, oldest_timestamp, newest_at, mark_in, versions_read_at, versions_with, versions_from}

-- the version with the greatest timestamp not above t
pub record IsNewestAt {V : Type 0} (t : ℕ) (vs : List (Version V)) (v : Version V) : Type 0 where
  pub held : Contains vs v
  pub not_above : v.timestamp ≤ t
  pub greatest : AllByRecursion (λ u. u.timestamp ≤ t → u.timestamp ≤ v.timestamp) vs

abbrev pub EveryReadFindsTheNewest : (V : Type 0) → Type 0
EveryReadFindsTheNewest V = (t : ℕ) (vs : List (Version V)) (d : Version V) → IsChain vs → oldest_timestamp vs ≤ t → IsNewestAt t vs (newest_at t vs d)

-- a read at t, of the versions after a read at r: its version has the new mark where both find the same
pub record IsReadAfterRead {V : Type 0} (r t : ℕ) (vs : List (Version V)) (d : Version V) : Type 0 where
  pub same : (newest_at t vs d).timestamp ≡ (newest_at r vs d).timestamp → newest_at t (versions_read_at r vs) d ≡ record (newest_at t vs d) { mark = max (newest_at t vs d).mark r }
  pub another : (newest_at t vs d).timestamp ≢ (newest_at r vs d).timestamp → newest_at t (versions_read_at r vs) d ≡ newest_at t vs d

abbrev pub EveryReadMarksItsVersionAlone : (V : Type 0) → Type 0
EveryReadMarksItsVersionAlone V = (r t : ℕ) (vs : List (Version V)) (d : Version V) → IsChain vs → oldest_timestamp vs ≤ r → oldest_timestamp vs ≤ t → IsReadAfterRead r t vs d

-- a read at t, of the versions with one more at n: it finds that one where it is not above t and newer than what was found
pub record IsReadAfterInstall {V : Type 0} (n t : ℕ) (value : V) (vs : List (Version V)) (d : Version V) : Type 0 where
  pub found : n ≤ t → (newest_at t vs d).timestamp < n → newest_at t (versions_with n value vs) d ≡ record { timestamp = n; mark = 0; value = value }
  pub older : n < (newest_at t vs d).timestamp → newest_at t (versions_with n value vs) d ≡ newest_at t vs d
  pub above : t < n → newest_at t (versions_with n value vs) d ≡ newest_at t vs d

abbrev pub EveryInstallIsFound : (V : Type 0) → Type 0
EveryInstallIsFound V =
    (n t : ℕ) (value : V) (vs : List (Version V)) (d : Version V) → IsChain vs → oldest_timestamp vs ≤ n → oldest_timestamp vs ≤ t
    → AllByRecursion (λ version. version.timestamp ≢ n) vs → IsReadAfterInstall n t value vs d

-- pruning at a low mark leaves a chain in which only the first version is not above it, and changes no read from it on
pub record IsPrunedTo {V : Type 0} (low : ℕ) (vs : List (Version V)) : Type 0 where
  pub chain : IsChain (versions_from low vs)
  pub first_not_above : oldest_timestamp vs ≤ low → oldest_timestamp (versions_from low vs) ≤ low
  pub rest_above : AllByRecursion (λ version. low < version.timestamp) (drop 1 (versions_from low vs))
  pub reads : (t : ℕ) (d : Version V) → low ≤ t → oldest_timestamp vs ≤ t → newest_at t (versions_from low vs) d ≡ newest_at t vs d

abbrev pub EveryPruneKeepsReads : (V : Type 0) → Type 0
EveryPruneKeepsReads V = (low : ℕ) (vs : List (Version V)) → IsChain vs → IsPrunedTo low vs

-- ---- the marks of versions, by their timestamps

-- the mark of the version that a read finds
abbrev pub EveryMarkIsOfItsVersion : (V : Type 0) → Type 0
EveryMarkIsOfItsVersion V = (t : ℕ) (vs : List (Version V)) (d : Version V) → IsChain vs → oldest_timestamp vs ≤ t → mark_in (newest_at t vs d).timestamp vs ≡ (newest_at t vs d).mark

-- a read raises the mark of the version that it finds, and of no other
abbrev pub EveryReadRaisesOneMark : (V : Type 0) → Type 0
EveryReadRaisesOneMark V =
    (t n : ℕ) (vs : List (Version V)) (d : Version V) → IsChain vs → oldest_timestamp vs ≤ t
    → mark_in n (versions_read_at t vs) ≡ (if (newest_at t vs d).timestamp == n then max (mark_in n vs) t else mark_in n vs)

-- a new version has no mark, and leaves those of the others
abbrev pub EveryInstallKeepsMarks : (V : Type 0) → Type 0
EveryInstallKeepsMarks V =
    (t n : ℕ) (value : V) (vs : List (Version V)) → AllByRecursion (λ version. version.timestamp ≢ t) vs → mark_in n (versions_with t value vs) ≡ mark_in n vs

-- pruning at a low mark keeps the marks from the newest version not above it on, and drops those of older versions
pub record HasMarksFrom {V : Type 0} (low : ℕ) (vs : List (Version V)) (d : Version V) : Type 0 where
  pub kept : (n : ℕ) → (newest_at low vs d).timestamp ≤ n → mark_in n (versions_from low vs) ≡ mark_in n vs
  pub dropped : (n : ℕ) → n < (newest_at low vs d).timestamp → mark_in n (versions_from low vs) ≡ 0

abbrev pub EveryPruneKeepsMarks : (V : Type 0) → Type 0
EveryPruneKeepsMarks V = (low : ℕ) (vs : List (Version V)) (d : Version V) → IsChain vs → oldest_timestamp vs ≤ low → HasMarksFrom low vs d
