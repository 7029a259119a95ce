-- The greatest readers of versions among the entries, which are the marks that a journal rests on.
use Rattle.std.proofs.Common.{◌≡◌, ◌≢◌, ℕ, ◌<◌, ◌≤◌, ◌==◌, ◌&&◌, max, Bool, true, false, nat_lt, if◌then◌else◌, List, [], ◌∷◌, Option, None, Some, refl, sym, ap, ◌∙◌, subst, arith}
use Rattle.std.specs.Prelude.{IsSome, is_some}
use Rattle.std.specs.Map.{lookup}
use Rattle.std.specs.List.{AllByRecursion}
use Rattle.avm_ledger.specs.Ledgers.{Ledger}
use Rattle.avm_items.specs.declared.item.Item.{Item}
use Rattle.avm_items.specs.declared.item_value.ItemValue.{ItemValue}
use Rattle.avm_items.specs.LedgerItems.{at}
use Rattle.avm_call.specs.declared.outcome.Outcome.{Outcome}
use Rattle.mv_chain.specs.declared.chain.Version.{Version}
use Rattle.mv_chain.specs.Versions.{mark_in, oldest_timestamp, versions_read_at}
use Rattle.mv_chain.proofs.Marks.{every_install_keeps_marks_lem, every_read_raises_one_mark_lem}
use Rattle.mv_history.specs.History.{IsRising, entries_with, version_below}
use Rattle.mv_history.specs.Journal.{SparesReads}
use Rattle.mv_history.specs.Schedule.{AreMarked}
use Rattle.mv_history.specs.World.{IsInTime}
use Rattle.mv_history.proofs.Events.{spared_by_marks}
use Rattle.mv_history.proofs.Journals.{versions_spared}
use Rattle.mv_history.specs.Facts.{MarksReads}
use Rattle.mv_history.proofs.Lists.{Equals, equal, unequal, equals, all_found, all_map}
use Rattle.mv_history.proofs.Newest.{every_commit_is_found_lem}
use Rattle.mv_history.proofs.Versions.{next_below}
use Rattle.mv_chain.specs.Agreement.{HoldsVersions}
use Rattle.mv_chain.specs.Stores.{HoldEntries, after_entry, marked_where, written_where}
use Rattle.mv_chain.proofs.Agreements.{every_read_keeps_agreement_lem, no_version_is_at_a_fresh_timestamp_lem}
use Rattle.mv_chain.proofs.Stores.{reads_found}
use Rattle.mv_parts.specs.CallHistory.{CallEntry, same_item}
use Rattle.mv_parts.proofs.SerialCalls.{items_have_an_equality}
use Rattle.mv_parts.specs.Commits.{version_followed}
use Rattle.mv_parts.specs.Journals.{greatest_among, greatest_reader, has_read, version_read}

-- ---- the greatest timestamp of those that a test takes

greatest_swapped : (a b : Bool) (m n g : ℕ) → (if b then max n (if a then max m g else g) else (if a then max m g else g)) ≡ (if a then max m (if b then max n g else g) else (if b then max n g else g))
greatest_swapped true true m n g = omega arith
greatest_swapped true false m n g = refl
greatest_swapped false true m n g = refl
greatest_swapped false false m n g = refl

-- with one more entry
greatest_with : (takes : CallEntry → Bool) (e : CallEntry) (es : List CallEntry) → greatest_among takes (entries_with e es) ≡ (if takes e then max e.timestamp (greatest_among takes es) else greatest_among takes es)
greatest_with takes e [] = refl
greatest_with takes e (f ∷ fs) = by (nat_lt e.timestamp f.timestamp) (greatest_with takes e fs)
  where
    by : (c : Bool) → greatest_among takes (entries_with e fs) ≡ (if takes e then max e.timestamp (greatest_among takes fs) else greatest_among takes fs)
        → greatest_among takes (if c then e ∷ f ∷ fs else f ∷ entries_with e fs) ≡ (if takes e then max e.timestamp (greatest_among takes (f ∷ fs)) else greatest_among takes (f ∷ fs))
    by true h = refl
    by false h = ap (λ m. if takes f then max f.timestamp m else m) h ∙ greatest_swapped (takes e) (takes f) e.timestamp f.timestamp (greatest_among takes fs)

greatest_same : (takes takes' : CallEntry → Bool) (es : List CallEntry) → AllByRecursion (λ g. takes g ≡ takes' g) es → greatest_among takes es ≡ greatest_among takes' es
greatest_same takes takes' [] same = refl
greatest_same takes takes' (g ∷ gs) same = λ i. if same.0 i then max g.timestamp (greatest_same takes takes' gs same.1 i) else greatest_same takes takes' gs same.1 i

-- it is not below the timestamp of any that the test takes
greatest_reached : (es : List CallEntry) → AllByRecursion (λ g. (takes : CallEntry → Bool) → takes g ≡ true → g.timestamp ≤ greatest_among takes es) es
greatest_reached [] = tt
greatest_reached (f ∷ fs) = (
  λ takes taken. own (takes f) taken (greatest_among takes fs),
  all_map (λ g. (takes : CallEntry → Bool) → takes g ≡ true → g.timestamp ≤ greatest_among takes fs) _ fs (λ g below takes taken. more (takes f) g.timestamp (greatest_among takes fs) (below takes taken)) (greatest_reached fs),
)
  where
    own : (b : Bool) → b ≡ true → (rest : ℕ) → f.timestamp ≤ (if b then max f.timestamp rest else rest)
    own true taken rest = omega arith
    own false taken rest = absurd cc

    more : (b : Bool) (t rest : ℕ) → t ≤ rest → t ≤ (if b then max f.timestamp rest else rest)
    more true t rest h = omega (arith, h)
    more false t rest h = h

-- it is not above a bound that none is above
pub greatest_at_most : (takes : CallEntry → Bool) (es : List CallEntry) (m : ℕ) → AllByRecursion (λ g. takes g ≡ true → g.timestamp ≤ m) es → greatest_among takes es ≤ m
greatest_at_most takes [] m below = omega arith
greatest_at_most takes (g ∷ gs) m below = by (takes g) refl (greatest_at_most takes gs m below.1)
  where
    by : (b : Bool) → takes g ≡ b → greatest_among takes gs ≤ m → (if b then max g.timestamp (greatest_among takes gs) else greatest_among takes gs) ≤ m
    by true taken rest = omega (arith, rest, below.0 taken)
    by false other rest = rest

-- ---- what the entries read, as marks

reads_it : {A : Type 0} (o : Option A) (n : ℕ) → IsSome o → (is_some o && (n == n)) ≡ true
reads_it None n some = absurd cc
reads_it (Some a) n some = let itself : (n == n) ≡ true = grind arith in itself

entries_marked : (base : Ledger) (es : List CallEntry) → AllByRecursion (λ g. AreMarked same_item (at base) (greatest_reader base es) es g.timestamp g.reads) es
entries_marked base es =
    all_map (λ g. (takes : CallEntry → Bool) → takes g ≡ true → g.timestamp ≤ greatest_among takes es) _ es
    (λ g reached. all_map (λ (r : Item × ItemValue). IsSome (lookup (same_item r.0) g.reads)) _ g.reads
    (λ r found. reached (has_read base es r.0 (version_read base es g r.0)) (reads_it (lookup (same_item r.0) g.reads) (version_read base es g r.0) found))
    (reads_found same_item items_have_an_equality.itself g.reads))
    (greatest_reached es)

-- a version's mark after a commit at a timestamp, by the version that is found there
abbrev pub mark_after : Option ItemValue → ℕ → ℕ → ℕ → ℕ → ℕ
mark_after None found t n m = m
mark_after (Some value) found t n m = if found == n then max m t else m

module _ (base : Ledger) (es : List CallEntry) (rising : IsRising 0 es) (e : CallEntry) where
  -- a commit that is in time by the entries' reads leaves what they read
  pub entries_spared : IsInTime same_item (at base) (greatest_reader base es) es e → AllByRecursion (λ (g : CallEntry). SparesReads same_item (at base) es e g.timestamp g.reads) es
  entries_spared in_time =
      all_map (λ (g : CallEntry). AreMarked same_item (at base) (greatest_reader base es) es g.timestamp g.reads) _ es
      (λ g marked. spared_by_marks same_item (at base) items_have_an_equality.exact (greatest_reader base es) es e g.timestamp g.reads rising in_time (λ below. marked))
      (entries_marked base es)

  read_before : (x : Item) (n : ℕ) (g : CallEntry) → SparesReads same_item (at base) es e g.timestamp g.reads → has_read base (entries_with e es) x n g ≡ has_read base es x n g
  read_before x n g spared = by (lookup (same_item x) g.reads) refl
    where
      by : (o : Option ItemValue) → lookup (same_item x) g.reads ≡ o → (is_some o && (version_read base (entries_with e es) g x == n)) ≡ (is_some o && (version_read base es g x == n))
      by None is = refl
      by (Some value) is =
          ap (λ (v : ℕ × ItemValue). v.0 == n)
          (all_found same_item items_have_an_equality.exact (λ y. version_below same_item (at base) (entries_with e es) g.timestamp y ≡ version_below same_item (at base) es g.timestamp y) x value g.reads is (versions_spared same_item (at base) es e g.timestamp g.reads spared))

  module _ (fresh : AllByRecursion (λ (g : CallEntry). g.timestamp ≢ e.timestamp) es) where
    own_version : (x : Item) → version_read base (entries_with e es) e x ≡ version_followed base es e.timestamp x
    own_version x =
        ap (λ (v : ℕ × ItemValue). v.0)
        ((every_commit_is_found_lem Item ItemValue Outcome same_item (at base) es rising e e.timestamp x).above (omega arith) ∙ sym (next_below same_item e.timestamp es x (0, at base x) fresh))

    -- the entry itself is one more reader of what it read
    pub reader_after : IsInTime same_item (at base) (greatest_reader base es) es e → (x : Item) (n : ℕ)
        → greatest_reader base (entries_with e es) x n ≡ mark_after (lookup (same_item x) e.reads) (version_followed base es e.timestamp x) e.timestamp n (greatest_reader base es x n)
    reader_after in_time x n =
        greatest_with (has_read base (entries_with e es) x n) e es
        ∙ (λ i. if (is_some (lookup (same_item x) e.reads) && (own_version x i == n)) then max e.timestamp (before i) else before i)
        ∙ by (lookup (same_item x) e.reads)
      where
        before : greatest_among (has_read base (entries_with e es) x n) es ≡ greatest_reader base es x n
        before = greatest_same (has_read base (entries_with e es) x n) (has_read base es x n) es (all_map (λ (g : CallEntry). SparesReads same_item (at base) es e g.timestamp g.reads) _ es (λ g spared. read_before x n g spared) (entries_spared in_time))

        one : (b : Bool) (t m : ℕ) → (if b then max t m else m) ≡ (if b then max m t else m)
        one true t m = omega arith
        one false t m = refl

        by : (o : Option ItemValue) → (if (is_some o && (version_followed base es e.timestamp x == n)) then max e.timestamp (greatest_reader base es x n) else greatest_reader base es x n) ≡ mark_after o (version_followed base es e.timestamp x) e.timestamp n (greatest_reader base es x n)
        by None = refl
        by (Some value) = one (version_followed base es e.timestamp x == n) e.timestamp (greatest_reader base es x n)

    -- a commit raises the marks of what it read to its timestamp, and no others
    mark_more : (o : Option ItemValue) (found t n m : ℕ) → m ≤ mark_after o found t n m
    mark_more None found t n m = omega arith
    mark_more (Some value) found t n m = by (found == n)
      where
        by : (b : Bool) → m ≤ (if b then max m t else m)
        by true = omega arith
        by false = omega arith

    mark_not_more : (o : Option ItemValue) (found t n m : ℕ) → mark_after o found t n m ≤ max t m
    mark_not_more None found t n m = omega arith
    mark_not_more (Some value) found t n m = by (found == n)
      where
        by : (b : Bool) → (if b then max m t else m) ≤ max t m
        by true = omega arith
        by false = omega arith

    mark_own : (o : Option ItemValue) (found t n m : ℕ) → IsSome o → found ≡ n → t ≤ mark_after o found t n m
    mark_own None found t n m some same = absurd cc
    mark_own (Some value) found t n m some same = by (found == n) (equals found n)
      where
        by : (b : Bool) → Equals found n b → t ≤ (if b then max m t else m)
        by b (equal k) = omega arith
        by b (unequal k) = absurd (k same)

    pub reads_marked : IsInTime same_item (at base) (greatest_reader base es) es e → MarksReads same_item (at base) (greatest_reader base es) (greatest_reader base (entries_with e es)) es e
    reads_marked in_time = record {
      more = λ x n. subst (λ m. greatest_reader base es x n ≤ m) (sym (reader_after in_time x n)) (mark_more (lookup (same_item x) e.reads) (version_followed base es e.timestamp x) e.timestamp n (greatest_reader base es x n));
      not_more = λ x n. subst (λ m. m ≤ max e.timestamp (greatest_reader base es x n)) (sym (reader_after in_time x n)) (mark_not_more (lookup (same_item x) e.reads) (version_followed base es e.timestamp x) e.timestamp n (greatest_reader base es x n));
      marked = all_map (λ (r : Item × ItemValue). IsSome (lookup (same_item r.0) e.reads)) _ e.reads
          (λ r found. let n : ℕ = (version_below same_item (at base) es e.timestamp r.0).0 in
          subst (λ m. e.timestamp ≤ m) (sym (reader_after in_time r.0 n))
          (mark_own (lookup (same_item r.0) e.reads) (version_followed base es e.timestamp r.0) e.timestamp n (greatest_reader base es r.0 n) found (ap (λ (v : ℕ × ItemValue). v.0) (next_below same_item e.timestamp es r.0 (0, at base r.0) fresh))))
          (reads_found same_item items_have_an_equality.itself e.reads);
    }

    -- ---- the marks of versions that hold the entries

    module _ (positive : 0 < e.timestamp) (from : ℕ) (all : Item → List (Version ItemValue)) (holds : HoldEntries (λ value. value) same_item (at base) from es all) (above : from ≤ e.timestamp) where
      absent : (x : Item) (vs : List (Version ItemValue)) → HoldsVersions (λ value. value) same_item (at base) from es x vs → AllByRecursion (λ v. v.timestamp ≢ e.timestamp) vs
      absent x vs h = no_version_is_at_a_fresh_timestamp_lem Item ItemValue Outcome ItemValue (λ value. value) same_item (at base) from es x vs h rising e.timestamp positive fresh

      read_mark : (x : Item) (n : ℕ) (o : Option ItemValue) → mark_in n (marked_where o e.timestamp (all x)) ≡ mark_after o (version_followed base es e.timestamp x) e.timestamp n (mark_in n (all x))
      read_mark x n None = refl
      read_mark x n (Some value) =
          let d : Version ItemValue = record { timestamp = 0; mark = 0; value = value } in
          every_read_raises_one_mark_lem ItemValue e.timestamp n (all x) d (holds x).chain (let old : oldest_timestamp (all x) ≤ from = (holds x).old_enough in omega (arith, old, above))
          ∙ ap (λ m. if m == n then max (mark_in n (all x)) e.timestamp else mark_in n (all x)) ((holds x).found e.timestamp d above).timestamp

      still_absent : (x : Item) (o : Option ItemValue) → AllByRecursion (λ v. v.timestamp ≢ e.timestamp) (marked_where o e.timestamp (all x))
      still_absent x None = absent x (all x) (holds x)
      still_absent x (Some value) = absent x (versions_read_at e.timestamp (all x)) (every_read_keeps_agreement_lem Item ItemValue Outcome ItemValue (λ v. v) same_item (at base) from es x (all x) (holds x) e.timestamp above)

      write_mark : (x : Item) (n : ℕ) (o : Option ItemValue) (vs : List (Version ItemValue)) → AllByRecursion (λ v. v.timestamp ≢ e.timestamp) vs → mark_in n (written_where (λ value. value) o e.timestamp vs) ≡ mark_in n vs
      write_mark x n None vs none = refl
      write_mark x n (Some value) vs none = every_install_keeps_marks_lem ItemValue e.timestamp n value vs none

      -- a commit raises the marks of what it read
      pub commit_mark : (x : Item) (n : ℕ) → mark_in n (after_entry (λ value. value) same_item e all x) ≡ mark_after (lookup (same_item x) e.reads) (version_followed base es e.timestamp x) e.timestamp n (mark_in n (all x))
      commit_mark x n =
          write_mark x n (lookup (same_item x) e.writes) (marked_where (lookup (same_item x) e.reads) e.timestamp (all x)) (still_absent x (lookup (same_item x) e.reads))
          ∙ read_mark x n (lookup (same_item x) e.reads)
