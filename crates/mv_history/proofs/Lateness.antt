-- When a commit is late.
use Rattle.std.proofs.Common.{◌≡◌, ℕ, zero, suc, ◌<◌, ◌≤◌, ◌⊎◌, inl, inr, Bool, true, false, if◌then◌else◌, nat_lt, ◌&&◌, ◌==◌, max, Option, Some, None, IsSome, List, [], ◌∷◌, length, get_or, Contains, refl, sym, ap, ◌∙◌, subst, arith}
use Rattle.std.specs.Map.{lookup}
use Rattle.std.specs.List.{AllByRecursion}
use Rattle.mv_history.specs.History.{IsEquality, version_below}
use Rattle.mv_history.specs.World.{Mark, greatest_mark}
use Rattle.mv_history.specs.Laws.{EveryCommitIsInTimeOrLate, NoCommitInTimeIsLate, NoMarkIsAboveTheGreatest, EveryCommitWithoutWritesIsInTime, EveryCommitAtTheClockIsInTime}
use Rattle.mv_history.proofs.Lists.{Compared, less, not_less, compared, Equals, equal, unequal, equals, all_of, all_found}
use Rattle.mv_history.proofs.Worlds.{consistent}

-- a value is in a list
abbrev Member : {X : Type 0} → X → List X → Type 0
Member x [] = ⊥
Member x (y ∷ ys) = (y ≡ x) ⊎ Member x ys

all_or_some : {X : Type 0} (P Q : X → Type 0) (xs : List X) → ((x : X) → P x ⊎ Q x) → AllByRecursion P xs ⊎ ((x : X) × Member x xs × Q x)
all_or_some P Q [] f = inl tt
all_or_some P Q (x ∷ xs) f =
    elim (f x) [
      | inl p ↦ elim (all_or_some P Q xs f) [
        | inl ps ↦ inl (p, ps)
        | inr found ↦ inr (found.0, inr found.1, found.2)
      ]
      | inr q ↦ inr (x, inl refl, q)
    ]

module _ {Item : Type 0} (same : Item → Item → Bool) (equality : IsEquality same) where
  lookup-member : {Value : Type 0} (write : Item × Value) (writes : List (Item × Value)) → Member write writes → IsSome (lookup (same write.0) writes)
  lookup-member write [] h = absurd h
  lookup-member write (w ∷ ws) (inl h) = rw (subst (λ u. same u.0 w.0 ≡ true) h (equality.itself w.0)) refl
  lookup-member write (w ∷ ws) (inr h) = at_test (same write.0 w.0) (lookup-member write ws h)
    where
      at_test : (c : Bool) → IsSome (lookup (same write.0) ws) → IsSome (if c then Some w.1 else lookup (same write.0) ws)
      at_test true found = refl
      at_test false found = found

  mark_is : (m : Mark Item) (x : Item) (v r : ℕ) → x ≡ m.item → m.version ≡ v → m.reader ≡ r → m ≡ record { item = x; version = v; reader = r }
  mark_is m x v r e f g =
      ap (λ y. record { item = y; version = m.version; reader = m.reader }) (sym e) ∙ ap (λ n. record { item = x; version = n; reader = m.reader }) f ∙ ap (λ n. record { item = x; version = v; reader = n }) g

  -- the greatest mark is one of the marks
  pub greatest_mark-contained : (ms : List (Mark Item)) (x : Item) (v : ℕ) → 0 < greatest_mark same ms x v → Contains ms (record { item = x; version = v; reader = greatest_mark same ms x v })
  greatest_mark-contained [] x v h = absurd (omega arith)
  greatest_mark-contained (m ∷ ms) x v h = at_item (same x m.item) refl (m.version == v) (equals m.version v) h (greatest_mark-contained ms x v)
    where
      later : (r : ℕ) → Contains ms (record { item = x; version = v; reader = r }) → Contains (m ∷ ms) (record { item = x; version = v; reader = r })
      later r c = (suc c.0, let within : c.0 < length ms = c.1 in omega arith, c.2)

      at_greater : same x m.item ≡ true → m.version ≡ v → (c : Bool) → Compared m.reader (greatest_mark same ms x v) c
          → (0 < greatest_mark same ms x v → Contains ms (record { item = x; version = v; reader = greatest_mark same ms x v }))
          → Contains (m ∷ ms) (record { item = x; version = v; reader = max m.reader (greatest_mark same ms x v) })
      at_greater e f c (less k) rest =
          let is : max m.reader (greatest_mark same ms x v) ≡ greatest_mark same ms x v = omega arith in
          subst (λ r. Contains (m ∷ ms) (record { item = x; version = v; reader = r })) (sym is) (later (greatest_mark same ms x v) (rest (omega arith)))
      at_greater e f c (not_less k) rest =
          let is : m.reader ≡ max m.reader (greatest_mark same ms x v) = omega arith in
          subst (λ y. Contains (m ∷ ms) y) (mark_is m x v (max m.reader (greatest_mark same ms x v)) (equality.exact x m.item e) f is) (0, omega arith, refl)

      at_item : (b : Bool) → same x m.item ≡ b → (c : Bool) → Equals m.version v c
          → 0 < (if b && c then max m.reader (greatest_mark same ms x v) else greatest_mark same ms x v)
          → (0 < greatest_mark same ms x v → Contains ms (record { item = x; version = v; reader = greatest_mark same ms x v }))
          → Contains (m ∷ ms) (record { item = x; version = v; reader = (if b && c then max m.reader (greatest_mark same ms x v) else greatest_mark same ms x v) })
      at_item true e c (equal f) positive rest = at_greater e f (nat_lt m.reader (greatest_mark same ms x v)) (compared m.reader (greatest_mark same ms x v)) rest
      at_item true e c (unequal f) positive rest = later (greatest_mark same ms x v) (rest positive)
      at_item false e c f positive rest = later (greatest_mark same ms x v) (rest positive)

  -- no mark of a version is above the greatest one of that version
  pub reader-at_most : (ms : List (Mark Item)) (m : Mark Item) (k : ℕ) → k < length ms → get_or ms k m ≡ m → m.reader ≤ greatest_mark same ms m.item m.version
  reader-at_most [] m k h is = absurd (omega arith)
  reader-at_most (n ∷ ms) m zero h is = rw (is, equality.itself m.item) (at_test (m.version == m.version) (equals m.version m.version))
    where
      at_test : (c : Bool) → Equals m.version m.version c → m.reader ≤ (if c then max m.reader (greatest_mark same ms m.item m.version) else greatest_mark same ms m.item m.version)
      at_test c (equal f) = omega arith
      at_test c (unequal f) = absurd (f refl)
  reader-at_most (n ∷ ms) m (suc k) h is = at_test (same m.item n.item && (n.version == m.version)) (reader-at_most ms m k (omega arith) is)
    where
      at_test : (c : Bool) → m.reader ≤ greatest_mark same ms m.item m.version → m.reader ≤ (if c then max n.reader (greatest_mark same ms m.item m.version) else greatest_mark same ms m.item m.version)
      at_test true h = omega arith
      at_test false h = h

pub every_commit_is_in_time_or_late_lem : (Item Value Outcome : Type 0) → EveryCommitIsInTimeOrLate Item Value Outcome
every_commit_is_in_time_or_late_lem Item Value Outcome same equality base w e =
    elim (all_or_some (λ write. read_by write.0 ≤ e.timestamp) (λ write. e.timestamp < read_by write.0) e.writes (λ write. at_test write.0 (nat_lt e.timestamp (read_by write.0)) (compared e.timestamp (read_by write.0)))) [
      | inl in_time ↦ inl in_time
      | inr found ↦ inr (
        found.0.0,
        (version_below same base w.entries (suc e.timestamp) found.0.0).0,
        read_by found.0.0,
        record {
          written = lookup-member same equality found.0 e.writes found.1;
          follows = refl;
          marked = greatest_mark-contained same equality w.marks found.0.0 (version_below same base w.entries (suc e.timestamp) found.0.0).0 (let above : e.timestamp < read_by found.0.0 = found.2 in omega arith);
          greatest = refl;
          above = found.2;
        },
      )
    ]
  where
    read_by : Item → ℕ
    read_by x = greatest_mark same w.marks x (version_below same base w.entries (suc e.timestamp) x).0

    at_test : (x : Item) (c : Bool) → Compared e.timestamp (read_by x) c → (read_by x ≤ e.timestamp) ⊎ (e.timestamp < read_by x)
    at_test x c (less k) = inr k
    at_test x c (not_less k) = inl k

pub no_commit_in_time_is_late_lem : (Item Value Outcome : Type 0) → NoCommitInTimeIsLate Item Value Outcome
no_commit_in_time_is_late_lem Item Value Outcome same equality base w e in_time x version reader late = at_write (lookup (same x) e.writes) refl late.written
  where
    at_write : (o : Option Value) → lookup (same x) e.writes ≡ o → IsSome o → ⊥
    at_write (Some y) h written =
        let in_time_here : greatest_mark same w.marks x (version_below same base w.entries (suc e.timestamp) x).0 ≤ e.timestamp =
        all_found same equality.exact (λ z. greatest_mark same w.marks z (version_below same base w.entries (suc e.timestamp) z).0 ≤ e.timestamp) x y e.writes h in_time in
        let read_here : reader ≡ greatest_mark same w.marks x (version_below same base w.entries (suc e.timestamp) x).0 = late.greatest ∙ ap (greatest_mark same w.marks x) late.follows in
        let above : e.timestamp < reader = late.above in
        absurd (omega arith)
    at_write None h written = absurd cc

pub no_mark_is_above_the_greatest_lem : (Item : Type 0) → NoMarkIsAboveTheGreatest Item
no_mark_is_above_the_greatest_lem Item same equality marks m contained = reader-at_most same equality marks m contained.0 contained.1 contained.2

pub every_commit_without_writes_is_in_time_lem : (Item Value Outcome : Type 0) → EveryCommitWithoutWritesIsInTime Item Value Outcome
every_commit_without_writes_is_in_time_lem Item Value Outcome same base w e none =
    subst (λ writes. AllByRecursion (λ write. greatest_mark same w.marks write.0 (version_below same base w.entries (suc e.timestamp) write.0).0 ≤ e.timestamp) writes) (sym none) tt

pub every_commit_at_the_clock_is_in_time_lem : (Item Value Outcome : Type 0) (Proper : (Item → Value) → Type 0) → EveryCommitAtTheClockIsInTime Item Value Outcome Proper
every_commit_at_the_clock_is_in_time_lem Item Value Outcome Proper same equality means base w reachable e at_clock =
    all_of _ e.writes (λ write. subst (λ t. greatest_mark same w.marks write.0 (version_below same base w.entries (suc e.timestamp) write.0).0 ≤ t) (sym at_clock)
    ((consistent same Proper means base equality w reachable).schedule.marks_past write.0 (version_below same base w.entries (suc e.timestamp) write.0).0))
