-- The version below a timestamp is the newest one, before and after one more entry.
use Rattle.std.proofs.Common.{◌≡◌, ℕ, suc, ◌<◌, ◌≤◌, ◌⊎◌, inl, inr, Bool, if◌then◌else◌, nat_lt, Option, Some, None, IsSome, List, [], ◌∷◌, length, refl, sym, ap, ◌∙◌, subst, arith, lt-ltb}
use Rattle.std.specs.Map.{lookup}
use Rattle.std.specs.List.{AllByRecursion}
use Rattle.mv_history.specs.History.{Entry, IsRising, version_after, newest_version, entries_with}
use Rattle.mv_history.specs.Laws.{IsVersionOf, EveryVersionBelowIsNewest, EveryCommitIsFound}
use Rattle.mv_history.proofs.Lists.{Compared, less, not_less, compared}
use Rattle.mv_history.proofs.Versions.{passes, at_least, newest_version-entries_with}

module _ {Item Value Outcome : Type 0} (same : Item → Item → Bool) where
  later : (t : ℕ) (f : Entry Item Value Outcome) (es : List (Entry Item Value Outcome)) (x : Item) (v : ℕ × Value)
      → (e : Entry Item Value Outcome) × IsVersionOf same t es x v e → (e : Entry Item Value Outcome) × IsVersionOf same t (f ∷ es) x v e
  later t f es x v s = (
    s.0,
    record {
      held = (suc s.1.held.0, let in_rest : s.1.held.0 < length es = s.1.held.1 in omega arith, s.1.held.2);
      below = s.1.below;
      timestamp = s.1.timestamp;
      value = s.1.value;
    },
  )

  -- it is the one before all entries, or an entry's
  newest_version-written : (t : ℕ) (es : List (Entry Item Value Outcome)) (x : Item) (before : ℕ × Value)
      → (newest_version same t es x before ≡ before) ⊎ ((e : Entry Item Value Outcome) × IsVersionOf same t es x (newest_version same t es x before) e)
  newest_version-written t [] x before = inl refl
  newest_version-written t (f ∷ fs) x before = at_tests (nat_lt f.timestamp t) (lookup (same x) f.writes) (compared f.timestamp t) refl (λ b. newest_version-written t fs x b)
    where
      at_tests : (c : Bool) (o : Option Value) → Compared f.timestamp t c → lookup (same x) f.writes ≡ o
          → ((b : ℕ × Value) → (newest_version same t fs x b ≡ b) ⊎ ((e : Entry Item Value Outcome) × IsVersionOf same t fs x (newest_version same t fs x b) e))
          → (newest_version same t fs x (version_after c o f.timestamp before) ≡ before) ⊎ ((e : Entry Item Value Outcome) × IsVersionOf same t (f ∷ fs) x (newest_version same t fs x (version_after c o f.timestamp before)) e)
      at_tests c (Some y) (less k) h rest =
          elim (rest (f.timestamp, y)) [
            | inl is ↦ inr (f, record { held = (0, omega arith, refl); below = k; timestamp = ap (λ v. v.0) is; value = h ∙ ap (λ v. Some v.1) (sym is) })
            | inr s ↦ inr (later t f fs x _ s)
          ]
      at_tests c None (less k) h rest = elim (rest before) [ inl is ↦ inl is | inr s ↦ inr (later t f fs x _ s) ]
      at_tests c o (not_less k) h rest = elim (rest before) [ inl is ↦ inl is | inr s ↦ inr (later t f fs x _ s) ]

  newest_version-greatest : (t bound : ℕ) (es : List (Entry Item Value Outcome)) (x : Item) (before : ℕ × Value) → IsRising bound es
      → AllByRecursion (λ e. e.timestamp < t → IsSome (lookup (same x) e.writes) → e.timestamp ≤ (newest_version same t es x before).0) es
  newest_version-greatest t bound [] x before r = tt
  newest_version-greatest t bound (f ∷ fs) x before r = (
    (λ below written. at_write below (lookup (same x) f.writes) written),
    newest_version-greatest t f.timestamp fs x (version_after (nat_lt f.timestamp t) (lookup (same x) f.writes) f.timestamp before) r.1,
  )
    where
      at_write : f.timestamp < t → (o : Option Value) → IsSome o → f.timestamp ≤ (newest_version same t fs x (version_after (nat_lt f.timestamp t) o f.timestamp before)).0
      at_write below (Some y) written = rw (lt-ltb f.timestamp t below) (at_least same t f.timestamp f.timestamp fs x (f.timestamp, y) (omega arith) (omega arith) r.1)
      at_write below None written = absurd cc

  -- one more entry is found where what was found before is older
  newest_version-found : (e : Entry Item Value Outcome) (t bound : ℕ) (es : List (Entry Item Value Outcome)) (x : Item) (v : ℕ × Value) (value : Value)
      → IsRising bound es → lookup (same x) e.writes ≡ Some value → e.timestamp < t → (newest_version same t es x v).0 < e.timestamp → newest_version same t (entries_with e es) x v ≡ (e.timestamp, value)
  newest_version-found e t bound [] x v value r h k older = rw (lt-ltb e.timestamp t k, h) refl
  newest_version-found e t bound (f ∷ fs) x v value r h k older =
      at_test (nat_lt e.timestamp f.timestamp) (compared e.timestamp f.timestamp) (newest_version-found e t f.timestamp fs x (version_after (nat_lt f.timestamp t) (lookup (same x) f.writes) f.timestamp v) value r.1 h k older)
    where
      at_test : (c : Bool) → Compared e.timestamp f.timestamp c
          → newest_version same t (entries_with e fs) x (version_after (nat_lt f.timestamp t) (lookup (same x) f.writes) f.timestamp v) ≡ (e.timestamp, value)
          → newest_version same t (if c then e ∷ f ∷ fs else f ∷ entries_with e fs) x v ≡ (e.timestamp, value)
      at_test c (less m) rest =
          let first : newest_version same t (e ∷ f ∷ fs) x v ≡ newest_version same t (f ∷ fs) x (e.timestamp, value) =
          ap (newest_version same t (f ∷ fs) x) (rw (lt-ltb e.timestamp t k, h) refl) in
          first ∙ elim (passes same t (f ∷ fs) x (e.timestamp, value) v) [
            | inl joined ↦ let high : e.timestamp ≤ (newest_version same t (f ∷ fs) x (e.timestamp, value)).0 = at_least same t e.timestamp e.timestamp (f ∷ fs) x (e.timestamp, value) (omega arith) (omega arith) (m, r.1) in
                let low : (newest_version same t (f ∷ fs) x (e.timestamp, value)).0 < e.timestamp = subst (λ u. u.0 < e.timestamp) (sym joined) older in
                absurd (omega arith)
            | inr passed ↦ passed.0
          ]
      at_test c (not_less m) rest = rest

pub every_version_below_is_newest_lem : (Item Value Outcome : Type 0) → EveryVersionBelowIsNewest Item Value Outcome
every_version_below_is_newest_lem Item Value Outcome same base es r t x =
    record { written = newest_version-written same t es x (0, base x); greatest = newest_version-greatest same t 0 es x (0, base x) r }

pub every_commit_is_found_lem : (Item Value Outcome : Type 0) → EveryCommitIsFound Item Value Outcome
every_commit_is_found_lem Item Value Outcome same base es r e t x =
    record {
      found = λ value h k older. newest_version-found same e t 0 es x (0, base x) value r h k older;
      unwritten = λ h. newest_version-entries_with same e t es x (0, base x) (omega arith) (inr (inl h));
      older = λ h. newest_version-entries_with same e t es x (0, base x) (omega arith) (inr (inr h));
      above = λ h. newest_version-entries_with same e t es x (0, base x) (omega arith) (inl h);
    }
