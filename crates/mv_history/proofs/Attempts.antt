-- Lists of live attempts, and how many are of a call.
use Rattle.std.proofs.Common.{◌≡◌, ℕ, ◌+◌, ◌≤◌, ◌≢◌, Bool, true, false, if◌then◌else◌, cond, not, nat_lt, ◌==◌, max, None, Some, List, [], ◌∷◌, ◌++◌, refl, sym, ap, ◌∙◌, subst, arith}
use Rattle.std.specs.List.{AllByRecursion, insert}
use Rattle.std.proofs.lemmas.Option.{same_Some}
use Rattle.mv_history.specs.History.{Entry, entries_with, commit_count}
use Rattle.mv_history.specs.World.{Attempt, attempt_at, attempts_without, attempts_with_read, live_count, lowest_live, IsLowerBound}
use Rattle.mv_history.proofs.Lists.{Equals, equal, unequal, equals, all_map}

module _ {Item Value : Type 0} where
  pub all_without : (P : Attempt Item Value → Type 0) (t : ℕ) (live : List (Attempt Item Value)) → AllByRecursion P live → AllByRecursion P (attempts_without t live)
  all_without P t [] h = tt
  all_without P t (a ∷ as') h = at_test (a.timestamp == t) (all_without P t as' h.1)
    where
      at_test : (c : Bool) → AllByRecursion P (attempts_without t as') → AllByRecursion P (cond (not c) (a ∷ attempts_without t as') (attempts_without t as'))
      at_test true rest = rest
      at_test false rest = (h.0, rest)

  -- what is left has other timestamps
  pub without_others : (t : ℕ) (live : List (Attempt Item Value)) → AllByRecursion (λ a. a.timestamp ≢ t) (attempts_without t live)
  without_others t [] = tt
  without_others t (a ∷ as') = at_test (a.timestamp == t) (equals a.timestamp t) (without_others t as')
    where
      at_test : (c : Bool) → Equals a.timestamp t c → AllByRecursion (λ a. a.timestamp ≢ t) (attempts_without t as') → AllByRecursion (λ a. a.timestamp ≢ t) (cond (not c) (a ∷ attempts_without t as') (attempts_without t as'))
      at_test c (equal k) rest = rest
      at_test c (unequal k) rest = (k, rest)

  -- what holds of each live attempt holds after a read, where it still holds of the one that read
  pub all_with_read : (P : Attempt Item Value → Type 0) (t index : ℕ) (read : Item × Value) (live : List (Attempt Item Value))
      → ((a : Attempt Item Value) → a.timestamp ≡ t → P a → P (record a { reads = insert a.reads index read })) → AllByRecursion P live → AllByRecursion P (attempts_with_read t index read live)
  all_with_read P t index read [] f h = tt
  all_with_read P t index read (a ∷ as') f h = at_test (a.timestamp == t) (equals a.timestamp t) (all_with_read P t index read as' f h.1)
    where
      at_test : (c : Bool) → Equals a.timestamp t c → AllByRecursion P (attempts_with_read t index read as') → AllByRecursion P (if c then record a { reads = insert a.reads index read } ∷ as' else a ∷ attempts_with_read t index read as')
      at_test c (equal k) rest = (f a k h.0, h.1)
      at_test c (unequal k) rest = (h.0, rest)

  -- the attempt found at a timestamp is one of the live ones, and has that timestamp
  pub found_attempt : (P : Attempt Item Value → Type 0) (t : ℕ) (a : Attempt Item Value) (live : List (Attempt Item Value)) → attempt_at t live ≡ Some a → AllByRecursion P live → P a
  found_attempt P t a [] h k = absurd cc
  found_attempt P t a (b ∷ bs) h k = at_test (b.timestamp == t) h (λ e. found_attempt P t a bs e k.1)
    where
      at_test : (c : Bool) → (if c then Some b else attempt_at t bs) ≡ Some a → (attempt_at t bs ≡ Some a → P a) → P a
      at_test true e rest = subst P (same_Some _ _ e) k.0
      at_test false e rest = rest e

  pub found_timestamp : (t : ℕ) (a : Attempt Item Value) (live : List (Attempt Item Value)) → attempt_at t live ≡ Some a → a.timestamp ≡ t
  found_timestamp t a [] h = absurd cc
  found_timestamp t a (b ∷ bs) h = at_test (b.timestamp == t) (equals b.timestamp t) h (λ e. found_timestamp t a bs e)
    where
      at_test : (c : Bool) → Equals b.timestamp t c → (if c then Some b else attempt_at t bs) ≡ Some a → (attempt_at t bs ≡ Some a → a.timestamp ≡ t) → a.timestamp ≡ t
      at_test c (equal k) e rest = subst (λ x. x.timestamp ≡ t) (same_Some _ _ e) k
      at_test c (unequal k) e rest = rest e

  -- after an attempt has begun the others are still found, and it is found at its fresh timestamp
  pub attempt_at-push : (t : ℕ) (a b : Attempt Item Value) (live : List (Attempt Item Value)) → attempt_at t live ≡ Some a → attempt_at t (live ++ b ∷ []) ≡ Some a
  attempt_at-push t a b [] h = absurd cc
  attempt_at-push t a b (c ∷ cs) h = at_test (c.timestamp == t) h (λ e. attempt_at-push t a b cs e)
    where
      at_test : (d : Bool) → (if d then Some c else attempt_at t cs) ≡ Some a → (attempt_at t cs ≡ Some a → attempt_at t (cs ++ b ∷ []) ≡ Some a) → (if d then Some c else attempt_at t (cs ++ b ∷ [])) ≡ Some a
      at_test true e rest = e
      at_test false e rest = rest e

  pub attempt_at-last : (t : ℕ) (b : Attempt Item Value) (live : List (Attempt Item Value)) → b.timestamp ≡ t → AllByRecursion (λ a. a.timestamp ≢ t) live → attempt_at t (live ++ b ∷ []) ≡ Some b
  attempt_at-last t b [] e h = at_test (b.timestamp == t) (equals b.timestamp t)
    where
      at_test : (d : Bool) → Equals b.timestamp t d → (if d then Some b else None) ≡ Some b
      at_test d (equal k) = refl
      at_test d (unequal k) = absurd (k e)
  attempt_at-last t b (c ∷ cs) e h = at_test (c.timestamp == t) (equals c.timestamp t) (attempt_at-last t b cs e h.1)
    where
      at_test : (d : Bool) → Equals c.timestamp t d → attempt_at t (cs ++ b ∷ []) ≡ Some b → (if d then Some c else attempt_at t (cs ++ b ∷ [])) ≡ Some b
      at_test d (equal k) rest = absurd (h.0 k)
      at_test d (unequal k) rest = rest

  -- a read is added to the attempt at its timestamp, and the others stay as they are
  pub attempt_at-with_read : (t index : ℕ) (read : Item × Value) (a : Attempt Item Value) (live : List (Attempt Item Value)) → attempt_at t live ≡ Some a
      → attempt_at t (attempts_with_read t index read live) ≡ Some (record a { reads = insert a.reads index read })
  attempt_at-with_read t index read a [] h = absurd cc
  attempt_at-with_read t index read a (b ∷ bs) h = at_test (b.timestamp == t) refl h (attempt_at-with_read t index read a bs)
    where
      at_test : (c : Bool) → (b.timestamp == t) ≡ c → (if c then Some b else attempt_at t bs) ≡ Some a
          → (attempt_at t bs ≡ Some a → attempt_at t (attempts_with_read t index read bs) ≡ Some (record a { reads = insert a.reads index read }))
          → attempt_at t (if c then record b { reads = insert b.reads index read } ∷ bs else b ∷ attempts_with_read t index read bs) ≡ Some (record a { reads = insert a.reads index read })
      at_test true same is rest =
          ap (λ c. if c then Some (record b { reads = insert b.reads index read }) else attempt_at t bs) same ∙ ap (λ (x : Attempt Item Value). Some (record x { reads = insert x.reads index read })) (same_Some _ _ is)
      at_test false other is rest = ap (λ c. if c then Some b else attempt_at t (attempts_with_read t index read bs)) other ∙ rest is

  pub attempt_at-other_read : (s t index : ℕ) (read : Item × Value) (live : List (Attempt Item Value)) → s ≢ t → attempt_at s (attempts_with_read t index read live) ≡ attempt_at s live
  attempt_at-other_read s t index read [] other = refl
  attempt_at-other_read s t index read (b ∷ bs) other = at_test (b.timestamp == t) (equals b.timestamp t) (attempt_at-other_read s t index read bs other)
    where
      at_same : b.timestamp ≡ t → (c : Bool) → Equals b.timestamp s c → (if c then Some (record b { reads = insert b.reads index read }) else attempt_at s bs) ≡ (if c then Some b else attempt_at s bs)
      at_same e c (equal k) = absurd (other (sym k ∙ e))
      at_same e c (unequal k) = refl

      at_test : (c : Bool) → Equals b.timestamp t c → attempt_at s (attempts_with_read t index read bs) ≡ attempt_at s bs
          → attempt_at s (if c then record b { reads = insert b.reads index read } ∷ bs else b ∷ attempts_with_read t index read bs) ≡ attempt_at s (b ∷ bs)
      at_test c (equal k) rest = at_same k (b.timestamp == s) (equals b.timestamp s)
      at_test c (unequal k) rest = ap (λ o. if b.timestamp == s then Some b else o) rest

  -- the end of an attempt does not change which attempts are found at other timestamps
  pub attempt_at-without : (s t : ℕ) (live : List (Attempt Item Value)) → s ≢ t → attempt_at s (attempts_without t live) ≡ attempt_at s live
  attempt_at-without s t [] other = refl
  attempt_at-without s t (b ∷ bs) other = at_test (b.timestamp == t) (equals b.timestamp t) (attempt_at-without s t bs other)
    where
      passed : b.timestamp ≡ t → (c : Bool) → Equals b.timestamp s c → attempt_at s bs ≡ (if c then Some b else attempt_at s bs)
      passed e c (equal k) = absurd (other (sym k ∙ e))
      passed e c (unequal k) = refl

      at_test : (c : Bool) → Equals b.timestamp t c → attempt_at s (attempts_without t bs) ≡ attempt_at s bs
          → attempt_at s (cond (not c) (b ∷ attempts_without t bs) (attempts_without t bs)) ≡ attempt_at s (b ∷ bs)
      at_test c (equal k) rest = rest ∙ passed k (b.timestamp == s) (equals b.timestamp s)
      at_test c (unequal k) rest = ap (λ o. if b.timestamp == s then Some b else o) rest

  pub live_count-push : (n : ℕ) (a : Attempt Item Value) (live : List (Attempt Item Value)) → live_count n (live ++ a ∷ []) ≡ live_count n live + (if a.number == n then 1 else 0)
  live_count-push n a [] = omega arith
  live_count-push n a (b ∷ bs) = omega (arith, live_count-push n a bs)

  pub live_count-with_read : (n t index : ℕ) (read : Item × Value) (live : List (Attempt Item Value)) → live_count n (attempts_with_read t index read live) ≡ live_count n live
  live_count-with_read n t index read [] = refl
  live_count-with_read n t index read (a ∷ as') = at_test (a.timestamp == t) (live_count-with_read n t index read as')
    where
      at_test : (c : Bool) → live_count n (attempts_with_read t index read as') ≡ live_count n as' → live_count n (if c then record a { reads = insert a.reads index read } ∷ as' else a ∷ attempts_with_read t index read as') ≡ live_count n (a ∷ as')
      at_test true rest = refl
      at_test false rest = ap (λ k. (if a.number == n then 1 else 0) + k) rest

  pub live_count-without : (n t : ℕ) (live : List (Attempt Item Value)) → live_count n (attempts_without t live) ≤ live_count n live
  live_count-without n t [] = omega arith
  live_count-without n t (a ∷ as') = at_test (a.timestamp == t) (live_count-without n t as')
    where
      at_test : (c : Bool) → live_count n (attempts_without t as') ≤ live_count n as' → live_count n (cond (not c) (a ∷ attempts_without t as') (attempts_without t as')) ≤ live_count n (a ∷ as')
      at_test true rest = omega arith
      at_test false rest = omega arith

  -- one that is live goes
  pub live_count-ended : (n t : ℕ) (a : Attempt Item Value) (live : List (Attempt Item Value)) → attempt_at t live ≡ Some a
      → live_count n (attempts_without t live) + (if a.number == n then 1 else 0) ≤ live_count n live
  live_count-ended n t a [] h = absurd cc
  live_count-ended n t a (b ∷ bs) h = at_test (b.timestamp == t) h (λ e. live_count-ended n t a bs e) (live_count-without n t bs)
    where
      at_test : (c : Bool) → (if c then Some b else attempt_at t bs) ≡ Some a
          → (attempt_at t bs ≡ Some a → live_count n (attempts_without t bs) + (if a.number == n then 1 else 0) ≤ live_count n bs)
          → live_count n (attempts_without t bs) ≤ live_count n bs
          → live_count n (cond (not c) (b ∷ attempts_without t bs) (attempts_without t bs)) + (if a.number == n then 1 else 0) ≤ live_count n (b ∷ bs)
      at_test true e rest fewer = subst (λ x. live_count n (attempts_without t bs) + (if x.number == n then 1 else 0) ≤ live_count n (b ∷ bs)) (same_Some _ _ e) (omega arith)
      at_test false e rest fewer = let more : live_count n (attempts_without t bs) + (if a.number == n then 1 else 0) ≤ live_count n bs = rest e in omega arith

-- a new entry adds one to the count of its own call, and to no other
pub commit_count-entries_with : {Item Value Outcome : Type 0} (n : ℕ) (e : Entry Item Value Outcome) (es : List (Entry Item Value Outcome)) → commit_count n (entries_with e es) ≡ commit_count n es + (if e.number == n then 1 else 0)
commit_count-entries_with n e [] = omega arith
commit_count-entries_with n e (f ∷ fs) = at_test (nat_lt e.timestamp f.timestamp) (commit_count-entries_with n e fs)
  where
    at_test : (c : Bool) → commit_count n (entries_with e fs) ≡ commit_count n fs + (if e.number == n then 1 else 0)
        → commit_count n (if c then e ∷ f ∷ fs else f ∷ entries_with e fs) ≡ commit_count n (f ∷ fs) + (if e.number == n then 1 else 0)
    at_test true rest = omega arith
    at_test false rest = omega arith

module _ {Item Value : Type 0} where
  pub lowest_live-at_most : (bound : ℕ) (live : List (Attempt Item Value)) → lowest_live bound live ≤ bound
  lowest_live-at_most bound [] = omega arith
  lowest_live-at_most bound (a ∷ as') = omega (arith, lowest_live-at_most bound as')

  -- the low mark after a prune is below each live timestamp, as the one before was
  pub pruned_below : (low bound : ℕ) (live : List (Attempt Item Value)) → IsLowerBound low live → IsLowerBound (max low (lowest_live bound live)) live
  pruned_below low bound [] h = tt
  pruned_below low bound (a ∷ as') h = (
    let here : low ≤ a.timestamp = h.0 in omega arith,
    all_map (λ b. max low (lowest_live bound as') ≤ b.timestamp) _ as' (λ b k. omega arith) (pruned_below low bound as' h.1),
  )
