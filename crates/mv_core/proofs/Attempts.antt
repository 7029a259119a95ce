-- Live attempts with what they have read, by the slots of their calls.
use Rattle.std.proofs.Common.{◌≡◌, ◌≢◌, ℕ, ◌+◌, ◌-◌, ◌<◌, ◌≤◌, ◌==◌, Bool, true, false, cond, not, if◌then◌else◌, List, [], ◌∷◌, ◌++◌, length, Option, None, Some, get_or, set, refl, sym, ap, ◌∙◌, subst, arith}
use Rattle.std.specs.List.{AllByRecursion, insert}
use Rattle.std.proofs.lemmas.List.{get_or-set_same, get_or-set_other, length-set}
use Rattle.std.proofs.lemmas.Option.{same_Some}
use Rattle.mv_history.specs.World.{Attempt, attempt_at, attempts_with_read, attempts_without, fresh_attempt, live_count}
use Rattle.mv_history.proofs.Attempts.{attempt_at-last, attempt_at-push, attempt_at-without, found_timestamp, live_count-ended, live_count-push, live_count-without}
use Rattle.mv_history.proofs.Lists.{Equals, equal, unequal, equals}
use Rattle.mv_core.specs.AttemptSlots.{AreSlotsOf, HasLiveNumber, IsSlotOf, AttemptSlots, live_in, reads_of_call, reads_or}

module _ {Item Value : Type 0} where
  -- ---- what the attempts of other calls have read

  reads_other : (slots : AttemptSlots Item Value) (s : Option (Attempt Item Value)) (m n : ℕ) → 0 < n → m ≢ n → reads_of_call (set slots (n - 1) s) m ≡ reads_of_call slots m
  reads_other slots s m n above other = by (m == 0) (equals m 0)
    where
      by : (b : Bool) → Equals m 0 b → (if b then [] else reads_or (get_or (set slots (n - 1) s) (m - 1) None)) ≡ (if b then [] else reads_or (get_or slots (m - 1) None))
      by b (equal e) = refl
      by b (unequal e) = ap reads_or (get_or-set_other slots (n - 1) (m - 1) s None (λ same. other (omega (arith, same, e))))

  reads_found : (slots : AttemptSlots Item Value) (a : Attempt Item Value) (n : ℕ) → 0 < n → get_or slots (n - 1) None ≡ Some a → reads_of_call slots n ≡ a.reads
  reads_found slots a n above found = by (n == 0) (equals n 0)
    where
      by : (b : Bool) → Equals n 0 b → (if b then [] else reads_or (get_or slots (n - 1) None)) ≡ a.reads
      by b (equal e) = absurd (omega (arith, e))
      by b (unequal e) = ap reads_or found

  live_others : (slots : AttemptSlots Item Value) (s : Option (Attempt Item Value)) (n : ℕ) (live : List (Attempt Item Value)) → 0 < n → live_count n live ≡ 0 → live_in (set slots (n - 1) s) live ≡ live_in slots live
  live_others slots s n [] above none = refl
  live_others slots s n (a ∷ as') above none = by (a.number == n) (equals a.number n) none (live_others slots s n as' above)
    where
      by : (b : Bool) → Equals a.number n b → (if b then 1 else 0) + live_count n as' ≡ 0 → (live_count n as' ≡ 0 → live_in (set slots (n - 1) s) as' ≡ live_in slots as')
          → record a { reads = reads_of_call (set slots (n - 1) s) a.number } ∷ live_in (set slots (n - 1) s) as' ≡ record a { reads = reads_of_call slots a.number } ∷ live_in slots as'
      by b (equal e) is rest = absurd (omega (arith, is))
      by b (unequal e) is rest = let reads = reads_other slots s a.number n above e in let later = rest (omega (arith, is)) in λ i. record a { reads = reads i } ∷ later i

  -- how many live attempts a call has does not depend on their reads
  pub count_in : (slots : AttemptSlots Item Value) (n : ℕ) (live : List (Attempt Item Value)) → live_count n (live_in slots live) ≡ live_count n live
  count_in slots n [] = refl
  count_in slots n (a ∷ as') = ap (λ m. (if a.number == n then 1 else 0) + m) (count_in slots n as')

  -- what holds of attempts and names neither number nor reads
  pub all_in : (P : ℕ → Type 0) (slots : AttemptSlots Item Value) (live : List (Attempt Item Value)) → AllByRecursion (λ a. P a.timestamp) (live_in slots live) → AllByRecursion (λ a. P a.timestamp) live
  all_in P slots [] h = tt
  all_in P slots (a ∷ as') h = (h.0, all_in P slots as' h.1)

  -- ---- the live attempt at a timestamp

  abbrev with_reads : AttemptSlots Item Value → Option (Attempt Item Value) → Option (Attempt Item Value)
  with_reads slots None = None
  with_reads slots (Some a) = Some (record a { reads = reads_of_call slots a.number })

  attempt_at-in : (slots : AttemptSlots Item Value) (t : ℕ) (live : List (Attempt Item Value)) → attempt_at t (live_in slots live) ≡ with_reads slots (attempt_at t live)
  attempt_at-in slots t [] = refl
  attempt_at-in slots t (a ∷ as') = by (a.timestamp == t) (attempt_at-in slots t as')
    where
      by : (b : Bool) → attempt_at t (live_in slots as') ≡ with_reads slots (attempt_at t as')
          → (if b then Some (record a { reads = reads_of_call slots a.number }) else attempt_at t (live_in slots as')) ≡ with_reads slots (if b then Some a else attempt_at t as')
      by true rest = refl
      by false rest = rest

  -- whether a call is live at a timestamp does not depend on its reads
  pub live_here : (slots : AttemptSlots Item Value) (live : List (Attempt Item Value)) (n t : ℕ) → HasLiveNumber live n t → HasLiveNumber (live_in slots live) n t
  live_here slots live n t k = record { attempt = record (k.attempt) { reads = reads_of_call slots k.attempt.number }; live = attempt_at-in slots t live ∙ ap (with_reads slots) k.live; number = k.number }

  pub live_there : (slots : AttemptSlots Item Value) (live : List (Attempt Item Value)) (n t : ℕ) → HasLiveNumber (live_in slots live) n t → HasLiveNumber live n t
  live_there slots live n t k = by (attempt_at t live) refl (sym (attempt_at-in slots t live) ∙ k.live)
    where
      by : (o : Option (Attempt Item Value)) → attempt_at t live ≡ o → with_reads slots o ≡ Some k.attempt → HasLiveNumber live n t
      by None found is = absurd cc
      by (Some b) found is = record { attempt = b; live = found; number = ap (λ (c : Attempt Item Value). c.number) (same_Some _ _ is) ∙ k.number }

  -- a call that is live counts
  live_counts : (n t : ℕ) (live : List (Attempt Item Value)) → HasLiveNumber live n t → 0 < live_count n live
  live_counts n t live k = by (k.attempt.number == n) (equals k.attempt.number n) (live_count-ended n t k.attempt live k.live)
    where
      by : (b : Bool) → Equals k.attempt.number n b → live_count n (attempts_without t live) + (if b then 1 else 0) ≤ live_count n live → 0 < live_count n live
      by b (equal e) h = omega (arith, h)
      by b (unequal e) h = absurd (e k.number)

  -- and none of it is left when it has ended
  ended : (n t : ℕ) (live : List (Attempt Item Value)) → HasLiveNumber live n t → live_count n live ≤ 1 → live_count n (attempts_without t live) ≡ 0
  ended n t live k once = by (k.attempt.number == n) (equals k.attempt.number n) (live_count-ended n t k.attempt live k.live)
    where
      by : (b : Bool) → Equals k.attempt.number n b → live_count n (attempts_without t live) + (if b then 1 else 0) ≤ live_count n live → live_count n (attempts_without t live) ≡ 0
      by b (equal e) h = omega (arith, h, once)
      by b (unequal e) h = absurd (e k.number)

  -- a call is live at one timestamp
  pub one_live : (n s t : ℕ) (live : List (Attempt Item Value)) → HasLiveNumber live n s → HasLiveNumber live n t → live_count n live ≤ 1 → s ≡ t
  one_live n s t live k l once = by (s == t) (equals s t)
    where
      by : (b : Bool) → Equals s t b → s ≡ t
      by b (equal e) = e
      by b (unequal e) =
          let none : live_count n (attempts_without s live) ≡ 0 = ended n s live k once in
          let still : 0 < live_count n (attempts_without s live) = live_counts n t (attempts_without s live) (record { attempt = l.attempt; live = attempt_at-without t s live (λ same. e (sym same)) ∙ l.live; number = l.number }) in
          absurd (omega (arith, none, still))

  -- ---- slots

  -- the attempt at its call's index is the live one
  pub attempt_here : (slots : AttemptSlots Item Value) (live : List (Attempt Item Value)) (n : ℕ) (a : Attempt Item Value) → 0 < n → n - 1 < length slots → get_or slots (n - 1) None ≡ Some a → AreSlotsOf live slots
      → (HasLiveNumber live n a.timestamp) × (a.number ≡ n) × (attempt_at a.timestamp (live_in slots live) ≡ Some a)
  attempt_here slots live n a above within found k = (here.1, here.0, attempt_at-in slots a.timestamp live ∙ ap (with_reads slots) here.1.live ∙ ap Some same)
    where
      here : (a.number ≡ n) × HasLiveNumber live n a.timestamp
      here = let back : n - 1 + 1 ≡ n = omega arith in subst (λ m. IsSlotOf live m (Some a)) back (subst (IsSlotOf live (n - 1 + 1)) found (k (n - 1) within))

      number : here.1.attempt.number ≡ a.number
      number = here.1.number ∙ sym here.0

      time : here.1.attempt.timestamp ≡ a.timestamp
      time = found_timestamp a.timestamp here.1.attempt live here.1.live

      reads : reads_of_call slots here.1.attempt.number ≡ a.reads
      reads = ap (reads_of_call slots) here.1.number ∙ reads_found slots a n above found

      same : record (here.1.attempt) { reads = reads_of_call slots here.1.attempt.number } ≡ a
      same = λ i. record { number = number i; timestamp = time i; reads = reads i }

  -- a call is live where its index has an attempt, at that one's timestamp
  pub not_live_none : (slots : AttemptSlots Item Value) (live : List (Attempt Item Value)) (n t : ℕ) → 0 < n → n - 1 < length slots → get_or slots (n - 1) None ≡ None → AreSlotsOf live slots → HasLiveNumber live n t → ⊥
  not_live_none slots live n t above within found k l =
      let back : n - 1 + 1 ≡ n = omega arith in
      let none : live_count n live ≡ 0 = subst (λ m. live_count m live ≡ 0) back (subst (IsSlotOf live (n - 1 + 1)) found (k (n - 1) within)) in
      let some : 0 < live_count n live = live_counts n t live l in
      omega (arith, none, some)

  pub not_live_other : (slots : AttemptSlots Item Value) (live : List (Attempt Item Value)) (n t : ℕ) (a : Attempt Item Value) → 0 < n → n - 1 < length slots → get_or slots (n - 1) None ≡ Some a → AreSlotsOf live slots → live_count n live ≤ 1
      → a.timestamp ≢ t → HasLiveNumber live n t → ⊥
  not_live_other slots live n t a above within found k once other l = other (one_live n a.timestamp t live (attempt_here slots live n a above within found k).0 l once)

  -- another index
  abbrev Moves : List (Attempt Item Value) → List (Attempt Item Value) → ℕ → Type 0
  Moves live new n = (m : ℕ) (o : Option (Attempt Item Value)) → m ≢ n → IsSlotOf live m o → IsSlotOf new m o

  placed : (slots : AttemptSlots Item Value) (live new : List (Attempt Item Value)) (n : ℕ) (s : Option (Attempt Item Value)) → 0 < n → n - 1 < length slots → IsSlotOf new n s → Moves live new n → AreSlotsOf live slots → AreSlotsOf new (set slots (n - 1) s)
  placed slots live new n s above within own moves k i inside = by (i == n - 1) (equals i (n - 1))
    where
      by : (b : Bool) → Equals i (n - 1) b → IsSlotOf new (i + 1) (get_or (set slots (n - 1) s) i None)
      by b (equal e) =
          let here : n ≡ i + 1 = omega (arith, e) in
          subst (λ o. IsSlotOf new (i + 1) o) (sym (ap (λ j. get_or (set slots (n - 1) s) j None) e ∙ get_or-set_same slots (n - 1) s None within)) (subst (λ m. IsSlotOf new m s) here own)
      by b (unequal e) =
          subst (λ o. IsSlotOf new (i + 1) o) (sym (get_or-set_other slots (n - 1) i s None e))
          (moves (i + 1) (get_or slots i None) (λ same. e (omega (arith, same))) (k i (subst (λ l. i < l) (length-set slots (n - 1) s) inside)))

  -- ---- a call begins

  live_pushed : (slots : AttemptSlots Item Value) (live : List (Attempt Item Value)) (a : Attempt Item Value) → live_in slots (live ++ a ∷ []) ≡ live_in slots live ++ record a { reads = reads_of_call slots a.number } ∷ []
  live_pushed slots [] a = refl
  live_pushed slots (b ∷ bs) a = ap (λ l. record b { reads = reads_of_call slots b.number } ∷ l) (live_pushed slots bs a)

  -- an attempt that begins in its idle call's slot comes last, and the live ones keep their reads
  pub live_begun : (slots : AttemptSlots Item Value) (live : List (Attempt Item Value)) (n t : ℕ) → 0 < n → n - 1 < length slots → live_count n live ≡ 0
      → live_in (set slots (n - 1) (Some (fresh_attempt n t))) (live ++ fresh_attempt n t ∷ []) ≡ live_in slots live ++ fresh_attempt n t ∷ []
  live_begun slots live n t above within none =
      live_pushed (set slots (n - 1) (Some (fresh_attempt n t))) live (fresh_attempt n t)
      ∙ (λ i. live_others slots (Some (fresh_attempt n t)) n live above none i ++ record (fresh_attempt n t) { reads = own i } ∷ [])
    where
      own : reads_of_call (set slots (n - 1) (Some (fresh_attempt n t))) n ≡ []
      own = reads_found (set slots (n - 1) (Some (fresh_attempt n t))) (fresh_attempt n t) n above (get_or-set_same slots (n - 1) (Some (fresh_attempt n t)) None within)

  begun_others : (live : List (Attempt Item Value)) (n t : ℕ) → Moves live (live ++ fresh_attempt n t ∷ []) n
  begun_others live n t m None other none = by (n == m) (equals n m) (live_count-push m (fresh_attempt n t) live)
    where
      by : (b : Bool) → Equals n m b → live_count m (live ++ fresh_attempt n t ∷ []) ≡ live_count m live + (if b then 1 else 0) → live_count m (live ++ fresh_attempt n t ∷ []) ≡ 0
      by b (equal e) is = absurd (other (sym e))
      by b (unequal e) is = omega (arith, is, none)
  begun_others live n t m (Some b) other k = (k.0, record { attempt = k.1.attempt; live = attempt_at-push b.timestamp k.1.attempt (fresh_attempt n t) live k.1.live; number = k.1.number })

  pub slots_begun : (slots : AttemptSlots Item Value) (live : List (Attempt Item Value)) (n t : ℕ) → 0 < n → n - 1 < length slots → AllByRecursion (λ a. a.timestamp ≢ t) live → AreSlotsOf live slots
      → AreSlotsOf (live ++ fresh_attempt n t ∷ []) (set slots (n - 1) (Some (fresh_attempt n t)))
  slots_begun slots live n t above within fresh k =
      placed slots live (live ++ fresh_attempt n t ∷ []) n (Some (fresh_attempt n t)) above within
      (refl, record { attempt = fresh_attempt n t; live = attempt_at-last t (fresh_attempt n t) live refl fresh; number = refl })
      (begun_others live n t) k

  -- ---- an attempt ends

  without_in : (slots : AttemptSlots Item Value) (t : ℕ) (live : List (Attempt Item Value)) → live_in slots (attempts_without t live) ≡ attempts_without t (live_in slots live)
  without_in slots t [] = refl
  without_in slots t (a ∷ as') = by (a.timestamp == t) (without_in slots t as')
    where
      by : (b : Bool) → live_in slots (attempts_without t as') ≡ attempts_without t (live_in slots as')
          → live_in slots (cond (not b) (a ∷ attempts_without t as') (attempts_without t as')) ≡ cond (not b) (record a { reads = reads_of_call slots a.number } ∷ attempts_without t (live_in slots as')) (attempts_without t (live_in slots as'))
      by true rest = rest
      by false rest = ap (λ l. record a { reads = reads_of_call slots a.number } ∷ l) rest

  -- where an attempt ends and its call's slot is emptied, the other live ones keep their reads
  pub live_ended : (slots : AttemptSlots Item Value) (live : List (Attempt Item Value)) (n t : ℕ) → 0 < n → HasLiveNumber live n t → live_count n live ≤ 1 → live_in (set slots (n - 1) None) (attempts_without t live) ≡ attempts_without t (live_in slots live)
  live_ended slots live n t above k once = live_others slots None n (attempts_without t live) above (ended n t live k once) ∙ without_in slots t live

  ended_others : (live : List (Attempt Item Value)) (n t : ℕ) → HasLiveNumber live n t → Moves live (attempts_without t live) n
  ended_others live n t l m None other none = omega (arith, none, live_count-without m t live)
  ended_others live n t l m (Some b) other k = (k.0, record { attempt = k.1.attempt; live = attempt_at-without b.timestamp t live apart ∙ k.1.live; number = k.1.number })
    where
      apart : b.timestamp ≢ t
      apart same = other (sym k.1.number ∙ ap (λ (c : Attempt Item Value). c.number) (same_Some _ _ (sym k.1.live ∙ ap (λ u. attempt_at u live) same ∙ l.live)) ∙ l.number)

  pub slots_ended : (slots : AttemptSlots Item Value) (live : List (Attempt Item Value)) (n t : ℕ) → 0 < n → n - 1 < length slots → HasLiveNumber live n t → live_count n live ≤ 1 → AreSlotsOf live slots → AreSlotsOf (attempts_without t live) (set slots (n - 1) None)
  slots_ended slots live n t above within l once k = placed slots live (attempts_without t live) n None above within (ended n t live l once) (ended_others live n t l) k

  -- ---- an attempt reads

  abbrev IsReadMore : Attempt Item Value → Attempt Item Value → ℕ → Item × Value → Type 0
  IsReadMore before after index read = after ≡ record before { reads = insert before.reads index read }

  read_more : (slots : AttemptSlots Item Value) (before after : Attempt Item Value) (n index : ℕ) (read : Item × Value) → 0 < n → n - 1 < length slots → get_or slots (n - 1) None ≡ Some before → IsReadMore before after index read
      → reads_of_call (set slots (n - 1) (Some after)) n ≡ insert (reads_of_call slots n) index read
  read_more slots before after n index read above within found more =
      reads_found (set slots (n - 1) (Some after)) after n above (get_or-set_same slots (n - 1) (Some after) None within)
      ∙ ap (λ (a : Attempt Item Value). a.reads) more ∙ ap (λ rs. insert rs index read) (sym (reads_found slots before n above found))

  -- a read added in the slot of a live call is added to its live attempt, and to no other
  pub live_read : (slots : AttemptSlots Item Value) (before after : Attempt Item Value) (n t index : ℕ) (read : Item × Value) (live : List (Attempt Item Value)) → 0 < n → n - 1 < length slots → get_or slots (n - 1) None ≡ Some before
      → IsReadMore before after index read → HasLiveNumber live n t → live_count n live ≤ 1 → live_in (set slots (n - 1) (Some after)) live ≡ attempts_with_read t index read (live_in slots live)
  live_read slots before after n t index read [] above within found more k once = absurd (by k.live)
    where
      by : None ≡ Some k.attempt → ⊥
      by e = cc
  live_read slots before after n t index read (a ∷ as') above within found more k once = by (a.timestamp == t) k.live (λ l one. live_read slots before after n t index read as' above within found more l one)
    where
      here : a.number ≡ n → (b : Bool) → Equals a.number n b → (if b then 1 else 0) + live_count n as' ≤ 1 → live_count n as' ≡ 0
      here e b (equal same) h = omega (arith, h)
      here e b (unequal other) h = absurd (other e)

      Rest : Type 0
      Rest = HasLiveNumber as' n t → live_count n as' ≤ 1 → live_in (set slots (n - 1) (Some after)) as' ≡ attempts_with_read t index read (live_in slots as')

      later : Rest → attempt_at t as' ≡ Some k.attempt → (b : Bool) → Equals a.number n b → (if b then 1 else 0) + live_count n as' ≤ 1
          → record a { reads = reads_of_call (set slots (n - 1) (Some after)) a.number } ∷ live_in (set slots (n - 1) (Some after)) as' ≡ record a { reads = reads_of_call slots a.number } ∷ attempts_with_read t index read (live_in slots as')
      later again there b (equal same) h = let some : 0 < live_count n as' = live_counts n t as' (record { attempt = k.attempt; live = there; number = k.number }) in absurd (omega (arith, h, some))
      later again there b (unequal other) h =
          let rest = again (record { attempt = k.attempt; live = there; number = k.number }) (omega (arith, h)) in
          let reads = reads_other slots (Some after) a.number n above other in
          λ i. record a { reads = reads i } ∷ rest i

      by : (b : Bool) → (if b then Some a else attempt_at t as') ≡ Some k.attempt → Rest
          → record a { reads = reads_of_call (set slots (n - 1) (Some after)) a.number } ∷ live_in (set slots (n - 1) (Some after)) as'
          ≡ (if b then record a { reads = insert (reads_of_call slots a.number) index read } ∷ live_in slots as' else record a { reads = reads_of_call slots a.number } ∷ attempts_with_read t index read (live_in slots as'))
      by true is again =
          let number : a.number ≡ n = ap (λ (c : Attempt Item Value). c.number) (same_Some _ _ is) ∙ k.number in
          let rest = live_others slots (Some after) n as' above (here number (a.number == n) (equals a.number n) once) in
          let reads = subst (λ m. reads_of_call (set slots (n - 1) (Some after)) m ≡ insert (reads_of_call slots m) index read) (sym number) (read_more slots before after n index read above within found more) in
          λ i. record a { reads = reads i } ∷ rest i
      by false is again = later again is (a.number == n) (equals a.number n) once

  pub slots_read : (slots : AttemptSlots Item Value) (before after : Attempt Item Value) (n index : ℕ) (read : Item × Value) (live : List (Attempt Item Value)) → 0 < n → n - 1 < length slots → get_or slots (n - 1) None ≡ Some before
      → IsReadMore before after index read → AreSlotsOf live slots → AreSlotsOf live (set slots (n - 1) (Some after))
  slots_read slots before after n index read live above within found more k =
      placed slots live live n (Some after) above within
      (subst (λ (a : Attempt Item Value). IsSlotOf live n (Some a)) (sym more) here)
      (λ m o other h. h) k
    where
      here : IsSlotOf live n (Some before)
      here = let back : n - 1 + 1 ≡ n = omega arith in subst (λ m. IsSlotOf live m (Some before)) back (subst (IsSlotOf live (n - 1 + 1)) found (k (n - 1) within))
