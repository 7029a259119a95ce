-- One worker commits calls in the order begun.
use Rattle.std.proofs.Common.{◌≡◌, ℕ, ◌+◌, ◌<◌, ◌≤◌, Bool, true, false, if◌then◌else◌, nat_lt, ◌==◌, Some, None, List, [], ◌∷◌, ◌++◌, map, refl, sym, ap, ◌∙◌, subst, arith, append_assoc}
use Rattle.std.proofs.lemmas.List.{append-nil}
use Rattle.std.specs.List.{AllByRecursion, insert}
use Rattle.std.proofs.lemmas.Option.{same_Some}
use Rattle.mv_history.specs.History.{Entry, CallMeaning, entries_with}
use Rattle.mv_history.specs.World.{World, Attempt, attempt_at, attempts_without, attempts_with_read, fresh_attempt, Event, Begin, Read, Commit, Abandon, Prune, after_event, first_world, AllApply, after_events}
use Rattle.mv_history.specs.Laws.{Worker, Idle, Busy, RunsEachCall, numbers_begun, call_numbers, OneWorkerCommitsInOrder}
use Rattle.mv_history.proofs.Lists.{Compared, less, not_less, compared, Equals, equal, unequal, equals, all_map, all_push}

module _ {Item Value : Type 0} where
  -- one live attempt, at the clock
  abbrev IsAlone : ℕ → List (Attempt Item Value) → Type 0
  IsAlone clock [] = ⊥
  IsAlone clock (a ∷ []) = a.timestamp ≡ clock
  IsAlone clock (a ∷ b ∷ bs) = ⊥

  numbers-begin : (a : Attempt Item Value) (live : List (Attempt Item Value)) → map (λ b. b.number) (live ++ a ∷ []) ≡ map (λ b. b.number) live ++ a.number ∷ []
  numbers-begin a [] = refl
  numbers-begin a (b ∷ bs) = ap (λ l. b.number ∷ l) (numbers-begin a bs)

  numbers-read : (t index : ℕ) (read : Item × Value) (live : List (Attempt Item Value)) → map (λ b. b.number) (attempts_with_read t index read live) ≡ map (λ b. b.number) live
  numbers-read t index read [] = refl
  numbers-read t index read (a ∷ as') = at_test (a.timestamp == t) (numbers-read t index read as')
    where
      at_test : (c : Bool) → map (λ b. b.number) (attempts_with_read t index read as') ≡ map (λ b. b.number) as'
          → map (λ b. b.number) (if c then record a { reads = insert a.reads index read } ∷ as' else a ∷ attempts_with_read t index read as') ≡ a.number ∷ map (λ b. b.number) as'
      at_test true rest = refl
      at_test false rest = ap (λ l. a.number ∷ l) rest

  alone_after_read : (clock t index : ℕ) (read : Item × Value) (live : List (Attempt Item Value)) → IsAlone clock live → IsAlone clock (attempts_with_read t index read live)
  alone_after_read clock t index read [] h = absurd h
  alone_after_read clock t index read (a ∷ []) h = at_test (a.timestamp == t)
    where
      at_test : (c : Bool) → IsAlone clock (if c then record a { reads = insert a.reads index read } ∷ [] else a ∷ [])
      at_test true = h
      at_test false = h
  alone_after_read clock t index read (a ∷ b ∷ bs) h = absurd h

  -- the attempt that commits is the one that is live
  pub record CommitsAlone (clock t number : ℕ) (live : List (Attempt Item Value)) : Type 0 where
    pub at_clock : t ≡ clock
    pub none_left : attempts_without t live ≡ []
    pub numbers : map (λ b. b.number) live ≡ number ∷ []

  commits_alone : (clock t : ℕ) (found : Attempt Item Value) (live : List (Attempt Item Value)) → IsAlone clock live → attempt_at t live ≡ Some found → CommitsAlone clock t found.number live
  commits_alone clock t found [] h is = absurd h
  commits_alone clock t found (a ∷ b ∷ bs) h is = absurd h
  commits_alone clock t found (a ∷ []) h is = at_test (a.timestamp == t) (equals a.timestamp t) refl is
    where
      at_test : (c : Bool) → Equals a.timestamp t c → (a.timestamp == t) ≡ c → (if c then Some a else None) ≡ Some found → CommitsAlone clock t found.number (a ∷ [])
      at_test c (equal e) tested is_found = record { at_clock = sym e ∙ h; none_left = rw tested refl; numbers = ap (λ b. b.number ∷ []) (same_Some _ _ is_found) }
      at_test c (unequal e) tested is_found = absurd cc

module _ {Item Value Outcome : Type 0} where
  -- an idle worker has left no attempt, a busy one has its own, begun last
  abbrev IsAt : Worker → World Item Value Outcome → Type 0
  IsAt Idle w = (w.live ≡ []) × AllByRecursion (λ e. e.timestamp ≤ w.clock) w.entries
  IsAt Busy w = IsAlone w.clock w.live × AllByRecursion (λ e. e.timestamp < w.clock) w.entries

  entries_with-last : (e : Entry Item Value Outcome) (es : List (Entry Item Value Outcome)) → AllByRecursion (λ f. f.timestamp < e.timestamp) es → entries_with e es ≡ es ++ e ∷ []
  entries_with-last e [] h = refl
  entries_with-last e (f ∷ fs) h = at_test (nat_lt e.timestamp f.timestamp) (compared e.timestamp f.timestamp) (entries_with-last e fs h.1)
    where
      at_test : (c : Bool) → Compared e.timestamp f.timestamp c → entries_with e fs ≡ fs ++ e ∷ [] → (if c then e ∷ f ∷ fs else f ∷ entries_with e fs) ≡ f ∷ (fs ++ e ∷ [])
      at_test c (less k) rest = let below : f.timestamp < e.timestamp = h.0 in absurd (omega arith)
      at_test c (not_less k) rest = ap (λ l. f ∷ l) rest

  numbers-push : (es : List (Entry Item Value Outcome)) (e : Entry Item Value Outcome) → map (λ f. f.number) (es ++ e ∷ []) ≡ map (λ f. f.number) es ++ e.number ∷ []
  numbers-push [] e = refl
  numbers-push (f ∷ fs) e = ap (λ l. f.number ∷ l) (numbers-push fs e)

module _ {Item Value Outcome : Type 0} (same : Item → Item → Bool) (Proper : (Item → Value) → Type 0) (means : CallMeaning Item Value Outcome) (base : Item → Value) where
  runs_in_order : (worker : Worker) (events : List (Event Item Value Outcome)) (w : World Item Value Outcome) → AllApply same Proper means base w events → RunsEachCall worker events → IsAt worker w
      → call_numbers (after_events same base w events) ≡ call_numbers w ++ numbers_begun events
  runs_in_order worker [] w apply runs at = sym (append-nil (call_numbers w))
  runs_in_order Idle (Begin number ∷ events) w apply runs at =
      runs_in_order Busy events (after_event same base w (Begin number)) apply.1 runs
      (subst (λ live. IsAlone (w.clock + 1) (live ++ fresh_attempt number (w.clock + 1) ∷ [])) (sym at.0) refl, all_map (λ e. e.timestamp ≤ w.clock) _ w.entries (λ e h. omega arith) at.1)
      ∙ ap (λ l. (map (λ e. e.number) w.entries ++ l) ++ numbers_begun events) (numbers-begin (fresh_attempt number (w.clock + 1)) w.live)
      ∙ simp append_assoc
  runs_in_order Busy (Read t index x ∷ events) w apply runs at =
      runs_in_order Busy events (after_event same base w (Read t index x)) apply.1 runs (alone_after_read w.clock t index _ w.live at.0, at.1)
      ∙ ap (λ l. (map (λ e. e.number) w.entries ++ l) ++ numbers_begun events) (numbers-read t index _ w.live)
  runs_in_order Busy (Commit e ∷ events) w apply runs at =
      runs_in_order Idle events (after_event same base w (Commit e)) apply.1 runs (
        alone.none_left,
        subst (λ es. AllByRecursion (λ f. f.timestamp ≤ w.clock) es) (sym last)
            (all_push _ w.entries e (all_map (λ f. f.timestamp < w.clock) _ w.entries (λ f h. omega arith) at.1) (let at_clock : e.timestamp ≡ w.clock = alone.at_clock in omega arith)),
      )
      ∙ ap (λ l. l ++ numbers_begun events) numbers
    where
      alone : CommitsAlone w.clock e.timestamp apply.0.0.number w.live
      alone = commits_alone w.clock e.timestamp apply.0.0 w.live at.0 apply.0.1

      last : entries_with e w.entries ≡ w.entries ++ e ∷ []
      last = entries_with-last e w.entries (subst (λ t. AllByRecursion (λ f. f.timestamp < t) w.entries) (sym alone.at_clock) at.1)

      numbers : call_numbers (after_event same base w (Commit e)) ≡ call_numbers w
      numbers =
          ap (λ live. map (λ f. f.number) (entries_with e w.entries) ++ map (λ b. b.number) live) alone.none_left
          ∙ append-nil (map (λ f. f.number) (entries_with e w.entries))
          ∙ ap (λ es. map (λ f. f.number) es) last
          ∙ numbers-push w.entries e
          ∙ ap (λ n. map (λ f. f.number) w.entries ++ n ∷ []) apply.0.2.number
          ∙ ap (λ l. map (λ f. f.number) w.entries ++ l) (sym alone.numbers)
  runs_in_order Idle (Prune t marks ∷ events) w apply runs at = runs_in_order Idle events (after_event same base w (Prune t marks)) apply.1 runs at
  runs_in_order Busy (Prune t marks ∷ events) w apply runs at = runs_in_order Busy events (after_event same base w (Prune t marks)) apply.1 runs at
  runs_in_order Idle (Read t index x ∷ events) w apply runs at = absurd runs
  runs_in_order Idle (Commit e ∷ events) w apply runs at = absurd runs
  runs_in_order Idle (Abandon t ∷ events) w apply runs at = absurd runs
  runs_in_order Busy (Begin number ∷ events) w apply runs at = absurd runs
  runs_in_order Busy (Abandon t ∷ events) w apply runs at = absurd runs

pub one_worker_commits_in_order_lem : (Item Value Outcome : Type 0) (Proper : (Item → Value) → Type 0) → OneWorkerCommitsInOrder Item Value Outcome Proper
one_worker_commits_in_order_lem Item Value Outcome Proper same means base events apply runs = runs_in_order same Proper means base Idle events first_world apply runs (refl, tt)
