-- Without Abandon and Prune each timestamp given is an entry's or a live attempt's.
use Rattle.std.proofs.Common.{◌≡◌, ℕ, suc, ◌+◌, ◌<◌, ◌≤◌, Bool, true, false, cond, not, if◌then◌else◌, nat_lt, ◌==◌, Some, List, [], ◌∷◌, ◌++◌, length, refl, ap, arith}
use Rattle.std.specs.List.{AllByRecursion, insert}
use Rattle.mv_history.specs.History.{Entry, CallMeaning, entries_with}
use Rattle.mv_history.specs.World.{World, Attempt, attempt_at, attempts_without, attempts_with_read, fresh_attempt, Event, Begin, Read, Commit, Abandon, Prune, Applies, after_event, first_world, AllApply, after_events}
use Rattle.mv_history.specs.Laws.{IsPlain, EveryPlainInterleavingKeepsAll}
use Rattle.mv_history.proofs.Lists.{Equals, equal, unequal, equals}
use Rattle.mv_history.proofs.Worlds.{every_interleaving_is_serial_lem}

-- live timestamps rise from above a bound to the clock
abbrev RiseTo : {Item Value : Type 0} → ℕ → ℕ → List (Attempt Item Value) → Type 0
RiseTo clock bound [] = bound ≤ clock
RiseTo clock bound (a ∷ as') = (bound < a.timestamp) × RiseTo clock a.timestamp as'

record IsComplete {Item Value Outcome : Type 0} (w : World Item Value Outcome) : Type 0 where
  unpruned : w.low ≡ 0
  rising : RiseTo w.clock 0 w.live
  counted : length w.entries + length w.live ≡ w.clock

module _ {Item Value : Type 0} where
  rise-begin : (clock bound number : ℕ) (live : List (Attempt Item Value)) → RiseTo clock bound live → RiseTo (clock + 1) bound (live ++ fresh_attempt number (clock + 1) ∷ [])
  rise-begin clock bound number [] r = (omega arith, omega arith)
  rise-begin clock bound number (a ∷ as') r = (r.0, rise-begin clock a.timestamp number as' r.1)

  length-begin : (a : Attempt Item Value) (live : List (Attempt Item Value)) → length (live ++ a ∷ []) ≡ suc (length live)
  length-begin a [] = refl
  length-begin a (b ∷ bs) = ap suc (length-begin a bs)

  rise-read : (clock bound t index : ℕ) (read : Item × Value) (live : List (Attempt Item Value)) → RiseTo clock bound live → RiseTo clock bound (attempts_with_read t index read live)
  rise-read clock bound t index read [] r = r
  rise-read clock bound t index read (a ∷ as') r = at_test (a.timestamp == t) (rise-read clock a.timestamp t index read as' r.1)
    where
      at_test : (c : Bool) → RiseTo clock a.timestamp (attempts_with_read t index read as') → RiseTo clock bound (if c then record a { reads = insert a.reads index read } ∷ as' else a ∷ attempts_with_read t index read as')
      at_test true rest = r
      at_test false rest = (r.0, rest)

  length-read : (t index : ℕ) (read : Item × Value) (live : List (Attempt Item Value)) → length (attempts_with_read t index read live) ≡ length live
  length-read t index read [] = refl
  length-read t index read (a ∷ as') = at_test (a.timestamp == t) (length-read t index read as')
    where
      at_test : (c : Bool) → length (attempts_with_read t index read as') ≡ length as' → length (if c then record a { reads = insert a.reads index read } ∷ as' else a ∷ attempts_with_read t index read as') ≡ suc (length as')
      at_test true rest = refl
      at_test false rest = ap suc rest

  rise-lower : (clock bound low : ℕ) (live : List (Attempt Item Value)) → low ≤ bound → RiseTo clock bound live → RiseTo clock low live
  rise-lower clock bound low [] h r = omega arith
  rise-lower clock bound low (a ∷ as') h r = (let above : bound < a.timestamp = r.0 in omega arith, r.1)

  rise-without : (clock bound t : ℕ) (live : List (Attempt Item Value)) → RiseTo clock bound live → RiseTo clock bound (attempts_without t live)
  rise-without clock bound t [] r = r
  rise-without clock bound t (a ∷ as') r = at_test (a.timestamp == t) (rise-without clock a.timestamp t as' r.1)
    where
      at_test : (c : Bool) → RiseTo clock a.timestamp (attempts_without t as') → RiseTo clock bound (cond (not c) (a ∷ attempts_without t as') (attempts_without t as'))
      at_test true rest = rise-lower clock a.timestamp bound (attempts_without t as') (let above : bound < a.timestamp = r.0 in omega arith) rest
      at_test false rest = (r.0, rest)

  -- no attempt above a timestamp is at it
  without-above : (clock bound t : ℕ) (live : List (Attempt Item Value)) → t ≤ bound → RiseTo clock bound live → attempts_without t live ≡ live
  without-above clock bound t [] h r = refl
  without-above clock bound t (a ∷ as') h r = at_test (a.timestamp == t) (equals a.timestamp t) (without-above clock a.timestamp t as' (let above : bound < a.timestamp = r.0 in omega arith) r.1)
    where
      at_test : (c : Bool) → Equals a.timestamp t c → attempts_without t as' ≡ as' → cond (not c) (a ∷ attempts_without t as') (attempts_without t as') ≡ a ∷ as'
      at_test c (equal e) rest = let above : bound < a.timestamp = r.0 in absurd (omega arith)
      at_test c (unequal e) rest = ap (λ l. a ∷ l) rest

  length-without : (clock bound t : ℕ) (found : Attempt Item Value) (live : List (Attempt Item Value)) → attempt_at t live ≡ Some found → RiseTo clock bound live → suc (length (attempts_without t live)) ≡ length live
  length-without clock bound t found [] h r = absurd cc
  length-without clock bound t found (a ∷ as') h r = at_test (a.timestamp == t) (equals a.timestamp t) h (λ e. length-without clock a.timestamp t found as' e r.1)
    where
      at_test : (c : Bool) → Equals a.timestamp t c → (if c then Some a else attempt_at t as') ≡ Some found → (attempt_at t as' ≡ Some found → suc (length (attempts_without t as')) ≡ length as')
          → suc (length (cond (not c) (a ∷ attempts_without t as') (attempts_without t as'))) ≡ suc (length as')
      at_test c (equal e) is rest = ap (λ l. suc (length l)) (without-above clock a.timestamp t as' (omega arith) r.1)
      at_test c (unequal e) is rest = ap suc (rest is)

length-entries_with : {Item Value Outcome : Type 0} (e : Entry Item Value Outcome) (es : List (Entry Item Value Outcome)) → length (entries_with e es) ≡ suc (length es)
length-entries_with e [] = refl
length-entries_with e (f ∷ fs) = at_test (nat_lt e.timestamp f.timestamp) (length-entries_with e fs)
  where
    at_test : (c : Bool) → length (entries_with e fs) ≡ suc (length fs) → length (if c then e ∷ f ∷ fs else f ∷ entries_with e fs) ≡ suc (suc (length fs))
    at_test true rest = refl
    at_test false rest = ap suc rest

module _ {Item Value Outcome : Type 0} (same : Item → Item → Bool) (Proper : (Item → Value) → Type 0) (means : CallMeaning Item Value Outcome) (base : Item → Value) where
  complete_after_event : (w : World Item Value Outcome) (event : Event Item Value Outcome) → Applies same Proper means base w event → IsPlain event → IsComplete w → IsComplete (after_event same base w event)
  complete_after_event w (Begin number) applies plain k =
      record {
        unpruned = k.unpruned;
        rising = rise-begin w.clock 0 number w.live k.rising;
        counted = let counted : length w.entries + length w.live ≡ w.clock = k.counted in omega (arith, length-begin (fresh_attempt number (w.clock + 1)) w.live);
      }
  complete_after_event w (Read t index x) applies plain k =
      record {
        unpruned = k.unpruned;
        rising = rise-read w.clock 0 t index _ w.live k.rising;
        counted = rw (length-read t index _ w.live) k.counted;
      }
  complete_after_event w (Commit e) applies plain k =
      record {
        unpruned = k.unpruned;
        rising = rise-without w.clock 0 e.timestamp w.live k.rising;
        counted = let counted : length w.entries + length w.live ≡ w.clock = k.counted in omega (arith, length-entries_with e w.entries, length-without w.clock 0 e.timestamp applies.0 w.live applies.1 k.rising);
      }
  complete_after_event w (Abandon t) applies plain k = absurd plain
  complete_after_event w (Prune t marks) applies plain k = absurd plain

  complete_after_events : (events : List (Event Item Value Outcome)) (w : World Item Value Outcome) → AllApply same Proper means base w events → AllByRecursion IsPlain events → IsComplete w → IsComplete (after_events same base w events)
  complete_after_events [] w apply plain k = k
  complete_after_events (event ∷ events) w apply plain k = complete_after_events events (after_event same base w event) apply.1 plain.1 (complete_after_event w event apply.0 plain.0 k)

pub every_plain_interleaving_keeps_all_lem : (Item Value Outcome : Type 0) (Proper : (Item → Value) → Type 0) → EveryPlainInterleavingKeepsAll Item Value Outcome Proper
every_plain_interleaving_keeps_all_lem Item Value Outcome Proper same equality means base proper events apply plain = (
  every_interleaving_is_serial_lem Item Value Outcome Proper same equality means base proper (after_events same base first_world events) (record { events = events; apply = apply; leads_here = refl }),
  complete.unpruned,
  complete.counted,
)
  where
    complete : IsComplete (after_events same base first_world events)
    complete = complete_after_events same Proper means base events first_world apply plain (record { unpruned = refl; rising = omega arith; counted = omega arith })
